-- `delays::judge::new_beyond` meets its contract: the tests are those of the rule.
-- Assumes nothing.
use mathlib.Core.Path.{◌≡◌, refl, sym, ap, ap₂, ◌∙◌}
use mathlib.Core.Bool.{Bool, true, false, not, ◌&&◌, ◌||◌}
use Prim.Native.Nat.{zero, suc, zero-le}
use native.Mathlib.Omega.{arith}
use lib.Dec.{eqb}
use lib.IntN.{ℤ, pos, negsuc}
use mir.Facts.{to_z-of_z}
use mir.Syntax.{w64}
use mir.Val.{SFits, of_z, to_z}
use borrow.Author.Tests.{eqb-true, eqb-false, lt-ltb, le-ltb}
use borrow.Author.Rules.{rules}
use Rattle.limits.specs.Limits.{outside, beyond}
use Rattle.delays.proofs.judge.new_beyond.Goals as goal

-- a delay that is not 0 is beyond 0
beyond-none : (z : ℤ) → SFits w64 z → not (eqb (of_z w64 z) 0) ≡ beyond 0 z
unfolding outside
beyond-none z h = by-test (eqb (of_z w64 z) 0) refl
  where
    none : {z : ℤ} → pos 0 ≡ z → false ≡ beyond 0 z
    none e = ap (beyond 0) e

    some : (z : ℤ) → (of_z w64 z ≡ 0 → ⊥) → true ≡ beyond 0 z
    some (pos zero) n = absurd (n refl)
    some (pos (suc k)) n = simp (le-ltb (suc k) 0 zero-le, lt-ltb 0 (suc k) (omega arith))
    some (negsuc k) n = refl

    by-test : (t : Bool) → eqb (of_z w64 z) 0 ≡ t → not t ≡ beyond 0 z
    by-test true e = none (ap (to_z w64) (sym (eqb-true (of_z w64 z) 0 e)) ∙ to_z-of_z h)
    by-test false e = some z (eqb-false (of_z w64 z) 0 e)

pub returns : goal.returns
returns c = ap₂ ◌||◌ c.delays_beyond.ensures (ap (λ (b : Bool). eqb c.args.version 1 && b) (beyond-none c.args.delays.gd (search rules)))
