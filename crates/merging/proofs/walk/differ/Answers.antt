-- `merging::walk::differ` meets its contract: what is left to compare is what is left of the two lines.
-- Assumes nothing.
use mathlib.Core.Path.{◌≡◌, refl, sym, ap, ap₂, ◌∙◌}
use mathlib.Core.Bool.{Bool, not, ◌&&◌, and-true, and_assoc}
use mathlib.Core.List.{List, ◌∷◌}
use Prim.Native.Nat.{ℕ}
use native.Mathlib.Omega.{arith}
use lib.Dec.{eqb}
use lib.ListN.{length}
use Rattle.std.proofs.lemmas.Iterator.{empty_from_Zip}
use Rattle.linefile.specs.Files.{same}
use Rattle.merging.proofs.walk.differ.Goals as goal

-- a turn compares one byte of each
turn : {line other at bt : List ℕ} {a b : ℕ} (equal : Bool) → line ≡ a ∷ at → other ≡ b ∷ bt → equal && same line other ≡ (equal && eqb a b) && same at bt
unfolding same
turn {at = at} {bt = bt} {a} {b} equal e f = ap (λ (t : Bool). equal && t) (ap₂ same e f) ∙ sym (and_assoc equal (eqb a b) (same at bt))

pub loop-a-preserved : goal.loop-a-preserved
loop-a-preserved c =
    let s = c.in-Some.ensures.steps in (
      omega (arith, ap length s.0, ap length s.1, c.loop-a.invariant.0),
      c.loop-a.invariant.1 ∙ turn c.loop-a.equal s.0 s.1,
    )

pub returns : goal.returns
unfolding same
returns c =
    let e = empty_from_Zip c.loop-a.a-iterator c.next.new.self _ refl c.in-None.ensures.steps c.loop-a.invariant.0 in
    ap not (sym (c.loop-a.invariant.1 ∙ ap (λ (t : Bool). c.loop-a.equal && t) (ap₂ same e.0 e.1) ∙ and-true c.loop-a.equal))
