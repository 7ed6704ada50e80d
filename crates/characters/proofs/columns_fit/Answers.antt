-- `characters::columns_fit` meets its contract: what was found so far, and what is asked of the columns left, is the answer for all.
-- Assumes nothing.
use mathlib.Core.Path.{◌≡◌, sym, ap, ap₂, ◌∙◌}
use mathlib.Core.Bool.{Bool, ◌&&◌, and_assoc, and-true}
use mathlib.Core.List.{List}
use Prim.Native.Nat.{ℕ, suc}
use native.Mathlib.Omega.{arith}
use lib.ListN.{length}
use Rattle.std.specs.Iterator.Adapters.{zip_first, zip_second}
use Rattle.std.specs.Slice.Iter.{iter_rest}
use Rattle.std.proofs.lemmas.Iterator.{empty_from_Zip}
use Rattle.std.proofs.lemmas.Slice.Zip.{Zip-more}
use Rattle.characters.specs.Kinds.{allowed}
use Rattle.characters.proofs.columns_fit.Goals as goal

less : {m n : ℕ} → suc m ≡ suc n → m ≡ n
less e = omega (arith, e)

pub loop-kind-preserved : goal.loop-kind-preserved
unfolding allowed
loop-kind-preserved c =
    let m = Zip-more c.loop-kind.kind-iterator c.next.new.self _ _ c.in-Some.is c.next.ensures.steps in
    let rest = allowed (iter_rest (zip_first c.next.new.self)) (iter_rest (zip_second c.next.new.self)) in (
      less (sym (ap length m.0) ∙ c.loop-kind.invariant.0 ∙ ap length m.1),
      ap (λ (t : Bool). (c.loop-kind.fit && t) && rest) c.allows-fit.ensures
          ∙ and_assoc c.loop-kind.fit _ rest
          ∙ ap₂ (λ (k b : List ℕ). c.loop-kind.fit && allowed k b) (sym m.0) (sym m.1)
          ∙ c.loop-kind.invariant.1,
    )

pub returns : goal.returns
unfolding allowed
returns c =
    let m = empty_from_Zip c.loop-kind.kind-iterator c.next.new.self _ c.in-None.is c.next.ensures.steps c.loop-kind.invariant.0 in
    sym (ap₂ (λ (k b : List ℕ). c.loop-kind.fit && allowed k b) m.0 m.1 ∙ and-true c.loop-kind.fit) ∙ c.loop-kind.invariant.1
