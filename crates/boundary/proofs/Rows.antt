-- What is answered where a row of values is lent, and what stands in it afterwards (specs/Values.antt).
-- Assumes nothing.
use mathlib.Core.Path.{◌≡◌, sym, ap, ap₂, subst, ◌∙◌}
use mathlib.Core.List.{List}
use Prim.Native.Nat.{ℕ, ◌<◌}
use native.Mathlib.Nat.{ne_of_gt}
use native.Mathlib.Omega.{arith}
use lib.Dec.{ltb}
use lib.IntN.{ℤ}
use lib.ListN.{length}
use Rattle.limits.specs.Refusal.{◌when◌, ◌then◌}
use Rattle.limits.proofs.Laws.{then-refused, then-passed, after-refused, lent-kept}
use Rattle.std.specs.Prelude.{Result, Ok, Err}
use Rattle.limits.specs.Reply.{reply}
use Rattle.limits.specs.Numbers.{paper_number, number_of, reply_of}
use Rattle.limits.specs.declared.refusal.Refusal.{Refusal}
use Rattle.limits.proofs.Replies.{reply-values}
use Rattle.limits.proofs.Cases.{paper_above_zero}
use Rattle.boundary.specs.Values.{row_after, refused_after}

-- ---- what is told by an answer that is accepted, where its reply is known

module _ {A : Type 0} (zeros values : A) (number : ℕ) where
  pub accepted : {answer : Result A Refusal} {x : A} → answer ≡ Ok x → reply_of zeros answer ≡ reply zeros number values → (0 ≡ number) × (x ≡ values)
  accepted e told =
      let v = reply-values zeros values number (sym (ap (reply_of zeros) e) ∙ told) in
      (sym v.0, v.1)

-- a refusal is above 0
pub above_zero : {A : Type 0} {answer : Result A Refusal} {r : Refusal} → answer ≡ Err r → 0 < number_of answer
above_zero {r = r} e = subst (λ (a : Result _ Refusal). 0 < number_of a) (sym e) (paper_above_zero r)

-- ---- rows

-- a refusal leaves the row as it was lent
pub row_kept : (answer : ℕ) (values lent : List ℤ) → 0 < answer → row_after answer values lent ≡ lent
unfolding row_after
row_kept answer values lent h = after-refused _ lent (ne_of_gt h)

-- what a refusal names is put
pub place-named : (answer lent : ℕ) {value named : ℕ} → named ≡ value → 0 < answer → named ≡ refused_after answer value lent
unfolding refused_after
place-named answer lent e h = e ∙ lent-kept answer lent _ h

-- a refusal is answered before the room is looked at
pub row-refused : (number : ℕ) (values lent : List ℤ) {answer : ℕ} → answer ≡ number → 0 < answer
    → (answer ≡ number then 9 when ltb (length lent) (length values))
    × (lent ≡ row_after (number then 9 when ltb (length lent) (length values)) values lent)
row-refused number values lent e h =
    let a = e ∙ sym (then-refused number (9 when ltb (length lent) (length values)) (omega arith)) in
    (a, sym (row_kept _ _ lent (omega arith)))

-- where there is none, the room tells whether the values are put
pub row_put : (number : ℕ) (values lent : List ℤ) {row after : List ℤ} {answer : ℕ} → number ≡ 0 → row ≡ values
    → answer ≡ 9 when ltb (length lent) (length row) → after ≡ row_after answer row lent
    → (answer ≡ number then 9 when ltb (length lent) (length values))
    × (after ≡ row_after (number then 9 when ltb (length lent) (length values)) values lent)
row_put number values lent z v a w =
    let e = a ∙ ap (λ (t : List ℤ). 9 when ltb (length lent) (length t)) v ∙ sym (then-passed number _ z) in
    (e, w ∙ ap₂ (λ (n : ℕ) (t : List ℤ). row_after n t lent) e v)
