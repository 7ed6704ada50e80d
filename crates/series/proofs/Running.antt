-- T by the sums on the way (specs/Fit.antt): with the sum of the first k values taken for each k below n, T is (n - 1) S less twice their sum.
-- Assumes nothing.
use mathlib.Core.Path.{◌≡◌, refl, ap, sym, ◌∙◌}
use mathlib.Core.Bool.{Bool, true, false, true≢false}
use mathlib.Core.List.{List, [], ◌∷◌}
use Prim.Native.Nat.{ℕ, zero, suc, zero-le, ◌+◌, ◌*◌, ◌-◌, ◌≤◌, ◌<◌}
use native.Mathlib.Nat.{le_trans, mul-le-mul_right}
use native.Mathlib.Decide.{dec_lt}
use native.Mathlib.Omega.{arith}
use lib.IntN.{ℤ, pos, nat_abs, ◌+ℤ◌, ◌-ℤ◌, ◌*ℤ◌}
use lib.ListN.{length, get_or-eq_default}
use Rattle.whole.specs.Sum.{sum}
use Rattle.whole.proofs.Sums.{sum-eq, sums, nat_abs-sum}
use Rattle.whole.proofs.Identity.{identity, quote}
use Rattle.whole.specs.Table.{at}
use Rattle.exact.specs.Weights.{place}
use Rattle.limits.specs.Limits.{beyond}
use Rattle.limits.specs.Lists.{any_beyond_lem}
use Rattle.limits.proofs.Laws.{magnitude-within, within-magnitude}
use Rattle.limits.proofs.Lists.{within-limit, limit-within}
use Rattle.series.specs.Fit.{total, moment, value_limit}

-- the sums of the first k values, for each k below n, added up
abbrev pub totals : ℕ → (ℕ → ℤ) → ℤ
totals n v = sum n (λ k. sum k v)

step : (A W S x K L : ℤ) → A +ℤ pos 2 *ℤ W +ℤ pos 2 *ℤ S ≡ K *ℤ S → L ≡ K +ℤ pos 2
    → (A +ℤ K *ℤ x) +ℤ pos 2 *ℤ (W +ℤ S) +ℤ pos 2 *ℤ (S +ℤ x) ≡ L *ℤ (S +ℤ x)
step A W S x K L e f =
    identity (A ∷ W ∷ S ∷ x ∷ K ∷ []) (search quote depth 20) tt
    ∙ ap (λ (z : ℤ). z +ℤ (K *ℤ x +ℤ pos 2 *ℤ S +ℤ pos 2 *ℤ x)) e
    ∙ identity (S ∷ x ∷ K ∷ []) (search quote depth 20) tt
    ∙ ap (λ (z : ℤ). z *ℤ (S +ℤ x)) (sym f)

twice : (k : ℕ) (v : ℕ → ℤ) → sum k (λ j. pos (2 * j) *ℤ v j) +ℤ pos 2 *ℤ totals k v +ℤ pos 2 *ℤ sum k v ≡ pos (2 * k) *ℤ sum k v
unfolding sum
twice zero v = refl
twice (suc k) v =
    let e : 2 * suc k ≡ 2 * k + 2 = omega arith in
    step (sum k (λ j. pos (2 * j) *ℤ v j)) (totals k v) (sum k v) (v k) (pos (2 * k)) (pos (2 * suc k)) (twice k v) (ap pos e)

finish : (A W S M N : ℤ) → A +ℤ pos 2 *ℤ W +ℤ pos 2 *ℤ S ≡ N *ℤ S → N ≡ pos 2 *ℤ M +ℤ pos 2 → A -ℤ M *ℤ S ≡ M *ℤ S -ℤ pos 2 *ℤ W
finish A W S M N e f =
    identity (A ∷ W ∷ S ∷ M ∷ []) (search quote depth 20) tt
    ∙ ap (λ (z : ℤ). z -ℤ pos 2 *ℤ W -ℤ pos 2 *ℤ S -ℤ M *ℤ S) (e ∙ ap (λ (z : ℤ). z *ℤ S) f)
    ∙ identity (W ∷ S ∷ M ∷ []) (search quote depth 20) tt

pub moment-running : (n : ℕ) (v : ℕ → ℤ) → 1 ≤ n → moment n v ≡ pos (n - 1) *ℤ total n v -ℤ pos 2 *ℤ totals n v
unfolding moment total place
moment-running n v h =
    let e : 2 * n ≡ 2 * (n - 1) + 2 = omega arith in
    apart ∙ finish (sum n (λ j. pos (2 * j) *ℤ v j)) (totals n v) (sum n v) (pos (n - 1)) (pos (2 * n)) (twice n v) (ap pos e)
  where
    apart : sum n (λ j. (pos (2 * j) -ℤ pos (n - 1)) *ℤ v j) ≡ sum n (λ j. pos (2 * j) *ℤ v j) -ℤ pos (n - 1) *ℤ sum n v
    apart = sum-eq n (search sums depth 12) (λ j k. identity (pos (2 * j) ∷ pos (n - 1) ∷ v j ∷ []) (search quote depth 20) tt)

-- ---- values that are inside Fit's limit so far

abbrev pub Inside : List ℤ → ℕ → Type 0
Inside l j = (i : ℕ) → i < j → nat_abs (at l i) ≤ value_limit

module _ (l : List ℤ) (j : ℕ) (h : j ≤ 52) (so_far : Inside l j) where
  pub total-so-far : nat_abs (sum j (at l)) ≤ 52 * value_limit
  total-so-far = le_trans (nat_abs-sum j (at l) value_limit so_far) (mul-le-mul_right value_limit h)

  pub totals-so-far : nat_abs (totals j (at l)) ≤ 2704 * value_limit
  totals-so-far = le_trans (nat_abs-sum j (λ k. sum k (at l)) (52 * value_limit) each) (mul-le-mul_right (52 * value_limit) h)
    where
      each : (k : ℕ) → k < j → nat_abs (sum k (at l)) ≤ 52 * value_limit
      each k i =
          let few : k ≤ 52 = omega (arith, i, h) in
          le_trans (nat_abs-sum k (at l) value_limit (λ m p. so_far m (omega (arith, p, i)))) (mul-le-mul_right value_limit few)

  -- the next one is inside too
  pub inside-more : beyond value_limit (at l j) ≡ false → Inside l (j + 1)
  inside-more e i k = elim (dec_lt i j) [ yes p ↦ so_far i p | no p ↦ here (omega arith) ]
    where
      here : i ≡ j → nat_abs (at l i) ≤ value_limit
      here q = rw q (magnitude-within value_limit (at l j) e)

-- one is outside
pub outside-found : (l : List ℤ) (j : ℕ) → beyond value_limit (at l j) ≡ true → true ≡ any_beyond_lem value_limit l
outside-found l j h = by (any_beyond_lem value_limit l) refl
  where
    by : (b : Bool) → any_beyond_lem value_limit l ≡ b → true ≡ b
    by true e = refl
    by false e = absurd (true≢false (sym h ∙ within-magnitude value_limit (at l j) (within-limit value_limit l e j)))

-- none is
pub all-inside : (l : List ℤ) → Inside l (length l) → any_beyond_lem value_limit l ≡ false
all-inside l h = limit-within value_limit l (λ i. elim (dec_lt i (length l)) [ yes p ↦ h i p | no p ↦ past i (omega arith) ])
  where
    past : (i : ℕ) → length l ≤ i → nat_abs (at l i) ≤ value_limit
    past i p = rw (get_or-eq_default l (pos 0) p) zero-le
