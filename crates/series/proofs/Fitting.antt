-- Laws of the sums of a fit (specs/Fit.antt): how large they can be, the numbers that document 01 has for 52 values, and that a fit reads no value
-- past its n.
-- Assumes nothing.
use mathlib.Core.Path.{◌≡◌, refl, sym, ap, ap₂, ◌∙◌, subst}
use mathlib.Core.Bool.{true, false, not}
use mathlib.Core.List.{List, [], ◌∷◌}
use Prim.Native.Nat.{ℕ, ◌+◌, ◌*◌, ◌-◌, ◌/◌, ◌≤◌, ◌<◌}
use native.Mathlib.Nat.{le_trans, le_of_eq, le_refl, mul-le-mul, mul-le-mul_left, mul-le-mul_right, one-le-mul, mul_comm}
use native.Mathlib.Omega.{arith}
use lib.Dec.{lit<}
use lib.IntN.{ℤ, pos, nat_abs, ◌-ℤ◌, ◌*ℤ◌}
use lib.ListN.{length, take}
use lib.Seq.{length-take-le, get_or-take}
use Rattle.whole.specs.Square.{magnitude}
use Rattle.whole.specs.Sum.{sum}
use Rattle.whole.proofs.Sums.{sum-cong, sum-eq, sums, sum-le, sum-scale, magnitude-sum}
use Rattle.whole.specs.Nearest.{nearest}
use Rattle.whole.proofs.Identity.{identity, quote}
use Rattle.whole.proofs.Linear.{le-by}
use Rattle.whole.specs.Order.{◌⩽◌}
use Rattle.whole.proofs.Order.{pos-le, pos-le-is, zero-le-pos, mul-le, le_trans as ⩽-trans, le_of_eq as ⩽-of-eq}
use Rattle.whole.proofs.Magnitudes.{nat_abs_mul, magnitude-le}
use Rattle.whole.proofs.Rounding.{nearest-scale}
use Rattle.whole.proofs.Words.{partial}
use Rattle.whole.specs.Table.{at}
use Rattle.exact.specs.Corrected.{steps}
use Rattle.exact.specs.Weights.{place}
use Rattle.exact.proofs.Places.{sum-magnitude-place}
use Rattle.limits.specs.Blocks.{blocks_fit_lem}
use Rattle.limits.specs.Refusal.{◌when◌, ◌then◌}
use Rattle.limits.specs.Lists.{any_beyond_lem, range_number}
use Rattle.series.specs.Fit.{total, moment, midpoint, slope, series_number, fit_rule, value_limit}
use Rattle.limits.specs.Reply.{Reply}
use Rattle.limits.proofs.Blocks.{within-blocks}
use Rattle.limits.proofs.Lists.{within-limit, list-passes, any-take}
use Rattle.limits.proofs.Replies.{reply-accepted}

-- two numbers that differ by at most m
apart : (a b m : ℕ) → a ≤ b + m → b ≤ a + m → nat_abs (pos a -ℤ pos b) ≤ m
apart a b m h k =
    let ρ : List ℤ = pos a ∷ pos b ∷ pos m ∷ [] in
    pos-le-is (magnitude-le {x = pos a -ℤ pos b} {b = pos m} (le-by ρ (search quote depth 20) (omega arith)) (le-by ρ (search quote depth 20) (omega arith)))

-- a place lies within n of the middle
pub place-bound : (n j : ℕ) → j < n → nat_abs (place n j) ≤ n
unfolding place
place-bound n j h = apart (2 * j) (n - 1) n (omega arith) (omega arith)

-- sums over the first k of n values that are inside Fit's limit, n being at most 52
module _ (l : List ℤ) (e : any_beyond_lem value_limit l ≡ false) (n : ℕ) (h : n ≤ 52) where
  pub total-part : (k : ℕ) → k ≤ n → nat_abs (sum k (at l)) ≤ 52 * value_limit
  total-part k m =
      le_trans (partial n k (at l) value_limit m (λ j i. within-limit value_limit l e j)) (mul-le-mul_right value_limit h)

  pub total-bound : nat_abs (total n (at l)) ≤ 52 * value_limit
  unfolding total
  total-bound = total-part n (le_refl n)

  -- the magnitudes of the places add up to at most n² / 2: half of what the number of terms would give
  pub moment-bound : nat_abs (moment n (at l)) ≤ 1352 * value_limit
  unfolding moment
  moment-bound =
      pos-le-is
      (⩽-trans (magnitude-sum n (λ j. place n j *ℤ at l j))
      (⩽-trans (sum-le n each)
      (⩽-trans (⩽-of-eq (sym (sum-scale n (pos value_limit) (λ j. magnitude (place n j))) ∙ halved (sum n (λ j. magnitude (place n j)))))
      (⩽-trans (mul-le (pos half) (zero-le-pos half) (sum-magnitude-place n))
      (pos-le {m = half * (n * n)} (omega (arith, mul-le-mul h h)))))))
    where
      half : ℕ
      half = value_limit / 2

      halved : (u : ℤ) → pos value_limit *ℤ u ≡ pos half *ℤ (pos 2 *ℤ u)
      halved u = identity (u ∷ []) (search quote depth 20) tt

      each : (j : ℕ) → j < n → magnitude (place n j *ℤ at l j) ⩽ pos value_limit *ℤ magnitude (place n j)
      each j k =
          pos-le
          (le_trans (le_of_eq (nat_abs_mul (place n j) (at l j) ∙ mul_comm (nat_abs (place n j)) (nat_abs (at l j))))
          (mul-le-mul_right (nat_abs (place n j)) (within-limit value_limit l e j)))

-- a list is refused for its count first
pub values-miscounted : (l : List ℤ) → not (blocks_fit_lem (length l)) ≡ true → series_number l ≡ 1
unfolding range_number ◌when◌ ◌then◌
values-miscounted l e = rw e

pub values-counted : (l : List ℤ) → not (blocks_fit_lem (length l)) ≡ false → series_number l ≡ 2 when any_beyond_lem value_limit l
unfolding range_number ◌when◌ ◌then◌
values-counted l e = rw e

-- n² - 1 and n (n² - 1), for n from 2 to 52
pub square-bound : (n : ℕ) → n ≤ 52 → n * n - 1 ≤ 2703
square-bound n h = omega (arith, mul-le-mul h h)

pub span-bound : (n : ℕ) → n ≤ 52 → n * (n * n - 1) ≤ 140556
span-bound n h = mul-le-mul h (square-bound n h)

pub span-some : (n : ℕ) → 2 ≤ n → 0 < n * (n * n - 1)
span-some n h = one-le-mul one (omega (arith, mul-le-mul_left n h))
  where
    one : 1 ≤ n
    one = omega arith

-- the divisors in tenths (document 02, Job 8)
pub midpoint-tenths : (n : ℕ) (v : ℕ → ℤ) → midpoint steps n v ≡ nearest (total n v) (1000 * n)
unfolding midpoint
midpoint-tenths n v = refl

pub slope-tenths : (n : ℕ) (v : ℕ → ℤ) → slope steps n v ≡ nearest (pos 4 *ℤ moment n v) (10 * (n * (n * n - 1)))
unfolding slope
slope-tenths n v = refl

-- document 01's numbers for 52 values, in tenths
pub midpoint-52 : (v : ℕ → ℤ) → midpoint steps 52 v ≡ nearest (total 52 v) 52000
unfolding midpoint
midpoint-52 v = refl

pub slope-52 : (v : ℕ → ℤ) → slope steps 52 v ≡ nearest (moment 52 v) 351390
unfolding slope
slope-52 v = nearest-scale (moment 52 v) 351390 4 (lit< tt) (lit< tt)

-- ---- whole picoseconds counted in s steps each have the line that they have in picoseconds: C and D, which are never rounded, give the same numbers

module _ (s n : ℕ) (s-pos : 0 < s) (v : ℕ → ℤ) where
  pub midpoint-stepped : 0 < n → midpoint s n (λ j. pos s *ℤ v j) ≡ midpoint 1 n v
  unfolding midpoint total
  midpoint-stepped h =
      ap₂ nearest (sym (sum-scale n (pos s) v)) divisor
      ∙ nearest-scale (sum n v) (100 * 1 * n) s (omega arith) s-pos
    where
      divisor : 100 * s * n ≡ s * (100 * 1 * n)
      divisor = omega arith

  pub slope-stepped : 2 ≤ n → slope s n (λ j. pos s *ℤ v j) ≡ slope 1 n v
  unfolding slope moment
  slope-stepped h =
      ap₂ nearest
      (ap (λ (z : ℤ). pos 4 *ℤ z) collected
      ∙ moved (pos s) (sum n (λ j. place n j *ℤ v j)))
      divisor
      ∙ nearest-scale (pos 4 *ℤ sum n (λ j. place n j *ℤ v j)) (1 * (n * (n * n - 1))) s (omega (arith, span-some n h)) s-pos
    where
      collected : sum n (λ j. place n j *ℤ (pos s *ℤ v j)) ≡ pos s *ℤ sum n (λ j. place n j *ℤ v j)
      collected = sum-eq n (search sums depth 12) (λ j k. identity (place n j ∷ pos s ∷ v j ∷ []) (search quote depth 20) tt)

      moved : (s T : ℤ) → pos 4 *ℤ (s *ℤ T) ≡ s *ℤ (pos 4 *ℤ T)
      moved s T = identity (s ∷ T ∷ []) (search quote depth 20) tt

      divisor : s * (n * (n * n - 1)) ≡ s * (1 * (n * (n * n - 1)))
      divisor = omega arith

-- ---- no value past the n values is read

module _ (n : ℕ) {u v : ℕ → ℤ} (same : (j : ℕ) → j < n → u j ≡ v j) where
  pub total-cong : total n u ≡ total n v
  unfolding total
  total-cong = sum-cong n same

  pub moment-cong : moment n u ≡ moment n v
  unfolding moment
  moment-cong = sum-cong n (λ j h. ap (λ (z : ℤ). place n j *ℤ z) (same j h))

  pub midpoint-cong : midpoint steps n u ≡ midpoint steps n v
  unfolding midpoint
  midpoint-cong = ap (λ (z : ℤ). nearest z (100 * steps * n)) total-cong

  pub slope-cong : slope steps n u ≡ slope steps n v
  unfolding slope
  slope-cong = ap (λ (z : ℤ). nearest (pos 4 *ℤ z) (steps * (n * (n * n - 1)))) moment-cong

-- Fit's reply to values that are not refused
fit-accepted : (l : List ℤ) → 4 ≤ length l → length l ≤ 52 → any_beyond_lem value_limit l ≡ false
    → fit_rule l ≡ record { number = 0; values = (midpoint steps (length l) (at l), slope steps (length l) (at l)) }
unfolding fit_rule
fit-accepted l h k e = reply-accepted _ _ (list-passes _ _ _ l (within-blocks (length l) h k) e)

-- to the first n values of a list
pub fit-part : (n : ℕ) (l : List ℤ) → 4 ≤ n → n ≤ 52 → n ≤ length l → any_beyond_lem value_limit l ≡ false
    → fit_rule (take n l) ≡ record { number = 0; values = (midpoint steps n (at l), slope steps n (at l)) }
fit-part n l h k m e =
    fit-accepted (take n l) (subst (λ (i : ℕ). 4 ≤ i) (sym count) h) (subst (λ (i : ℕ). i ≤ 52) (sym count) k) (any-take _ _ n l e)
    ∙ ap (λ (i : ℕ). line i (at (take n l))) count
    ∙ ap₂ (λ (x y : ℤ). answer x y) (midpoint-cong n same) (slope-cong n same)
  where
    count : length (take n l) ≡ n
    count = length-take-le n l m

    same : (j : ℕ) → j < n → at (take n l) j ≡ at l j
    same j i = get_or-take n l j (pos 0) i

    answer : ℤ → ℤ → Reply (ℤ × ℤ)
    answer x y = record { number = 0; values = (x, y) }

    line : ℕ → (ℕ → ℤ) → Reply (ℤ × ℤ)
    line i v = answer (midpoint steps i v) (slope steps i v)
