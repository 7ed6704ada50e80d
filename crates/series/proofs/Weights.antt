-- The table of weights (specs/Smooth.antt): how large a product with one can be, and a smoothed value.
-- Assumes nothing.
use mathlib.Core.Path.{◌≡◌, refl, sym, ap, ◌∙◌}
use Prim.Native.Nat.{ℕ, ◌+◌, ◌*◌, ◌/◌, ◌≤◌, ◌<◌}
use native.Mathlib.Nat.{le_trans, le_of_eq, mul_comm, mul-le-mul, mul-le-mul_left, mul-le-mul_right}
use lib.Dec.{lit<, lit≤}
use lib.IntN.{ℤ, pos, nat_abs, ◌*ℤ◌}
use Rattle.whole.specs.Square.{magnitude}
use Rattle.whole.specs.Sum.{sum}
use Rattle.whole.proofs.Sums.{sum-le, sum-scale, magnitude-sum}
use Rattle.whole.specs.Order.{◌⩽◌}
use Rattle.whole.proofs.Order.{pos-le, pos-le-is, le_trans as ⩽-trans, le_of_eq as ⩽-of-eq}
use Rattle.whole.proofs.Magnitudes.{nat_abs_mul}
use Rattle.whole.proofs.Rounding.{nearest-bound}
use Rattle.whole.proofs.Words.{partial}
use Rattle.limits.specs.Limits.{outside, measurement_limit}
use Rattle.whole.specs.Table.{at}
use Rattle.exact.specs.Corrected.{steps}
use Rattle.exact.specs.Weights.{weights}
use Rattle.limits.specs.Lists.{any_outside_lem}
use Rattle.series.specs.Smooth.{smoothed}
use Rattle.limits.proofs.Lists.{within-limit}

pub weight-bound : (i : ℕ) → nat_abs (at weights i) ≤ 167
unfolding weights any_outside_lem outside
weight-bound i = within-limit 167 weights refl i

-- their magnitudes add up to 1469, so that smoothing magnifies by at most 1469 / 1105
gain : sum 15 (λ i. magnitude (at weights i)) ≡ pos 1469
unfolding sum weights
gain = refl

-- so a smoothed value is at most this, in tenths, where no measurement is beyond its limit (law `smoothed-bound`)
abbrev pub most_smoothed : ℕ
most_smoothed = steps * measurement_limit * 1469 / 1105 + 1

-- a product with one, and the sum of fifteen
module _ (m : ℕ → ℤ) (h : (i : ℕ) → nat_abs (m i) ≤ measurement_limit) where
  product-bound : (i : ℕ) → i < 15 → nat_abs (at weights i *ℤ m i) ≤ 167 * measurement_limit
  product-bound i k = le_trans (le_of_eq (nat_abs_mul (at weights i) (m i))) (mul-le-mul (weight-bound i) (h i))

  pub weighted-bound : (k : ℕ) → k ≤ 15 → nat_abs (sum k (λ i. at weights i *ℤ m i)) ≤ 15 * (167 * measurement_limit)
  weighted-bound k l = partial 15 k (λ i. at weights i *ℤ m i) (167 * measurement_limit) l product-bound

  -- the fifteen products come to at most 1469 × 10^12, and a smoothed value to the nearest to 1469 / 1105 × 10^13 tenths
  products_bound : nat_abs (sum 15 (λ i. at weights i *ℤ m i)) ≤ measurement_limit * 1469
  products_bound =
      pos-le-is
      (⩽-trans (magnitude-sum 15 (λ i. at weights i *ℤ m i))
      (⩽-trans (sum-le 15 each)
      (⩽-of-eq (sym (sum-scale 15 (pos measurement_limit) (λ i. magnitude (at weights i))) ∙ ap (λ (z : ℤ). pos measurement_limit *ℤ z) gain))))
    where
      each : (i : ℕ) → i < 15 → magnitude (at weights i *ℤ m i) ⩽ pos measurement_limit *ℤ magnitude (at weights i)
      each i k =
          pos-le
          (le_trans (le_of_eq (nat_abs_mul (at weights i) (m i) ∙ mul_comm (nat_abs (at weights i)) (nat_abs (m i))))
          (mul-le-mul_right (nat_abs (at weights i)) (h i)))

  pub smoothed-bound : nat_abs (smoothed m) ≤ most_smoothed
  unfolding smoothed
  smoothed-bound =
      nearest-bound (pos steps *ℤ sum 15 (λ i. at weights i *ℤ m i)) 1105 most_smoothed (lit< tt)
      (le_trans (le_of_eq (nat_abs_mul (pos steps) (sum 15 (λ i. at weights i *ℤ m i)))) (le_trans (mul-le-mul_left steps products_bound) (lit≤ tt)))
