-- How large smoothed and corrected values can be where no number is refused with 2 (document 01, "Each operation and its refusals, in order"), and
-- that no corrected value is outside Fit's limit (document 02, Job 14).
-- Assumes nothing.
use mathlib.Core.Path.{◌≡◌, refl}
use mathlib.Core.Bool.{false}
use mathlib.Core.List.{List}
use Prim.Native.Nat.{ℕ, ◌+◌, ◌*◌, ◌≤◌}
use native.Mathlib.Nat.{le_trans}
use lib.Dec.{lit≤}
use lib.IntN.{ℤ, nat_abs}
use Rattle.whole.specs.Words.{Within}
use Rattle.whole.proofs.Words.{Word, known, bound, bounds}
use Rattle.whole.specs.Table.{at}
use Rattle.exact.specs.Corrected.{Given, block, to_a, to_b, steps}
use Rattle.limits.specs.Limits.{measurement_limit, delay_limit}
use Rattle.limits.specs.Lists.{any_beyond_lem}
use Rattle.limits.proofs.Lists.{within-limit, limit-within}
use Rattle.series.specs.Fit.{value_limit}
use Rattle.series.proofs.Weights.{most_smoothed, smoothed-bound}
use Rattle.correcting.specs.Correct.{smoothed_at, value_a, value_b, value_c, value_d, places, out_of_limits, geometry_limit}
use Rattle.correcting.proofs.Arrays.{places-bound}
use Rattle.correcting.proofs.Refusals.{limited, others}

-- The most that A and B can be, in tenths: to a smoothed value all else is added or taken off, to A a geometry and seven numbers within `delay_limit`, to B
-- the clock too. (That some track reaches each is not proved here.)
abbrev most_a : ℕ
most_a = most_smoothed + steps * (geometry_limit + 7 * delay_limit)

abbrev most_b : ℕ
most_b = most_a + steps * delay_limit

-- The smoothed value of a block, and its four corrected values, in tenths.
module _ (g : Given) (e : out_of_limits g ≡ false) (j : ℕ) where
  pub smoothed-within : nat_abs (smoothed_at g j) ≤ most_smoothed
  unfolding smoothed_at block
  smoothed-within =
      smoothed-bound (block g j) (λ i. within-limit measurement_limit g.measurements (limited g e).in-measurements (15 * j + i))

  pub a-within : nat_abs (value_a g j) ≤ most_a
  unfolding value_a to_a
  a-within =
      let l = others g (limited g e).in-others in
      let y : Word (smoothed_at g j) = known smoothed-within in
      let int : Word g.int = known l.in-int in
      let cab : Word g.cab = known l.in-cab in
      let ref : Word g.refdly = known l.in-refdly in
      let gd : Word g.gd = known l.in-gd in
      let geo : Word (at g.geometry j) = known (within-limit geometry_limit _ l.in-geometry j) in
      let rel : Word (at g.relativity j) = known (within-limit delay_limit _ l.in-relativity j) in
      let ion : Word (at g.ionosphere j) = known (within-limit delay_limit _ l.in-ionosphere j) in
      let tro : Word (at g.troposphere j) = known (within-limit delay_limit _ l.in-troposphere j) in
      let w : Within most_a (value_a g j) = bound (search bounds depth 20) tt in w.within

  pub b-within : nat_abs (value_b g j) ≤ most_b
  unfolding value_a value_b to_b
  b-within =
      let a : Word (value_a g j) = known a-within in
      let clock : Word (at g.clock j) = known (within-limit delay_limit _ (others g (limited g e).in-others).in-clock j) in
      let w : Within most_b (value_b g j) = bound (search bounds depth 12) tt in w.within

  pub c-within : nat_abs (value_c g j) ≤ steps * delay_limit
  unfolding value_c
  c-within =
      let tro : Word (at g.troposphere j) = known (within-limit delay_limit _ (others g (limited g e).in-others).in-troposphere j) in
      let w : Within (steps * delay_limit) (value_c g j) = bound (search bounds depth 12) tt in w.within

  pub d-within : nat_abs (value_d g j) ≤ steps * delay_limit
  unfolding value_d
  d-within =
      let ion : Word (at g.ionosphere j) = known (within-limit delay_limit _ (others g (limited g e).in-others).in-ionosphere j) in
      let w : Within (steps * delay_limit) (value_d g j) = bound (search bounds depth 12) tt in w.within

-- None of four rows has a value outside Fit's limit.
pub record Inside (a b c d : List ℤ) : Type 0 where
  pub in-a : any_beyond_lem value_limit a ≡ false
  pub in_b : any_beyond_lem value_limit b ≡ false
  pub in_c : any_beyond_lem value_limit c ≡ false
  pub in-d : any_beyond_lem value_limit d ≡ false

-- values within a bound that is not above Fit's limit pass its test
passes : (n : ℕ) (f : ℕ → ℤ) (b : ℕ) → b ≤ value_limit → ((j : ℕ) → nat_abs (f j) ≤ b) → any_beyond_lem value_limit (places n f) ≡ false
passes n f b h k = limit-within value_limit (places n f) (places-bound f n value_limit (λ j. le_trans (k j) h))

-- What 2 lets through has no corrected value outside ±2 × 10^13 tenths, whatever the number of blocks (document 02, Job 14).
pub corrected-within : (g : Given) → out_of_limits g ≡ false → (n : ℕ)
    → Inside (places n (value_a g)) (places n (value_b g)) (places n (value_c g)) (places n (value_d g))
corrected-within g e n =
    record {
      in-a = passes n (value_a g) most_a (lit≤ tt) (a-within g e);
      in_b = passes n (value_b g) most_b (lit≤ tt) (b-within g e);
      in_c = passes n (value_c g) _ (lit≤ tt) (c-within g e);
      in-d = passes n (value_d g) _ (lit≤ tt) (d-within g e);
    }

-- The figures: no corrected value is above 1609411764705.9 ps in magnitude.
pub largest : (most_a ≡ 15994117647059) × (most_b ≡ 16094117647059)
largest = (refl, refl)
