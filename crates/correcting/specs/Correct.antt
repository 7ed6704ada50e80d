-- Correcting (document 01; document 02, Jobs 3 and 8): the corrected values of each kind of a track of n blocks, what of it is refused, and what it is given.
-- Assumes nothing.
use Rattle.std.specs.Prelude.{ℕ, ◌*◌, ◌-◌, ◌^◌, Bool, not, ◌||◌, List, ◌++◌, ℤ, pos, ◌*ℤ◌, length, replicate}
use Rattle.limits.specs.Limits.{delays_beyond_lem, measurement_limit, delay_limit}
use Rattle.limits.specs.Blocks.{blocks_fit_lem}
use Rattle.limits.specs.Lists.{miscounted, any_beyond_lem}
use Rattle.whole.specs.Table.{tabulate, at}
use Rattle.exact.specs.Corrected.{steps, Given, block, to_a, to_b}
use Rattle.series.specs.Smooth.{smoothed}

-- How many blocks a track has: as many as its first column, and 1 tells where the other lists disagree.
abbrev pub blocks : Given → ℕ
blocks g = length g.geometry

-- The smoothed value of block j, in tenths.
unfoldable pub smoothed_at : Given → ℕ → ℤ
smoothed_at g j = smoothed (block g j)

-- The corrected values A, B, C and D of block j, in tenths.
unfoldable pub value_a : Given → ℕ → ℤ
value_a g j = to_a g (pos steps) j (smoothed_at g j)

unfoldable pub value_b : Given → ℕ → ℤ
value_b g j = to_b g (pos steps) j (smoothed_at g j)

unfoldable pub value_c : Given → ℕ → ℤ
value_c g j = pos steps *ℤ at g.troposphere j

unfoldable pub value_d : Given → ℕ → ℤ
value_d g j = pos steps *ℤ at g.ionosphere j

-- The 52 places of a record: the values of n blocks, and 0 in the others.
unfoldable pub places : (n : ℕ) (value : ℕ → ℤ) → List ℤ
places n value = tabulate value n ++ replicate (52 - n) (pos 0)

-- 1: the blocks are not from 4 to 52, the measurements are not 15 a block, or the columns disagree.
unfoldable pub wrong_sizes : Given → Bool
wrong_sizes g =
    let n = blocks g in
    not (blocks_fit_lem n)
    || (miscounted (15 * n) g.measurements || miscounted n g.relativity || miscounted n g.ionosphere
    || miscounted n g.troposphere || miscounted n g.clock)

-- The limit on a geometry in ps.
abbrev pub geometry_limit : ℕ
geometry_limit = 2 * 10 ^ 11

-- 2: some measurement, some geometry, or some other correction or delay is beyond its limit.
unfoldable pub out_of_limits : Given → Bool
out_of_limits g =
    any_beyond_lem measurement_limit g.measurements
    || (any_beyond_lem geometry_limit g.geometry || any_beyond_lem delay_limit g.relativity || any_beyond_lem delay_limit g.ionosphere
    || any_beyond_lem delay_limit g.troposphere || any_beyond_lem delay_limit g.clock)
    || delays_beyond_lem g.int g.cab g.refdly g.gd

-- What Track is given, in the order of its parameters.
abbrev pub given : List ℤ → ℤ → ℤ → ℤ → ℤ → List ℤ → List ℤ → List ℤ → List ℤ → List ℤ → Given
given measurements int cab refdly gd geometry relativity ionosphere troposphere clock =
    record {
      measurements = measurements;
      int = int;
      cab = cab;
      refdly = refdly;
      gd = gd;
      geometry = geometry;
      relativity = relativity;
      ionosphere = ionosphere;
      troposphere = troposphere;
      clock = clock;
    }
