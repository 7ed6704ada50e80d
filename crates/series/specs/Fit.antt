-- Fit (document 01, "Fitting"; document 02, Jobs 3 and 8): the line through the values v 0 .. v (n - 1), counted in steps of which a picosecond
-- has s. The rules take `steps` of them, so that the values are tenths.
-- Assumes nothing.
use Rattle.std.specs.Prelude.{ℕ, ◌*◌, ◌-◌, ◌^◌, not, List, ℤ, pos, ◌*ℤ◌, length}
use Rattle.exact.specs.Weights.{place}
use Rattle.whole.specs.Sum.{sum}
use Rattle.whole.specs.Nearest.{nearest}
use Rattle.whole.specs.Table.{at}
use Rattle.exact.specs.Corrected.{steps}
use Rattle.limits.specs.Blocks.{blocks_fit_lem}
use Rattle.limits.specs.Lists.{list_number}
use Rattle.limits.specs.Reply.{Reply, reply}

-- S and T of document 01: with 52 values, place 52 j is 2j - 51.
unfoldable pub total : ℕ → (ℕ → ℤ) → ℤ
total n v = sum n v

unfoldable pub moment : ℕ → (ℕ → ℤ) → ℤ
moment n v = sum n (λ j. place n j *ℤ v j)

-- The midpoint in 0.1 ns and the slope in 0.1 ps/s. Of 52 values in tenths they are the nearest to S / 52000 and T / 351390.
unfoldable pub midpoint : ℕ → ℕ → (ℕ → ℤ) → ℤ
midpoint s n v = nearest (total n v) (100 * s * n)

unfoldable pub slope : ℕ → ℕ → (ℕ → ℤ) → ℤ
slope s n v = nearest (pos 4 *ℤ moment n v) (s * (n * (n * n - 1)))

-- The limit on a value, in steps: 2 × 10^12 ps, which is 2 × 10^13 tenths.
abbrev pub value_limit : ℕ
value_limit = steps * (2 * 10 ^ 12)

-- The refusals of a list that Fit and Scatter share. 1: the count is not from 4 to 52. 2: a value is beyond its limit.
abbrev pub series_number : List ℤ → ℕ
series_number l = list_number (not (blocks_fit_lem (length l))) value_limit l

-- The values of an accepted reply are the midpoint and the slope.
unfoldable pub fit_rule : List ℤ → Reply (ℤ × ℤ)
fit_rule l = let n = length l in reply (pos 0, pos 0) (series_number l) (midpoint steps n (at l), slope steps n (at l))
