-- Smooth (document 01, "Smoothing"; document 02, Job 8): fifteen one-second measurements, in picoseconds, to the value at their middle of the parabola
-- with the least sum of squared residuals, in tenths of a picosecond.
-- Assumes nothing.
use Rattle.std.specs.Prelude.{ℕ, List, ℤ, pos, ◌*ℤ◌}
use Rattle.exact.specs.Weights.{weights}
use Rattle.whole.specs.Sum.{sum}
use Rattle.whole.specs.Nearest.{nearest}
use Rattle.whole.specs.Table.{at}
use Rattle.exact.specs.Corrected.{steps}
use Rattle.limits.specs.Limits.{measurement_limit}
use Rattle.limits.specs.Lists.{miscounted, list_number}
use Rattle.limits.specs.Reply.{Reply, reply}

-- The smoothed value of the measurements m 0 .. m 14: the nearest whole tenth.
unfoldable pub smoothed : (ℕ → ℤ) → ℤ
smoothed m = nearest (pos steps *ℤ sum 15 (λ i. at weights i *ℤ m i)) 1105

-- 1: the count is not 15. 2: a measurement is beyond its limit.
unfoldable pub smooth_rule : List ℤ → Reply ℤ
smooth_rule m = reply (pos 0) (list_number (miscounted 15 m) measurement_limit m) (smoothed (at m))
