-- `Series::dsg` meets its contract: low's threshold is reached, high's is not, and they come together.
-- Assumes nothing.
use Prim.Native.Nat.{◌-◌, ◌≤◌, ◌<◌}
use lib.IntN.{pos}
use lib.ListN.{length}
use Rattle.whole.specs.Order.{◌⩽◌, ◌⋖◌}
use Rattle.exact.specs.Corrected.{steps}
use Rattle.series.specs.Scatter.{threshold}
use Rattle.series.proofs.sums.Series.dsg.Given as goal

abbrev pub invariant-loop-low : goal.invariant-loop-low
invariant-loop-low l =
    (l.low < l.high) × (l.high ≤ 10000) × (1 ≤ l.low → threshold steps (length l.self.values.now) l.low ⩽ pos l.q) × (pos l.q ⋖ threshold steps (length l.self.values.now) l.high)

abbrev pub decreases-loop-low : goal.decreases-loop-low
decreases-loop-low l = l.high - l.low
