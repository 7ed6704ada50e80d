-- `path::root::halved` meets its contract: low's square is not above the number, that of the number behind high is, and they come together.
-- Assumes nothing.
use Prim.Native.Nat.{suc, ◌*◌, ◌-◌, ◌≤◌, ◌<◌}
use Rattle.path.specs.Between.{factor_limit}
use Rattle.path.proofs.root.halved.Given as goal

abbrev pub invariant-loop-low : goal.invariant-loop-low
invariant-loop-low l = (l.low ≤ l.high) × (l.high < factor_limit) × (l.low * l.low ≤ l.n) × (l.n < suc l.high * suc l.high)

abbrev pub decreases-loop-low : goal.decreases-loop-low
decreases-loop-low l = l.high - l.low
