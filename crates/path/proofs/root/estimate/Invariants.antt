-- `path::root::estimate` is safe and ends. Nothing is said of its result.
-- Assumes nothing.
use Prim.Native.Nat.{◌-◌, ◌≤◌}
use Rattle.path.proofs.root.estimate.Given as goal

abbrev pub invariant-loop : goal.invariant-loop
invariant-loop l = l.counter ≤ 2

abbrev pub decreases-loop : goal.decreases-loop
decreases-loop l = 2 - l.counter
