-- `path::root::estimate` is safe and ends. Nothing is said of its result.
-- Assumes nothing.
use native.Mathlib.Omega.{arith}
use Rattle.path.proofs.root.estimate.Goals as goal

pub loop-init : goal.loop-init
loop-init c = omega arith

pub overflow_step : goal.overflow_step
overflow_step c = omega arith

pub loop-smaller : goal.loop-smaller
loop-smaller c = omega arith

pub loop-preserved : goal.loop-preserved
loop-preserved c = omega arith
