-- `merging::walk::measure` meets its contract: what is left to measure is what is left of the walk.
-- Assumes nothing.
use mathlib.Core.Path.{◌≡◌}
use Prim.Native.Nat.{◌+◌, ◌*◌}
use lib.ListN.{length}
use Rattle.columns.specs.Text.{ended_length}
use Rattle.linefile.specs.Walk.{pairs_in, steps}
use Rattle.merging.specs.Merge.{any_differ}
use Rattle.merging.proofs.walk.measure.Given as goal

abbrev pub invariant-loop-step : goal.invariant-loop-step
invariant-loop-step l =
    (l.bytes + ended_length * length (steps l.step-iterator.first.now l.step-iterator.second.now) ≡ ended_length * length (steps l.first.lines.now l.second.lines.now))
    × (any_differ (pairs_in (steps l.first.lines.now l.second.lines.now)) ≡ any_differ (pairs_in (steps l.step-iterator.first.now l.step-iterator.second.now)))
