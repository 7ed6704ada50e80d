-- `viewing::pairs::gather` meets its contract: what is left to view is what is left of the walk.
-- Assumes nothing.
use Rattle.linefile.specs.Partners.{partners}
use Rattle.linefile.specs.Walk.{steps}
use Rattle.viewing.proofs.Gathering.{Left, viewed_in}
use Rattle.viewing.proofs.pairs.gather.Given as goal

abbrev pub invariant-loop-step : goal.invariant-loop-step
invariant-loop-step l =
    Left (viewed_in (partners l.first.lines.now l.second.lines.now)) (steps l.step-iterator.first.now l.step-iterator.second.now) l.gathered
