-- `viewing::pairs::gather` meets its contract: what is left to view is what is left of the walk.
-- Assumes nothing.
use mathlib.Core.Path.{ap}
use native.Mathlib.Omega.{arith}
use lib.ListN.{length}
use Rattle.linefile.specs.Partners.{partners}
use Rattle.linefile.specs.Walk.{step_map}
use Rattle.linefile.proofs.Steps.{unrefused, partners-steps, pairs-accepted, few-pairs}
use Rattle.viewing.specs.Gather.{most_steps}
use Rattle.viewing.proofs.Gathering.{viewed_in, few-viewed, seen-bounded, first-left, pair-left, none-left}
use Rattle.viewing.proofs.pairs.gather.Goals as goal

pub loop-step-init : goal.loop-step-init
loop-step-init c =
    let a = unrefused c.args.first.lines.now c.args.first.accepted in
    let b = unrefused c.args.second.lines.now c.args.second.accepted in
    rw (c.into_iter-step-iterator.ensures.into_iter_gives, c.walk-step-items.ensures.first, c.walk-step-items.ensures.second) (first-left _ _ (ap viewed_in (partners-steps _ _ a b)) (pairs-accepted _ _ a b))

pub count_pair-gathered-requires-clause-bounded : goal.count_pair-gathered-requires-clause-bounded
count_pair-gathered-requires-clause-bounded c =
    let a = unrefused c.args.first.lines.now c.args.first.accepted in
    let b = unrefused c.args.second.lines.now c.args.second.accepted in
    seen-bounded most_steps
    (omega (arith, few-viewed (partners c.args.first.lines.now c.args.second.lines.now), ap length (partners-steps _ _ a b), few-pairs _ _ a b, c.requires))
    c.loop-step.invariant.gathered

pub loop-step-preserved-in-Both : goal.loop-step-preserved-in-Both
loop-step-preserved-in-Both c =
    pair-left c.loop-step.invariant c.in-Some.ensures.steps (ap (step_map (λ line. line.now)) c.in-Both.is) c.count_pair-gathered.ensures

pub returns : goal.returns
returns c = none-left c.in-None.ensures.steps.0 c.loop-step.invariant
