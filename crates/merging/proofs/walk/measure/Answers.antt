-- `merging::walk::measure` meets its contract: what is left to measure is what is left of the walk.
-- Assumes nothing.
use mathlib.Core.Path.{sym, ap, ◌∙◌}
use native.Mathlib.Omega.{arith}
use lib.ListN.{length}
use Rattle.linefile.specs.Walk.{step_map}
use Rattle.linefile.proofs.Steps.{unrefused, few-steps}
use Rattle.merging.proofs.Walking.{steps-differ, steps-length, differ-found, differ-not, differ-alone, measured-differ, measured-bytes}
use Rattle.merging.proofs.walk.measure.Goals.{in-Both+else-differ, in_default}
use Rattle.merging.proofs.walk.measure.Goals as goal

pub returns-then-differ : goal.returns-then-differ
returns-then-differ c =
    measured-differ c.args.first.lines.now c.args.second.lines.now
    (steps-differ _ _ (unrefused _ c.args.first.accepted) (unrefused _ c.args.second.accepted) ∙ c.loop-step.invariant.1
    ∙ differ-found c.in-Some.ensures.steps (ap (step_map (λ line. line.now)) c.in-Both.is) (sym c.if-differ.ensures))

pub overflow_add-bytes : goal.overflow_add-bytes
overflow_add-bytes c =
    let few = few-steps _ _ (unrefused _ c.args.first.accepted) (unrefused _ c.args.second.accepted) in
    omega (arith, c.loop-step.invariant.0, ap length c.in-Some.ensures.steps, few, c.args.first.counted, c.args.second.counted)

pub loop-step-preserved : goal.loop-step-preserved
loop-step-preserved c = (
  omega (arith, ap length c.in-Some.ensures.steps, c.loop-step.invariant.0),
  c.loop-step.invariant.1 ∙ elim c.match-step.branch [
    | in-Both+else-differ w ↦ differ-not c.in-Some.ensures.steps (ap (step_map (λ line. line.now)) w.in-Both.is) (sym w.if-differ.ensures)
    | in_default w ↦ differ-alone (λ line. line.now) c.in-Some.step c.in-Some.ensures.steps w.in_default.not-Both
  ],
)

pub returns : goal.returns
returns c =
    let e = c.in-None.ensures.steps.0 in
    let a = unrefused _ c.args.first.accepted in
    let b = unrefused _ c.args.second.accepted in
    measured-bytes c.args.first.lines.now c.args.second.lines.now e
    (steps-differ _ _ a b ∙ c.loop-step.invariant.1)
    (omega (arith, steps-length _ _ a b, c.loop-step.invariant.0, ap length e))
