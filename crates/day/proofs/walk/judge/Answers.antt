-- `day::walk::judge` meets its contract: the verdict stays what it was.
-- Assumes nothing.
use mathlib.Core.Path.{◌∙◌}
use borrow.Author.Tests.{le-ltb}
use Rattle.std.proofs.lemmas.Result.{err_from_is_err_and}
use Rattle.day.proofs.Walking.{stepped, step-refused, verdict-end}
use Rattle.day.proofs.walk.judge.Goals as goal

pub returns-in_err-state : goal.returns-in_err-state
returns-in_err-state c =
    let p = err_from_is_err_and c.from_residual.result c.from_residual.ensures.1 in
    rw (p.1, p.2)
    (c.loop-state.invariant.1
    ∙ step-refused c.args.blocks.now c.loop-state.state c.loop-state.invariant.0 c.loop-state-test.true c.in_err-state.field-0.0 c.in_err-state.ensures.value)

pub loop-state-preserved : goal.loop-state-preserved
loop-state-preserved c =
    let n = stepped c.args.blocks.now c.loop-state.state c.in_ok-state.state c.loop-state.invariant.0 c.loop-state-test.true c.in_ok-state.ensures.value in
    (n.walked.within, c.loop-state.invariant.1 ∙ n.walked.same, c.step.array_long)

pub loop-state-smaller : goal.loop-state-smaller
loop-state-smaller c =
    (stepped c.args.blocks.now c.loop-state.state c.in_ok-state.state c.loop-state.invariant.0 c.loop-state-test.true c.in_ok-state.ensures.value).less

pub returns : goal.returns
returns c = c.loop-state.invariant.1 ∙ verdict-end c.args.blocks.now c.loop-state.state (le-ltb _ _ c.loop-state-test.false)
