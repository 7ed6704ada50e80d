-- `linefile::walk::Walk::next` meets its contract: the tests tell which step it is.
-- Assumes nothing.
use Rattle.linefile.proofs.Steps.{second-step, no-step, first-step, lesser-step, greater-step, level-step, progress}
use Rattle.linefile.proofs.walk.WalkIterator.next.Goals as goal

pub returns-in_err-other-clause-steps : goal.returns-in_err-other-clause-steps
returns-in_err-other-clause-steps c =
    let none = no-step _ _ c.in_default.ensures.cases c.in_err-other.ensures.cases in rw c.from_residual.ensures (none, none)

pub returns-in_default-clause-steps : goal.returns-in_default-clause-steps
returns-in_default-clause-steps c = second-step _ c.in_default.ensures.cases c.in_ok-other.ensures.cases.0

pub returns-in_default-clause-goes : goal.returns-in_default-clause-goes
returns-in_default-clause-goes c = progress (second-step _ c.in_default.ensures.cases c.in_ok-other.ensures.cases.0)

pub returns-in_default-split_first-clause-steps : goal.returns-in_default-split_first-clause-steps
returns-in_default-split_first-clause-steps c = first-step _ c.in-Some.ensures.cases.0 c.in_default-split_first.ensures.cases

pub returns-in_default-split_first-clause-goes : goal.returns-in_default-split_first-clause-goes
returns-in_default-split_first-clause-goes c = progress (first-step _ c.in-Some.ensures.cases.0 c.in_default-split_first.ensures.cases)

pub returns-then-place-other_place-clause-steps : goal.returns-then-place-other_place-clause-steps
returns-then-place-other_place-clause-steps c =
    lesser-step c.in-Some.ensures.cases.0 c.in-Some-split_first.ensures.cases.0 c.rank-place.ensures c.rank-other_place.ensures c.if-place-other_place.true

pub returns-then-place-other_place-clause-goes : goal.returns-then-place-other_place-clause-goes
returns-then-place-other_place-clause-goes c =
    progress (lesser-step c.in-Some.ensures.cases.0 c.in-Some-split_first.ensures.cases.0 c.rank-place.ensures c.rank-other_place.ensures c.if-place-other_place.true)

pub returns-then-other_place-place-clause-steps : goal.returns-then-other_place-place-clause-steps
returns-then-other_place-place-clause-steps c =
    greater-step c.in-Some.ensures.cases.0 c.in-Some-split_first.ensures.cases.0 c.rank-place.ensures c.rank-other_place.ensures c.if-place-other_place.false c.if-other_place-place.true

pub returns-then-other_place-place-clause-goes : goal.returns-then-other_place-place-clause-goes
returns-then-other_place-place-clause-goes c =
    progress (greater-step c.in-Some.ensures.cases.0 c.in-Some-split_first.ensures.cases.0 c.rank-place.ensures c.rank-other_place.ensures c.if-place-other_place.false c.if-other_place-place.true)

pub returns-clause-steps : goal.returns-clause-steps
returns-clause-steps c =
    level-step c.in-Some.ensures.cases.0 c.in-Some-split_first.ensures.cases.0 c.rank-place.ensures c.rank-other_place.ensures c.if-place-other_place.false c.if-other_place-place.false

pub returns-clause-goes : goal.returns-clause-goes
returns-clause-goes c =
    progress (level-step c.in-Some.ensures.cases.0 c.in-Some-split_first.ensures.cases.0 c.rank-place.ensures c.rank-other_place.ensures c.if-place-other_place.false c.if-other_place-place.false)
