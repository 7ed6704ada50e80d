-- `limits::limits` meets its contract: the tests are the definition's, in its order.
-- Assumes nothing.
use borrow.Author.Rules.{rules}
use Rattle.limits.specs.Limits.{limits_number}
use Rattle.limits.specs.Refusal.{◌when◌, ◌then◌}
use Rattle.limits.proofs.limits.Goals as goal

pub returns-then-outside : goal.returns-then-outside
unfolding limits_number ◌when◌ ◌then◌
returns-then-outside c = search rules

pub returns-then-outside-2 : goal.returns-then-outside-2
unfolding limits_number ◌when◌ ◌then◌
returns-then-outside-2 c = search rules

pub returns-then-outside-3 : goal.returns-then-outside-3
unfolding limits_number ◌when◌ ◌then◌
returns-then-outside-3 c = search rules

pub returns : goal.returns
unfolding limits_number ◌when◌ ◌then◌
returns c = search rules
