-- `limits::dsg` meets its contract: the test is the definition's.
-- Assumes nothing.
use borrow.Author.Rules.{rules}
use Rattle.limits.specs.Limits.{dsg_number}
use Rattle.limits.specs.Refusal.{◌when◌}
use Rattle.limits.proofs.dsg.Goals as goal

pub returns-then-outside : goal.returns-then-outside
unfolding dsg_number ◌when◌
returns-then-outside c = search rules

pub returns : goal.returns
unfolding dsg_number ◌when◌
returns c = search rules
