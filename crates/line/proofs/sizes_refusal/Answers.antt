-- `line::sizes_refusal` meets its contract: the tests are the rule's, in its order.
-- Assumes nothing.
use borrow.Author.Rules.{rules}
use Rattle.limits.specs.Refusal.{◌when◌, ◌then◌}
use Rattle.line.specs.Block.{sizes_number}
use Rattle.line.proofs.sizes_refusal.Goals as goal

pub returns-then-block-lt4 : goal.returns-then-block-lt4
unfolding sizes_number ◌when◌ ◌then◌
returns-then-block-lt4 c = search rules

pub returns-then-not-sizes_fit : goal.returns-then-not-sizes_fit
unfolding sizes_number ◌when◌ ◌then◌
returns-then-not-sizes_fit c = search rules

pub returns-then-block-length : goal.returns-then-block-length
unfolding sizes_number ◌when◌ ◌then◌
returns-then-block-length c = search rules

pub returns : goal.returns
unfolding sizes_number ◌when◌ ◌then◌
returns c = search rules
