-- `limits::outside` meets its contract, by the definition.
-- Assumes nothing.
use Rattle.limits.specs.Limits.{outside}
use borrow.Author.Rules.{rules}
use Rattle.limits.proofs.outside.Goals as goal

pub returns : goal.returns
unfolding outside
returns c = search rules
