-- `limits::blocks_fit` meets its contract, by the definition.
-- Assumes nothing.
use Rattle.limits.specs.Blocks.{blocks_fit_lem}
use borrow.Author.Rules.{rules}
use Rattle.limits.proofs.blocks_fit.Goals as goal

pub returns : goal.returns
unfolding blocks_fit_lem
returns c = search rules
