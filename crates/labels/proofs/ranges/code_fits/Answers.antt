-- `labels::ranges::code_fits` meets its contract: the tests are those of the definition.
-- Assumes nothing.
use borrow.Author.Rules.{rules}
use Rattle.labels.specs.Labels.{code_fits_lem}
use Rattle.labels.proofs.ranges.code_fits.Goals as goal

pub returns : goal.returns
unfolding code_fits_lem
returns c = search rules
