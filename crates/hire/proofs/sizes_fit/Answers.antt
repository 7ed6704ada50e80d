-- `hire::sizes_fit` meets its contract: the two sizes are those of the definition.
-- Assumes nothing.
use Rattle.hire.specs.Hire.{measurements_in, blocks_in, sizes_fit_lem}
use Rattle.hire.proofs.sizes_fit.Goals as goal

pub returns : goal.returns
unfolding measurements_in blocks_in sizes_fit_lem
returns c = simp (c.blocks_fit.ensures, c.unsigned16-measurements.ensures, c.unsigned16-blocks.ensures)
