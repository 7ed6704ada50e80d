-- `hire::length` meets its contract.
-- Assumes nothing.
use mathlib.Core.Path.{ap}
use Rattle.hire.specs.Hire.{blocks_in, block_length}
use Rattle.hire.proofs.length.Goals as goal

pub returns : goal.returns
unfolding blocks_in
returns c = ap block_length c.unsigned16.ensures
