-- `path::coordinate::is_outside` meets its contract: the two comparisons say what the definition says of m * 2 ^ e.
-- Assumes nothing.
use lib.Ieee.{of_bits, neg}
use Rattle.path.proofs.Ranges.{outside-is}
use Rattle.path.proofs.coordinate.is_outside.Goals as goal

pub returns : goal.returns
unfolding of_bits neg
returns c = outside-is c.args.x
