-- `path::is_beyond` meets its contract: the three tests together.
-- Assumes nothing.
use Rattle.path.specs.Path.{point_beyond}
use Rattle.path.proofs.is_beyond.Goals as goal

pub returns : goal.returns
unfolding point_beyond
returns c = cc
