-- `schedule::is_start` meets its contract: the modular tests in a row say whether there is a track.
-- Assumes nothing.
use Rattle.schedule.proofs.Minutes.{row}
use Rattle.schedule.proofs.is_start.Goals as goal

pub returns : goal.returns
returns c = row c.args.n c.args.second
