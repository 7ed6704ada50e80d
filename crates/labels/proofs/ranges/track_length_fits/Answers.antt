-- `labels::ranges::track_length_fits` meets its contract: the blocks are judged by their seconds.
-- Assumes nothing.
use mir.Facts.{to_z-of_z}
use Rattle.labels.proofs.Lengths.{by-seconds}
use Rattle.labels.proofs.ranges.track_length_fits.Goals as goal

pub returns : goal.returns
returns c =
    simp (c.unsigned_abs.ensures.value, to_z-of_z c.ranges.trkl, c.outside.ensures) (by-seconds c.args.trkl)
