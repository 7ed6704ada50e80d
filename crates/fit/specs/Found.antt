-- The ten numbers of a track without its corrected values, or the refusal (document 01, Track).
-- Assumes nothing.
use Rattle.limits.specs.Limits.{no_numbers}
use Rattle.limits.specs.Reply.{Reply, reply}
use Rattle.limits.specs.declared.Numbers.{Numbers}
use Rattle.fit.specs.declared.TrackRecord.{TrackRecord}
use Rattle.exact.specs.Corrected.{Given}
use Rattle.fit.specs.Track.{record_number, results, track_number}

-- The reply for a record.
unfoldable pub judged_rule : TrackRecord → Reply Numbers
judged_rule t = reply no_numbers (record_number t) t.numbers

-- The reply for what a track is given.
unfoldable pub found_rule : Given → Reply Numbers
found_rule g = reply no_numbers (track_number g) (results g).numbers
