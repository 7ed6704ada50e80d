-- What a line's content is refused for (document 01, "Each operation and its refusals, in order": Line, but for the room in the lent
-- line). "Content" is our word for the labels and the ten numbers together.
-- Assumes nothing.
use Rattle.std.specs.Prelude.{ℕ, not, ◌||◌}
use Rattle.limits.specs.declared.Numbers.{Numbers}
use Rattle.limits.specs.Refusal.{◌when◌, ◌then◌}
use Rattle.limits.specs.Limits.{limits_number, dsg_number}
use Rattle.schedule.specs.Schedule.{start_number}
use Rattle.labels.specs.declared.Labels.{Labels}
use Rattle.labels.specs.Labels.{labels_fit_lem, track_length_fits_lem}

-- 7, 8, 3, 4, 5 and 6, in this order.
unfoldable pub content_number : Labels → Numbers → ℕ
content_number l n =
    7 when (not (labels_fit_lem l) || not (track_length_fits_lem n.trkl))
    then start_number l.mjd l.start
    then limits_number n
    then dsg_number n.dsg
