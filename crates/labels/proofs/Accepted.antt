-- What it tells that a line's content is not refused (specs/Content.antt): no condition of a refusal holds.
-- Assumes nothing.
use mathlib.Core.Path.{◌≡◌}
use mathlib.Core.Bool.{true, not}
use borrow.Author.Tests.{not-false}
use Rattle.limits.specs.declared.Numbers.{Numbers}
use Rattle.limits.specs.Limits.{limits_number, dsg_number}
use Rattle.limits.proofs.Laws.{then-zero, when-zero, or-false}
use Rattle.schedule.specs.Schedule.{start_number}
use Rattle.labels.specs.declared.Labels.{Labels}
use Rattle.labels.specs.Labels.{labels_fit_lem, track_length_fits_lem}
use Rattle.labels.specs.Content.{content_number}

pub record Accepted (l : Labels) (n : Numbers) : Type 0 where
  pub labels : labels_fit_lem l ≡ true
  pub trkl : track_length_fits_lem n.trkl ≡ true
  pub start : start_number l.mjd l.start ≡ 0
  pub limits : limits_number n ≡ 0
  pub dsg : dsg_number n.dsg ≡ 0

pub accepted : (l : Labels) (n : Numbers) → content_number l n ≡ 0 → Accepted l n
unfolding content_number
accepted l n e =
    let label = then-zero _ _ e in
    let start = then-zero _ _ label.1 in
    let limits = then-zero _ _ start.1 in
    let either = or-false (not (labels_fit_lem l)) (not (track_length_fits_lem n.trkl)) (when-zero 6 _ label.0) in
    record {
      labels = not-false (labels_fit_lem l) either.0;
      trkl = not-false (track_length_fits_lem n.trkl) either.1;
      start = start.0;
      limits = limits.0;
      dsg = limits.1;
    }
