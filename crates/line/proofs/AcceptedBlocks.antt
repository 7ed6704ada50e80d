-- What holds of a block that is accepted (specs/Block.antt): its track and its line are, its numbers are accurate, and the columns of its line hold
-- them, whatever stands behind.
-- Assumes nothing.
use mathlib.Core.Path.{◌≡◌, refl, ap, ◌∙◌, subst}
use mathlib.Core.Bool.{Bool, true, false, cond}
use mathlib.Core.List.{List, ◌++◌}
use Prim.Native.Nat.{ℕ, ◌≤◌}
use lib.Dec.{eqb}
use lib.ListN.{length, drop}
use lib.Seq.{drop_at}
use borrow.Author.Tests.{le-ltb}
use Rattle.limits.specs.Refusal.{◌then◌}
use Rattle.limits.proofs.Laws.{then-zero, after-accepted}
use Rattle.exact.specs.Corrected.{steps}
use Rattle.exact.specs.Accurate.{AccurateTrack}
use Rattle.fit.specs.declared.TrackRecord.{TrackRecord}
use Rattle.fit.specs.Track.{track_number, track_rule}
use Rattle.fit.proofs.Tracks.{track-number, track-record}
use Rattle.fit.proofs.Accuracy.{tracked-accurate}
use Rattle.decode.proofs.Signeds.{length-signeds}
use Rattle.columns.specs.Text.{line_length}
use Rattle.columns.specs.Columns.{read_numbers}
use Rattle.columns.proofs.Widths.{line-width}
use Rattle.columns.proofs.ReadBack.{numbers-back}
use Rattle.hire.specs.Hire.{blocks_in, block_labels, given_in, block_given}
use Rattle.line.specs.Line.{line_answer}
use Rattle.line.specs.Block.{block_numbers, block_line, sizes_number, block_answer, block_after, block_number}
use Rattle.line.proofs.Accepted.{content-accepted}

-- any room is enough that has room for the line
pub room-enough : (b : List ℕ) (room : ℕ) → line_length ≤ room → block_answer b room ≡ block_number b
unfolding block_answer line_answer
room-enough b room h = rw (le-ltb room line_length h)

module _ (b : List ℕ) (room : ℕ) (e : block_answer b room ≡ 0) where
  pub sizes-accepted : sizes_number b ≡ 0
  unfolding block_answer
  sizes-accepted = (then-zero (sizes_number b) _ e).0

  behind-sizes : track_number (block_given b) then line_answer (block_labels b) (block_numbers b) room ≡ 0
  unfolding block_answer
  behind-sizes = (then-zero (sizes_number b) _ e).1

  pub track-accepts : track_number (block_given b) ≡ 0
  track-accepts = (then-zero (track_number (block_given b)) _ behind-sizes).0

  pub line-accepts : line_answer (block_labels b) (block_numbers b) room ≡ 0
  line-accepts = (then-zero (track_number (block_given b)) _ behind-sizes).1

  -- its numbers are accurate
  pub block-accurate : AccurateTrack steps (blocks_in b) (block_given b) (block_numbers b)
  unfolding block_given given_in
  block-accurate =
      let g = block_given b in
      let z = track-number g (track_rule g) refl ∙ track-accepts in
      subst (λ (n : ℕ). AccurateTrack steps n g (block_numbers b)) (length-signeds b _ 40 (blocks_in b))
      (subst (AccurateTrack steps (length g.geometry) g) (ap (λ (x : TrackRecord). x.numbers) (track-record g (track_rule g) refl z)) (tracked-accurate g (track_rule g) refl z))

  -- and are those read back from the columns of its line
  pub numbers-in : (rest : List ℕ) → read_numbers (block_line b ++ rest) ≡ block_numbers b
  numbers-in rest = numbers-back (block_labels b) (block_numbers b) rest (content-accepted (block_labels b) (block_numbers b) room line-accepts)

-- ---- the lent line afterwards

-- its line where it is accepted, and what stood behind it in any case
module _ (b lent : List ℕ) where
  pub line_after_lem : block_answer b (length lent) ≡ 0 → block_after b lent ≡ block_line b ++ drop line_length lent
  unfolding block_after
  line_after_lem e = after-accepted (block_line b ++ drop line_length lent) lent e

  pub end_after : drop line_length (block_after b lent) ≡ drop line_length lent
  unfolding block_after
  end_after = by-test (eqb (block_answer b (length lent)) 0)
    where
      by-test : (t : Bool) → drop line_length (cond t (block_line b ++ drop line_length lent) lent) ≡ drop line_length lent
      by-test true = drop_at (block_line b) (drop line_length lent) line_length (line-width (block_labels b) (block_numbers b))
      by-test false = refl

  pub numbers_after : block_answer b (length lent) ≡ 0 → read_numbers (block_after b lent) ≡ block_numbers b
  numbers_after e = ap read_numbers (line_after_lem e) ∙ numbers-in b (length lent) e (drop line_length lent)
