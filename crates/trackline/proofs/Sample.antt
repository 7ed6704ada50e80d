-- The sample block of document 01 ("The hire block"), from its bytes to what is printed: the definitions give the sample line.
-- Assumes nothing.
use mathlib.Core.Path.{◌≡◌, refl, sym, ap, ap₂, ◌∙◌}
use mathlib.Core.Bool.{false}
use mathlib.Core.List.{List, [], ◌∷◌, ◌++◌}
use Prim.Native.Nat.{ℕ, ◌+◌}
use lib.IntN.{pos}
use lib.ListN.{length, replicate}
use Rattle.whole.specs.Sum.{sum}
use Rattle.whole.specs.Nearest.{nearest}
use Rattle.whole.specs.Table.{tabulate}
use Rattle.limits.specs.Refusal.{◌when◌, ◌then◌}
use Rattle.limits.specs.Limits.{outside, limits_number, dsg_number}
use Rattle.decode.proofs.Rows.{repeat, signeds-behind, signeds-repeat, signeds-zeros}
use Rattle.decode.specs.Number.{little, unsigned_at, twos_complement_lem, signed_at_lem, signeds_at}
use Rattle.exact.specs.Corrected.{Given, block, to_a, to_b}
use Rattle.exact.specs.Weights.{weights, place}
use Rattle.limits.specs.Blocks.{blocks_fit_lem}
use Rattle.limits.specs.Lists.{any_outside_lem}
use Rattle.series.specs.Smooth.{smoothed}
use Rattle.series.specs.Fit.{total, moment, midpoint, slope}
use Rattle.series.specs.Scatter.{residual, squares, threshold, climb, dsg}
use Rattle.fit.specs.declared.TrackRecord.{TrackRecord}
use Rattle.correcting.specs.Correct.{smoothed_at, value_a, value_b, value_c, value_d, places, given, wrong_sizes, out_of_limits}
use Rattle.fit.specs.Track.{numbers_with, record_of, results, record_number, track_number}
use Rattle.columns.specs.Text.{line_length, line_text, line_end}
use Rattle.line.specs.Line.{line_answer}
use Rattle.hire.specs.Hire.{measurements_in, blocks_in, sizes_fit_lem, block_labels, given_in, block_given}
use Rattle.line.specs.Block.{block_numbers, sizes_number, block_answer}
use Rattle.fields.specs.Text.{bytes_of}
use Rattle.line.proofs.Sample.{labels, numbers, sample, sample-accepted}
use Rattle.labels.specs.declared.Labels.{Labels}
use Rattle.limits.specs.declared.Numbers.{Numbers}
use Rattle.line.proofs.Blocks.{line-answers}
use Rattle.trackline.specs.Printed.{printed}
use Rattle.trackline.proofs.Texts.{accepted-answer}

-- every measurement 1000, all else 0
abbrev pub sample_track : Given
sample_track =
    given (replicate 780 (pos 1000)) (pos 0) (pos 0) (pos 0) (pos 0) (replicate 52 (pos 0)) (replicate 52 (pos 0)) (replicate 52 (pos 0))
    (replicate 52 (pos 0)) (replicate 52 (pos 0))

-- its corrected values, in tenths: the measurements alike, and no air
abbrev pub sample_record : TrackRecord
sample_record = record_of 52 (replicate 52 (pos 10000)) (replicate 52 (pos 10000)) (replicate 52 (pos 0)) (replicate 52 (pos 0))

sample-a : places 52 (value_a sample_track) ≡ replicate 52 (pos 10000)
unfolding sum nearest tabulate block to_a weights smoothed smoothed_at value_a places
sample-a = refl

sample-b : places 52 (value_b sample_track) ≡ replicate 52 (pos 10000)
unfolding sum nearest tabulate block to_a to_b weights smoothed smoothed_at value_b places
sample-b = refl

sample-c : places 52 (value_c sample_track) ≡ replicate 52 (pos 0)
unfolding tabulate value_c places
sample-c = refl

sample-d : places 52 (value_d sample_track) ≡ replicate 52 (pos 0)
unfolding tabulate value_d places
sample-d = refl

sample-results : results sample_track ≡ sample_record
unfolding results
sample-results = λ i. record_of 52 (sample-a i) (sample-b i) (sample-c i) (sample-d i)

sample-numbers : sample_record.numbers ≡ numbers
unfolding sum nearest place total moment midpoint slope residual squares threshold climb dsg record_of numbers_with
sample-numbers = refl

-- and Track accepts it
sample-inside : (wrong_sizes sample_track ≡ false) × (out_of_limits sample_track ≡ false)
unfolding blocks_fit_lem outside any_outside_lem wrong_sizes out_of_limits
sample-inside = (refl, refl)

sample-record-accepted : record_number sample_record ≡ 0
unfolding sum nearest place total moment midpoint slope residual squares threshold climb dsg record_of numbers_with outside ◌when◌ ◌then◌ limits_number dsg_number record_number
sample-record-accepted = refl

sample-accepted-track : track_number sample_track ≡ 0
unfolding ◌when◌ ◌then◌ track_number
sample-accepted-track = rw (sample-inside.0, sample-inside.1, sample-results) sample-record-accepted

-- the bytes of the block: sizes, labels and delays, then measurements, then corrections
abbrev front : List ℕ
front =
    12 ∷ 3 ∷ 52 ∷ 0 ∷ 71 ∷ 5 ∷ 255 ∷ 0 ∷ 0 ∷ 76 ∷ 49 ∷ 67 ∷ 34 ∷ 198 ∷ 0 ∷ 0 ∷ 120 ∷ 0 ∷ 0 ∷ 0 ∷ 194 ∷ 1 ∷ 8 ∷ 7 ∷ 7 ∷ 0 ∷ replicate 32 0

abbrev thousand : List ℕ
thousand = 232 ∷ 3 ∷ 0 ∷ 0 ∷ 0 ∷ 0 ∷ 0 ∷ 0 ∷ []

unfoldable pub sample_block : List ℕ
sample_block = front ++ (repeat 780 thousand ++ replicate 2080 0)

sample-labels : block_labels sample_block ≡ labels
unfolding repeat sample_block block_labels unsigned_at little
sample-labels = refl

sample-delays : (signed_at_lem sample_block 26 ≡ pos 0) × (signed_at_lem sample_block 34 ≡ pos 0) × (signed_at_lem sample_block 42 ≡ pos 0)
    × (signed_at_lem sample_block 50 ≡ pos 0)
unfolding repeat sample_block unsigned_at little twos_complement_lem signed_at_lem
sample-delays = (refl, refl, refl, refl)

sample-measurements : signeds_at sample_block 58 8 780 ≡ replicate 780 (pos 1000)
unfolding little twos_complement_lem sample_block
sample-measurements =
    signeds-behind front (repeat 780 thousand ++ replicate 2080 0) 0 8 780 ∙ signeds-repeat 780 thousand (replicate 2080 0) refl

measurements-length : length (repeat 780 thousand) ≡ 6240
unfolding repeat
measurements-length = refl

sample-column : (at : ℕ) → signeds_at sample_block (58 + (6240 + at)) 40 52 ≡ replicate 52 (pos 0)
unfolding sample_block
sample-column at =
    signeds-behind front (repeat 780 thousand ++ replicate 2080 0) (6240 + at) 40 52
    ∙ ap (λ (n : ℕ). signeds_at (repeat 780 thousand ++ replicate 2080 0) (n + at) 40 52) (sym measurements-length)
    ∙ signeds-behind (repeat 780 thousand) (replicate 2080 0) at 40 52
    ∙ signeds-zeros 2080 at 40 52

sample-blocks : blocks_in sample_block ≡ 52
unfolding repeat sample_block unsigned_at little blocks_in
sample-blocks = refl

sample-given : block_given sample_block ≡ sample_track
unfolding given_in block_given
sample-given =
    rw (sample-blocks, sample-measurements, sample-delays.0, sample-delays.1, sample-delays.2, sample-delays.3, sample-column 0, sample-column 8, sample-column 16, sample-column 24, sample-column 32)

sample-numbers-given : block_numbers sample_block ≡ numbers
sample-numbers-given = ap (λ (g : Given). (results g).numbers) sample-given ∙ ap (λ (t : TrackRecord). t.numbers) sample-results ∙ sample-numbers

-- Block accepts it, with room for a line
sample-sizes : sizes_number sample_block ≡ 0
unfolding repeat sample_block unsigned_at little measurements_in blocks_in blocks_fit_lem sizes_fit_lem ◌when◌ ◌then◌ sizes_number
sample-sizes = refl

sample-answer : block_answer sample_block line_length ≡ 0
sample-answer =
    sym (line-answers sample_block line_length sample-sizes (ap track_number sample-given ∙ sample-accepted-track))
    ∙ ap₂ (λ (l : Labels) (n : Numbers). line_answer l n line_length) sample-labels sample-numbers-given
    ∙ sample-accepted

-- and the line is printed whole
pub sample-printed : printed sample_block
    ≡ bytes_of "G05 FF 50722 000200 0780 450 1800 +0000000010 +00000 +0000000010 +00000 0000 007 0000 +000 0000 +000 00 00 L1C 26" ++ line_end
unfolding printed
sample-printed =
    ap (λ (x : List ℕ). x ++ line_end)
    (accepted-answer sample_block sample-answer
    ∙ ap₂ (λ (l : Labels) (n : Numbers). line_text l n) sample-labels sample-numbers-given
    ∙ sample)
