-- Reading a line back (document 02, Jobs 1 and 3): what a line is refused for, in the order of the refusals, and what stands in it.
-- Assumes nothing.
use Rattle.std.specs.Prelude.{ℕ, Bool, false, not, ◌&&◌, ◌||◌, List, [], ◌∷◌, ltb, eqb, ℤ, nat_abs}
use Prim.Native.Char.{code}
use Rattle.limits.specs.Limits.{no_numbers}
use Rattle.limits.specs.Refusal.{◌when◌, ◌then◌}
use Rattle.limits.specs.Reply.{Reply, reply}
use Rattle.fields.specs.Read.{read_decimal, read_signed}
use Rattle.schedule.specs.Schedule.{start_number}
use Rattle.labels.specs.declared.Labels.{Labels}
use Rattle.limits.specs.declared.Numbers.{Numbers}
use Rattle.labels.specs.Given.{labels_of}
use Rattle.labels.specs.Labels.{labels_fit_lem, track_length_fits_lem}
use Rattle.columns.specs.Columns.{byte_in, field, read_labels, read_numbers}
use Rattle.characters.specs.Characters.{our_characters_number}

-- The columns of the signed fields: REFSV, SRSV, REFSYS, SRSYS, SMDT and SMDI. Law `signed-pictured` of proofs/SignedFields.antt: they are those
-- that `kinds` has.
abbrev pub signed_fields : List (ℕ × ℕ)
signed_fields = (35, 45) ∷ (47, 52) ∷ (54, 64) ∷ (66, 71) ∷ (87, 90) ∷ (97, 100) ∷ []

-- A minus stands before a zero, and it does so in one of these fields.
unfoldable pub is_minus_zero_lem : (sign : ℕ) → ℤ → Bool
is_minus_zero_lem sign z = eqb sign (code "-") && eqb (nat_abs z) 0

unfoldable pub minus_zero_lem : List (ℕ × ℕ) → List ℕ → Bool
minus_zero_lem [] line = false
minus_zero_lem ((first, last) ∷ fields) line =
    is_minus_zero_lem (byte_in first line) (read_signed (field first last line)) || minus_zero_lem fields line

-- An hour above 23, or a minute or a second above 59.
unfoldable pub time_beyond_lem : List ℕ → Bool
time_beyond_lem line =
    ltb 23 (read_decimal (field 14 15 line)) || ltb 59 (read_decimal (field 16 17 line)) || ltb 59 (read_decimal (field 18 19 line))

-- What the values of a line that has these labels and numbers are refused for. 13: a minus before a zero. 7: a label, the track length or the
-- date is out of range. 8: no start of that day, or no time of a day.
unfoldable pub values_number : Labels → Numbers → List ℕ → ℕ
values_number l n line =
    13 when minus_zero_lem signed_fields line
    then 7 when not (labels_fit_lem l)
    then 7 when not (track_length_fits_lem n.trkl)
    then start_number l.mjd l.start
    then 8 when time_beyond_lem line

-- The number of the refusal, 0 for a line that is read.
unfoldable pub read_number : List ℕ → ℕ
read_number line = our_characters_number line then values_number (read_labels line) (read_numbers line) line

-- Labels that are 0 throughout.
abbrev pub no_labels : Labels
no_labels = labels_of 0 0 0 0 0 0 0 0 0 0 0 0 0

-- That number, and the labels and the ten numbers in the columns.
unfoldable pub read_rule : List ℕ → Reply (Labels × Numbers)
read_rule line = reply (no_labels, no_numbers) (read_number line) (read_labels line, read_numbers line)
