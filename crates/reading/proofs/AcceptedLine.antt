-- A line that is read is one that Line would write (document 02, Job 1): its columns are the text of what was read, whose content is not refused.
-- What is left of the line is its comment (crate reader).
-- Assumes nothing.
use mathlib.Core.Path.{◌≡◌, refl, sym, ap, ap₂, ◌∙◌}
use mathlib.Core.Bool.{false, ◌||◌}
use mathlib.Core.List.{List, [], ◌∷◌, ◌++◌}
use Prim.Native.Nat.{ℕ, ◌≤◌}
use native.Mathlib.Omega.{arith}
use lib.Dec.{ltb}
use lib.ListN.{length, take, drop, get_or}
use lib.Seq.{take-add, drop-drop}
use borrow.Author.Tests.{ltb-false}
use Rattle.limits.specs.Refusal.{◌when◌, ◌then◌}
use Rattle.limits.proofs.Laws.{or-false}
use Rattle.fields.specs.Text.{bytes_of}
use Rattle.fields.specs.Read.{read_decimal, read_signed}
use Rattle.fields.proofs.Lists.{next-byte, three-bytes}
use Rattle.labels.specs.Content.{content_number}
use Rattle.columns.specs.Text.{line_length, time_of_day, track_columns, clock_columns, delay_columns, columns, spaced, with_check, line_text}
use Rattle.columns.specs.Columns.{byte_in, field, labels_with_lem, read_labels, read_numbers}
use Rattle.characters.specs.Kinds.{kinds, allowed}
use Rattle.reading.specs.Read.{is_minus_zero_lem, minus_zero_lem, time_beyond_lem, read_number}
use Rattle.reading.specs.Fields.{digits, hex_digits}
use Rattle.characters.proofs.Spelled.{Spelled}
use Rattle.characters.proofs.Check.{closed-by-check}
use Rattle.reading.proofs.Columns.{Columns, columns_of_lem, own-columns, shared}
use Rattle.reading.proofs.Refusals.{Valued, accepted, content-is}
use Rattle.reading.proofs.Spelling.{spell-decimal, spell-signed, spell-class, time-is, texts, texts-spaced}

-- The kinds of the columns, field by field.
abbrev pub field_kinds : List (List ℕ)
field_kinds =
    (76 ∷ digits 2)
    ∷ hex_digits 2
    ∷ digits 5
    ∷ digits 6
    ∷ digits 4
    ∷ digits 3
    ∷ digits 4
    ∷ (43 ∷ digits 10)
    ∷ (43 ∷ digits 5)
    ∷ (43 ∷ digits 10)
    ∷ (43 ∷ digits 5)
    ∷ digits 4
    ∷ digits 3
    ∷ digits 4
    ∷ (43 ∷ digits 3)
    ∷ digits 4
    ∷ (43 ∷ digits 3)
    ∷ digits 2
    ∷ digits 2
    ∷ (90 ∷ 90 ∷ 90 ∷ [])
    ∷ []

pub kinds-spaced : kinds ≡ spaced field_kinds
unfolding kinds bytes_of spaced
kinds-spaced = refl

-- no minus before a zero, field by field
no_minus : (first last : ℕ) (fields : List (ℕ × ℕ)) (line : List ℕ) → minus_zero_lem ((first, last) ∷ fields) line ≡ false
    → (is_minus_zero_lem (byte_in first line) (read_signed (field first last line)) ≡ false) × (minus_zero_lem fields line ≡ false)
unfolding minus_zero_lem
no_minus first last fields line e = or-false (is_minus_zero_lem (byte_in first line) (read_signed (field first last line))) (minus_zero_lem fields line) e

-- the three parts of the time stand behind each other
pub time-joined : (line : List ℕ) → field 14 15 line ++ (field 16 17 line ++ field 18 19 line) ≡ take 6 (drop 13 line)
unfolding field
time-joined line =
    sym (take-add 2 4 (drop 13 line)
    ∙ ap (λ (t : List ℕ). take 2 (drop 13 line) ++ take 4 t) (drop-drop 2 13 line)
    ∙ ap (λ (t : List ℕ). take 2 (drop 13 line) ++ t) (take-add 2 2 (drop 15 line) ∙ ap (λ (t : List ℕ). take 2 (drop 15 line) ++ take 2 t) (drop-drop 2 15 line)))

time-within : (line : List ℕ) → time_beyond_lem line ≡ false → (read_decimal (field 16 17 line) ≤ 59) × (read_decimal (field 18 19 line) ≤ 59)
unfolding time_beyond_lem
time-within line e =
    let second = or-false (ltb 23 (read_decimal (field 14 15 line)) || ltb 59 (read_decimal (field 16 17 line))) (ltb 59 (read_decimal (field 18 19 line))) e in
    let minute = or-false (ltb 23 (read_decimal (field 14 15 line))) (ltb 59 (read_decimal (field 16 17 line))) second.0 in
    (ltb-false 59 _ minute.1, ltb-false 59 _ second.1)

module _ (line : List ℕ) (s : Spelled line) (v : Valued line) where
  in-columns : Columns line
  in-columns = columns_of_lem line (shared line s.columns)

  long : line_length ≤ length line
  long = s.least

  spell-time : time_of_day (read_labels line).start ≡ take 6 (drop 13 line)
  unfolding read_labels labels_with_lem
  spell-time =
      let w = time-within line v.time in
      time-is (read_decimal (field 14 15 line)) (read_decimal (field 16 17 line)) (read_decimal (field 18 19 line)) w.0 w.1
      ∙ ap₂ ◌++◌ (spell-decimal in-columns.hour) (ap₂ ◌++◌ (spell-decimal in-columns.minute) (spell-decimal in-columns.second))
      ∙ time-joined line

  -- each column is written as it stands
  columns-spelled : columns (read_labels line) (read_numbers line) ≡ texts field_kinds 0 line
  unfolding columns track_columns clock_columns delay_columns read_labels labels_with_lem read_numbers byte_in field
  columns-spelled =
      let c = in-columns in
      let own = own-columns line s.columns in
      let refsv = no_minus 35 45 _ line v.minus in
      let srsv = no_minus 47 52 _ line refsv.1 in
      let refsys = no_minus 54 64 _ line srsv.1 in
      let srsys = no_minus 66 71 _ line refsys.1 in
      let smdt = no_minus 87 90 _ line srsys.1 in
      let smdi = no_minus 97 100 _ line smdt.1 in
      λ i. (ap (λ (t : List ℕ). get_or line 0 0 ∷ t) (spell-decimal c.satellite) ∙ sym (next-byte 2 0 line (omega arith))) i
      ∷ spell-class line c.class i
      ∷ spell-decimal c.mjd i
      ∷ spell-time i
      ∷ spell-decimal c.trkl i
      ∷ spell-decimal c.elv i
      ∷ spell-decimal c.azth i
      ∷ spell-signed c.refsv refsv.0 i
      ∷ spell-signed c.srsv srsv.0 i
      ∷ spell-signed c.refsys refsys.0 i
      ∷ spell-signed c.srsys srsys.0 i
      ∷ spell-decimal c.dsg i
      ∷ spell-decimal c.ioe i
      ∷ spell-decimal c.mdtr i
      ∷ spell-signed c.smdt smdt.0 i
      ∷ spell-decimal c.mdio i
      ∷ spell-signed c.smdi smdi.0 i
      ∷ spell-decimal own.fr i
      ∷ spell-decimal own.hc i
      ∷ sym (three-bytes 107 line (omega arith)) i
      ∷ []

  columns-are : spaced (columns (read_labels line) (read_numbers line)) ≡ take 111 line
  unfolding kinds bytes_of
  columns-are =
      ap spaced columns-spelled
      ∙ texts-spaced field_kinds 0 line (ap (λ (k : List ℕ). allowed k line) (sym kinds-spaced) ∙ s.columns)
      ∙ ap (λ (k : List ℕ). take (length k) line) (sym kinds-spaced)

  text-is : line_text (read_labels line) (read_numbers line) ≡ take line_length line
  unfolding line_text
  text-is = ap with_check columns-are ∙ sym (closed-by-check 111 line s.check long)

  content-zero : content_number (read_labels line) (read_numbers line) ≡ 0
  unfolding ◌when◌ ◌then◌
  content-zero = content-is line (shared line s.columns) (read_labels line) ∙ simp (v.labels, v.trkl, v.start)

-- ---- the theorems

-- The 113 columns of an accepted line are the text of what was read from them.
pub accepted-columns : (line : List ℕ) → read_number line ≡ 0 → take line_length line ≡ line_text (read_labels line) (read_numbers line)
accepted-columns line e = let a = accepted line e in sym (text-is line a.0 a.1)

-- Line has nothing against them: so the refusals 3, 4, 5 and 6 can't arise in an accepted line.
pub accepted-content : (line : List ℕ) → read_number line ≡ 0 → content_number (read_labels line) (read_numbers line) ≡ 0
accepted-content line e = let a = accepted line e in content-zero line a.0 a.1
