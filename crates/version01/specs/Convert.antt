-- Lines for a version 01 receiver (document 02, Job 12; document 004, Annex III, sections 4 and 4.1): a line of ours down to that form, and an old
-- line, one of that form, up to ours.
-- Assumes nothing.
use Rattle.std.specs.Prelude.{ℕ, not, List, [], ◌∷◌, ◌++◌, length, drop, ltb, eqb}
use Prim.Native.Char.{code}
use Rattle.limits.specs.Refusal.{◌when◌, ◌then◌, after}
use Rattle.fields.specs.Text.{decimal}
use Rattle.columns.specs.Text.{line_length, spaced, with_check}
use Rattle.columns.specs.Columns.{byte_in, field}
use Rattle.reading.specs.Read.{read_number}
use Rattle.reading.specs.Old.{old_number}

-- The length of an old line without its comment.
abbrev pub old_length : ℕ
old_length = 103

-- A first column, columns 2 to 101 of a line, and the columns behind them, with CK.
unfoldable pub form_text : (first : ℕ) (line behind : List ℕ) → List ℕ
form_text first line behind = with_check (first ∷ (field 2 101 line ++ behind))

-- A line of ours in the old form: column 1 is blank, and CK stands behind column 101.
abbrev pub down_text : List ℕ → List ℕ
down_text line = form_text (code " ") line []

-- FR 0, HC and FRC, a space behind each: columns 102 to 111.
unfoldable pub supplied : (hc frc1 frc2 frc3 : ℕ) → List ℕ
supplied hc frc1 frc2 frc3 = spaced (decimal 2 0 ∷ decimal 2 hc ∷ (frc1 ∷ frc2 ∷ frc3 ∷ []) ∷ [])

-- An old line in our form.
abbrev pub up_text : (hc frc1 frc2 frc3 : ℕ) → List ℕ → List ℕ
up_text hc frc1 frc2 frc3 old = form_text (code "G") old (supplied hc frc1 frc2 frc3)

-- Down. The reader's refusals, then 25: the letter is not G. 9: the lent line is too short.
unfoldable pub down_answer : (line : List ℕ) (room : ℕ) → ℕ
down_answer line room =
    read_number line
    then 25 when not (eqb (byte_in 1 line) (code "G"))
    then 9 when ltb room old_length

-- The lent line afterwards: 103 bytes are written where the answer is 0, and else none.
unfoldable pub down_after : (line lent : List ℕ) → List ℕ
down_after line lent = after (down_answer line (length lent)) (down_text line ++ drop old_length lent) lent

-- Up. What an old line with this HC and FRC is refused for, then 9: the lent line is too short.
unfoldable pub up_answer : (hc frc1 frc2 frc3 : ℕ) (old : List ℕ) (room : ℕ) → ℕ
up_answer hc frc1 frc2 frc3 old room = old_number hc frc1 frc2 frc3 old then 9 when ltb room line_length

-- The lent line afterwards: 113 bytes are written where the answer is 0, and else none.
unfoldable pub up_after : (hc frc1 frc2 frc3 : ℕ) (old lent : List ℕ) → List ℕ
up_after hc frc1 frc2 frc3 old lent =
    after (up_answer hc frc1 frc2 frc3 old (length lent)) (up_text hc frc1 frc2 frc3 old ++ drop line_length lent) lent
