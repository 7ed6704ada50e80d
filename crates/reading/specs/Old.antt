-- Reading an old line, one of version 01 (document 02, Job 12): column 1 is blank, columns 2 to 101 are as ours, CK stands behind them, and a
-- comment in columns 104 to 128. The labels that it has no column for are supplied.
-- Assumes nothing.
use Rattle.std.specs.Prelude.{ℕ, List}
use Prim.Native.Char.{code}
use Rattle.limits.specs.Refusal.{◌then◌}
use Rattle.labels.specs.declared.Labels.{Labels}
use Rattle.columns.specs.Columns.{labels_with_lem, read_numbers}
use Rattle.characters.specs.Characters.{old_characters_number}
use Rattle.reading.specs.Read.{values_number}

-- Its labels: those in its columns, the letter G, FR 0, and the supplied HC and FRC.
abbrev pub old_labels : (hc frc1 frc2 frc3 : ℕ) → List ℕ → Labels
old_labels hc frc1 frc2 frc3 old = labels_with_lem (code "G") 0 hc frc1 frc2 frc3 old

-- The number of the refusal, 0 for a line that is read: 12, 14, 13, 7 and 8 as of a line of ours; 7 also for a supplied HC or FRC beyond its range.
unfoldable pub old_number : (hc frc1 frc2 frc3 : ℕ) → List ℕ → ℕ
old_number hc frc1 frc2 frc3 old =
    old_characters_number old then values_number (old_labels hc frc1 frc2 frc3 old) (read_numbers old) old
