-- Line files (document 02, Job 5): their lines, the order in which these ascend, and what a file is refused for.
-- Assumes nothing.
use Rattle.std.specs.Prelude.{ℕ, zero, suc, ◌/◌, ◌%◌, Bool, true, false, not, ◌&&◌, ◌||◌, List, [], ◌∷◌, ◌++◌, ltb, eqb, length, take, drop, get_or}
use Rattle.limits.specs.Refusal.{◌when◌, ◌then◌}
use Rattle.labels.specs.declared.Labels.{Labels}
use Rattle.columns.specs.Text.{line_length, ended_length, line_end}
use Rattle.columns.specs.Columns.{read_labels}
use Rattle.reading.specs.Read.{read_number}

-- So many lines at the beginning of some bytes, and the lines of a file. A tail too short for a line is none of them.
unfoldable pub lines_in : ℕ → List ℕ → List (List ℕ)
lines_in zero bytes = []
lines_in (suc n) bytes = take ended_length bytes ∷ lines_in n (drop ended_length bytes)

unfoldable pub lines : List ℕ → List (List ℕ)
lines file = lines_in (length file / ended_length) file

-- Line i of a file, counted from 0.
abbrev pub line_at : List ℕ → ℕ → List ℕ
line_at file i = get_or (lines file) i []

-- Lines one behind the other.
unfoldable pub joined : List (List ℕ) → List ℕ
joined [] = []
joined (line ∷ rest) = line ++ joined rest

-- The columns of a line, without its end.
abbrev pub columns_of : List ℕ → List ℕ
columns_of line = take line_length line

-- Two rows of bytes are equal.
unfoldable pub same : List ℕ → List ℕ → Bool
same [] [] = true
same [] (b ∷ bs) = false
same (a ∷ at) [] = false
same (a ∷ at) (b ∷ bs) = eqb a b && same at bs

-- A line has its end behind its columns.
unfoldable pub has_line_end : List ℕ → Bool
has_line_end line = same (drop line_length line) line_end

-- The four keys of a line: MJD, start, constellation letter and satellite number.
unfoldable pub keys_of : Labels → List ℕ
keys_of l = l.mjd ∷ l.start ∷ l.constellation ∷ l.satellite ∷ []

unfoldable pub keys : List ℕ → List ℕ
keys line = keys_of (read_labels (columns_of line))

-- Keys stand before others by the first in which they differ. No keys at all stand before any, so that the first line of a file follows.
unfoldable pub before : List ℕ → List ℕ → Bool
before [] [] = false
before [] (b ∷ bs) = true
before (a ∷ at) [] = false
before (a ∷ at) (b ∷ bs) = ltb a b || eqb a b && before at bs

-- What a line is refused for, whatever stands around it: the reader's refusals of its columns, then 13 for its end.
unfoldable pub ended_number : List ℕ → ℕ
ended_number line = read_number (columns_of line) then 13 when not (has_line_end line)

-- Lines behind one with the keys `last`: the earliest one decides, and each is 16 where it does not follow the one before it.
unfoldable pub lines_number : (last : List ℕ) → List (List ℕ) → ℕ
lines_number last [] = 0
lines_number last (line ∷ rest) =
    ended_number line then 16 when not (before last (keys line)) then lines_number (keys line) rest

-- The number of a file's refusal, 0 for a line file. 12: a tail too short for a line stands behind its lines.
unfoldable pub file_number : List ℕ → ℕ
file_number file =
    lines_number [] (lines file) then 12 when not (eqb (length file % ended_length) 0)
