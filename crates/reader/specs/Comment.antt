-- The comment of a line (document 02, Job 1): where it begins.
-- Assumes nothing.
use Rattle.std.specs.Prelude.{ℕ, cond, List, eqb, length}
use Rattle.columns.specs.Text.{line_length}
use Rattle.reading.specs.Read.{read_number}

-- The offset at which the comment begins: behind the columns, or at the line's end where the line is refused.
unfoldable pub comment_offset : List ℕ → ℕ
comment_offset line = cond (eqb (read_number line) 0) line_length (length line)
