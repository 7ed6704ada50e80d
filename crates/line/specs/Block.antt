-- Block (document 01, "Each operation and its refusals, in order"; document 02, Job 3): its answer, and the lent line afterwards, for every input.
-- Assumes nothing.
use Rattle.std.specs.Prelude.{ℕ, not, List, ◌++◌, length, drop, ltb, eqb}
use Rattle.limits.specs.Refusal.{◌when◌, ◌then◌, after}
use Rattle.fit.specs.Track.{results, track_number}
use Rattle.limits.specs.declared.Numbers.{Numbers}
use Rattle.columns.specs.Text.{line_length, line_text}
use Rattle.line.specs.Line.{line_answer}
use Rattle.hire.specs.Hire.{blocks_in, sizes_fit_lem, block_length, block_labels, block_given}

-- The ten numbers of the block's track, and the line of its labels with them.
abbrev pub block_numbers : List ℕ → Numbers
block_numbers b = (results (block_given b)).numbers

abbrev pub block_line : List ℕ → List ℕ
block_line b = line_text (block_labels b) (block_numbers b)

-- 11: there are under 4 bytes. 1: the two sizes are not 15n and n, n from 4 to 52. 11: the block is not as long as they make it.
unfoldable pub sizes_number : List ℕ → ℕ
sizes_number b =
    11 when ltb (length b) 4
    then 1 when not (sizes_fit_lem b)
    then 11 when not (eqb (length b) (block_length (blocks_in b)))

-- These, then Track's refusals, then Line's. `room` is the length of the lent line.
unfoldable pub block_answer : List ℕ → (room : ℕ) → ℕ
block_answer b room =
    sizes_number b
    then track_number (block_given b)
    then line_answer (block_labels b) (block_numbers b) room

-- What a block is refused for where there is room for its line: Block's order without 9.
abbrev pub block_number : List ℕ → ℕ
block_number b = block_answer b line_length

-- The lent line afterwards: the block's line in its first bytes where the answer is 0, and else as it was lent.
unfoldable pub block_after : List ℕ → (lent : List ℕ) → List ℕ
block_after b lent = after (block_answer b (length lent)) (block_line b ++ drop line_length lent) lent
