-- A day at once (document 02, Job 10): hire blocks back to back, what they are refused for, and the line file that they make, for every input.
-- Assumes nothing.
use Rattle.std.specs.Prelude.{◌≡◌, ℕ, zero, suc, ◌+◌, ◌<◌, cond, not, List, [], ◌∷◌, ◌++◌, map, ltb, eqb, length, take, drop, get_or}
use Rattle.limits.specs.Refusal.{◌when◌, ◌then◌, after}
use Rattle.exact.specs.Accurate.{AccurateTrack}
use Rattle.exact.specs.Corrected.{steps}
use Rattle.columns.specs.Text.{line_end}
use Rattle.columns.specs.Columns.{read_numbers}
use Rattle.hire.specs.Hire.{blocks_in, block_length, block_labels, block_given}
use Rattle.line.specs.Block.{block_line, block_number}
use Rattle.linefile.specs.Files.{keys_of, before, joined, line_at}

-- How long the block at the beginning of some bytes is by its own sizes. Where there are fewer bytes, it is cut.
abbrev pub own_length_lem : List ℕ → ℕ
own_length_lem bytes = block_length (blocks_in bytes)

-- The blocks, one behind the other, no more than `most`; and all of them, as each has a byte at least. Laws `blocks-joined` and `joined-blocks`
-- of proofs/Cutting.antt say that no byte is lost, and that blocks put back to back are cut into themselves.
unfoldable pub blocks_from : (most : ℕ) → List ℕ → List (List ℕ)
blocks_from zero bytes = []
blocks_from (suc most) [] = []
blocks_from (suc most) (b ∷ bytes) =
    take (own_length_lem (b ∷ bytes)) (b ∷ bytes) ∷ blocks_from most (drop (own_length_lem (b ∷ bytes)) (b ∷ bytes))

unfoldable pub blocks_of : List ℕ → List (List ℕ)
blocks_of bytes = blocks_from (length bytes) bytes

abbrev pub block_keys : List ℕ → List ℕ
block_keys b = keys_of (block_labels b)

-- What a block is refused for behind one with the keys `last`: by Block's order without 9; then 16.
abbrev pub behind_number : (last block : List ℕ) → ℕ
behind_number last b = block_number b then 16 when not (before last (block_keys b))

-- What the first block that is refused is refused for, and its index; 0 and how many blocks there are where none is. `index` is that of the first
-- one given.
pub record Verdict : Type 0 where
  pub refusal : ℕ
  pub block : ℕ

unfoldable pub judged : (last : List ℕ) (index : ℕ) → List (List ℕ) → Verdict
judged last index [] = record { refusal = 0; block = index }
judged last index (b ∷ rest) =
    cond (eqb (behind_number last b) 0)
    (judged (block_keys b) (index + 1) rest)
    (record { refusal = behind_number last b; block = index })

-- The verdict on all blocks, counted from 0. No keys stand before the first.
abbrev pub day_verdict : List ℕ → Verdict
day_verdict bytes = judged [] 0 (blocks_of bytes)

-- The block that a refusal names: the first that is refused, and for 9 the number of blocks.
abbrev pub day_block : List ℕ → ℕ
day_block bytes = (day_verdict bytes).block

-- The line of a block with its end, the file of some blocks, and that of all.
abbrev pub ended_line : List ℕ → List ℕ
ended_line b = block_line b ++ line_end

unfoldable pub file_of : List (List ℕ) → List ℕ
file_of blocks = joined (map ended_line blocks)

abbrev pub day_file : List ℕ → List ℕ
day_file bytes = file_of (blocks_of bytes)

-- The blocks' refusals, then 9 where the lent file is shorter than the result. `room` is its length.
unfoldable pub day_number : (bytes : List ℕ) (room : ℕ) → ℕ
day_number bytes room = (day_verdict bytes).refusal then 9 when ltb room (length (day_file bytes))

-- How many bytes are written, or the number of a refusal and the block that it names.
pub data Written : Type 0 where
  Bytes : (bytes : ℕ) → Written
  Refused : (number block : ℕ) → Written

-- The answer: how many bytes are written, or the refusal and the block that it names.
unfoldable pub day_rule : (bytes : List ℕ) (room : ℕ) → Written
day_rule bytes room =
    cond (eqb (day_number bytes room) 0)
    (Bytes (length (day_file bytes)))
    (Refused (day_number bytes room) (day_block bytes))

-- The lent file afterwards: the result in its first bytes where nothing is refused, and else as it was lent.
unfoldable pub day_after : (bytes lent : List ℕ) → List ℕ
day_after bytes lent =
    after (day_number bytes (length lent)) (day_file bytes ++ drop (length (day_file bytes)) lent) lent

-- What is promised of one block, of each: line i of a file is Block's line of block i with its end, and (demand 3 of document 01) the numbers
-- read back from its columns are accurate for what block i gives.
abbrev pub block_at : (bytes : List ℕ) → ℕ → List ℕ
block_at bytes i = get_or (blocks_of bytes) i []

abbrev pub LinesOfDay : (bytes file : List ℕ) → Type 0
LinesOfDay bytes file = (i : ℕ) → i < length (blocks_of bytes) → line_at file i ≡ ended_line (block_at bytes i)

abbrev pub AccurateDay : (bytes file : List ℕ) → Type 0
AccurateDay bytes file =
    (i : ℕ) → i < length (blocks_of bytes)
    → AccurateTrack steps (blocks_in (block_at bytes i)) (block_given (block_at bytes i)) (read_numbers (line_at file i))

-- Numbers that are bytes, as those are that a function is given. The theorems on files ask for it, since CL is written as a byte.
abbrev pub AllBytes : List ℕ → Type 0
AllBytes l = (i : ℕ) → get_or l i 0 < 256
