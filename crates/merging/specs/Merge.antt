-- One file from two (document 02, Job 5): what is refused, what the answer is, and what stands in the lent file afterwards, for every input.
-- Assumes nothing.
use Rattle.std.specs.Prelude.{ℕ, Bool, false, cond, not, ◌||◌, List, [], ◌∷◌, ◌++◌, ltb, length, drop}
use Rattle.limits.specs.Refusal.{◌when◌, ◌then◌, after}
use Rattle.limits.specs.Reply.{Reply, reply}
use Rattle.linefile.specs.Files.{same, keys, before, lines, joined, file_number}
use Rattle.linefile.specs.Partners.{partners}

-- Some two of such lines differ.
unfoldable pub any_differ : List (List ℕ × List ℕ) → Bool
any_differ [] = false
any_differ ((line, other) ∷ pairs) = not (same line other) || any_differ pairs

-- A line put among ascending ones, at the place that its keys give it. One that has these keys already is replaced: where 15 is not answered, the
-- two are the same line.
unfoldable pub inserted : (line : List ℕ) → List (List ℕ) → List (List ℕ)
inserted line [] = line ∷ []
inserted line (other ∷ others) =
    cond (before (keys line) (keys other)) (line ∷ other ∷ others)
    (cond (before (keys other) (keys line)) (other ∷ inserted line others) (line ∷ others))

-- The lines of both files: those of the first put among those of the second.
unfoldable pub merged : (first second : List (List ℕ)) → List (List ℕ)
merged [] second = second
merged (line ∷ first) second = inserted line (merged first second)

-- The bytes of the result.
unfoldable pub merged_file : (first second : List ℕ) → List ℕ
merged_file first second = joined (merged (lines first) (lines second))

-- The first file's refusals, then the second's. 15: two lines share all four keys and differ. 17: the lent file is shorter than the result.
-- `room` is the length of the lent file.
unfoldable pub merge_number : (first second : List ℕ) (room : ℕ) → ℕ
merge_number first second room =
    file_number first
    then file_number second
    then 15 when any_differ (partners (lines first) (lines second))
    then 17 when ltb room (length (merged_file first second))

-- What is known of two files' lines before anything is written: 15, and how many bytes the result has.
unfoldable pub measure_rule : (first second : List (List ℕ)) → Reply ℕ
measure_rule first second =
    reply 0 (15 when any_differ (partners first second)) (length (joined (merged first second)))

-- That number, and how many bytes are written.
unfoldable pub merge_rule : (first second : List ℕ) (room : ℕ) → Reply ℕ
merge_rule first second room = reply 0 (merge_number first second room) (length (merged_file first second))

-- The lent file afterwards: the result in its first bytes where nothing is refused, and else as it was lent.
unfoldable pub merge_after : (first second lent : List ℕ) → List ℕ
merge_after first second lent =
    after (merge_number first second (length lent))
    (merged_file first second ++ drop (length (merged_file first second)) lent)
    lent
