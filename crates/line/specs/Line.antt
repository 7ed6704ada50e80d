-- Line (document 01, "Each operation and its refusals, in order"): its answer, and the lent line afterwards, for every input.
-- Assumes nothing.
use Rattle.std.specs.Prelude.{ℕ, List, ◌++◌, length, drop, ltb}
use Rattle.limits.specs.Refusal.{◌when◌, ◌then◌, after}
use Rattle.labels.specs.declared.Labels.{Labels}
use Rattle.limits.specs.declared.Numbers.{Numbers}
use Rattle.labels.specs.Content.{content_number}
use Rattle.columns.specs.Text.{line_length, line_text}

-- 7, 8, 3, 4, 5 and 6 by the content, then 9. `room` is the length of the lent line.
unfoldable pub line_answer : Labels → Numbers → (room : ℕ) → ℕ
line_answer l n room = content_number l n then 9 when ltb room line_length

-- The lent line afterwards: the text in its first bytes where the answer is 0, and else as it was lent.
unfoldable pub line_after : Labels → Numbers → (lent : List ℕ) → List ℕ
line_after l n lent = after (line_answer l n (length lent)) (line_text l n ++ drop line_length lent) lent
