-- 10 is retired, and no answer of Block changed (document 02, Job 14): its rule as it was while Track tried 10, and that it gives the same as the rule
-- of today, for every block and every lent line.
-- Assumes nothing.
use mathlib.Core.Path.{◌≡◌, ap}
use mathlib.Core.List.{List, ◌++◌}
use Prim.Native.Nat.{ℕ}
use lib.ListN.{length, drop}
use Rattle.limits.specs.Refusal.{◌then◌, after}
use Rattle.columns.specs.Text.{line_length}
use Rattle.fit.proofs.Retired.{track_number_with_10, number-stays}
use Rattle.hire.specs.Hire.{block_labels, block_given}
use Rattle.line.specs.Line.{line_answer}
use Rattle.line.specs.Block.{block_numbers, block_line, sizes_number, block_answer, block_after}

unfoldable pub block_answer_with_10 : List ℕ → (room : ℕ) → ℕ
block_answer_with_10 b room =
    sizes_number b then track_number_with_10 (block_given b) then line_answer (block_labels b) (block_numbers b) room

unfoldable pub block_after_with_10 : List ℕ → (lent : List ℕ) → List ℕ
block_after_with_10 b lent = after (block_answer_with_10 b (length lent)) (block_line b ++ drop line_length lent) lent

pub block-stays : (b : List ℕ) (room : ℕ) → block_answer_with_10 b room ≡ block_answer b room
unfolding block_answer_with_10 block_answer
block-stays b room = ap (λ (k : ℕ). sizes_number b then k then line_answer (block_labels b) (block_numbers b) room) (number-stays (block_given b))

pub line_stays : (b lent : List ℕ) → block_after_with_10 b lent ≡ block_after b lent
unfolding block_after_with_10 block_after
line_stays b lent = ap (λ (k : ℕ). after k (block_line b ++ drop line_length lent) lent) (block-stays b (length lent))
