-- A shared offset drops out of written lines (document 02, Job 7): hire blocks and the numbers that their lines' columns hold.
-- Assumes nothing.
use mathlib.Core.Path.{◌≡◌, sym, ap, ap₂, ◌∙◌, subst₂}
use mathlib.Core.List.{List}
use Prim.Native.Nat.{ℕ}
use lib.IntN.{ℤ, ◌-ℤ◌}
use lib.ListN.{length}
use Rattle.exact.specs.Corrected.{Given}
use Rattle.fit.specs.Track.{results}
use Rattle.columns.specs.Columns.{read_numbers}
use Rattle.hire.specs.Hire.{block_given}
use Rattle.line.specs.Block.{block_answer, block_after}
use Rattle.line.proofs.AcceptedBlocks.{track-accepts, numbers_after}
use Rattle.offset.specs.Shifted.{Moved, ShiftedBlock}
use Rattle.offset.proofs.Tracks.{results-move, drops}

-- One block: REFSV and REFSYS in the columns move by k, nothing else there does.
pub block-moves : (k : ℤ) (before after lent room : List ℕ) → ShiftedBlock k before after
    → block_answer before (length lent) ≡ 0 → block_answer after (length room) ≡ 0
    → Moved k (read_numbers (block_after before lent)) (read_numbers (block_after after room))
block-moves k before after lent room s p q =
    subst₂ (Moved k) (sym (numbers_after before lent p)) (sym (numbers_after after room q ∙ ap (λ (g : Given). (results g).numbers) s.given))
    (results-move k (block_given before) (track-accepts before (length lent) p))

-- Two blocks shifted alike, each written to a lent line of its own: the difference of the REFSYS in their lines' columns stays.
pub blocks-difference : (k : ℤ) (b b' c c' l l' m m' : List ℕ) → ShiftedBlock k b b' → ShiftedBlock k c c'
    → block_answer b (length l) ≡ 0 → block_answer b' (length l') ≡ 0 → block_answer c (length m) ≡ 0 → block_answer c' (length m') ≡ 0
    → (read_numbers (block_after b' l')).refsys -ℤ (read_numbers (block_after c' m')).refsys
    ≡ (read_numbers (block_after b l)).refsys -ℤ (read_numbers (block_after c m)).refsys
blocks-difference k b b' c c' l l' m m' s t p p' q q' =
    ap₂ (λ (x y : ℤ). x -ℤ y) (block-moves k b b' l l' s p p').refsys (block-moves k c c' m m' t q q').refsys
    ∙ drops (read_numbers (block_after b l)).refsys (read_numbers (block_after c m)).refsys k
