-- Laws of the count of blocks (specs/Blocks.antt).
-- Assumes nothing.
use mathlib.Core.Path.{◌≡◌}
use mathlib.Core.Bool.{false, not}
use Prim.Native.Nat.{ℕ, ◌≤◌}
use lib.Dec.{leb}
use borrow.Author.Tests.{leb-true, le-leb, not-false}
use Rattle.limits.specs.Blocks.{blocks_fit_lem}
use Rattle.limits.proofs.Laws.{both}

-- a count that is not refused is from 4 to 52, and the other way round
pub blocks-within : (n : ℕ) → not (blocks_fit_lem n) ≡ false → (4 ≤ n) × (n ≤ 52)
unfolding blocks_fit_lem
blocks-within n e =
    let b = both (leb 4 n) (leb n 52) (not-false (blocks_fit_lem n) e) in
    (leb-true 4 n b.0, leb-true n 52 b.1)

pub within-blocks : (n : ℕ) → 4 ≤ n → n ≤ 52 → not (blocks_fit_lem n) ≡ false
unfolding blocks_fit_lem
within-blocks n h k = rw (le-leb 4 n h, le-leb n 52 k)
