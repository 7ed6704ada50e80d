-- That blocks are cut right (specs/Day.antt): no byte is lost, and blocks put back to back are cut into themselves.
-- Assumes nothing.
use mathlib.Core.Path.{◌≡◌, refl, sym, ap, ap₂, ◌∙◌}
use mathlib.Core.Bool.{Bool, cond}
use mathlib.Core.List.{List, [], ◌∷◌, ◌++◌}
use Prim.Native.Nat.{ℕ, zero, suc, ◌+◌, ◌-◌, ◌≤◌, ◌<◌}
use native.Mathlib.Nat.{le_refl}
use native.Mathlib.Omega.{arith}
use lib.ListN.{length, take, drop, length-append, length-drop, take-append-drop}
use lib.Seq.{take_at, drop_at, take-append-le, drop-append-le}
use borrow.Author.Tests.{ltb-false, le-leb, eqb-true, not-false}
use Rattle.limits.proofs.Laws.{then-zero, when-zero}
use Rattle.decode.specs.Number.{little, unsigned_at}
use Rattle.hire.specs.Hire.{blocks_in, block_length}
use Rattle.line.specs.Block.{sizes_number}
use Rattle.linefile.specs.Files.{joined}
use Rattle.linefile.proofs.Ascending.{All}
use Rattle.day.specs.Day.{own_length_lem, blocks_from, blocks_of}
use Rattle.day.proofs.Blocks.{shorter, blocks-cut, no_blocks}

from-joined : (n : ℕ) (bytes : List ℕ) → length bytes ≤ n → joined (blocks_from n bytes) ≡ bytes
unfolding blocks_from joined
from-joined zero [] h = refl
from-joined zero (b ∷ bytes) h = absurd (omega arith)
from-joined (suc n) [] h = refl
from-joined (suc n) (b ∷ bytes) h =
    ap (λ (t : List ℕ). take (own_length_lem (b ∷ bytes)) (b ∷ bytes) ++ t) (from-joined n (drop (own_length_lem (b ∷ bytes)) (b ∷ bytes)) (shorter (b ∷ bytes) n h))
    ∙ take-append-drop (own_length_lem (b ∷ bytes)) (b ∷ bytes)

-- the blocks are the bytes, each once
pub blocks-joined : (bytes : List ℕ) → joined (blocks_of bytes) ≡ bytes
unfolding blocks_of
blocks-joined bytes = from-joined (length bytes) bytes (le_refl _)

-- A block that is as long as its own sizes say.
abbrev pub Sized : List ℕ → Type 0
Sized b = sizes_number b ≡ 0

module _ (b : List ℕ) (e : Sized b) where
  four : 4 ≤ length b
  unfolding sizes_number
  four = ltb-false (length b) 4 (when-zero 10 _ (then-zero _ _ e).0)

  long : length b ≡ own_length_lem b
  unfolding sizes_number
  long = eqb-true (length b) (own_length_lem b) (not-false _ (when-zero 10 _ (then-zero _ _ (then-zero _ _ e).1).1))

  -- its sizes are read whatever stands behind it
  sizes-behind : (rest : List ℕ) → blocks_in (b ++ rest) ≡ blocks_in b
  unfolding blocks_in unsigned_at
  sizes-behind rest =
      ap₂ (λ (t : Bool) (l : List ℕ). cond t (little l) 0)
      (le-leb 4 (length (b ++ rest)) (more (length-append b rest)) ∙ sym (le-leb 4 (length b) four))
      (ap (take 2) (drop-append-le 2 b rest (few four)) ∙ take-append-le 2 (drop 2 b) rest (two (length-drop 2 b)))
    where
      more : {n : ℕ} → n ≡ length b + length rest → 4 ≤ n
      more h = omega (arith, four)

      few : 4 ≤ length b → 2 ≤ length b
      few h = omega arith

      two : {n : ℕ} → n ≡ length b - 2 → 2 ≤ n
      two h = omega (arith, four)

  pub length-behind : (rest : List ℕ) → length b ≡ own_length_lem (b ++ rest)
  length-behind rest = long ∙ ap block_length (sym (sizes-behind rest))

-- blocks back to back are cut into themselves
pub joined-blocks : (bs : List (List ℕ)) → All Sized bs → blocks_of (joined bs) ≡ bs
unfolding joined
joined-blocks [] a = no_blocks
joined-blocks (b ∷ bs) a =
    let own = length-behind b a.0 (joined bs) in
    blocks-cut (b ++ joined bs) (some (length-append b (joined bs)) (four b a.0))
    ∙ ap₂ (λ (x y : List ℕ). x ∷ blocks_of y) (take_at b (joined bs) _ own) (drop_at b (joined bs) _ own)
    ∙ ap (λ (l : List (List ℕ)). b ∷ l) (joined-blocks bs a.1)
  where
    some : {n : ℕ} → n ≡ length b + length (joined bs) → 4 ≤ length b → 0 < n
    some h k = omega arith
