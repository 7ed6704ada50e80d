-- How a day's blocks are cut (specs/Day.antt).
-- Assumes nothing.
use mathlib.Core.Path.{◌≡◌, refl, ap}
use mathlib.Core.List.{List, [], ◌∷◌}
use Prim.Native.Nat.{ℕ, zero, suc, ◌+◌, ◌-◌, ◌*◌, ◌≤◌, ◌<◌}
use native.Mathlib.Omega.{arith}
use lib.ListN.{length, take, drop, length-drop}
use Rattle.hire.specs.Hire.{blocks_in}
use Rattle.day.specs.Day.{own_length_lem, blocks_from, blocks_of}

pub shorter : (bytes : List ℕ) (n : ℕ) → length bytes ≤ suc n → length (drop (own_length_lem bytes) bytes) ≤ n
shorter bytes n h = rw length-drop (less (blocks_in bytes) h)
  where
    less : (k : ℕ) → length bytes ≤ suc n → length bytes - (58 + 160 * k) ≤ n
    less k h = omega arith

-- as many as there are bytes are enough
enough : (m n : ℕ) (bytes : List ℕ) → length bytes ≤ m → length bytes ≤ n → blocks_from m bytes ≡ blocks_from n bytes
unfolding blocks_from
enough zero zero bytes h k = refl
enough zero (suc n) [] h k = refl
enough zero (suc n) (b ∷ bytes) h k = absurd (none h)
  where
    none : suc (length bytes) ≤ 0 → ⊥
    none h = omega arith
enough (suc m) zero [] h k = refl
enough (suc m) zero (b ∷ bytes) h k = absurd (none k)
  where
    none : suc (length bytes) ≤ 0 → ⊥
    none h = omega arith
enough (suc m) (suc n) [] h k = refl
enough (suc m) (suc n) (b ∷ bytes) h k =
    ap (λ (t : List (List ℕ)). take (own_length_lem (b ∷ bytes)) (b ∷ bytes) ∷ t)
    (enough m n (drop (own_length_lem (b ∷ bytes)) (b ∷ bytes)) (shorter (b ∷ bytes) m h) (shorter (b ∷ bytes) n k))

-- the first block and those behind it
pub blocks-cut : (bytes : List ℕ) → 0 < length bytes → blocks_of bytes ≡ take (own_length_lem bytes) bytes ∷ blocks_of (drop (own_length_lem bytes) bytes)
unfolding blocks_of blocks_from
blocks-cut [] h = absurd (none h)
  where
    none : 0 < 0 → ⊥
    none h = omega arith
blocks-cut (b ∷ bytes) h =
    ap (λ (t : List (List ℕ)). take (own_length_lem (b ∷ bytes)) (b ∷ bytes) ∷ t)
    (enough (length bytes) (length (drop (own_length_lem (b ∷ bytes)) (b ∷ bytes))) (drop (own_length_lem (b ∷ bytes)) (b ∷ bytes))
    (shorter (b ∷ bytes) (length bytes) (same (suc (length bytes)))) (same (length (drop (own_length_lem (b ∷ bytes)) (b ∷ bytes)))))
  where
    same : (n : ℕ) → n ≤ n
    same n = omega arith

pub no_blocks : blocks_of [] ≡ []
unfolding blocks_of blocks_from
no_blocks = refl
