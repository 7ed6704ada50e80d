-- Facts on lists that the kit's library does not have.
-- Assumes nothing.
use mathlib.Core.Path.{◌≡◌, refl, sym, ap, ap₂, ◌∙◌}
use mathlib.Core.List.{List, [], ◌∷◌, ◌++◌}
use Prim.Native.Nat.{ℕ, zero, suc, ◌+◌, ◌≤◌, ◌<◌}
use native.Mathlib.Nat.{le_refl, add-zero}
use native.Mathlib.Omega.{arith}
use lib.ListN.{length, take, drop, get_or, set}
use lib.Seq.{take-take, take_at, drop_at, drop-cons, drop-set-lt, get_or-take, get_or-drop, get_or-set_same, lt-length-set}

-- what a store at i leaves from i on
pub drop-set-same {ℓ} : {A : Type ℓ} (l : List A) (i : ℕ) (a : A) → i < length l → drop i (set l i a) ≡ a ∷ drop (suc i) l
drop-set-same l i a h =
    drop-cons (set l i a) i a (lt-length-set l i a h)
    ∙ ap₂ ◌∷◌ (get_or-set_same l i a a h) (drop-set-lt (suc i) l i a (le_refl (suc i)))

-- a piece that ends within the first elements of a list is a piece of the list
pub piece_of {ℓ} : {A : Type ℓ} (a v w : ℕ) (x : List A) → a + v ≤ w → take v (drop a (take w x)) ≡ take v (drop a x)
piece_of zero v w x h = take-take v w x (omega arith)
piece_of (suc a) v zero x h = absurd (none_left h)
  where
    none_left : suc a + v ≤ 0 → ⊥
    none_left k = omega arith
piece_of (suc a) v (suc w) [] h = refl
piece_of (suc a) v (suc w) (y ∷ x) h = piece_of a v w x (omega arith)

-- texts behind each other that are the same have the same parts, where the first ones are as long
pub parted : {n : ℕ} {a b c d : List ℕ} → length a ≡ n → length c ≡ n → a ++ b ≡ c ++ d → (a ≡ c) × (b ≡ d)
parted {n} {a} {b} {c} {d} p q e = (
  sym (take_at a b n p) ∙ ap (take n) e ∙ take_at c d n q,
  sym (drop_at a b n p) ∙ ap (drop n) e ∙ drop_at c d n q,
)

-- ---- single bytes of a line

pub next-byte : (n at : ℕ) (line : List ℕ) → at < length line → take (suc n) (drop at line) ≡ get_or line at 0 ∷ take n (drop (suc at) line)
next-byte n at line h = ap (take (suc n)) (drop-cons line at 0 h)

pub two_bytes : (at : ℕ) (line : List ℕ) → suc at < length line → take 2 (drop at line) ≡ get_or line at 0 ∷ get_or line (suc at) 0 ∷ []
two_bytes at line h = next-byte 1 at line (omega arith) ∙ ap (λ (t : List ℕ). get_or line at 0 ∷ t) (next-byte 0 (suc at) line h)

pub three-bytes : (at : ℕ) (line : List ℕ) → suc (suc at) < length line
    → take 3 (drop at line) ≡ get_or line at 0 ∷ get_or line (suc at) 0 ∷ get_or line (suc (suc at)) 0 ∷ []
three-bytes at line h = next-byte 2 at line (omega arith) ∙ ap (λ (t : List ℕ). get_or line at 0 ∷ t) (two_bytes (suc at) line h)

-- the first byte of a field
pub first_byte : (width at : ℕ) (line text : List ℕ) → take (suc width) (drop at line) ≡ text → get_or line at 0 ≡ get_or text 0 0
first_byte width at line text e =
    ap (λ (n : ℕ). get_or line n 0) (sym (add-zero at))
    ∙ sym (get_or-take (suc width) (drop at line) 0 0 (lit<' width) ∙ get_or-drop at line 0 0)
    ∙ ap (λ (t : List ℕ). get_or t 0 0) e
  where
    lit<' : (n : ℕ) → 0 < suc n
    lit<' n = omega arith
