-- Items placed one piece behind the other make one piece (specs/Placed.antt).
-- Assumes nothing.
use mathlib.Core.Path.{◌≡◌, sym, ap, ap₂, ◌∙◌}
use mathlib.Core.List.{List, [], ◌∷◌, ◌++◌, append_assoc, append-nil}
use Prim.Native.Nat.{ℕ, ◌+◌, ◌-◌, ◌≤◌, ◌<◌, zero-le}
use native.Mathlib.Nat.{add_assoc, add-zero, zero-add, le_of_eq}
use native.Mathlib.Numerals.{add-one}
use native.Mathlib.Omega.{arith}
use lib.ListN.{length, take, drop, set, take-append-drop, length-append, length-drop, drop_of_length-le}
use lib.Seq.{length-take-le, take_at, take-length, drop-append-add, drop-drop, drop-length, set_split}
use borrow.Author.Tests.{le-leb, lt-leb}
use borrow.Rule.Slice.PartMut.{put_mid, mid_of, mid_len}
use Rattle.lent.specs.Placed.{placed, placed_within}

-- what fits is placed, and what does not is not
pub within : {A : Type 0} (d : List A) (at : ℕ) (s : List A) → at + length s ≤ length d → placed_within d at s ≡ placed d at s
unfolding placed_within
within d at s h = rw (le-leb (at + length s) (length d) h)

pub not_within : {A : Type 0} (d : List A) (at : ℕ) (s : List A) → length d < at + length s → placed_within d at s ≡ d
unfolding placed_within
not_within d at s h = rw (lt-leb (at + length s) (length d) h)

pub placed-none : {A : Type 0} (d : List A) (at : ℕ) → d ≡ placed d at []
unfolding placed
placed-none d at = sym (rw add-zero (take-append-drop at d))

-- one item placed is a store
pub placed-byte : {A : Type 0} (d : List A) (at : ℕ) (b : A) → at < length d → set d at b ≡ placed d at (b ∷ [])
unfolding placed
placed-byte d at b h = set_split d at b h ∙ ap (λ (n : ℕ). take at d ++ b ∷ drop n d) (sym (add-one at))

pub placed-onto : {A : Type 0} (d : List A) (at : ℕ) (s t : List A) → at ≤ length d → placed (placed d at s) (at + length s) t ≡ placed d at (s ++ t)
unfolding placed
placed-onto {A = A} d at s t h =
    ap (λ (x : List A). take (at + length s) x ++ (t ++ drop (at + length s + length t) x)) (sym (append_assoc p s r))
    ∙ ap₂ ◌++◌ (take_at (p ++ s) r (at + length s) long) (ap (λ (x : List A). t ++ x) behind)
    ∙ append_assoc p s (t ++ drop (at + length (s ++ t)) d)
    ∙ ap (λ (x : List A). p ++ x) (sym (append_assoc s t (drop (at + length (s ++ t)) d)))
  where
    p : List A
    p = take at d

    r : List A
    r = drop (at + length s) d

    long : length (p ++ s) ≡ at + length s
    long = length-append p s ∙ ap (λ (n : ℕ). n + length s) (length-take-le at d h)

    behind : drop (at + length s + length t) ((p ++ s) ++ r) ≡ drop (at + length (s ++ t)) d
    behind =
        ap (λ (n : ℕ). drop (n + length t) ((p ++ s) ++ r)) (sym long)
        ∙ drop-append-add (p ++ s) r (length t)
        ∙ drop-drop (length t) (at + length s) d
        ∙ ap (λ (n : ℕ). drop n d) (add_assoc at (length s) (length t) ∙ ap (λ (n : ℕ). at + n) (sym (length-append s t)))

-- a part that a writer filled, put back
pub filled : {A : Type 0} (f : ℕ → List A) → ((width : ℕ) → length (f width) ≡ width) → (d s : List A) (at width : ℕ) → at + width ≤ length d
    → s ≡ f (length (mid_of at (at + width - at) d)) → put_mid at (at + width - at) d s ≡ placed d at (f width)
unfolding placed
filled {A = A} f long d s at width h e =
    ap₂ (λ (x y : List A). take at d ++ (x ++ y)) (e ∙ ap f (mid_len at (at + width) d h ∙ less))
    (drop-drop (at + width - at) at d ∙ ap (λ (n : ℕ). drop n d) (behind (long width)))
  where
    less : at + width - at ≡ width
    less = omega arith

    behind : length (f width) ≡ width → at + (at + width - at) ≡ at + length (f width)
    behind k = omega arith

-- a text that takes all of the bytes
pub placed-whole : {A : Type 0} (d s : List A) → length s ≡ length d → placed d 0 s ≡ s
unfolding placed
placed-whole {A = A} d s e = ap (λ (x : List A). s ++ x) (ap (λ (n : ℕ). drop n d) (zero-add (length s) ∙ e) ∙ drop-length d) ∙ append-nil s

pub placed-front : {A : Type 0} (d s : List A) (n : ℕ) → length s ≡ n → take n (placed d 0 s) ≡ s
unfolding placed
placed-front d s n e = take_at s (drop (0 + length s) d) n e

pub length-placed : {A : Type 0} (d : List A) (at : ℕ) (s : List A) → at + length s ≤ length d → length (placed d at s) ≡ length d
unfolding placed
length-placed d at s h =
    length-append (take at d) (s ++ drop (at + length s) d)
    ∙ ap₂ ◌+◌ (length-take-le at d (omega arith)) (length-append s (drop (at + length s) d) ∙ ap (λ (n : ℕ). length s + n) (length-drop (at + length s) d))
    ∙ whole at (length s) (length d) h
  where
    whole : (a s n : ℕ) → a + s ≤ n → a + (s + (n - (a + s))) ≡ n
    whole a s n h = omega arith

-- a text that takes a whole part, put back
pub put-copied : {A : Type 0} (d text part : List A) (at : ℕ) → at + length text ≤ length d
    → part ≡ text
    → put_mid at (at + length text - at) d part ≡ placed d at text
unfolding placed
put-copied {A = A} d text part at h e =
    ap₂ (λ (x y : List A). take at d ++ (x ++ y))
    e
    (drop-drop (at + length text - at) at d ∙ ap (λ (n : ℕ). drop n d) (ap (λ (n : ℕ). at + n) width))
  where
    width : at + length text - at ≡ length text
    width = omega arith

-- a part into which a text was copied, put back
pub put-part : {A : Type 0} (d text part : List A) (at : ℕ) → at + length text ≤ length d
    → part ≡ take (length text) text ++ drop (length text) (mid_of at (at + length text - at) d)
    → put_mid at (at + length text - at) d part ≡ placed d at text
put-part d text part at h e =
    put-copied d text part at h
    (e ∙ ap₂ ◌++◌ (take-length text) (drop_of_length-le (mid_of at (at + length text - at) d) (le_of_eq (mid_len at (at + length text) d h ∙ width))) ∙ append-nil text)
  where
    width : at + length text - at ≡ length text
    width = omega arith

-- what is placed from the first on, and what follows it
pub placed_first : {A : Type 0} (d s : List A) {n : ℕ} → length s ≡ n → placed d 0 s ≡ s ++ drop n d
unfolding placed
placed_first d s e = ap (λ (m : ℕ). s ++ drop m d) (zero-add (length s) ∙ e)

-- one piece behind another that begins at the first
pub placed-behind : {A : Type 0} (d : List A) {d₁ d₂ : List A} (s t : List A) {n : ℕ} → length s ≡ n → d₁ ≡ placed d 0 s → d₂ ≡ placed d₁ n t → d₂ ≡ placed d 0 (s ++ t)
placed-behind {A = A} d s t l e f = f ∙ ap₂ (λ (x : List A) (k : ℕ). placed x k t) e (sym l ∙ sym (zero-add (length s))) ∙ placed-onto d 0 s t zero-le

-- a piece put behind others that begin at the first, where there is room
pub put-behind : {A : Type 0} (d : List A) {d₁ d₂ : List A} (s t : List A) {n : ℕ} → length s ≡ n → n + length t ≤ length d → d₁ ≡ placed d 0 s → d₂ ≡ placed_within d₁ n t
    → d₂ ≡ placed d 0 (s ++ t)
put-behind d {d₁} s t {n} l room e f =
    let long : length d₁ ≡ length d = ap length e ∙ length-placed d 0 s (omega (arith, l)) in
    placed-behind d s t l e (f ∙ within d₁ n t (omega (arith, long)))
