-- Laws of the kinds of column (specs/Kinds.antt): what a column of each kind holds, and parts of a line.
-- Assumes nothing.
use mathlib.Core.Path.{◌≡◌, refl, sym, ap, ap₂, ◌∙◌}
use mathlib.Core.Bool.{Bool, true, false, ◌&&◌, ◌||◌, false≢true, and_assoc, and-true, or-false}
use mathlib.Core.List.{List, [], ◌∷◌, ◌++◌}
use mathlib.Core.Logic.{inl, inr}
use Prim.Native.Nat.{ℕ, zero, suc, ◌+◌, ◌≤◌, ◌<◌, suc-le-suc}
use native.Mathlib.Nat.{not-suc-le-zero, le_of_suc-le-suc}
use native.Mathlib.Numerals.{add-one}
use native.Mathlib.Omega.{arith}
use lib.Dec.{leb, eqb, lit<}
use lib.ListN.{length, take, drop, get_or, drop_of_length-le}
use lib.Seq.{drop-cons}
use borrow.Author.Tests.{leb-true, eqb-true}
use Rattle.limits.proofs.Laws.{both, either}
use Rattle.fields.proofs.Decimals.{Digit}
use Rattle.fields.proofs.Hexadecimals.{HexDigit}
use Rattle.labels.specs.Labels.{code_fits_lem}
use Rattle.characters.specs.Kinds.{within, letter_fits_lem, allows, allowed, printable}

-- ---- what a column of each kind holds

pub letter-is : (b : ℕ) → allows 76 b ≡ letter_fits_lem b
unfolding allows
letter-is b = simp or-false

pub digit-is : (b : ℕ) → allows 57 b ≡ within 48 57 b
unfolding allows
digit-is b = simp or-false

pub hexadecimal-is : (b : ℕ) → allows 70 b ≡ within 48 57 b || within 65 70 b
unfolding allows
hexadecimal-is b = simp or-false

pub sign-is : (b : ℕ) → allows 43 b ≡ eqb b 43 || eqb b 45
unfolding allows
sign-is b = simp or-false

pub code_is : (b : ℕ) → allows 90 b ≡ code_fits_lem b
unfolding allows
code_is b = simp or-false

pub space-is : (b : ℕ) → allows 32 b ≡ eqb b 32
unfolding allows
space-is b = refl

-- a byte from low to high
pub within-true : (low high b : ℕ) → within low high b ≡ true → (low ≤ b) × (b ≤ high)
within-true low high b e =
    let p = both (leb low b) (leb b high) e in (leb-true low b p.0, leb-true b high p.1)

pub digit-range : (b : ℕ) → allows 57 b ≡ true → Digit b
digit-range b e = within-true 48 57 b (sym (digit-is b) ∙ e)

pub hex-range : (b : ℕ) → allows 70 b ≡ true → HexDigit b
hex-range b e =
    either (within 48 57 b) (within 65 70 b) (sym (hexadecimal-is b) ∙ e) (λ t. inl (within-true 48 57 b t)) (λ t. inr (within-true 65 70 b t))

-- the letter is that of a constellation, so it is a byte
pub letter-bound : (b : ℕ) → letter_fits_lem b ≡ true → b < 256
unfolding letter_fits_lem
letter-bound b e =
    either _ (eqb b 74) e
    (λ f. either _ (eqb b 67) f
    (λ g. either _ (eqb b 69) g
    (λ h. either (eqb b 71) (eqb b 82) h (is 71 (lit< tt)) (is 82 (lit< tt)))
    (is 69 (lit< tt)))
    (is 67 (lit< tt)))
    (is 74 (lit< tt))
  where
    is : (n : ℕ) → n < 256 → eqb b n ≡ true → b < 256
    is n h e = omega (arith, eqb-true b n e)

-- ---- parts of a line

-- each column that the kinds name is there
pub allowed-length : (kinds line : List ℕ) → allowed kinds line ≡ true → length kinds ≤ length line
unfolding allowed
allowed-length [] line e = omega arith
allowed-length (k ∷ kinds) [] e = absurd (false≢true e)
allowed-length (k ∷ kinds) (b ∷ line) e = suc-le-suc (allowed-length kinds line (both (allows k b) _ e).1)

-- and holds what it may hold
pub allowed_at : (kinds line : List ℕ) → allowed kinds line ≡ true → (i : ℕ) → i < length kinds → allows (get_or kinds i 0) (get_or line i 0) ≡ true
unfolding allowed
allowed_at [] line e i h = absurd (not-suc-le-zero h)
allowed_at (k ∷ kinds) [] e i h = absurd (false≢true e)
allowed_at (k ∷ kinds) (b ∷ line) e zero h = (both (allows k b) _ e).0
allowed_at (k ∷ kinds) (b ∷ line) e (suc i) h = allowed_at kinds line (both (allows k b) _ e).1 i (le_of_suc-le-suc h)

-- so do the columns from one on, the first of them, and those before a cut
pub allowed-drop : (kinds line : List ℕ) → allowed kinds line ≡ true → (n : ℕ) → allowed (drop n kinds) (drop n line) ≡ true
unfolding allowed
allowed-drop kinds line e zero = e
allowed-drop [] line e (suc n) = refl
allowed-drop (k ∷ kinds) [] e (suc n) = absurd (false≢true e)
allowed-drop (k ∷ kinds) (b ∷ line) e (suc n) = allowed-drop kinds line (both (allows k b) _ e).1 n

pub allowed-take : (kinds line : List ℕ) → allowed kinds line ≡ true → (n : ℕ) → allowed (take n kinds) line ≡ true
unfolding allowed
allowed-take kinds line e zero = refl
allowed-take [] line e (suc n) = refl
allowed-take (k ∷ kinds) [] e (suc n) = absurd (false≢true e)
allowed-take (k ∷ kinds) (b ∷ line) e (suc n) =
    let p = both (allows k b) _ e in ap₂ ◌&&◌ p.0 (allowed-take kinds line p.1 n)

pub allowed-cut : (kinds line : List ℕ) → allowed kinds line ≡ true → (n : ℕ) → length kinds ≤ n → allowed kinds (take n line) ≡ true
unfolding allowed
allowed-cut [] line e n h = refl
allowed-cut (k ∷ kinds) line e zero h = absurd (not-suc-le-zero h)
allowed-cut (k ∷ kinds) [] e (suc n) h = absurd (false≢true e)
allowed-cut (k ∷ kinds) (b ∷ line) e (suc n) h =
    let p = both (allows k b) _ e in ap₂ ◌&&◌ p.0 (allowed-cut kinds line p.1 n (le_of_suc-le-suc h))

-- what stands behind the columns that the kinds name is not asked
pub allowed-front : (kinds line : List ℕ) → allowed kinds (take (length kinds) line) ≡ allowed kinds line
unfolding allowed
allowed-front [] line = refl
allowed-front (k ∷ kinds) [] = refl
allowed-front (k ∷ kinds) (b ∷ line) = ap (λ (t : Bool). allows k b && t) (allowed-front kinds line)

-- kinds and text behind each other
pub allowed-append : (ks ms xs ys : List ℕ) → length ks ≡ length xs → allowed ks xs ≡ true → allowed ms ys ≡ true → allowed (ks ++ ms) (xs ++ ys) ≡ true
unfolding allowed
allowed-append [] ms [] ys l p q = q
allowed-append [] ms (x ∷ xs) ys l p q = absurd (apart l)
  where
    apart : 0 ≡ suc (length xs) → ⊥
    apart e = omega arith
allowed-append (k ∷ ks) ms [] ys l p q = absurd (apart l)
  where
    apart : suc (length ks) ≡ 0 → ⊥
    apart e = omega arith
allowed-append (k ∷ ks) ms (x ∷ xs) ys l p q =
    let e = both (allows k x) (allowed ks xs) p in
    ap₂ ◌&&◌ e.0 (allowed-append ks ms xs ys (less l) e.1 q)
  where
    less : suc (length ks) ≡ suc (length xs) → length ks ≡ length xs
    less e = omega arith

-- kinds behind each other are tested one behind the other
pub allowed-parts : (ks ms line : List ℕ) → allowed (ks ++ ms) line ≡ allowed ks line && allowed ms (drop (length ks) line)
unfolding allowed
allowed-parts [] ms line = refl
allowed-parts (k ∷ ks) ms [] = refl
allowed-parts (k ∷ ks) ms (b ∷ line) = ap (λ (t : Bool). allows k b && t) (allowed-parts ks ms line) ∙ sym (and_assoc (allows k b) _ _)

-- so one more row of them
pub row-added : {a b : Bool} (ks ms line : List ℕ) → a ≡ allowed ks line → b ≡ allowed ms (drop (length ks) line) → a && b ≡ allowed (ks ++ ms) line
row-added ks ms line p q = ap₂ ◌&&◌ p q ∙ sym (allowed-parts ks ms line)

-- and a row that begins within what was tested before
pub row-overlapping : {a b : Bool} (ks ms ns line : List ℕ) → a ≡ allowed (ks ++ ms) line → b ≡ allowed (ms ++ ns) (drop (length ks) line)
    → a && b ≡ allowed (ks ++ (ms ++ ns)) line
row-overlapping ks ms ns line p q =
    let behind = drop (length ks) line in
    ap₂ ◌&&◌ (p ∙ allowed-parts ks ms line) (q ∙ allowed-parts ms ns behind)
    ∙ twice (allowed ks line) (allowed ms behind) _
    ∙ ap (λ (t : Bool). allowed ks line && t) (sym (allowed-parts ms ns behind))
    ∙ sym (allowed-parts ks (ms ++ ns) line)
  where
    twice : (x y z : Bool) → (x && y) && (y && z) ≡ x && (y && z)
    twice true true z = refl
    twice true false z = refl
    twice false y z = refl

-- ---- the loop over a comment

-- one byte of the comment more
pub printable-turn : (text : List ℕ) (i : ℕ) (fit : Bool) → i < length text
    → fit && printable (drop i text) ≡ fit && within 32 126 (get_or text i 0) && printable (drop (i + 1) text)
unfolding printable
printable-turn text i fit h = rw (add-one, drop-cons text i 0 h) (sym (and_assoc fit _ _))

-- none is left
pub printable-done : (text : List ℕ) (i : ℕ) (fit : Bool) → length text ≤ i → fit && printable (drop i text) ≡ fit
unfolding printable
printable-done text i fit h = ap (λ (t : List ℕ). fit && printable t) (drop_of_length-le text h) ∙ and-true fit
