-- The columns of a line spell what is read from them: each field is what its number is written as, and the fields with a space behind each
-- are the columns.
-- Assumes nothing.
use mathlib.Core.Path.{◌≡◌, refl, sym, ap, ap₂, ◌∙◌, subst}
use mathlib.Core.Bool.{true, false, true≢false, false≢true}
use mathlib.Core.List.{List, [], ◌∷◌, ◌++◌}
use Prim.Native.Nat.{ℕ, zero, suc, ◌+◌, ◌*◌, ◌-◌, ◌/◌, ◌%◌, ◌≤◌, ◌<◌}
use native.Mathlib.Nat.{add-zero}
use native.Mathlib.Omega.{arith}
use lib.Dec.{eqb, lit<}
use lib.IntN.{pos, neg_ℤ}
use lib.ListN.{length, take, drop, get_or, length-append}
use lib.Seq.{drop-drop, take-add, drop-append_seam}
use borrow.Author.Tests.{eqb-true}
use Rattle.fields.specs.Text.{decimal, sign, signed, hexadecimal}
use Rattle.fields.specs.Read.{read_decimal, read_signed, read_hexadecimal}
use Rattle.fields.proofs.Lists.{two_bytes}
use Rattle.fields.proofs.Decimals.{write-decimal}
use Rattle.fields.proofs.Hexadecimals.{write-hexadecimal}
use Rattle.fields.proofs.Signs.{minus-read, plus-read}
use Rattle.columns.specs.Text.{time_of_day, spaced}
use Rattle.columns.specs.Columns.{byte_in, field}
use Rattle.characters.specs.Kinds.{allows, allowed}
use Rattle.reading.specs.Read.{is_minus_zero_lem}
use Rattle.reading.specs.Fields.{hex_digits, Holds, Digits, Signed}
use Rattle.limits.proofs.Laws.{both, either}
use Rattle.characters.proofs.Allowed.{hex-range, sign-is, space-is, allowed-drop}
use Rattle.reading.proofs.Columns.{digit_at, holds_at, holds-length, signed-field}

-- ---- a field is what its number is written as

pub spell-decimal : {most first last : ℕ} {line : List ℕ} → Digits most first last line
    → decimal (last + 1 - first) (read_decimal (field first last line)) ≡ field first last line
unfolding field
spell-decimal {most} {first} {last} {line} d = write-decimal (last + 1 - first) (drop (first - 1) line) (digit_at _ _ d.holds)

-- of a sign and digits, where no minus stands before a zero
spell-minus : (width m : ℕ) (text : List ℕ) → is_minus_zero_lem 45 (neg_ℤ (pos m)) ≡ false → decimal width m ≡ text → signed (suc width) (neg_ℤ (pos m)) ≡ 45 ∷ text
unfolding is_minus_zero_lem signed sign
spell-minus width zero text z e = absurd (true≢false z)
spell-minus width (suc m) text z e = ap (λ (t : List ℕ). 45 ∷ t) e

spell-sign : (b width : ℕ) (text : List ℕ) → allows 43 b ≡ true → is_minus_zero_lem b (read_signed (b ∷ text)) ≡ false → decimal width (read_decimal text) ≡ text
    → signed (suc width) (read_signed (b ∷ text)) ≡ b ∷ text
unfolding signed sign
spell-sign b width text a z e =
    either (eqb b 43) (eqb b 45) (sym (sign-is b) ∙ a) (λ t. plus (eqb-true b 43 t)) (λ t. minus (eqb-true b 45 t))
  where
    apart : b ≡ 43 → b ≡ 45 → ⊥
    apart p q = omega arith

    plus : b ≡ 43 → signed (suc width) (read_signed (b ∷ text)) ≡ b ∷ text
    plus p = ap (signed (suc width)) (plus-read b text (apart p)) ∙ ap₂ ◌∷◌ (sym p) e

    minus : b ≡ 45 → signed (suc width) (read_signed (b ∷ text)) ≡ b ∷ text
    minus p =
        let r = minus-read b text p in
        ap (signed (suc width)) r
        ∙ spell-minus width (read_decimal text) text (ap₂ is_minus_zero_lem (sym p) (sym r) ∙ z) e
        ∙ ap (λ (x : ℕ). x ∷ text) (sym p)

pub spell-signed : {most first last : ℕ} {line : List ℕ} → Signed most first last line → is_minus_zero_lem (byte_in first line) (read_signed (field first last line)) ≡ false
    → signed (last + 1 - first) (read_signed (field first last line)) ≡ field first last line
unfolding byte_in
spell-signed {most} {first} {last} {line} s z =
    let f = signed-field s in
    ap₂ (λ (n : ℕ) (t : List ℕ). signed n (read_signed t)) (width first last s.digits.ordered) f
    ∙ spell-sign (get_or line (first - 1) 0) (last + 1 - (first + 1)) (field (first + 1) last line)
    (rw add-zero at (holds_at first (43 ∷ []) line s.sign 0 (lit< tt)))
    (ap (λ (t : List ℕ). is_minus_zero_lem (get_or line (first - 1) 0) (read_signed t)) (sym f) ∙ z)
    (spell-decimal s.digits)
    ∙ sym f
  where
    width : (first last : ℕ) → first + 1 ≤ last → last + 1 - first ≡ suc (last + 1 - (first + 1))
    width first last h = omega arith

pub spell-class : (line : List ℕ) → Holds 5 (hex_digits 2) line → hexadecimal (read_hexadecimal (field 5 6 line)) ≡ field 5 6 line
unfolding field
spell-class line h =
    let e = two_bytes 4 line (long (holds-length 5 (hex_digits 2) line h)) in
    ap (λ (t : List ℕ). hexadecimal (read_hexadecimal t)) e
    ∙ write-hexadecimal (get_or line 4 0) (get_or line 5 0) (hex-range _ (holds_at 5 (hex_digits 2) line h 0 (lit< tt))) (hex-range _ (holds_at 5 (hex_digits 2) line h 1 (lit< tt)))
    ∙ sym e
  where
    long : 2 ≤ length line - 4 → 5 < length line
    long k = omega arith

-- the time of a day
module _ (h m s : ℕ) (mb : m ≤ 59) (sb : s ≤ 59) where
  hour-is : (3600 * h + 60 * m + s) / 3600 ≡ h
  hour-is = omega arith

  minute-is : (3600 * h + 60 * m + s) / 60 % 60 ≡ m
  minute-is = omega arith

  second_is : (3600 * h + 60 * m + s) % 60 ≡ s
  second_is = omega arith

  pub time-is : time_of_day (3600 * h + 60 * m + s) ≡ decimal 2 h ++ (decimal 2 m ++ decimal 2 s)
  unfolding time_of_day
  time-is = simp (hour-is, minute-is, second_is)

-- ---- fields with a space behind each

-- the fields of these kinds, from an offset on
abbrev pub texts : (fields : List (List ℕ)) (at : ℕ) (line : List ℕ) → List (List ℕ)
texts [] at line = []
texts (kinds ∷ fields) at line = take (length kinds) (drop at line) ∷ texts fields (at + suc (length kinds)) line

space-first : (kinds line : List ℕ) → allowed (32 ∷ kinds) line ≡ true → (line ≡ 32 ∷ drop 1 line) × (allowed kinds (drop 1 line) ≡ true)
unfolding allowed
space-first kinds [] e = absurd (false≢true e)
space-first kinds (b ∷ line) e =
    let p = both (allows 32 b) (allowed kinds line) e in
    (ap (λ (x : ℕ). x ∷ line) (eqb-true b 32 (sym (space-is b) ∙ p.0)), p.1)

pub texts-spaced : (fields : List (List ℕ)) (at : ℕ) (line : List ℕ) → allowed (spaced fields) (drop at line) ≡ true
    → spaced (texts fields at line) ≡ take (length (spaced fields)) (drop at line)
unfolding spaced
texts-spaced [] at line e = refl
texts-spaced (kinds ∷ fields) at line e =
    let behind : allowed (32 ∷ spaced fields) (drop (length kinds) (drop at line)) ≡ true =
    ap (λ (k : List ℕ). allowed k (drop (length kinds) (drop at line))) (sym (drop-append_seam kinds (32 ∷ spaced fields)))
    ∙ allowed-drop (kinds ++ 32 ∷ spaced fields) (drop at line) e (length kinds) in
    let f = space-first (spaced fields) (drop (length kinds) (drop at line)) behind in
    let on : drop 1 (drop (length kinds) (drop at line)) ≡ drop (at + suc (length kinds)) line =
    ap (drop 1) (drop-drop (length kinds) at line) ∙ drop-drop 1 (at + length kinds) line ∙ ap (λ (n : ℕ). drop n line) (more at (length kinds)) in
    ap (λ (t : List ℕ). take (length kinds) (drop at line) ++ 32 ∷ t)
    (texts-spaced fields (at + suc (length kinds)) line (subst (λ (t : List ℕ). allowed (spaced fields) t ≡ true) on f.1)
    ∙ ap (take (length (spaced fields))) (sym on))
    ∙ ap (λ (t : List ℕ). take (length kinds) (drop at line) ++ take (suc (length (spaced fields))) t) (sym f.0)
    ∙ sym (take-add (length kinds) (suc (length (spaced fields))) (drop at line))
    ∙ ap (λ (n : ℕ). take n (drop at line)) (sym (length-append kinds (32 ∷ spaced fields)))
  where
    more : (at n : ℕ) → at + n + 1 ≡ at + suc n
    more at n = omega arith
