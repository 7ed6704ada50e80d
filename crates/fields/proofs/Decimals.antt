-- Digits as numbers and back: how large a number of so many digits is, and that it is written with the digits that it was read from.
-- Assumes nothing.
use mathlib.Core.Path.{◌≡◌, sym, ap, ap₂, ◌∙◌}
use mathlib.Core.List.{List, [], ◌∷◌, ◌++◌, append_assoc, append-nil}
use Prim.Native.Nat.{ℕ, zero, suc, ◌+◌, ◌*◌, ◌-◌, ◌/◌, ◌%◌, ◌^◌, ◌≤◌, ◌<◌, zero-le, suc-le-suc}
use native.Mathlib.Nat.{pow-suc, pow-le-pow_right, lt_of_lt_of_le, mul-le-mul_right}
use native.Mathlib.Numerals.{add-one}
use native.Mathlib.Omega.{arith}
use lib.Dec.{lit<}
use lib.ListN.{length, take, drop, get_or}
use lib.Seq.{drop-cons}
use Rattle.fields.specs.Text.{decimal}
use Rattle.fields.specs.Read.{digits_from, read_decimal}

-- A byte that is a digit, and a text whose first n bytes are.
abbrev pub Digit : ℕ → Type 0
Digit b = (48 ≤ b) × (b ≤ 57)

abbrev pub Figures : ℕ → List ℕ → Type 0
Figures n text = (i : ℕ) → i < n → Digit (get_or text i 0)

no-figures : (n : ℕ) → Figures (suc n) [] → ⊥
no-figures n f = none (f 0 (suc-le-suc zero-le))
  where
    none : Digit 0 → ⊥
    none d = omega (arith, d.0)

-- the first byte, and those behind it
module _ (n b : ℕ) (text : List ℕ) (f : Figures (suc n) (b ∷ text)) where
  first : Digit b
  first = f 0 (suc-le-suc zero-le)

  others : Figures n text
  others i h = f (suc i) (suc-le-suc h)

-- ---- the loop over digits

-- fewer than ten digits leave room for one more
pub room : (i n value : ℕ) → i < n → n ≤ 10 → value < 10 ^ i → value < 10 ^ 9
room i n value h k l = lt_of_lt_of_le l (pow-le-pow_right (lit< tt) (fewer h k))
  where
    fewer : i < n → n ≤ 10 → i ≤ 9
    fewer h k = omega arith

pub value-turn : (i value b : ℕ) → value < 10 ^ i → Digit b → 10 * value + (b - 48) < 10 ^ (i + 1)
value-turn i value b h r = rw (add-one, pow-suc) (turn (10 ^ i) h)
  where
    turn : (p : ℕ) → value < p → 10 * value + (b - 48) < p * 10
    turn p l = omega (arith, r)

pub after_turn : (text : List ℕ) (i value : ℕ) → i < length text
    → digits_from value (drop i text) ≡ digits_from (10 * value + (get_or text i 0 - 48)) (drop (i + 1) text)
unfolding digits_from
after_turn text i value h = rw (add-one, drop-cons text i 0 h)

-- ---- the size of a number

after-bound : (n before : ℕ) (text : List ℕ) → Figures n text → digits_from before (take n text) < (before + 1) * 10 ^ n
unfolding digits_from
after-bound zero before text f = omega arith
after-bound (suc n) before [] f = absurd (no-figures n f)
after-bound (suc n) before (b ∷ text) f =
    lt_of_lt_of_le (after-bound n (10 * before + (b - 48)) text (others n b text f)) (rw pow-suc (larger (10 ^ n) (first n b text f)))
  where
    larger : (p : ℕ) → Digit b → (10 * before + (b - 48) + 1) * p ≤ (before + 1) * (p * 10)
    larger p r = omega (arith, mul-le-mul_right p (most r))
      where
        most : Digit b → 10 * before + (b - 48) + 1 ≤ 10 * before + 10
        most r = omega arith

-- so many digits make less than that power of ten
pub read-bound : (n : ℕ) (text : List ℕ) → Figures n text → read_decimal (take n text) < 10 ^ n
unfolding read_decimal
read-bound n text f = omega (arith, after-bound n 0 text f)

-- ---- written with the digits that it was read from

write-after : (k n before : ℕ) (text : List ℕ) → Figures n text → decimal (n + k) (digits_from before (take n text)) ≡ decimal k before ++ take n text
unfolding digits_from decimal
write-after k zero before text f = ap (λ (m : ℕ). decimal m before) (none k) ∙ sym (append-nil (decimal k before))
  where
    none : (k : ℕ) → 0 + k ≡ k
    none k = omega arith
write-after k (suc n) before [] f = absurd (no-figures n f)
write-after k (suc n) before (b ∷ text) f =
    let r = first n b text f in
    ap (λ (m : ℕ). decimal m (digits_from (10 * before + (b - 48)) (take n text))) (one_more n k)
    ∙ write-after (suc k) n (10 * before + (b - 48)) text (others n b text f)
    ∙ append_assoc (decimal k ((10 * before + (b - 48)) / 10)) ((48 + (10 * before + (b - 48)) % 10) ∷ []) (take n text)
    ∙ ap₂ (λ (m d : ℕ). decimal k m ++ d ∷ take n text) (high before b r) (low before b r)
  where
    one_more : (n k : ℕ) → suc n + k ≡ n + suc k
    one_more n k = omega arith

    high : (before b : ℕ) → Digit b → (10 * before + (b - 48)) / 10 ≡ before
    high before b r = omega arith

    low : (before b : ℕ) → Digit b → 48 + (10 * before + (b - 48)) % 10 ≡ b
    low before b r = omega arith

pub write-decimal : (n : ℕ) (text : List ℕ) → Figures n text → decimal n (read_decimal (take n text)) ≡ take n text
unfolding read_decimal decimal
write-decimal n text f = ap (λ (m : ℕ). decimal m (digits_from 0 (take n text))) (all n) ∙ write-after 0 n 0 text f
  where
    all : (n : ℕ) → n ≡ n + 0
    all n = omega arith
