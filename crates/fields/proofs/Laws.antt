-- Laws of the definitions that the loops step by.
-- Assumes nothing.
use mathlib.Core.Path.{◌≡◌, refl, ap, ◌∙◌}
use mathlib.Core.List.{List, [], ◌∷◌, ◌++◌, append_assoc}
use Prim.Native.Nat.{ℕ, zero, suc, ◌+◌, ◌-◌, ◌*◌, ◌/◌, ◌%◌, ◌^◌, ◌≤◌, ◌<◌}
use native.Mathlib.Nat.{not-suc-le-zero, pow-suc}
use native.Mathlib.Omega.{arith}
use native.Mathlib.Numerals.{add-one, sub-one}
use lib.ListN.{length, take, drop, set, get_or, length-append}
use lib.Seq.{take-suc}
use mathlib.Core.Bool.{true, false, true≢false}
use lib.Dec.{ltb}
use borrow.Author.Tests.{ltb-true, ltb-false, le-leb, lt-leb}
use lib.IntN.{ℤ, pos, negsuc, neg_ℤ, nat_abs}
use lib.Signed.{lt_z}
use Rattle.fields.specs.Text.{decimal, sign, signed, hex_digit_lem, hexadecimal, byte_sum}
use Rattle.fields.specs.Read.{digits_from, read_decimal, read_signed, read_digit, read_hexadecimal}
use Rattle.fields.proofs.Lists.{drop-set-same}

-- the last digit stands before what follows the number
last-digit : (n i : ℕ) (rest : List ℕ) → decimal (suc i) n ++ rest ≡ decimal i (n / 10) ++ (48 + n % 10) ∷ rest
unfolding decimal
last-digit n i rest = append_assoc (decimal i (n / 10)) ((48 + n % 10) ∷ []) rest

-- one digit more is written, before those from i on
pub decimal-turn : (n i : ℕ) (out : List ℕ) → 0 < i → i ≤ length out
    → decimal i n ++ drop i out ≡ decimal (i - 1) (n / 10) ++ drop (i - 1) (set out (i - 1) (48 + n % 10))
decimal-turn n zero out h k = absurd (not-suc-le-zero h)
decimal-turn n (suc i) out h k = rw (sub-one, drop-set-same) (last-digit n i (drop (suc i) out))

-- no digit is left to write
pub decimal-done : (n i : ℕ) (out : List ℕ) → i ≤ 0 → decimal i n ++ drop i out ≡ out
unfolding decimal
decimal-done n zero out h = refl
decimal-done n (suc i) out h = absurd (not-suc-le-zero h)

pub length-decimal : (columns n : ℕ) → length (decimal columns n) ≡ columns
unfolding decimal
length-decimal zero n = refl
length-decimal (suc columns) n =
    length-append (decimal columns (n / 10)) ((48 + n % 10) ∷ []) ∙ omega (arith, length-decimal columns (n / 10))

pub length-signed : (columns : ℕ) (z : ℤ) → length (signed columns z) ≡ columns
unfolding signed
length-signed zero z = refl
length-signed (suc columns) z = ap suc (length-decimal columns (nat_abs z))

pub length-hexadecimal : (n : ℕ) → length (hexadecimal n) ≡ 2
unfolding hexadecimal
length-hexadecimal n = refl

byte_sum-append : (xs ys : List ℕ) → byte_sum (xs ++ ys) ≡ byte_sum xs + byte_sum ys
unfolding byte_sum
byte_sum-append [] ys = omega arith
byte_sum-append (x ∷ xs) ys = omega (arith, byte_sum-append xs ys)

-- the sum of one byte more
pub byte_sum-turn : (text : List ℕ) (i : ℕ) → i < length text → byte_sum (take (i + 1) text) ≡ byte_sum (take i text) + get_or text i 0
unfolding byte_sum
byte_sum-turn text i h =
    rw (add-one, take-suc text i 0)
    (byte_sum-append (take i text) (get_or text i 0 ∷ []) ∙ omega arith)

-- the sign by the test `z < 0`
pub sign_below : (z : ℤ) → lt_z z (pos 0) ≡ true → 45 ≡ sign z
unfolding sign
sign_below (pos n) e = absurd (not-suc-le-zero (ltb-true n 0 e))
sign_below (negsuc n) e = refl

pub sign_above : (z : ℤ) → lt_z z (pos 0) ≡ false → 43 ≡ sign z
unfolding sign
sign_above (pos n) e = refl
sign_above (negsuc n) e = absurd (true≢false e)

-- an empty part takes no sign and no digit
pub empty-signed : (out : List ℕ) (z : ℤ) → length out ≤ 0 → out ≡ signed (length out) z
unfolding signed
empty-signed [] z h = refl
empty-signed (o ∷ out) z h = absurd (not-suc-le-zero h)

-- ---- read back

-- a digit more at the end
digit-after : (before : ℕ) (xs : List ℕ) (b : ℕ) → digits_from before (xs ++ b ∷ []) ≡ 10 * digits_from before xs + (b - 48)
unfolding digits_from
digit-after before [] b = refl
digit-after before (x ∷ xs) b = digit-after (10 * before + (x - 48)) xs b

-- a number that has no more digits than columns is read back
pub read-decimal : (columns n : ℕ) → n < 10 ^ columns → read_decimal (decimal columns n) ≡ n
unfolding read_decimal decimal digits_from
read-decimal zero n h = omega arith
read-decimal (suc columns) n h =
    digit-after 0 (decimal columns (n / 10)) (48 + n % 10)
    ∙ omega (arith, read-decimal columns (n / 10) (fewer n (10 ^ columns) (simp pow-suc at h)))
  where
    fewer : (n k : ℕ) → n < k * 10 → n / 10 < k
    fewer n k h = omega arith

-- so is a signed number, its sign taking the first column
pub read-signed : (columns : ℕ) (z : ℤ) → nat_abs z < 10 ^ columns → read_signed (signed (suc columns) z) ≡ z
unfolding read_signed signed sign
read-signed columns (pos n) h = ap pos (read-decimal columns n h)
read-signed columns (negsuc n) h = ap (λ (k : ℕ). neg_ℤ (pos k)) (read-decimal columns (suc n) h)

read-digit : (n : ℕ) → read_digit (hex_digit_lem n) ≡ n % 16
unfolding read_digit hex_digit_lem
read-digit n = elim (ltb (n % 16) 10) as (λ t. ltb (n % 16) 10 ≡ t → read_digit (hex_digit_lem n) ≡ n % 16) [
  | true ↦ λ e. simp (e, lt-leb 65 (48 + n % 16) (omega (arith, ltb-true (n % 16) 10 e))) (omega arith)
  | false ↦ λ e. simp (e, le-leb 65 (65 + n % 16 - 10) (omega (arith, ltb-false (n % 16) 10 e))) (omega (arith, ltb-false (n % 16) 10 e))
] refl

-- a byte is read back from its two digits
pub read-hexadecimal : (n : ℕ) → n < 256 → read_hexadecimal (hexadecimal n) ≡ n
unfolding read_hexadecimal hexadecimal
read-hexadecimal n h = omega (arith, read-digit (n / 16), read-digit n)
