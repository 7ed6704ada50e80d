-- Hexadecimal digits as numbers and back.
-- Assumes nothing.
use mathlib.Core.Path.{◌≡◌, ap₂, ◌∙◌}
use mathlib.Core.Logic.{◌⊎◌, inl, inr}
use mathlib.Core.List.{[], ◌∷◌}
use Prim.Native.Nat.{ℕ, ◌+◌, ◌*◌, ◌-◌, ◌/◌, ◌%◌, ◌≤◌, ◌<◌}
use native.Mathlib.Omega.{arith}
use borrow.Author.Tests.{le-leb, lt-leb, lt-ltb, le-ltb}
use Rattle.fields.specs.Text.{hex_digit_lem, hexadecimal}
use Rattle.fields.specs.Read.{read_digit, read_hexadecimal}
use Rattle.fields.proofs.Decimals.{Digit}

-- A hexadecimal digit is one of 0 to 9 or one of A to F.
abbrev pub HexDigit : ℕ → Type 0
HexDigit b = Digit b ⊎ ((65 ≤ b) × (b ≤ 70))

pub hex-least : (b : ℕ) → HexDigit b → 48 ≤ b
hex-least b (inl r) = r.0
hex-least b (inr r) = omega (arith, r.0)

pub letter-value : (b : ℕ) → 65 ≤ b → read_digit b ≡ b - 65 + 10
unfolding read_digit
letter-value b h = simp (le-leb 65 b h)

pub figure-value : (b : ℕ) → b < 65 → read_digit b ≡ b - 48
unfolding read_digit
figure-value b h = simp (lt-leb 65 b h)

pub hex-below : (b : ℕ) → HexDigit b → read_digit b < 16
hex-below b (inl r) = omega (arith, r, figure-value b (less r))
  where
    less : Digit b → b < 65
    less r = omega arith
hex-below b (inr r) = omega (arith, r, letter-value b r.0)

-- ---- written with the digits that it was read from

write-digit : (b n : ℕ) → HexDigit b → n % 16 ≡ read_digit b → hex_digit_lem n ≡ b
unfolding hex_digit_lem
write-digit b n (inl r) k =
    let v : n % 16 ≡ b - 48 = k ∙ figure-value b (omega arith) in
    simp (v, lt-ltb (b - 48) 10 (omega arith)) (omega arith)
write-digit b n (inr r) k =
    let v : n % 16 ≡ b - 65 + 10 = k ∙ letter-value b r.0 in
    simp (v, le-ltb (b - 65 + 10) 10 (omega arith)) (omega arith)

pub write-hexadecimal : (a b : ℕ) → HexDigit a → HexDigit b → hexadecimal (read_hexadecimal (a ∷ b ∷ [])) ≡ a ∷ b ∷ []
unfolding hexadecimal read_hexadecimal
write-hexadecimal a b e f =
    ap₂ (λ (x y : ℕ). x ∷ y ∷ [])
    (write-digit a ((16 * read_digit a + read_digit b) / 16) e (high (read_digit a) (read_digit b) (hex-below a e) (hex-below b f)))
    (write-digit b (16 * read_digit a + read_digit b) f (low (read_digit a) (read_digit b) (hex-below b f)))
  where
    high : (x y : ℕ) → x < 16 → y < 16 → (16 * x + y) / 16 % 16 ≡ x
    high x y h k = omega arith

    low : (x y : ℕ) → y < 16 → (16 * x + y) % 16 ≡ y
    low x y k = omega arith
