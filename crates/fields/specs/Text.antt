-- Numbers as text, in bytes (document 01, "The line's columns"). Decimals are filled with zeros on the left; a number with more digits
-- than columns loses its high digits, so a writer refuses it before.
-- Assumes nothing.
use Rattle.std.specs.Prelude.{ℕ, zero, suc, ◌+◌, ◌-◌, ◌/◌, ◌%◌, cond, List, [], ◌∷◌, ◌++◌, ltb, ℤ, pos, negsuc, nat_abs}
use Prim.Native.Char.{code}
use Prim.Native.String.{String, [] as []ˢ, ◌∷◌ as ◌∷ˢ◌}

-- The bytes of a text of plain characters.
unfoldable pub bytes_of : String → List ℕ
bytes_of []ˢ = []
bytes_of (c ∷ˢ s) = code c ∷ bytes_of s

-- The last `columns` decimal digits of n.
unfoldable pub decimal : (columns n : ℕ) → List ℕ
decimal zero n = []
decimal (suc columns) n = decimal columns (n / 10) ++ (code "0" + n % 10) ∷ []

-- A plus for 0 and above, a minus below 0.
unfoldable pub sign : ℤ → ℕ
sign (pos n) = code "+"
sign (negsuc n) = code "-"

-- A signed field: the sign in its first column, the digits in the others.
unfoldable pub signed : (columns : ℕ) → ℤ → List ℕ
signed zero z = []
signed (suc columns) z = sign z ∷ decimal columns (nat_abs z)

-- The last hexadecimal digit of n, a capital letter from ten on.
unfoldable pub hex_digit_lem : ℕ → ℕ
hex_digit_lem n = cond (ltb (n % 16) 10) (code "0" + n % 16) (code "A" + n % 16 - 10)

-- A byte as two hexadecimal digits.
unfoldable pub hexadecimal : ℕ → List ℕ
hexadecimal n = hex_digit_lem (n / 16) ∷ hex_digit_lem n ∷ []

-- The sum of bytes, and the checksum, which is that sum modulo 256.
unfoldable pub byte_sum : List ℕ → ℕ
byte_sum [] = 0
byte_sum (b ∷ bs) = b + byte_sum bs

unfoldable pub checksum : List ℕ → ℕ
checksum text = byte_sum text % 256
