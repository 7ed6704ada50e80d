-- Numbers read from text (document 02, Job 1): what a reader of the columns takes the digits for. Nothing here comes from the writer's definitions.
-- Assumes nothing.
use Rattle.std.specs.Prelude.{ℕ, ◌+◌, ◌*◌, ◌-◌, cond, List, [], ◌∷◌, eqb, leb, get_or, ℤ, pos, neg_ℤ}
use Prim.Native.Char.{code}

-- Each further digit makes ten of what was read before it.
unfoldable pub digits_from : ℕ → List ℕ → ℕ
digits_from before [] = before
digits_from before (b ∷ bs) = digits_from (10 * before + (b - code "0")) bs

unfoldable pub read_decimal : List ℕ → ℕ
read_decimal text = digits_from 0 text

-- A minus in the first column makes the number negative.
unfoldable pub read_signed : List ℕ → ℤ
read_signed [] = pos 0
read_signed (b ∷ bs) = cond (eqb b (code "-")) (neg_ℤ (pos (read_decimal bs))) (pos (read_decimal bs))

-- A hexadecimal digit, capital letters standing for ten and above, and a byte of two.
unfoldable pub read_digit : ℕ → ℕ
read_digit b = cond (leb (code "A") b) (b - code "A" + 10) (b - code "0")

unfoldable pub read_hexadecimal : List ℕ → ℕ
read_hexadecimal text = 16 * read_digit (get_or text 0 0) + read_digit (get_or text 1 0)
