-- Numbers in bytes (document 01, "The hire block": little-endian, and signed 64-bit in two's complement). A number that does not lie
-- whole within the bytes is 0.
-- Assumes nothing.
use Rattle.std.specs.Prelude.{ℕ, zero, suc, ◌+◌, ◌*◌, ◌-◌, ◌^◌, cond, List, [], ◌∷◌, length, take, drop, leb, ltb, ℤ, pos, negsuc}

-- The number that bytes stand for, the lowest first.
unfoldable pub little : List ℕ → ℕ
little [] = 0
little (b ∷ bs) = b + 256 * little bs

-- The unsigned number of so many bytes at an offset.
unfoldable pub unsigned_at : (width : ℕ) (bytes : List ℕ) (at : ℕ) → ℕ
unsigned_at width bytes at = cond (leb (at + width) (length bytes)) (little (take width (drop at bytes))) 0

-- A 64-bit pattern as a signed number: from 2^63 on it stands for the number less 2^64.
unfoldable pub twos_complement_lem : ℕ → ℤ
twos_complement_lem n = cond (ltb n (2 ^ 63)) (pos n) (negsuc (2 ^ 64 - 1 - n))

-- The signed 64-bit number at an offset.
unfoldable pub signed_at_lem : (bytes : List ℕ) (at : ℕ) → ℤ
signed_at_lem bytes at = twos_complement_lem (unsigned_at 8 bytes at)

-- So many signed numbers, the first at an offset and each a stride behind the one before.
unfoldable pub signeds_at : (bytes : List ℕ) (at stride count : ℕ) → List ℤ
signeds_at bytes at stride zero = []
signeds_at bytes at stride (suc count) = signed_at_lem bytes at ∷ signeds_at bytes (at + stride) stride count
