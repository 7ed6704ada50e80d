-- Numbers as bytes (document 02, Job 9: little-endian, and signed 64-bit in two's complement). Laws `unsigned_bytes` and `signed-bytes` of
-- proofs/RoundTrip.antt say that they read back.
-- Assumes nothing.
use Rattle.std.specs.Prelude.{ℕ, zero, suc, ◌-◌, ◌/◌, ◌%◌, ◌^◌, List, [], ◌∷◌, ℤ, pos, negsuc}

-- So many bytes of a number, the lowest first. Higher ones are dropped.
unfoldable pub little_bytes : (width : ℕ) → ℕ → List ℕ
little_bytes zero n = []
little_bytes (suc width) n = n % 256 ∷ little_bytes width (n / 256)

-- The 64-bit pattern of a signed number: below 0 it is the number plus 2^64.
unfoldable pub pattern_of : ℤ → ℕ
pattern_of (pos n) = n
pattern_of (negsuc n) = 2 ^ 64 - 1 - n
