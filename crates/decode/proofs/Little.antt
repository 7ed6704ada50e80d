-- Little-endian numbers from their bytes and in halves, numbers that do not lie within the bytes, and std's numbers.
-- Assumes nothing.
use mathlib.Core.Path.{◌≡◌, sym, ap, ◌∙◌}
use mathlib.Core.Bool.{true, false, cond}
use mathlib.Core.List.{List, [], ◌∷◌, ◌++◌}
use mathlib.Core.Logic.{⊎_elim}
use Prim.Native.Nat.{ℕ, zero, suc, ◌+◌, ◌*◌, ◌-◌, ◌^◌, ◌≤◌, ◌<◌}
use native.Mathlib.Nat.{le_of_eq, pow-suc}
use native.Mathlib.Omega.{arith}
use lib.ListN.{length, take, drop, get_or, replicate, length-drop, drop_of_length-le}
use lib.Seq.{take-add, take_all, drop-drop, drop-cons, get_or-take, get_or-drop, length-take-le}
use lib.Dec.{leb, ltb, lit<}
use lib.IntN.{pos, negsuc}
use borrow.Author.Tests.{lt-leb, lt-ltb, le-ltb}
use mir.Syntax.{w16, w32, w64}
use mir.Val.{to_z}
use Rattle.std.specs.Int.{from_le_bytes}
use Rattle.std.proofs.lemmas.Bool.{cases_lt}
use Rattle.decode.specs.Number.{little, unsigned_at, twos_complement_lem}

-- ---- a number from its bytes, the lowest first

module _ (bytes : List ℕ) where
  first : (i n : ℕ) → length bytes ≡ n → i < n → little (drop i bytes) ≡ get_or bytes i 0 + 256 * little (drop (suc i) bytes)
  unfolding little
  first i n e h = ap little (drop-cons bytes i 0 (omega (arith, e)))

  none : (n : ℕ) → length bytes ≡ n → little (drop n bytes) ≡ 0
  unfolding little
  none n e = ap little (drop_of_length-le bytes (le_of_eq e))

  pub two : length bytes ≡ 2 → from_le_bytes w16 bytes ≡ little bytes
  two e = omega (arith, first 0 2 e (lit< tt), first 1 2 e (lit< tt), none 2 e)

-- bytes of 0
pub little-none : (n : ℕ) → little (replicate n 0) ≡ 0
unfolding little
little-none zero = λ i. 0
little-none (suc n) = ap (λ (k : ℕ). 0 + 256 * k) (little-none n)

-- ---- a number of two halves

little-append : (xs ys : List ℕ) → little (xs ++ ys) ≡ little xs + 256 ^ length xs * little ys
unfolding little
little-append [] ys = omega arith
little-append (x ∷ xs) ys = simp pow-suc (omega (arith, little-append xs ys))

pub halves : (n at : ℕ) (bytes : List ℕ) → at + (n + n) ≤ length bytes
    → little (take (n + n) (drop at bytes)) ≡ little (take n (drop at bytes)) + 256 ^ n * little (take n (drop (at + n) bytes))
halves n at bytes h =
    ap little (take-add n n (drop at bytes))
    ∙ little-append (take n (drop at bytes)) (take n (drop n (drop at bytes)))
    ∙ rw (length-take-le n (drop at bytes) (rest n at (length bytes) (length (drop at bytes)) (length-drop at bytes) h), drop-drop n at bytes)
  where
    rest : (n at m k : ℕ) → k ≡ m - at → at + (n + n) ≤ m → n ≤ k
    rest n at m k e h = omega arith

-- ---- std's number of four and of eight bytes, by its two halves

-- the halves of a list of bytes are as long as each other, and the number is theirs
module _ (bytes : List ℕ) (n : ℕ) (e : length bytes ≡ n + n) where
  lower-long : length (take n bytes) ≡ n
  lower-long = length-take-le n bytes (omega arith)

  upper-long : length (take n (drop n bytes)) ≡ n
  upper-long = length-take-le n (drop n bytes) (rw (length-drop n bytes) (omega arith))

  of-halves : little bytes ≡ little (take n bytes) + 256 ^ n * little (take n (drop (0 + n) bytes))
  of-halves = ap little (sym (take_all (n + n) bytes (le_of_eq e))) ∙ halves n 0 bytes (omega (arith, e))

-- a byte of each half
module _ (bytes : List ℕ) (n i : ℕ) (h : i < n) where
  lower-byte : get_or (take n bytes) i 0 ≡ get_or bytes i 0
  lower-byte = get_or-take n bytes i 0 h

  upper-byte : get_or (take n (drop n bytes)) i 0 ≡ get_or bytes (n + i) 0
  upper-byte = get_or-take n (drop n bytes) i 0 h ∙ get_or-drop n bytes i 0

pub four : (bytes : List ℕ) → length bytes ≡ 4 → from_le_bytes w32 bytes ≡ little bytes
four bytes e =
    omega (
      arith,
      of-halves bytes 2 e,
      two (take 2 bytes) (lower-long bytes 2 e),
      two (take 2 (drop 2 bytes)) (upper-long bytes 2 e),
      lower-byte bytes 2 0 (lit< tt),
      lower-byte bytes 2 1 (lit< tt),
      upper-byte bytes 2 0 (lit< tt),
      upper-byte bytes 2 1 (lit< tt),
    )

pub eight : (bytes : List ℕ) → length bytes ≡ 8 → from_le_bytes w64 bytes ≡ little bytes
eight bytes e =
    omega (
      arith,
      of-halves bytes 4 e,
      four (take 4 bytes) (lower-long bytes 4 e),
      four (take 4 (drop 4 bytes)) (upper-long bytes 4 e),
      lower-byte bytes 4 0 (lit< tt),
      lower-byte bytes 4 1 (lit< tt),
      lower-byte bytes 4 2 (lit< tt),
      lower-byte bytes 4 3 (lit< tt),
      upper-byte bytes 4 0 (lit< tt),
      upper-byte bytes 4 1 (lit< tt),
      upper-byte bytes 4 2 (lit< tt),
      upper-byte bytes 4 3 (lit< tt),
    )

-- ---- whether a number lies within the bytes

pub lies-not : (at width end : ℕ) → end < at → leb at end ≡ leb (at + width) end
lies-not at width end h = lt-leb at end h ∙ sym (lt-leb (at + width) end (omega arith))

-- a number that lies within the bytes, and one that does not
pub unsigned-inside : (width at : ℕ) (bytes : List ℕ) → leb (at + width) (length bytes) ≡ true → little (take width (drop at bytes)) ≡ unsigned_at width bytes at
unfolding unsigned_at
unsigned-inside width at bytes e = simp e

pub unsigned-outside : (width at : ℕ) (bytes : List ℕ) → leb (at + width) (length bytes) ≡ false → 0 ≡ unsigned_at width bytes at
unfolding unsigned_at
unsigned-outside width at bytes e = simp e

-- ---- two's complement

pub lower-half : (n : ℕ) → n < 2 ^ 63 → pos n ≡ twos_complement_lem n
unfolding twos_complement_lem
lower-half n h = simp (lt-ltb n (2 ^ 63) h)

pub upper-half : (n : ℕ) → 2 ^ 63 ≤ n → negsuc (2 ^ 64 - 1 - n) ≡ twos_complement_lem n
unfolding twos_complement_lem
upper-half n h = simp (le-ltb n (2 ^ 63) h)

-- std's signed number of a pattern is that of its half
pub signed_is : (n : ℕ) → to_z w64 n ≡ twos_complement_lem n
signed_is n = ⊎_elim lower upper (cases_lt n (2 ^ 63))
  where
    lower : n < 2 ^ 63 → to_z w64 n ≡ twos_complement_lem n
    lower h = simp (lt-ltb n (2 ^ 63) h) (lower-half n h)

    upper : 2 ^ 63 ≤ n → to_z w64 n ≡ twos_complement_lem n
    upper h = simp (le-ltb n (2 ^ 63) h) (ap negsuc (omega arith) ∙ upper-half n h)
