-- What is written as bytes reads back (specs/Encode.antt, and specs/Number.antt of decode): decoding is the other way of encoding.
-- Assumes nothing.
use mathlib.Core.Path.{◌≡◌, sym, ap, ap₂, ◌∙◌}
use mathlib.Core.Bool.{Bool, cond}
use mathlib.Core.List.{List}
use Prim.Native.Nat.{ℕ, zero, suc, ◌+◌, ◌-◌, ◌/◌, ◌^◌, ◌<◌}
use native.Mathlib.Omega.{arith}
use lib.IntN.{ℤ, pos, negsuc}
use lib.ListN.{length}
use lib.Seq.{take_all}
use borrow.Author.Tests.{le-leb}
use mir.Syntax.{w64}
use mir.Val.{SFits}
use Rattle.decode.specs.Number.{little, unsigned_at, twos_complement_lem, signed_at_lem}
use Rattle.decode.proofs.Little.{lower-half, upper-half}
use Rattle.encode.specs.Encode.{little_bytes, pattern_of}
use Rattle.encode.proofs.Bytes.{length-bytes}

pub little-bytes : (width n : ℕ) → n < 256 ^ width → little (little_bytes width n) ≡ n
unfolding little_bytes little
little-bytes zero n h = omega arith
little-bytes (suc width) n h = omega (arith, little-bytes width (n / 256) (less h))
  where
    less : n < 256 ^ suc width → n / 256 < 256 ^ width
    less h = omega arith

pub pattern-fits : (z : ℤ) → SFits w64 z → pattern_of z < 2 ^ 64
unfolding pattern_of
pattern-fits (pos n) f = omega (arith, f.sfits)
pattern-fits (negsuc n) f = omega (arith, f.sfits)

pub pattern-back : (z : ℤ) → SFits w64 z → twos_complement_lem (pattern_of z) ≡ z
unfolding pattern_of
pattern-back (pos n) f = sym (lower-half n f.sfits)
pattern-back (negsuc n) f = sym (upper-half (2 ^ 64 - 1 - n) (omega (arith, f.sfits))) ∙ ap negsuc (omega (arith, f.sfits))

-- an unsigned number that fits its bytes, and a signed one of 64 bits
pub unsigned_bytes : (width n : ℕ) → n < 256 ^ width → unsigned_at width (little_bytes width n) 0 ≡ n
unfolding unsigned_at
unsigned_bytes width n h =
    ap₂ (λ (lies : Bool) (text : List ℕ). cond lies (little text) 0)
    (le-leb (0 + width) (length (little_bytes width n)) (omega (arith, length-bytes width n)))
    (take_all width (little_bytes width n) (omega (arith, length-bytes width n)))
    ∙ little-bytes width n h

pub signed-bytes : (z : ℤ) → SFits w64 z → signed_at_lem (little_bytes 8 (pattern_of z)) 0 ≡ z
unfolding signed_at_lem
signed-bytes z f = ap twos_complement_lem (unsigned_bytes 8 (pattern_of z) (pattern-fits z f)) ∙ pattern-back z f
