-- What the test `z < 0` tells of a signed number: its magnitude by machine steps, -1 - z and one more, and that any other number is cast as it is.
-- Assumes nothing.
use mathlib.Core.Path.{◌≡◌}
use mathlib.Core.Bool.{true, false, true≢false}
use Prim.Native.Nat.{ℕ, ◌+◌, ◌^◌, ◌<◌}
use native.Mathlib.Nat.{not-suc-le-zero}
use native.Mathlib.Omega.{arith}
use lib.IntN.{ℤ, pos, negsuc, nat_abs}
use lib.Signed.{lt_z, non_neg, mag}
use lib.Dec.{T}
use borrow.Author.Tests.{ltb-true}
use mir.Syntax.{w64}
use mir.Val.{Fits, SFits}

pub magnitude-below : (z : ℤ) → lt_z z (pos 0) ≡ true → mag z + 1 ≡ nat_abs z
magnitude-below (pos n) e = absurd (not-suc-le-zero (ltb-true n 0 e))
magnitude-below (negsuc n) e = omega arith

pub cast-above : (z : ℤ) → SFits w64 z → lt_z z (pos 0) ≡ false → T (non_neg z) × Fits w64 (nat_abs z)
cast-above (pos n) f e = (tt, fits-half n f.sfits)
  where
    fits-half : (n : ℕ) → n < 2 ^ 63 → Fits w64 n
    fits-half n h = omega arith
cast-above (negsuc n) f e = absurd (true≢false e)
