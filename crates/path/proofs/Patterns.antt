-- Bit patterns of floats, for the first guess at a root.
-- Assumes nothing.
use mathlib.Core.Path.{◌≡◌, refl, sym, ◌∙◌, subst}
use mathlib.Core.Bool.{Bool, true, false, not, true≢false}
use Prim.Native.Nat.{ℕ, ◌%◌, ◌<◌}
use native.Mathlib.Omega.{arith}
use lib.Dec.{T}
use lib.Ieee.{Float, nan, inf, fin, binary64, le, is_nan, nan_bits}
use lib.Ieee.Bits.{nan_bits_above}
use borrow.Author.Tests.{le-ltb}

never : (x : Float) → le x nan ≡ false
unfolding le
never nan = refl
never (inf s) = refl
never (fin s m e) = refl

-- what passes a test against another float is no NaN
pub no-nan-above : (x y : Float) → le x y ≡ true → T (not (is_nan y))
unfolding is_nan
no-nan-above x nan h = true≢false (sym h ∙ never x)
no-nan-above x (inf s) h = tt
no-nan-above x (fin s m e) h = tt

-- a pattern below that of infinity is no NaN's
pub low-pattern : (n : ℕ) → n < 9218868437227405312 → T (not (nan_bits binary64 n))
low-pattern n h =
    subst (λ (t : Bool). T (not t)) (sym (nan_bits_above binary64 n ∙ le-ltb 9218868437227405312 (n % 9223372036854775808) (omega arith))) tt
