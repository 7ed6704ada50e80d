-- Laws of the track length (specs/Labels.antt).
-- Assumes nothing.
use mathlib.Core.Path.{◌≡◌, refl, sym, ap₂, ◌∙◌, subst}
use mathlib.Core.Bool.{Bool, true, false, not, ◌&&◌, ◌||◌, and-false, false≢true}
use Prim.Native.Nat.{ℕ, ◌/◌, ◌%◌, ◌≤◌}
use native.Mathlib.Omega.{arith}
use lib.Dec.{T, leb, ltb, eqb, leb→le, eqb→eq}
use lib.IntN.{ℤ, pos, negsuc, nat_abs}
use mir.Facts.{and_yes}
use borrow.Author.Tests.{le-leb, lt-leb, ltb-true, ltb-false, eqb-true}
use Rattle.limits.specs.Limits.{outside}
use Rattle.limits.specs.Blocks.{blocks_fit_lem}
use Rattle.labels.specs.Labels.{track_length_fits_lem}

-- ---- by the seconds

not-or : (a b : Bool) → not (a || b) ≡ not a && not b
not-or true b = refl
not-or false b = refl

-- whole blocks are from 4 to 52 where their seconds are from 60 to 780
module _ (s : ℕ) (whole : s % 15 ≡ 0) where
  fewest : not (ltb s 60) ≡ leb 4 (s / 15)
  fewest = elim (ltb s 60) as (λ t. ltb s 60 ≡ t → not t ≡ leb 4 (s / 15)) [
    | true ↦ λ e. let h = ltb-true s 60 e in sym (lt-leb 4 (s / 15) (omega arith))
    | false ↦ λ e. let h = ltb-false s 60 e in sym (le-leb 4 (s / 15) (omega arith))
  ] refl

  most : not (ltb 780 s) ≡ leb (s / 15) 52
  most = elim (ltb 780 s) as (λ t. ltb 780 s ≡ t → not t ≡ leb (s / 15) 52) [
    | true ↦ λ e. let h = ltb-true 780 s e in sym (lt-leb (s / 15) 52 (omega arith))
    | false ↦ λ e. let h = ltb-false 780 s e in sym (le-leb (s / 15) 52 (omega arith))
  ] refl

  blocks-by-seconds : not (ltb s 60 || ltb 780 s) ≡ blocks_fit_lem (s / 15)
  unfolding blocks_fit_lem
  blocks-by-seconds = not-or (ltb s 60) (ltb 780 s) ∙ ap₂ ◌&&◌ fewest most

pub by-seconds : (z : ℤ) → eqb (nat_abs z % 15) 0 && not (outside (pos 60) (pos 780) z) ≡ track_length_fits_lem z
unfolding outside track_length_fits_lem
by-seconds (pos s) = elim (eqb (s % 15) 0) as (λ t. eqb (s % 15) 0 ≡ t → t && not (ltb s 60 || ltb 780 s) ≡ t && blocks_fit_lem (s / 15)) [
  | true ↦ λ e. blocks-by-seconds s (eqb-true (s % 15) 0 e)
  | false ↦ λ e. refl
] refl
by-seconds (negsuc s) = and-false (eqb (nat_abs (negsuc s) % 15) 0)

-- ---- what it tells that a track length fits

-- It is from 60 s to 780 s, so it has at most four digits.
pub length-within : (z : ℤ) → track_length_fits_lem z ≡ true → (pos (nat_abs z) ≡ z) × (60 ≤ nat_abs z) × (nat_abs z ≤ 780)
unfolding track_length_fits_lem blocks_fit_lem
length-within (pos s) e =
    let f = and_yes (eqb (s % 15) 0) (leb 4 (s / 15) && leb (s / 15) 52) (subst T (sym e) tt) in
    let n = and_yes (leb 4 (s / 15)) (leb (s / 15) 52) f.1 in
    let r = eqb→eq (s % 15) 0 f.0 in
    let low = leb→le 4 (s / 15) n.0 in
    let high = leb→le (s / 15) 52 n.1 in
    (refl, omega (arith, r, low, high), omega (arith, r, low, high))
length-within (negsuc s) e = absurd (false≢true e)
