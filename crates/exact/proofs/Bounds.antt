-- What rounding can do: n whole values v, counted in steps of which a picosecond has s, are each within half a step of exact values Y / e, and
-- midpoint, slope and residuals are rounded to the nearest whole number again. How far are they from the exact figures?
-- Document 01 has n = 52 and s = 1. Each bound is one theorem for all four fits.
-- Assumes nothing.
use Rattle.std.specs.Prelude.{◌≡◌, refl, [], ◌∷◌, ℕ, ◌≤◌, ◌<◌, ℤ, pos, ◌+ℤ◌, ◌-ℤ◌, ◌*ℤ◌}
use Rattle.std.proofs.Common.{sym, ap, ◌∙◌, subst, arith}
use Rattle.whole.specs.Square.{magnitude}
use Rattle.whole.specs.Sum.{sum}
use Rattle.whole.proofs.Identity.{identity, quote}
use Rattle.whole.specs.Order.{◌⩽◌, ◌⋖◌}
use Rattle.whole.proofs.Order.{le_trans, le_of_eq, le_of_lt, pos-lt, zero-le-pos, mul-nonneg, mul-pos, mul-le}
use Rattle.whole.proofs.Magnitudes.{magnitude-mul, magnitude-nonneg, magnitude-combined}
use Rattle.whole.proofs.Sums.{sum-eq, sums-le, sums, sum-scale, magnitude-sum, magnitude-sum-le}
use Rattle.exact.specs.Line.{LeastLine}
use Rattle.exact.specs.Weights.{place}
use Rattle.exact.proofs.Places.{span, sum-magnitude-place}
use Rattle.exact.proofs.Fitting.{midpoint-exact, slope-exact}

-- twice the difference of v and Y / e, times e
abbrev pub gap : (ℕ → ℤ) → (ℕ → ℤ) → ℤ → ℕ → ℤ
gap v Y e j = pos 2 *ℤ e *ℤ v j -ℤ pos 2 *ℤ Y j

-- the gaps summed, and summed with the places for weights
module _ (n : ℕ) (v Y : ℕ → ℤ) (e : ℤ) where
  pub sum-gap : sum n (gap v Y e) ≡ pos 2 *ℤ e *ℤ sum n v -ℤ pos 2 *ℤ sum n Y
  sum-gap = sum-eq n (search sums depth 12) (λ j k. refl)

  pub moment-gap : sum n (λ j. place n j *ℤ gap v Y e j)
      ≡ pos 2 *ℤ e *ℤ sum n (λ j. place n j *ℤ v j) -ℤ pos 2 *ℤ sum n (λ j. place n j *ℤ Y j)
  moment-gap =
      sum-eq n (search sums depth 12)
      (λ j k. identity (e ∷ place n j ∷ v j ∷ Y j ∷ []) (search quote depth 20 fits 4000) tt)

-- each v is within half a step of Y / e
abbrev pub Near : ℕ → (ℕ → ℤ) → (ℕ → ℤ) → ℤ → Type 0
Near n v Y e = (j : ℕ) → j < n → magnitude (gap v Y e j) ⩽ e

-- a number r is within half of the fraction a / b
abbrev pub Rounded : ℤ → ℤ → ℤ → Type 0
Rounded r a b = magnitude (pos 2 *ℤ b *ℤ r -ℤ pos 2 *ℤ a) ⩽ b

module _ (s n : ℕ) (v : ℕ → ℤ) {Y : ℕ → ℤ} {e P Q d : ℤ} (h : 2 ≤ n) (e-pos : pos 0 ⋖ e) (near : Near n v Y e) (l : LeastLine n Y e P Q d) where
  one : 1 ≤ n
  one = omega arith

  d-pos : pos 0 ⋖ d
  d-pos = l.positive

  -- ---- the midpoint: half a unit, and half a step for the mean of the values

  sum_near : magnitude (pos 2 *ℤ e *ℤ sum n v -ℤ pos 2 *ℤ sum n Y) ⩽ pos n *ℤ e
  sum_near = subst (λ (z : ℤ). magnitude z ⩽ pos n *ℤ e) (sum-gap n v Y e) (magnitude-sum-le n (gap v Y e) near)

  -- of 100 s steps in a unit: |r - P / 100sd| is at most (100s + 1) / 200s
  pub midpoint-bound : (r : ℤ) → Rounded r (sum n v) (pos 100 *ℤ pos s *ℤ pos n)
      → magnitude (pos 2 *ℤ (pos 100 *ℤ pos s *ℤ d *ℤ r -ℤ P)) ⩽ (pos 100 *ℤ pos s +ℤ pos 1) *ℤ d
  midpoint-bound r rounded =
      magnitude-combined _ _ _ (e *ℤ pos n) (e *ℤ d) d (mul-pos e-pos (pos-lt one)) (le_of_lt (mul-pos e-pos d-pos)) (le_of_lt d-pos)
      (before e (pos n) (pos s) d r P ∙ ap (λ (z : ℤ). pos 200 *ℤ e *ℤ d *ℤ pos s *ℤ pos n *ℤ r -ℤ pos 2 *ℤ z) (sym (midpoint-exact one e-pos l))
      ∙ after e (pos n) (pos s) d r (sum n v) (sum n Y))
      rounded sum_near (le_of_eq (added e (pos n) (pos s) d))
    where
      before : (e n s d r P : ℤ)
          → e *ℤ n *ℤ (pos 2 *ℤ (pos 100 *ℤ s *ℤ d *ℤ r -ℤ P)) ≡ pos 200 *ℤ e *ℤ d *ℤ s *ℤ n *ℤ r -ℤ pos 2 *ℤ (e *ℤ n *ℤ P)
      before e n s d r P = identity (e ∷ n ∷ s ∷ d ∷ r ∷ P ∷ []) (search quote depth 30 fits 8000) tt

      after : (e n s d r S S' : ℤ)
          → pos 200 *ℤ e *ℤ d *ℤ s *ℤ n *ℤ r -ℤ pos 2 *ℤ (d *ℤ S')
          ≡ e *ℤ d *ℤ (pos 2 *ℤ (pos 100 *ℤ s *ℤ n) *ℤ r -ℤ pos 2 *ℤ S) +ℤ d *ℤ (pos 2 *ℤ e *ℤ S -ℤ pos 2 *ℤ S')
      after e n s d r S S' = identity (e ∷ n ∷ s ∷ d ∷ r ∷ S ∷ S' ∷ []) (search quote depth 30 fits 8000) tt

      added : (e n s d : ℤ)
          → e *ℤ d *ℤ (pos 100 *ℤ s *ℤ n) +ℤ d *ℤ (n *ℤ e) ≡ e *ℤ n *ℤ ((pos 100 *ℤ s +ℤ pos 1) *ℤ d)
      added e n s d = identity (e ∷ n ∷ s ∷ d ∷ []) (search quote depth 30 fits 8000) tt

  -- ---- the slope: half a unit, and what half a step at each value can tilt the line

  moment-near : magnitude (pos 2 *ℤ (pos 2 *ℤ e *ℤ sum n (λ j. place n j *ℤ v j) -ℤ pos 2 *ℤ sum n (λ j. place n j *ℤ Y j)))
      ⩽ e *ℤ (pos n *ℤ pos n)
  moment-near =
      le_trans
      (subst (λ (z : ℤ). magnitude z ⩽ sum n (λ j. magnitude (pos 2 *ℤ (place n j *ℤ gap v Y e j)))) collected
      (magnitude-sum n (λ j. pos 2 *ℤ (place n j *ℤ gap v Y e j))))
      (le_trans (sums-le n (search sums depth 12) term)
      (subst (λ (z : ℤ). z ⩽ e *ℤ (pos n *ℤ pos n)) (reordered e (sum n (λ j. magnitude (place n j))))
      (mul-le e (le_of_lt e-pos) (sum-magnitude-place n))))
    where
      collected : sum n (λ j. pos 2 *ℤ (place n j *ℤ gap v Y e j))
          ≡ pos 2 *ℤ (pos 2 *ℤ e *ℤ sum n (λ j. place n j *ℤ v j) -ℤ pos 2 *ℤ sum n (λ j. place n j *ℤ Y j))
      collected = sym (sum-scale n (pos 2) (λ j. place n j *ℤ gap v Y e j)) ∙ ap (λ (z : ℤ). pos 2 *ℤ z) (moment-gap n v Y e)

      reordered : (e u : ℤ) → e *ℤ (pos 2 *ℤ u) ≡ pos 2 *ℤ e *ℤ u
      reordered e u = identity (e ∷ u ∷ []) (search quote depth 20) tt

      term : (j : ℕ) → j < n
          → magnitude (pos 2 *ℤ (place n j *ℤ gap v Y e j)) ⩽ pos 2 *ℤ e *ℤ magnitude (place n j)
      term j k =
          le_trans
          (le_of_eq (magnitude-mul (pos 2) (place n j *ℤ gap v Y e j) ∙ ap (λ (z : ℤ). pos 2 *ℤ z) (magnitude-mul (place n j) (gap v Y e j))))
          (le_trans (mul-le (pos 2) (zero-le-pos 2) (mul-le (magnitude (place n j)) (magnitude-nonneg (place n j)) (near j k)))
          (le_of_eq (swapped e (magnitude (place n j)))))
        where
          swapped : (e u : ℤ) → pos 2 *ℤ (u *ℤ e) ≡ pos 2 *ℤ e *ℤ u
          swapped e u = identity (e ∷ u ∷ []) (search quote depth 20) tt

  -- with N = n (n² - 1): |r - 10Q / sd| is at most 1/2 + n² / sN
  pub slope-bound : (r : ℤ) → Rounded r (pos 4 *ℤ sum n (λ j. place n j *ℤ v j)) (pos s *ℤ pos (span n))
      → magnitude (pos 2 *ℤ pos (span n) *ℤ (pos s *ℤ d *ℤ r -ℤ pos 10 *ℤ Q))
      ⩽ d *ℤ (pos s *ℤ pos (span n) +ℤ pos 2 *ℤ (pos n *ℤ pos n))
  slope-bound r rounded =
      magnitude-combined _ _ _ e (e *ℤ d) (pos 2 *ℤ d) e-pos (le_of_lt (mul-pos e-pos d-pos)) (mul-nonneg (zero-le-pos 2) (le_of_lt d-pos))
      (before e (pos (span n)) (pos s) d r Q
      ∙ ap (λ (z : ℤ). pos 2 *ℤ e *ℤ d *ℤ pos s *ℤ pos (span n) *ℤ r -ℤ pos 4 *ℤ z) (sym (slope-exact one e-pos l))
      ∙ after e (pos (span n)) (pos s) d r (sum n (λ j. place n j *ℤ v j)) (sum n (λ j. place n j *ℤ Y j)))
      rounded moment-near (le_of_eq (added e (pos n) (pos (span n)) (pos s) d))
    where
      before : (e N s d r Q : ℤ)
          → e *ℤ (pos 2 *ℤ N *ℤ (s *ℤ d *ℤ r -ℤ pos 10 *ℤ Q)) ≡ pos 2 *ℤ e *ℤ d *ℤ s *ℤ N *ℤ r -ℤ pos 4 *ℤ (pos 5 *ℤ e *ℤ N *ℤ Q)
      before e N s d r Q = identity (e ∷ N ∷ s ∷ d ∷ r ∷ Q ∷ []) (search quote depth 30 fits 8000) tt

      after : (e N s d r T T' : ℤ)
          → pos 2 *ℤ e *ℤ d *ℤ s *ℤ N *ℤ r -ℤ pos 4 *ℤ (pos 2 *ℤ d *ℤ T')
          ≡ e *ℤ d *ℤ (pos 2 *ℤ (s *ℤ N) *ℤ r -ℤ pos 2 *ℤ (pos 4 *ℤ T))
          +ℤ pos 2 *ℤ d *ℤ (pos 2 *ℤ (pos 2 *ℤ e *ℤ T -ℤ pos 2 *ℤ T'))
      after e N s d r T T' = identity (e ∷ N ∷ s ∷ d ∷ r ∷ T ∷ T' ∷ []) (search quote depth 30 fits 8000) tt

      added : (e n N s d : ℤ)
          → e *ℤ d *ℤ (s *ℤ N) +ℤ pos 2 *ℤ d *ℤ (e *ℤ (n *ℤ n)) ≡ e *ℤ (d *ℤ (s *ℤ N +ℤ pos 2 *ℤ (n *ℤ n)))
      added e n N s d = identity (e ∷ n ∷ N ∷ s ∷ d ∷ []) (search quote depth 30 fits 8000) tt
