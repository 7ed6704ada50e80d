-- The exact smoothed value of fifteen one-second measurements (document 01, "Exact figures", first point).
-- A curve's coefficients are fractions over one common denominator d above 0, so whole numbers are compared throughout.
-- Assumes nothing.
use Rattle.std.specs.Prelude.{ℕ, ◌<◌, ℤ, pos, ◌+ℤ◌, ◌-ℤ◌, ◌*ℤ◌, ◌≤ℤ◌, ◌<ℤ◌}
use Rattle.whole.specs.Square.{squared}
use Rattle.whole.specs.Sum.{sum}

-- The seconds of a block count from its middle: x runs from -7 to 7.
unfoldable pub second : ℕ → ℤ
second i = pos i -ℤ pos 7

-- The sum of squared residuals of the parabola (P + Qx + Rx²) / d from the measurements m, times d².
unfoldable pub parabola_misfit : (ℕ → ℤ) → ℤ → ℤ → ℤ → ℤ → ℤ
parabola_misfit m P Q R d = sum 15 (λ i. squared (d *ℤ m i -ℤ (P +ℤ Q *ℤ second i +ℤ R *ℤ squared (second i))))

-- That parabola has the least sum: every other, with fractions over any d' for coefficients, has at least as large a sum.
-- Then P / d, its value at the middle, is the exact smoothed value in picoseconds.
pub record LeastParabola (m : ℕ → ℤ) (P Q R d : ℤ) : Type 0 where
  pub positive : pos 0 <ℤ d
  pub least : (P' Q' R' d' : ℤ) → pos 0 <ℤ d'
      → (squared d' *ℤ parabola_misfit m P Q R d) ≤ℤ (squared d *ℤ parabola_misfit m P' Q' R' d')

-- The exact smoothed values of n blocks over one denominator: block j's is Y j / e.
pub record ExactSmoothed (n : ℕ) (block : ℕ → ℕ → ℤ) (Y : ℕ → ℤ) (e : ℤ) : Type 0 where
  pub positive : pos 0 <ℤ e
  pub at : (j : ℕ) → j < n → (Q : ℤ) × (R : ℤ) × LeastParabola (block j) (Y j) Q R e
