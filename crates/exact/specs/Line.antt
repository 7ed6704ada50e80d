-- The exact line through n values (document 01, "Exact figures", third point). The values are fractions Y j / e over one denominator e above 0,
-- and so are the line's coefficients, over d. Seconds count from the values' own mean date; as that may be a half second, they are doubled.
-- Assumes nothing.
use Rattle.std.specs.Prelude.{ℕ, ◌+◌, ◌*◌, ◌-◌, ℤ, pos, ◌+ℤ◌, ◌-ℤ◌, ◌*ℤ◌, ◌≤ℤ◌, ◌<ℤ◌}
use Rattle.whole.specs.Square.{squared}
use Rattle.whole.specs.Sum.{sum}

-- Value j stands at second 7 + 15j of the track. The mean date of n values lies half way between the first and the last: twice it is
-- 14 + 15 (n - 1) seconds. With 52 values it is second 389.5, the midpoint.
unfoldable pub twice_mean_date : ℕ → ℤ
twice_mean_date n = pos (14 + 15 * (n - 1))

-- Twice the seconds from the mean date to value j.
unfoldable pub twice_seconds : ℕ → ℕ → ℤ
twice_seconds n j = pos (2 * (7 + 15 * j)) -ℤ twice_mean_date n

-- The residual of value j from the line (P + Qt) / d, with t in seconds, times 2de.
unfoldable pub line_residual : ℕ → (ℕ → ℤ) → ℤ → ℤ → ℤ → ℤ → ℕ → ℤ
line_residual n Y e P Q d j = pos 2 *ℤ d *ℤ Y j -ℤ (pos 2 *ℤ e *ℤ P +ℤ e *ℤ twice_seconds n j *ℤ Q)

-- The sum of squared residuals, times (2de)².
unfoldable pub line_misfit : ℕ → (ℕ → ℤ) → ℤ → ℤ → ℤ → ℤ → ℤ
line_misfit n Y e P Q d = sum n (λ j. squared (line_residual n Y e P Q d j))

-- That line has the least sum: every other, with fractions over any d' for coefficients, has at least as large a sum.
-- Then P / d is its value at the mean date, in picoseconds, Q / d its slope, in picoseconds a second, and
-- line_misfit / (2de)² the least sum, in square picoseconds.
pub record LeastLine (n : ℕ) (Y : ℕ → ℤ) (e P Q d : ℤ) : Type 0 where
  pub positive : pos 0 <ℤ d
  pub least : (P' Q' d' : ℤ) → pos 0 <ℤ d'
      → (squared d' *ℤ line_misfit n Y e P Q d) ≤ℤ (squared d *ℤ line_misfit n Y e P' Q' d')
