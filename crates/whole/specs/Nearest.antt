-- The nearest whole number to a fraction, a tie going up, toward plus infinity (document 01, "From 780 measurements to ten numbers").
-- Assumes nothing.
pub mod Examples
use Rattle.std.specs.Prelude.{ℕ, ◌*◌, ℤ, pos, ◌+ℤ◌, ◌*ℤ◌}
use Rattle.std.specs.Int.Signed.{shr_z}

-- The nearest whole number to n / d, for d above 0: the floor of (2n + d) / 2d.
unfoldable pub nearest : ℤ → ℕ → ℤ
nearest n d = shr_z (pos 2 *ℤ n +ℤ pos d) (2 * d)
