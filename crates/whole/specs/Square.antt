-- The square and the magnitude (absolute value) of a whole number.
-- Assumes nothing.
use Rattle.std.specs.Prelude.{ℤ, pos, nat_abs, ◌*ℤ◌}

abbrev pub squared : ℤ → ℤ
squared z = z *ℤ z

abbrev pub magnitude : ℤ → ℤ
magnitude z = pos (nat_abs z)
