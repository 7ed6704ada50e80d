-- The straight path between two points (document 02, Job 11), and its refusals in order.
-- Assumes nothing.
use Rattle.std.specs.Prelude.{Bool, not, false, ◌||◌, ℕ, ◌+◌, ◌*◌, pos, nat_abs, ◌-ℤ◌, Float}
use Rattle.std.specs.Float.{fin, binary64}
use Rattle.std.specs.Float.Ieee.{of_int}
use Rattle.limits.specs.Refusal.{◌when◌, ◌then◌}
use Rattle.limits.specs.Reply.{Reply, reply}
use Rattle.path.specs.declared.Point.{Point}
use Rattle.path.specs.Coordinate.{whole, coordinate_beyond, millimetres}
use Rattle.path.specs.Root.{root}

-- Some coordinate of a point is not a whole number; some is outside ±5 × 10^10.
unfoldable pub fractional : Point → Bool
fractional p = not (whole p.x) || not (whole p.y) || not (whole p.z)

unfoldable pub point_beyond : Point → Bool
point_beyond p = coordinate_beyond p.x || coordinate_beyond p.y || coordinate_beyond p.z

-- 23 over all six coordinates, then 24.
unfoldable pub path_number : (satellite antenna : Point) → ℕ
path_number s a = 23 when (fractional s || fractional a) then 24 when (point_beyond s || point_beyond a)

-- The difference of two coordinates, without its sign.
unfoldable pub difference : Float → Float → ℕ
difference x y = nat_abs (millimetres x -ℤ millimetres y)

-- The exact sum of the squared differences.
unfoldable pub sum_of_squares_lem : (satellite antenna : Point) → ℕ
sum_of_squares_lem s a =
    difference s.x a.x * difference s.x a.x
    + difference s.y a.y * difference s.y a.y
    + difference s.z a.z * difference s.z a.z

-- The length in whole millimetres, and as a float.
unfoldable pub whole_length : (satellite antenna : Point) → ℕ
whole_length s a = root (sum_of_squares_lem s a)

unfoldable pub length_of : (satellite antenna : Point) → Float
length_of s a = of_int binary64 (pos (whole_length s a))

abbrev pub plus_zero : Float
plus_zero = fin false 0 (pos 0)

-- The number, and the length.
unfoldable pub path_rule : (satellite antenna : Point) → Reply Float
path_rule s a = reply plus_zero (path_number s a) (length_of s a)
