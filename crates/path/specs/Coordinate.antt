-- One coordinate (document 02, Job 11): a float that should hold whole millimetres. A float is not-a-number, an infinity or `fin s m e`, the number
-- m * 2 ^ e, below zero where s is true; 2 ^ e is the fraction up e / down e (lib.Ieee of the kit).
-- Assumes nothing.
use Rattle.std.specs.Prelude.{Bool, true, false, cond, ℕ, ◌*◌, ◌/◌, ◌%◌, ◌^◌, eqb, ltb, ℤ, pos, neg_ℤ, Float}
use Rattle.std.specs.Float.{nan, inf, fin}
use Rattle.std.specs.Float.Ieee.{up, down}

-- It is a whole number. Infinities and not-a-number are none.
unfoldable pub whole : Float → Bool
whole nan = false
whole (inf s) = false
whole (fin s m e) = eqb (m * up e % down e) 0

-- The limit on a coordinate, in mm, and whether one is beyond it.
abbrev pub coordinate_limit : ℕ
coordinate_limit = 5 * 10 ^ 10

unfoldable pub coordinate_beyond : Float → Bool
coordinate_beyond nan = true
coordinate_beyond (inf s) = true
coordinate_beyond (fin s m e) = ltb (coordinate_limit * down e) (m * up e)

-- The whole number that it is; minus zero counts as zero. Of any other float this is the part before the point, or 0: such a float is refused.
unfoldable pub millimetres : Float → ℤ
millimetres nan = pos 0
millimetres (inf s) = pos 0
millimetres (fin s m e) = cond s (neg_ℤ (pos (m * up e / down e))) (pos (m * up e / down e))
