-- `path::coordinate::millimetres` meets its contract: zero of either sign is 0, and the cast is that of any other coordinate that is not refused.
-- Assumes nothing.
use native.Mathlib.Omega.{arith}
use lib.Dec.{lit<}
use lib.IntN.{pos}
use lib.Ieee.{of_bits, of_int}
use Rattle.path.proofs.Ranges.{cast_is, within-limit, limited}
use Rattle.path.proofs.WholeFloats.{right_of, castable}
use Rattle.path.specs.Coordinate.{coordinate_limit}
use Rattle.path.proofs.coordinate.millimetres.Goals as goal

pub returns-then-x : goal.returns-then-x
unfolding of_bits of_int
returns-then-x c = (right_of c.args.x (pos 0) (omega arith) c.if-x.true).1

pub float_to_int-result : goal.float_to_int-result
unfolding of_bits
float_to_int-result c =
    castable c.args.x c.requires.0 c.requires.1 c.if-x.false

pub returns : goal.returns
returns c =
    limited c.args.x c.requires.1 (cast_is coordinate_limit (lit< tt) c.args.x (within-limit c.args.x c.requires.1)).0
