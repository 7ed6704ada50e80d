-- `path::coordinate::is_whole` meets its contract: within ±2^52 by 2^52 added and taken away, both ways, past that by what is finite.
-- Assumes nothing.
use mathlib.Core.Path.{sym, ◌∙◌, subst}
use native.Mathlib.Omega.{arith}
use lib.Dec.{T}
use lib.Ieee.{of_bits, neg}
use Rattle.path.proofs.Ranges.{inside_of, range-is}
use Rattle.path.proofs.WholeFloats.{far-whole}
use Rattle.path.proofs.Shifts.{there_and_back}
use Rattle.path.proofs.coordinate.is_whole.Goals as goal

pub returns-then-x : goal.returns-then-x
unfolding of_bits neg
returns-then-x c =
    there_and_back c.args.x (inside_of 4503599627370496 c.args.x (sym (range-is 1 52 (omega arith) c.args.x) ∙ c.if-x.true))

pub returns : goal.returns
unfolding of_bits neg
returns c =
    c.is_finite.ensures.value ∙ far-whole c.args.x (subst T (sym c.well_formed.0.1) tt) (sym (range-is 1 52 (omega arith) c.args.x) ∙ c.if-x.false)
