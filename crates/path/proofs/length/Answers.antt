-- `path::length` meets its contract: the root of the sum, which a float holds without rounding.
-- Assumes nothing.
use mathlib.Core.Path.{ap, ◌∙◌}
use Prim.Native.Nat.{ℕ}
use native.Mathlib.Omega.{arith}
use lib.Dec.{le→leb}
use lib.IntN.{pos}
use lib.Ieee.{binary64, of_int, in_float}
use Rattle.path.specs.Root.{root}
use Rattle.path.specs.Path.{whole_length, length_of}
use Rattle.path.proofs.length.Goals as goal

pub int_to_float-result : goal.int_to_float-result
unfolding in_float
int_to_float-result c = le→leb c.root.result 9007199254740992 (omega (arith, c.root.ensures.1))

pub returns : goal.returns
unfolding whole_length length_of
returns c =
    ap (λ (n : ℕ). of_int binary64 (pos n)) (c.root.ensures.0 ∙ ap root c.sum_of_squares.ensures.0)
