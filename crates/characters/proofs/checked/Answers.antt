-- `characters::checked` meets its contract: the two columns are compared with the digits of the sum.
-- Assumes nothing.
use mathlib.Core.Path.{◌≡◌, sym}
use Prim.Native.Nat.{ℕ, ◌+◌, ◌-◌}
use native.Mathlib.Omega.{arith}
use lib.Seq.{length-take-le}
use Rattle.columns.specs.Columns.{byte_in}
use Rattle.characters.specs.Kinds.{checked}
use Rattle.characters.proofs.Check.{next}
use Rattle.characters.proofs.checked.Goals as goal

pub slice_bounds-checksum-end : goal.slice_bounds-checksum-end
slice_bounds-checksum-end c = sym (length-take-le _ c.args.line.now (omega (arith, c.requires)))

-- a column's place, counted from 0
place : (n : ℕ) → n + 1 - 1 ≡ n
place n = omega arith

pub returns : goal.returns
unfolding checked byte_in
returns c =
    simp (place, next, c.hex_digit.ensures, c.hex_digit-2.ensures, c.checksum-sum.ensures)
