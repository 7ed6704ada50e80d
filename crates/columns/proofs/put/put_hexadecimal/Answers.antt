-- `columns::put::put_hexadecimal` meets its contract: two digits, one behind the other.
-- Assumes nothing.
use mathlib.Core.Path.{refl}
use native.Mathlib.Omega.{arith}
use Rattle.fields.specs.Text.{hexadecimal}
use Rattle.columns.proofs.Placing.{onto}
use Rattle.columns.proofs.put.put_hexadecimal.Goals as goal

pub returns : goal.returns
unfolding hexadecimal
returns c =
    onto _ _ _ c.told-line (omega arith) refl
    (simp c.hex_digit.ensures at c.put_byte.ensures)
    (simp c.hex_digit-2.ensures at c.put_byte-2.ensures)
