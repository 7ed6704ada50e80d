-- `columns::put::put_code` meets its contract: three characters and a space, one behind the other.
-- Assumes nothing.
use mathlib.Core.Path.{refl}
use native.Mathlib.Omega.{arith}
use Rattle.columns.proofs.Placing.{onto}
use Rattle.columns.proofs.put.put_code.Goals as goal

pub returns : goal.returns
returns c =
    onto _ _ _ c.told-line (omega arith) refl c.put_byte.ensures
    (onto _ _ _ c.put_byte.array_long (omega arith) refl c.put_byte-2.ensures
    (onto _ _ _ c.put_byte-2.array_long (omega arith) refl c.put_byte-3.ensures c.put_byte-4.ensures))
