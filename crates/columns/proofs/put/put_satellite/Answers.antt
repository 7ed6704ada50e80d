-- `columns::put::put_satellite` meets its contract: the letter, and the number behind it.
-- Assumes nothing.
use mathlib.Core.Path.{refl}
use native.Mathlib.Omega.{arith}
use Rattle.columns.proofs.Placing.{onto}
use Rattle.columns.proofs.put.put_satellite.Goals as goal

pub returns : goal.returns
returns c =
    onto _ _ _ c.told-line (omega arith) refl c.put_byte.ensures c.put_decimal.ensures
