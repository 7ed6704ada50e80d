-- `columns::put::put_byte` meets its contract: a store is one byte placed.
-- Assumes nothing.
use native.Mathlib.Omega.{arith}
use Rattle.lent.proofs.Placing.{placed-byte}
use Rattle.columns.proofs.put.put_byte.Goals as goal

pub returns : goal.returns
returns c =
    placed-byte c.args.line.now c.args.at c.args.byte (omega (arith, c.told-line))
