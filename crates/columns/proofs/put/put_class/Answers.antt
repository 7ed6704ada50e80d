-- `columns::put::put_class` meets its contract: two digits, and the space behind them.
-- Assumes nothing.
use mathlib.Core.Path.{ap}
use Prim.Native.Nat.{ℕ, ◌+◌}
use native.Mathlib.Omega.{arith}
use Rattle.fields.proofs.Laws.{length-hexadecimal}
use Rattle.columns.proofs.Placing.{onto}
use Rattle.columns.proofs.put.put_class.Goals as goal

pub returns : goal.returns
returns c =
    onto _ _ _ c.told-line (omega arith) (ap (λ (n : ℕ). 4 + n) (length-hexadecimal c.args.cl)) c.put_hexadecimal.ensures c.put_byte.ensures
