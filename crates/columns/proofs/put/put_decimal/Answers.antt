-- `columns::put::put_decimal` meets its contract: the digits, and the space behind them.
-- Assumes nothing.
use mathlib.Core.Path.{ap}
use Prim.Native.Nat.{ℕ, ◌+◌}
use native.Mathlib.Omega.{arith}
use Rattle.fields.proofs.Laws.{length-decimal}
use Rattle.columns.proofs.Placing.{onto}
use Rattle.columns.proofs.put.put_decimal.Goals as goal

pub returns : goal.returns
returns c =
    onto _ _ _ c.told-line (omega arith) (ap (λ (n : ℕ). c.args.at + n) (length-decimal c.args.width c.args.value))
    c.put_digits.ensures c.put_byte.ensures
