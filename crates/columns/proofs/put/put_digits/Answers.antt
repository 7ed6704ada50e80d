-- `columns::put::put_digits` meets its contract: the part that was lent comes back filled with the digits.
-- Assumes nothing.
use Prim.Native.Nat.{ℕ}
use native.Mathlib.Omega.{arith}
use Rattle.fields.specs.Text.{decimal}
use Rattle.fields.proofs.Laws.{length-decimal}
use Rattle.lent.proofs.Placing.{filled}
use Rattle.columns.proofs.put.put_digits.Goals as goal

pub returns : goal.returns
returns c =
    filled (λ (w : ℕ). decimal w c.args.value) (λ w. length-decimal w c.args.value) c.args.line.now _ c.args.at c.args.width (omega (arith, c.told-line)) c.decimal.ensures
