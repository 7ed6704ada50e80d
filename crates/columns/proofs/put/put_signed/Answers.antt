-- `columns::put::put_signed` meets its contract: the sign and the digits, and the space behind them.
-- Assumes nothing.
use mathlib.Core.Path.{ap, ◌∙◌}
use Prim.Native.Nat.{ℕ, ◌+◌}
use mir.Facts.{to_z-of_z}
use native.Mathlib.Omega.{arith}
use Rattle.fields.specs.Text.{signed}
use Rattle.fields.proofs.Laws.{length-signed}
use Rattle.lent.proofs.Placing.{filled}
use Rattle.columns.proofs.Placing.{onto}
use Rattle.columns.proofs.put.put_signed.Goals as goal

pub returns : goal.returns
returns c =
    onto _ _ _ c.told-line (omega arith) (ap (λ (n : ℕ). c.args.at + n) (length-signed c.args.width c.args.value))
    (filled (λ (w : ℕ). signed w c.args.value) (λ w. length-signed w c.args.value) c.args.line.now _ c.args.at c.args.width (omega (arith, c.told-line))
    (c.signed.ensures ∙ ap (signed _) (to_z-of_z c.ranges.value)))
    c.put_byte.ensures
