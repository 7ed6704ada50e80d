-- `columns::put::put_delays` meets its contract: its columns, one behind the other.
-- Assumes nothing.
use mathlib.Core.Path.{refl}
use mir.Syntax.{w64}
use mir.Val.{SFits}
use mir.Facts.{to_z-of_z}
use native.Mathlib.Omega.{arith}
use Rattle.fields.proofs.Laws.{length-decimal, length-signed}
use Rattle.columns.specs.Text.{delay_columns}
use Rattle.columns.proofs.Placing.{begin, column, end}
use borrow.Author.Rules.{rules}
use Rattle.columns.proofs.put.put_delays.Goals.{Start}
use Rattle.columns.proofs.put.put_delays.Goals as goal

-- each number reads back from its bits
numbers_fit : (c : Start) → SFits w64 c.args.numbers.mdtr
    × SFits w64 c.args.numbers.smdt
    × SFits w64 c.args.numbers.mdio
    × SFits w64 c.args.numbers.smdi
numbers_fit c = (search rules, search rules, search rules, search rules)

pub returns : goal.returns
unfolding delay_columns
returns c =
    let f = numbers_fit (goal.at.returns c).Start in
    end
    (column {width = 3} refl
    (column (length-decimal 2 _)
    (column (length-decimal 2 _)
    (column (length-signed 4 _)
    (column (length-decimal 4 _)
    (column (length-signed 4 _)
    (column (length-decimal 4 _)
    (column (length-decimal 3 _)
    (begin (delay_columns c.args.labels c.args.numbers) c.args.line.now 77 c.told-line (omega arith))
    c.put_decimal.ensures)
    (simp (c.unsigned_abs.ensures.value, to_z-of_z f.0) at c.put_decimal-2.ensures))
    (simp (to_z-of_z f.1, to_z-of_z f.3) at c.put_signed.ensures))
    (simp (c.unsigned_abs-2.ensures.value, to_z-of_z f.2) at c.put_decimal-3.ensures))
    (simp (to_z-of_z f.1, to_z-of_z f.3) at c.put_signed-2.ensures))
    c.put_decimal-4.ensures)
    c.put_decimal-5.ensures)
    c.put_code.ensures)
