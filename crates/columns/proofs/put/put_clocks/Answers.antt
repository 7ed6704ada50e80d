-- `columns::put::put_clocks` meets its contract: its columns, one behind the other.
-- Assumes nothing.
use mir.Syntax.{w64}
use mir.Val.{SFits}
use mir.Facts.{to_z-of_z}
use native.Mathlib.Omega.{arith}
use Rattle.fields.proofs.Laws.{length-decimal, length-signed}
use Rattle.columns.specs.Text.{clock_columns}
use Rattle.columns.proofs.Placing.{begin, column, end}
use borrow.Author.Rules.{rules}
use Rattle.columns.proofs.put.put_clocks.Goals.{Start}
use Rattle.columns.proofs.put.put_clocks.Goals as goal

-- each number reads back from its bits
numbers_fit : (c : Start) → SFits w64 c.args.numbers.refsv
    × SFits w64 c.args.numbers.srsv
    × SFits w64 c.args.numbers.refsys
    × SFits w64 c.args.numbers.srsys
    × SFits w64 c.args.numbers.dsg
numbers_fit c = (search rules, search rules, search rules, search rules, search rules)

pub returns : goal.returns
unfolding clock_columns
returns c =
    let f = numbers_fit (goal.at.returns c).Start in
    end
    (column (length-decimal 4 _)
    (column (length-signed 6 _)
    (column (length-signed 11 _)
    (column (length-signed 6 _)
    (column (length-signed 11 _)
    (begin (clock_columns c.args.numbers) c.args.line.now 34 c.told-line (omega arith))
    (simp (to_z-of_z f.0) at c.put_signed.ensures))
    (simp (to_z-of_z f.1) at c.put_signed-2.ensures))
    (simp (to_z-of_z f.2) at c.put_signed-3.ensures))
    (simp (to_z-of_z f.3) at c.put_signed-4.ensures))
    (simp (c.unsigned_abs.ensures.value, to_z-of_z f.4) at c.put_decimal.ensures))
