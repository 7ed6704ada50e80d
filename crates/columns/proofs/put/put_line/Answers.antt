-- `columns::put::put_line` meets its contract: the three groups of columns make all of them, whose sum the last two columns hold.
-- Assumes nothing.
use mir.Syntax.{w64}
use mir.Val.{SFits}
use mir.Facts.{to_z-of_z}
use Rattle.columns.proofs.Whole.{text-is}
use borrow.Author.Rules.{rules}
use Rattle.columns.proofs.put.put_line.Goals.{Start}
use Rattle.columns.proofs.put.put_line.Goals as goal

trkl-fits : (c : Start) → SFits w64 c.args.numbers.trkl
trkl-fits c = search rules

pub returns : goal.returns
returns c =
    text-is c.args.labels c.args.numbers c.args.line.now c.told-line
    (simp (to_z-of_z (trkl-fits (goal.at.returns c).Start)) at c.put_track.ensures)
    c.put_clocks.ensures
    c.put_delays.ensures
    c.checksum-sum.ensures
    c.put_hexadecimal.ensures
