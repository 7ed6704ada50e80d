-- `columns::put::put_track` meets its contract: its columns, one behind the other.
-- Assumes nothing.
use mathlib.Core.Path.{ap}
use Prim.Native.Nat.{suc}
use mir.Facts.{to_z-of_z}
use native.Mathlib.Omega.{arith}
use Rattle.fields.proofs.Laws.{length-decimal, length-hexadecimal}
use Rattle.columns.specs.Text.{track_columns}
use Rattle.columns.proofs.Placing.{begin, column, end}
use Rattle.columns.proofs.Widths.{length-time}
use Rattle.columns.proofs.put.put_track.Goals as goal

pub returns : goal.returns
unfolding track_columns
returns c =
    end
    (column (length-decimal 4 _)
    (column (length-decimal 3 _)
    (column (length-decimal 4 _)
    (column (length-time _)
    (column (length-decimal 5 _)
    (column (length-hexadecimal _)
    (column (ap suc (length-decimal 2 _))
    (begin (track_columns c.args.labels c.args.trkl) c.args.line.now 0 c.told-line (omega arith))
    c.put_satellite.ensures)
    c.put_class.ensures)
    c.put_decimal.ensures)
    c.put_time.ensures)
    (simp (c.unsigned_abs.ensures.value, to_z-of_z c.ranges.trkl) at c.put_decimal-2.ensures))
    c.put_decimal-3.ensures)
    c.put_decimal-4.ensures)
