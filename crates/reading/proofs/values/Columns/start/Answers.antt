-- `reading::values::Columns::start` meets its contract: each part of the time has two digits, so that the sum fits.
-- Assumes nothing.
use native.Mathlib.Omega.{arith}
use lib.Dec.{lit≤}
use Rattle.columns.specs.Columns.{labels_with_lem, read_labels}
use Rattle.reading.proofs.Columns.{columns_of_lem, at_most}
use Rattle.reading.proofs.values.Columns.start.Goals as goal

pub decimal-requires : goal.decimal-requires
decimal-requires c = at_most 10 (lit≤ tt) (columns_of_lem c.args.self.line.now c.args.self.shared).hour

pub decimal-requires-2 : goal.decimal-requires-2
decimal-requires-2 c = at_most 10 (lit≤ tt) (columns_of_lem c.args.self.line.now c.args.self.shared).minute

pub decimal-requires-3 : goal.decimal-requires-3
decimal-requires-3 c = at_most 10 (lit≤ tt) (columns_of_lem c.args.self.line.now c.args.self.shared).second

pub returns : goal.returns
unfolding read_labels labels_with_lem
returns c = omega (arith, c.decimal.ensures.value, c.decimal-2.ensures.value, c.decimal-3.ensures.value)
