-- `reading::values::Columns::time_beyond` meets its contract: the tests are those of the definition.
-- Assumes nothing.
use lib.Dec.{lit≤}
use Rattle.reading.specs.Read.{time_beyond_lem}
use Rattle.reading.proofs.Columns.{Columns, columns_of_lem, at_most}
use Rattle.reading.proofs.values.Columns.time_beyond.Goals.{Start}
use Rattle.reading.proofs.values.Columns.time_beyond.Goals as goal

in-columns : (c : Start) → Columns c.args.self.line.now
in-columns c = columns_of_lem c.args.self.line.now c.args.self.shared

pub decimal-requires : goal.decimal-requires
decimal-requires c = at_most 10 (lit≤ tt) (in-columns (goal.at.decimal-requires c).Start).hour

pub decimal-requires-2 : goal.decimal-requires-2
decimal-requires-2 c = at_most 10 (lit≤ tt) (in-columns (goal.at.decimal-requires-2 c).Start).minute

pub decimal-requires-3 : goal.decimal-requires-3
decimal-requires-3 c = at_most 10 (lit≤ tt) (in-columns (goal.at.decimal-requires-3 c).Start).second

pub returns : goal.returns
unfolding time_beyond_lem
returns c = simp (c.decimal.ensures.value, c.decimal-2.ensures.value, c.decimal-3.ensures.value)
