-- `reading::values::Columns::labels_with` meets its contract: each label is read from its columns, which hold what it is made of.
-- Assumes nothing.
use mathlib.Core.Path.{refl, ◌∙◌}
use lib.Dec.{lit≤}
use Rattle.columns.specs.Columns.{labels_with_lem, read_labels}
use Rattle.reading.proofs.Columns.{Columns, columns_of_lem, at_most}
use Rattle.reading.proofs.values.Columns.labels_with.Goals.{Start}
use Rattle.reading.proofs.values.Columns.labels_with.Goals as goal

in-columns : (c : Start) → Columns c.args.self.line.now
in-columns c = columns_of_lem c.args.self.line.now c.args.self.shared

pub decimal-requires : goal.decimal-requires
decimal-requires c = at_most 10 (lit≤ tt) (in-columns (goal.at.decimal-requires c).Start).satellite

pub decimal-requires-2 : goal.decimal-requires-2
decimal-requires-2 c = at_most 10 (lit≤ tt) (in-columns (goal.at.decimal-requires-2 c).Start).mjd

pub decimal-requires-3 : goal.decimal-requires-3
decimal-requires-3 c = at_most 10 (lit≤ tt) (in-columns (goal.at.decimal-requires-3 c).Start).elv

pub decimal-requires-4 : goal.decimal-requires-4
decimal-requires-4 c = at_most 10 (lit≤ tt) (in-columns (goal.at.decimal-requires-4 c).Start).azth

pub decimal-requires-5 : goal.decimal-requires-5
decimal-requires-5 c = at_most 10 (lit≤ tt) (in-columns (goal.at.decimal-requires-5 c).Start).ioe

pub returns : goal.returns
unfolding labels_with_lem read_labels
returns c =
    λ i. record {
      constellation = c.args.constellation;
      satellite = c.decimal.ensures.value i;
      cl = c.class.ensures i;
      fr = c.args.fr;
      hc = c.args.supplied.hc;
      frc1 = c.args.supplied.frc1;
      frc2 = c.args.supplied.frc2;
      frc3 = c.args.supplied.frc3;
      mjd = c.decimal-2.ensures.value i;
      start = (c.start.ensures ∙ refl) i;
      elv = c.decimal-3.ensures.value i;
      azth = c.decimal-4.ensures.value i;
      ioe = c.decimal-5.ensures.value i;
    }
