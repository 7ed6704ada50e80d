-- `reading::values::Columns::numbers` meets its contract: each number is read from its columns, which hold what it is made of.
-- Assumes nothing.
use mathlib.Core.Path.{◌∙◌}
use lib.Dec.{lit≤}
use Rattle.whole.proofs.Words.{back-of}
use Rattle.columns.specs.Columns.{read_numbers}
use Rattle.reading.proofs.Columns.{Columns, columns_of_lem, at_most, at-most-signed}
use Rattle.reading.proofs.values.Columns.numbers.Goals.{Start}
use Rattle.reading.proofs.values.Columns.numbers.Goals as goal

in-columns : (c : Start) → Columns c.args.self.line.now
in-columns c = columns_of_lem c.args.self.line.now c.args.self.shared

pub signed-requires : goal.signed-requires
signed-requires c = (in-columns (goal.at.signed-requires c).Start).refsv

pub signed-requires-2 : goal.signed-requires-2
signed-requires-2 c = at-most-signed 10 (lit≤ tt) (in-columns (goal.at.signed-requires-2 c).Start).srsv

pub signed-requires-3 : goal.signed-requires-3
signed-requires-3 c = (in-columns (goal.at.signed-requires-3 c).Start).refsys

pub signed-requires-4 : goal.signed-requires-4
signed-requires-4 c = at-most-signed 10 (lit≤ tt) (in-columns (goal.at.signed-requires-4 c).Start).srsys

pub natural-requires : goal.natural-requires
natural-requires c = at_most 10 (lit≤ tt) (in-columns (goal.at.natural-requires c).Start).mdtr

pub signed-requires-5 : goal.signed-requires-5
signed-requires-5 c = at-most-signed 10 (lit≤ tt) (in-columns (goal.at.signed-requires-5 c).Start).smdt

pub natural-requires-2 : goal.natural-requires-2
natural-requires-2 c = at_most 10 (lit≤ tt) (in-columns (goal.at.natural-requires-2 c).Start).mdio

pub signed-requires-6 : goal.signed-requires-6
signed-requires-6 c = at-most-signed 10 (lit≤ tt) (in-columns (goal.at.signed-requires-6 c).Start).smdi

pub natural-requires-3 : goal.natural-requires-3
natural-requires-3 c = at_most 10 (lit≤ tt) (in-columns (goal.at.natural-requires-3 c).Start).dsg

pub natural-requires-4 : goal.natural-requires-4
natural-requires-4 c = at_most 10 (lit≤ tt) (in-columns (goal.at.natural-requires-4 c).Start).trkl

pub returns : goal.returns
unfolding read_numbers
returns c =
    λ i. record {
      refsv = (back-of c.signed.type_inv ∙ c.signed.ensures) i;
      srsv = (back-of c.signed-2.type_inv ∙ c.signed-2.ensures) i;
      refsys = (back-of c.signed-3.type_inv ∙ c.signed-3.ensures) i;
      srsys = (back-of c.signed-4.type_inv ∙ c.signed-4.ensures) i;
      mdtr = (back-of c.natural.type_inv ∙ c.natural.ensures) i;
      smdt = (back-of c.signed-5.type_inv ∙ c.signed-5.ensures) i;
      mdio = (back-of c.natural-2.type_inv ∙ c.natural-2.ensures) i;
      smdi = (back-of c.signed-6.type_inv ∙ c.signed-6.ensures) i;
      dsg = (back-of c.natural-3.type_inv ∙ c.natural-3.ensures) i;
      trkl = (back-of c.natural-4.type_inv ∙ c.natural-4.ensures) i;
    }
