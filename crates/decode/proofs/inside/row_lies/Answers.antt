-- `decode::inside::row_lies` meets its contract: the last number of a row lies within the bytes, if there is one.
-- Assumes nothing.
use mathlib.Core.Path.{◌∙◌}
use lib.ListN.{length}
use borrow.Author.Rules.{rules}
use borrow.Author.Tests.{eq-eqb}
use Rattle.decode.proofs.Signeds.{row-empty, row-last}
use Rattle.decode.proofs.inside.row_lies.Goals as goal

pub returns-then-count-eq0 : goal.returns-then-count-eq0
returns-then-count-eq0 c = eq-eqb _ _ c.if-count-eq0.true ∙ row-empty _ _ _ _ c.if-count-eq0.true

pub returns-else-count-eq0 : goal.returns-else-count-eq0
returns-else-count-eq0 c = row-last (length c.args.bytes.now) c.args.at c.args.stride c.args.count (search rules)
