-- `decode::fill` meets its contract, by those of the two ways to fill.
-- Assumes nothing.
use mathlib.Core.Path.{sym, ◌∙◌}
use Rattle.decode.proofs.fill.Goals as goal

pub fill-requires : goal.fill-requires
fill-requires c = sym c.row_lies.ensures ∙ c.if-row_lies.true
