-- `correcting::inputs::Corrections::beyond` meets its contract: after j turns the first j rows are inside, and the rest of the columns tells.
-- Assumes nothing.
use mathlib.Core.Path.{◌≡◌}
use Rattle.correcting.proofs.Columns.{rest_from}
use Rattle.correcting.proofs.inputs.Corrections.beyond.Given as goal

abbrev pub invariant-loop-j : goal.invariant-loop-j
invariant-loop-j l = rest_from l.self 0 ≡ rest_from l.self l.j
