-- `linefile::refusal` meets its contract: what is left to judge is what is left of the lines, behind the last one's rank.
-- Assumes nothing.
use mathlib.Core.Path.{◌≡◌}
use lib.ListN.{drop}
use Rattle.linefile.proofs.Judging.{ranked_number}
use Rattle.linefile.proofs.refusal.Given as goal

abbrev pub invariant-loop-line : goal.invariant-loop-line
invariant-loop-line l = ranked_number 0 l.lines ≡ ranked_number l.last (drop l.line-index l.lines)
