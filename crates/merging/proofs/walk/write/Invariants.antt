-- `merging::walk::write` meets its contract: what is left to write are the lines that are left of the walk.
-- Assumes nothing.
use mathlib.Core.List.{map}
use Rattle.linefile.specs.Files.{joined}
use Rattle.linefile.specs.Walk.{line_of, steps}
use Rattle.linefile.proofs.Ascending.{All}
use Rattle.linefile.proofs.Lines.{Long}
use Rattle.lent.proofs.Written.{Written}
use Rattle.merging.specs.Merge.{merged}
use Rattle.merging.proofs.walk.write.Given as goal

abbrev pub invariant-loop-passed : goal.invariant-loop-passed
invariant-loop-passed l =
    All Long (map line_of (steps l.passed-iterator.first.now l.passed-iterator.second.now))
    × Written (joined (merged l.first.lines.now l.second.lines.now)) l.initial.file l.file l.at (joined (map line_of (steps l.passed-iterator.first.now l.passed-iterator.second.now)))
