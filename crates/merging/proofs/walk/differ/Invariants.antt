-- `merging::walk::differ` meets its contract: what is left to compare is what is left of the two lines.
-- Assumes nothing.
use mathlib.Core.Path.{◌≡◌}
use mathlib.Core.Bool.{◌&&◌}
use lib.ListN.{length}
use Rattle.std.specs.Slice.Iter.{iter_rest}
use Rattle.linefile.specs.Files.{same}
use Rattle.merging.proofs.walk.differ.Given as goal

abbrev pub invariant-loop-a : goal.invariant-loop-a
invariant-loop-a l =
    (length (iter_rest l.a-iterator.a) ≡ length (iter_rest l.a-iterator.b))
    × (same l.line l.other ≡ l.equal && same (iter_rest l.a-iterator.a) (iter_rest l.a-iterator.b))
