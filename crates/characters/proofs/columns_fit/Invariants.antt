-- `characters::columns_fit` meets its contract: what was found so far, and what is asked of the columns left, is the answer for all.
-- Assumes nothing.
use mathlib.Core.Path.{◌≡◌}
use mathlib.Core.Bool.{◌&&◌}
use lib.ListN.{length}
use Rattle.std.specs.Iterator.Adapters.{zip_first, zip_second}
use Rattle.std.specs.Slice.Iter.{iter_rest}
use Rattle.characters.specs.Kinds.{allowed}
use Rattle.characters.proofs.columns_fit.Given as goal

abbrev pub invariant-loop-kind : goal.invariant-loop-kind
invariant-loop-kind l =
    let kinds = iter_rest (zip_first l.kind-iterator) in
    let line = iter_rest (zip_second l.kind-iterator) in
    (length kinds ≡ length line) × (l.fit && allowed kinds line ≡ allowed l.kinds l.line)
