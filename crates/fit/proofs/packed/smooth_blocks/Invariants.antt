-- `fit::packed::smooth_blocks` meets its contract: after j turns the first j blocks are read and inside, and their smoothed values stand in the row.
-- Assumes nothing.
use mathlib.Core.Path.{◌≡◌}
use Prim.Native.Nat.{◌*◌}
use Rattle.decode.specs.Number.{signeds_at}
use Rattle.correcting.specs.Answer.{filled}
use Rattle.correcting.proofs.Parts.{Passed}
use Rattle.fit.specs.Packed.{smoothed_of}
use Rattle.fit.proofs.packed.smooth_blocks.Given as goal

abbrev pub invariant-loop-j : goal.invariant-loop-j
invariant-loop-j l =
    let list = signeds_at l.measurements 0 8 (15 * l.n) in record {
      count : l.read ≡ 15 * l.j;
      inside : Passed list l.j;
      row : l.row ≡ filled l.j (smoothed_of list) l.initial.row;
    }
