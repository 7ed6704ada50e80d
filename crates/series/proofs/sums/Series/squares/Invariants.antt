-- `Series::squares` meets its contract: after j turns q is the sum of the first j squares.
-- Assumes nothing.
use mathlib.Core.Path.{◌≡◌}
use Prim.Native.Nat.{◌*◌, ◌^◌, ◌≤◌}
use lib.IntN.{pos}
use lib.ListN.{length}
use Rattle.whole.specs.Sum.{sum}
use Rattle.whole.specs.Square.{squared}
use Rattle.whole.specs.Table.{at}
use Rattle.series.specs.Scatter.{residual}
use Rattle.series.proofs.sums.Series.squares.Given as goal

abbrev pub invariant-loop-j : goal.invariant-loop-j
invariant-loop-j l = record {
  small : l.q ≤ l.j * 10 ^ 16;
  q_is : pos l.q ≡ sum l.j (λ k. squared (residual (length l.self.values.now) (at l.self.values.now) k));
}
