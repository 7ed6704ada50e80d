-- `series::sums::weighted` meets its contract: after i turns the sum is that of the first i products.
-- Assumes nothing.
use mathlib.Core.List.{List}
use mathlib.Core.Path.{◌≡◌}
use Prim.Native.Nat.{ℕ}
use lib.IntN.{ℤ, ◌*ℤ◌}
use lib.ListN.{length}
use Rattle.whole.specs.Sum.{sum}
use Rattle.whole.specs.Table.{at}
use Rattle.exact.specs.Weights.{weights}
use Rattle.series.proofs.sums.weighted.Given as goal

-- the sum of the first i products
abbrev pub part : List ℤ → ℕ → ℤ
part m i = sum i (λ k. at weights k *ℤ at m k)

abbrev pub invariant-loop-weight : goal.invariant-loop-weight
invariant-loop-weight l = l.sum ≡ part l.measurements (length l.yielded)
