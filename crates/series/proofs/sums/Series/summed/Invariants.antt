-- `Series::summed` meets its contract: after j turns s is the sum of the first j values, sums that of the sums before, and the values so far are inside
-- their limit.
-- Assumes nothing.
use mathlib.Core.Path.{◌≡◌}
use Rattle.whole.specs.Sum.{sum}
use Rattle.whole.specs.Table.{at}
use Rattle.series.proofs.Running.{totals, Inside}
use Rattle.series.proofs.sums.Series.summed.Given as goal

abbrev pub invariant-loop-value : goal.invariant-loop-value
invariant-loop-value l = record {
  inside : Inside l.values l.value-index;
  s_is : l.s ≡ sum l.value-index (at l.values);
  sums_is : l.sums ≡ totals l.value-index (at l.values);
}
