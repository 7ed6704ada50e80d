-- How large the sums of a series, its values and its places are, as words.
-- Assumes nothing.
use Prim.Native.Nat.{ℕ, ◌*◌, ◌-◌, ◌<◌}
use native.Mathlib.Nat.{le_trans}
use lib.IntN.{pos}
use lib.ListN.{length}
use Rattle.whole.proofs.Words.{Word, known, count, equal}
use Rattle.whole.specs.Table.{at}
use Rattle.exact.specs.Weights.{place}
use Rattle.limits.proofs.Lists.{within-limit}
use Rattle.series.specs.Fit.{value_limit}
use Rattle.series.specs.declared.sums.Series.{Series}
use Rattle.series.proofs.Fitting.{place-bound, total-bound, moment-bound, square-bound}

module _ (q : Series) where
  -- S and T
  abbrev pub s-word : Word q.s
  s-word = equal q.sums.0 (known (total-bound q.values.now q.inside (length q.values.now) q.count.1))

  abbrev pub t-word : Word q.t
  t-word = equal q.sums.1 (known (moment-bound q.values.now q.inside (length q.values.now) q.count.1))

  -- n² - 1
  abbrev pub square-word : Word (pos (length q.values.now * length q.values.now - 1))
  square-word = count (square-bound (length q.values.now) q.count.1)

  -- value j, and its place
  abbrev pub value-word : (j : ℕ) → Word (at q.values.now j)
  value-word j = known (within-limit value_limit q.values.now q.inside j)

  abbrev pub place-word : (j : ℕ) → j < length q.values.now → Word (place (length q.values.now) j)
  place-word j h = known (le_trans (place-bound (length q.values.now) j h) q.count.1)
