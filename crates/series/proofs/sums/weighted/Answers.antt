-- `series::sums::weighted` meets its contract: after i turns the sum is that of the first i products.
-- Assumes nothing.
use borrow.Author.Rules.{rules}
use mathlib.Core.Path.{◌≡◌, refl, ◌∙◌}
use Prim.Native.Nat.{ℕ, ◌<◌}
use native.Mathlib.Nat.{le_of_lt}
use Rattle.std.proofs.Common.{length-append}
use native.Mathlib.Numerals.{add-one}
use lib.IntN.{pos}
use lib.ListN.{length}
use mir.Syntax.{w64}
use mir.Val.{to_z}
use Rattle.std.proofs.lemmas.Slice.Zip.{zip_turn}
use Rattle.whole.specs.Sum.{sum}
use Rattle.whole.proofs.Words.{Word, known, equal, fits, plain-is, bounds}
use Rattle.whole.proofs.Sums.{sum-suc}
use Rattle.whole.specs.Table.{at}
use Rattle.exact.specs.Weights.{weights}
use Rattle.limits.specs.Limits.{measurement_limit}
use Rattle.limits.proofs.Lists.{within-limit}
use Rattle.series.proofs.Weights.{weight-bound, weighted-bound}
use Rattle.series.proofs.sums.weighted.Goals.{In-Some}
use Rattle.series.proofs.sums.weighted.Goals as goal

pub loop-weight-init : goal.loop-weight-init
unfolding sum
loop-weight-init c = refl

-- the weight and the measurement of this turn
turn : (c : In-Some) → (length c.loop-weight.yielded < 15) × (c.in-Some.weight.now ≡ at weights (length c.loop-weight.yielded)) × (c.in-Some.measurement.now ≡ at c.args.measurements.now (length c.loop-weight.yielded))
unfolding weights
turn c =
    let z = zip_turn weights c.args.measurements.now c.loop-weight.yielded c.into_iter-weight-iterator.result c.loop-weight.weight-iterator c.next.new.self c.next.result (search rules) (search rules) c.loop-weight.yielded_by
    (c.in-Some.weight, c.in-Some.measurement) c.in-Some.is c.next.ensures.steps in
    (z.0, z.2 (pos 0), z.3 (pos 0))

abbrev index : In-Some → ℕ
index c = length c.loop-weight.yielded

-- what is known of the weight, of the measurement and of the sum so far
abbrev words : (c : In-Some) → Word c.in-Some.weight.now × Word c.in-Some.measurement.now × Word (to_z w64 c.loop-weight.sum-bits)
words c =
    let t = turn c in
    let inside = within-limit measurement_limit c.args.measurements.now c.requires in (
      equal t.1 (known (weight-bound (index c))),
      equal t.2 (known (inside (index c))),
      equal c.loop-weight.invariant (known (weighted-bound (at c.args.measurements.now) inside (index c) (le_of_lt t.0))),
    )

pub overflow_mul-sum : goal.overflow_mul-sum
overflow_mul-sum c = let w = words (goal.at.overflow_mul-sum c).In-Some in fits (search bounds depth 12) tt

pub overflow_add-sum : goal.overflow_add-sum
overflow_add-sum c = let w = words (goal.at.overflow_add-sum c).In-Some in fits (search bounds depth 12) tt

pub loop-weight-preserved : goal.loop-weight-preserved
loop-weight-preserved c =
    let w = words (goal.at.loop-weight-preserved c).In-Some in
    plain-is (search bounds depth 12) tt ∙ rw (length-append, add-one, sum-suc)
