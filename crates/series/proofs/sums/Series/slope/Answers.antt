-- `Series::slope` meets its contract.
-- Assumes nothing.
use mathlib.Core.Path.{ap, ◌∙◌}
use Prim.Native.Nat.{◌*◌, ◌-◌}
use lib.Dec.{lit<, lit≤}
use lib.IntN.{ℤ}
use lib.ListN.{length}
use Rattle.whole.specs.Nearest.{nearest}
use Rattle.whole.proofs.Words.{fits, bound, plain-is, bounds, back-of}
use Rattle.exact.specs.Corrected.{steps}
use Rattle.series.specs.Fit.{slope}
use Rattle.series.proofs.Bounds.{t-word}
use Rattle.series.proofs.sums.Series.slope.Goals as goal

pub overflow_mul-self : goal.overflow_mul-self
overflow_mul-self c = let t = t-word c.args.self.now in fits (search bounds depth 9) tt

pub over_span-requires : goal.over_span-requires
over_span-requires c = let t = t-word c.args.self.now in (bound (search bounds depth 12) tt, lit< tt, lit≤ tt)

pub returns : goal.returns
unfolding slope
returns c =
    let t = t-word c.args.self.now in
    let k = length c.args.self.now.values.now in
    back-of c.over_span.type_inv
    ∙ c.over_span.ensures
    ∙ ap (λ (z : ℤ). nearest z (steps * (k * (k * k - 1)))) (plain-is (search bounds depth 12) tt)
