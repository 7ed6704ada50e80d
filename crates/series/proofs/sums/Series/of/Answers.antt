-- `Series::of` meets its contract: a list is refused for its count first, and then for its values.
-- Assumes nothing.
use mathlib.Core.Bool.{false, not}
use mathlib.Core.Path.{◌≡◌, sym, ap, ◌∙◌}
use mathlib.Core.List.{List}
use lib.IntN.{ℤ}
use lib.ListN.{length}
use Rattle.limits.specs.Lists.{any_beyond_lem}
use Rattle.limits.specs.Refusal.{◌when◌}
use Rattle.series.specs.Fit.{value_limit}
use Rattle.limits.specs.Blocks.{blocks_fit_lem}
use Rattle.limits.proofs.Blocks.{blocks-within}
use Rattle.series.proofs.Fitting.{values-miscounted, values-counted}
use Rattle.series.proofs.sums.Series.of.Goals.{Else-not-blocks_fit}
use Rattle.series.proofs.sums.Series.of.Goals as goal

pub returns-then-not-blocks_fit-clause-number : goal.returns-then-not-blocks_fit-clause-number
returns-then-not-blocks_fit-clause-number c = sym (values-miscounted c.args.values.now (ap not (sym c.blocks_fit.ensures ∙ c.if-not-blocks_fit.true)))

counted : (c : Else-not-blocks_fit) → not (blocks_fit_lem (length c.args.values.now)) ≡ false
counted c = ap not (sym c.blocks_fit.ensures ∙ c.if-not-blocks_fit.false)

pub summed-requires-in-None : goal.summed-requires-in-None
summed-requires-in-None c = blocks-within _ (counted (goal.at.summed-requires-in-None c).Else-not-blocks_fit)

pub returns-in-Some-clause-number : goal.returns-in-Some-clause-number
returns-in-Some-clause-number c =
    c.summed.ensures.number
    ∙ ap (λ (l : List ℤ). 2 when any_beyond_lem value_limit l) c.in-Some.ensures.cases.same
    ∙ sym (values-counted c.args.values.now (counted (goal.at.returns-in-Some-clause-number c).Else-not-blocks_fit))

pub returns-in-None-clause-number : goal.returns-in-None-clause-number
returns-in-None-clause-number c =
    c.summed-in-None.ensures.number
    ∙ sym (values-counted c.args.values.now (counted (goal.at.returns-in-None-clause-number c).Else-not-blocks_fit))
