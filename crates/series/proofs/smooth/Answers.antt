-- `series::smooth` meets its contract.
-- Assumes nothing.
use mathlib.Core.List.{List}
use mathlib.Core.Path.{◌≡◌, sym, ap, ◌∙◌}
use native.Mathlib.Nat.{le_refl}
use lib.Dec.{lit<}
use lib.IntN.{ℤ, pos, ◌*ℤ◌}
use Rattle.whole.specs.Nearest.{nearest}
use Rattle.whole.proofs.Ring.{*ℤ-assoc}
use Rattle.whole.proofs.Rounding.{nearest-scale}
use Rattle.whole.specs.Sum.{sum}
use Rattle.whole.proofs.Words.{Word, known, equal, fits, bound, plain-is, bounds, back-of}
use Rattle.whole.specs.Table.{at}
use Rattle.exact.specs.Corrected.{steps}
use Rattle.exact.specs.Weights.{weights}
use Rattle.limits.specs.Limits.{measurement_limit}
use Rattle.limits.specs.Lists.{any_beyond_lem}
use Rattle.limits.proofs.Lists.{within-limit}
use Rattle.series.specs.Smooth.{smoothed}
use Rattle.series.proofs.Replies.{smooth-miscounted, smooth-beyond, smooth-passes}
use Rattle.series.proofs.Weights.{weighted-bound}
use Rattle.series.proofs.smooth.Goals.{After-weighted}
use Rattle.series.proofs.smooth.Goals as goal

pub returns-in_default : goal.returns-in_default
returns-in_default c = record { answer = smooth-miscounted c.args.measurements.now c.in_default.ensures.cases }

pub returns-then-any_outside : goal.returns-then-any_outside
returns-then-any_outside c =
    let w = c.in-Some.ensures.cases in record {
      answer = smooth-beyond c.args.measurements.now w.long
          (ap (any_beyond_lem measurement_limit) (sym w.same) ∙ sym c.any_outside.ensures ∙ c.if-any_outside.true);
    }

-- the sum and its divisor are those of the rule, both divided by 5
by-5 : (z : ℤ) → nearest (pos 2 *ℤ z) 221 ≡ nearest (pos steps *ℤ z) 1105
by-5 z =
    sym (nearest-scale (pos 2 *ℤ z) 221 5 (lit< tt) (lit< tt)) ∙ ap (λ (x : ℤ). nearest x 1105) (sym (*ℤ-assoc (pos 5) (pos 2) z))

-- the sum that weighted hands back
abbrev sum-word : (c : After-weighted) → Word c.weighted.result
sum-word c =
    equal c.weighted.ensures
    (known (weighted-bound (at c.in-Some.block.now) (within-limit measurement_limit c.in-Some.block.now (sym c.any_outside.ensures ∙ c.if-any_outside.false)) 15 (le_refl 15)))

pub overflow_mul-weighted : goal.overflow_mul-weighted
overflow_mul-weighted c = let w = sum-word c in fits (search bounds depth 9) tt

pub nearest-requires : goal.nearest-requires
nearest-requires c = let w = sum-word c in (bound (search bounds depth 9) tt, lit< tt)

pub returns : goal.returns
unfolding smoothed
returns c =
    let w = sum-word (goal.at.returns c).After-weighted in
    let k = c.in-Some.ensures.cases in
    let m = c.args.measurements.now in record {
      answer = rw (back-of c.nearest.type_inv ∙ c.nearest.ensures ∙ ap (λ (z : ℤ). nearest z 221) (plain-is (search bounds depth 9) tt)
          ∙ by-5 (sum 15 (λ i. at weights i *ℤ at c.in-Some.block.now i)) ∙ ap (λ (l : List ℤ). smoothed (at l)) k.same)
          (smooth-passes m k.long (ap (any_beyond_lem measurement_limit) (sym k.same) ∙ sym c.any_outside.ensures ∙ c.if-any_outside.false));
    }
