-- The thirteen worked cases that document 01 marks P ("What the technician tries"), with the figures of document 02, Job 8, as one table: Smooth gives
-- tenths, Fit and Scatter take them.
-- Assumes nothing.
use Rattle.std.proofs.Common.{◌≡◌, ℕ, zero, suc, ◌*◌, List, [], ◌∷◌, ◌++◌, map, replicate, ℤ, pos, neg_ℤ, refl}
use Rattle.whole.specs.Sum.{sum}
use Rattle.whole.specs.Nearest.{nearest}
use Rattle.whole.specs.Table.{tabulate}
use Rattle.limits.specs.Refusal.{◌when◌, ◌then◌}
use Rattle.limits.specs.Limits.{outside, dsg_number}
use Rattle.exact.specs.Weights.{weights, place}
use Rattle.limits.specs.Blocks.{blocks_fit_lem}
use Rattle.limits.specs.Lists.{any_outside_lem, range_number}
use Rattle.series.specs.Smooth.{smoothed, smooth_rule}
use Rattle.series.specs.Fit.{total, moment, midpoint, slope, fit_rule}
use Rattle.series.specs.Scatter.{residual, squares, threshold, climb, dsg, scatter_rule}

pub data Case : Type 0 where
  smooth fit scatter : List ℤ → Case

-- The number, then the values.
abbrev pub run : Case → List ℤ
run (smooth l) = pos (smooth_rule l).number ∷ (smooth_rule l).values ∷ []
run (fit l) = pos (fit_rule l).number ∷ (fit_rule l).values.0 ∷ (fit_rule l).values.1 ∷ []
run (scatter l) = pos (scatter_rule l).number ∷ (scatter_rule l).values ∷ []

-- 0 but for z at place k of n
abbrev pub lone : ℕ → ℤ → ℕ → List ℤ
lone k z rest = replicate k (pos 0) ++ (z ∷ replicate rest (pos 0))

-- a, -a, -a, a repeated
abbrev pub pattern : ℕ → ℤ → List ℤ
pattern zero a = []
pattern (suc n) a = a ∷ neg_ℤ a ∷ neg_ℤ a ∷ a ∷ pattern n a

-- A case and its answer: the number, then the values.
pub cases : List (Case × List ℤ)
cases =
    (smooth (replicate 15 (neg_ℤ (pos 7))), pos 0 ∷ neg_ℤ (pos 70) ∷ [])
    ∷ (smooth (lone 7 (pos 1105) 7), pos 0 ∷ pos 1670 ∷ [])
    ∷ (smooth (lone 14 (pos 1105) 0), pos 0 ∷ neg_ℤ (pos 780) ∷ [])
    ∷ (smooth (lone 7 (pos 3) 7), pos 0 ∷ pos 5 ∷ [])
    ∷ (smooth (lone 7 (pos 4) 7), pos 0 ∷ pos 6 ∷ [])
    ∷ (smooth (lone 7 (neg_ℤ (pos 4)) 7), pos 0 ∷ neg_ℤ (pos 6) ∷ [])
    ∷ (fit (replicate 52 (pos 500)), pos 0 ∷ pos 1 ∷ pos 0 ∷ [])
    ∷ (fit (replicate 52 (neg_ℤ (pos 500))), pos 0 ∷ pos 0 ∷ pos 0 ∷ [])
    ∷ (fit (tabulate (λ j. pos (150 * j)) 52), pos 0 ∷ pos 4 ∷ pos 10 ∷ [])
    ∷ (fit (lone 51 (pos 3450) 0), pos 0 ∷ pos 0 ∷ pos 1 ∷ [])
    ∷ (scatter (pattern 13 (pos 490)), pos 0 ∷ pos 0 ∷ [])
    ∷ (scatter (pattern 13 (pos 500)), pos 0 ∷ pos 1 ∷ [])
    ∷ (scatter (pattern 13 (pos 9999490)), pos 0 ∷ pos 9999 ∷ [])
    ∷ []

pub worked : map (λ (c : Case × List ℤ). run c.0) cases ≡ map (λ (c : Case × List ℤ). c.1) cases
unfolding cases blocks_fit_lem sum nearest ◌when◌ ◌then◌ outside dsg_number any_outside_lem range_number tabulate weights smoothed smooth_rule place total moment midpoint slope fit_rule residual squares threshold climb dsg scatter_rule
worked = refl
