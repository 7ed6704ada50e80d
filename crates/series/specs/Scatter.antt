-- Scatter (document 01, "Scatter"; document 02, Jobs 3 and 8): DSG, the root mean square of the residuals of n values from their line, in 0.1 ns. Values
-- and residuals are counted in steps of which a picosecond has s; the rule takes `steps` of them, tenths.
-- Assumes nothing.
use Rattle.std.specs.Prelude.{ℕ, zero, suc, ◌*◌, ◌-◌, ◌^◌, true, false, cond, List, ℤ, pos, nat_abs, ◌-ℤ◌, ◌*ℤ◌, length}
use Rattle.std.specs.Int.Signed.{le_z, lt_z}
use Rattle.whole.specs.Sum.{sum}
use Rattle.whole.specs.Nearest.{nearest}
use Rattle.whole.specs.Square.{squared}
use Rattle.limits.specs.Refusal.{◌then◌}
use Rattle.limits.specs.Limits.{dsg_number}
use Rattle.whole.specs.Table.{at}
use Rattle.exact.specs.Corrected.{steps}
use Rattle.exact.specs.Weights.{place}
use Rattle.limits.specs.Reply.{Reply, reply}
use Rattle.series.specs.Fit.{total, moment, series_number}

-- The residual of value j: the value - S / n - 3 (2j - (n - 1)) T / (n (n² - 1)), nearest. With 52 values that is
-- (46852 × value - 901 × S - (2j - 51) × T) / 46852.
unfoldable pub residual : ℕ → (ℕ → ℤ) → ℕ → ℤ
residual n v j =
    nearest
    (pos (n * (n * n - 1)) *ℤ v j -ℤ pos (n * n - 1) *ℤ total n v -ℤ pos 3 *ℤ (place n j *ℤ moment n v))
    (n * (n * n - 1))

-- Q, the sum of the squared residuals.
unfoldable pub squares : ℕ → (ℕ → ℤ) → ℤ
squares n v = sum n (λ j. squared (residual n v j))

-- The least Q that a DSG of d has, for d from 1 up: in tenths n (1000d - 500)².
unfoldable pub threshold : ℕ → ℕ → ℕ → ℤ
threshold s n d = pos n *ℤ squared (pos s *ℤ (pos (100 * d) -ℤ pos 50))

-- From d up, the last number whose threshold is not above q, in at most k turns.
unfoldable pub climb : (ℕ → ℤ) → ℤ → ℕ → ℕ → ℕ
climb e q zero d = d
climb e q (suc k) d = elim (le_z (e (suc d)) q) [ true ↦ climb e q k (suc d) | false ↦ d ]

-- DSG: 0 if q is under 2500 s² n, in tenths 250000 n, with 52 values 13000000; otherwise the greatest d from 1 up whose threshold is not above q. As a
-- threshold lies above its d, q turns are enough. That it is the greatest are the laws `dsg-greatest` and `greatest` of proofs/Thresholds.antt.
unfoldable pub dsg : ℕ → ℕ → ℤ → ℕ
dsg s n q = cond (lt_z q (pos (2500 * (s * s) * n))) 0 (climb (threshold s n) q (nat_abs q) 1)

-- From n times this up, the sum of n squares has a DSG above 9999: the threshold of 10000 for one value, (100 × 10000 - 50)² ps², in steps.
abbrev pub squares_cap : ℕ
squares_cap = (steps * 999950) ^ 2

-- 1 and 2 as in Fit. 6: DSG is above 9999.
unfoldable pub scatter_rule : List ℤ → Reply ℤ
scatter_rule l =
    let n = length l in
    let sigma = pos (dsg steps n (squares n (at l))) in
    reply (pos 0) (series_number l then dsg_number sigma) sigma
