-- `Series::threshold` meets its contract.
-- Assumes nothing.
use mathlib.Core.Path.{sym, ap, ◌∙◌}
use Prim.Native.Nat.{ℕ, ◌*◌, ◌-◌}
use native.Mathlib.Omega.{arith}
use lib.IntN.{pos}
use lib.ListN.{length}
use Rattle.exact.specs.Corrected.{steps}
use Rattle.series.proofs.Thresholds.{threshold-natural}
use Rattle.series.proofs.sums.Series.threshold.Goals as goal

pub returns : goal.returns
returns c =
    sym
    (threshold-natural steps (length c.args.self.now.values.now) c.args.d c.requires.0
    ∙ ap (λ (k : ℕ). pos (length c.args.self.now.values.now * (k * k))) {x = steps * (100 * c.args.d - 50)} {y = 1000 * c.args.d - 500} (omega (arith, c.requires.0)))
