-- `Series::dsg` meets its contract: low's threshold is reached, high's is not, and they come together.
-- Assumes nothing.
use mathlib.Core.Path.{◌≡◌, sym, subst}
use Prim.Native.Nat.{ℕ, suc}
use native.Mathlib.Omega.{arith}
use lib.Dec.{lit<}
use lib.IntN.{ℤ, pos}
use lib.ListN.{length}
use Rattle.whole.specs.Order.{◌⋖◌}
use Rattle.whole.proofs.Order.{pos-lt}
use Rattle.exact.specs.Corrected.{steps}
use Rattle.series.specs.Scatter.{threshold}
use Rattle.series.proofs.Thresholds.{cap-is, dsg-greatest, greatest-only}
use Rattle.series.proofs.sums.Series.dsg.Goals as goal

pub loop-low-init : goal.loop-low-init
loop-low-init c = (
  lit< tt,
  omega arith,
  λ h. absurd (omega arith),
  subst (λ (z : ℤ). pos c.args.q ⋖ z) (sym (cap-is (length c.args.self.now.values.now))) (pos-lt c.requires),
)

pub returns : goal.returns
returns c =
    let e : c.loop-low.high ≡ suc c.loop-low.low = omega arith in
    greatest-only steps (length c.args.self.now.values.now) (record { reached = c.loop-low.invariant.2; next = subst (λ (k : ℕ). pos c.args.q ⋖ threshold steps (length c.args.self.now.values.now) k) e c.loop-low.invariant.3 })
    (dsg-greatest steps (length c.args.self.now.values.now) (lit< tt) (omega (arith, c.args.self.now.count)) (pos c.args.q))
