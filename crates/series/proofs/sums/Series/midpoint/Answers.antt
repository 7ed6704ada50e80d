-- `Series::midpoint` meets its contract: the divisor that is written out is that of 52 values.
-- Assumes nothing.
use mathlib.Core.Path.{sym, ap, ap₂, ◌∙◌}
use Prim.Native.Nat.{ℕ, ◌*◌}
use native.Mathlib.Omega.{arith}
use lib.Dec.{lit<}
use lib.IntN.{ℤ}
use lib.ListN.{length}
use Rattle.whole.specs.Nearest.{nearest}
use Rattle.whole.proofs.Words.{bound, plain-is, bounds, back-of}
use Rattle.exact.specs.Corrected.{steps}
use Rattle.series.specs.Fit.{midpoint}
use Rattle.series.proofs.Bounds.{s-word}
use Rattle.series.proofs.sums.Series.midpoint.Goals as goal

pub nearest-requires : goal.nearest-requires
nearest-requires c = let s = s-word c.args.self.now in (bound (search bounds depth 9) tt, lit< tt)

pub returns-then-n-eq52 : goal.returns-then-n-eq52
unfolding midpoint
returns-then-n-eq52 c =
    let s = s-word c.args.self.now in
    back-of c.nearest.type_inv
    ∙ c.nearest.ensures
    ∙ ap₂ (λ (z : ℤ) (n : ℕ). nearest z (100 * steps * n)) (plain-is (search bounds depth 9) tt) (sym c.if-n-eq52.true)

pub nearest-requires-2 : goal.nearest-requires-2
nearest-requires-2 c =
    let s = s-word c.args.self.now in
    (bound (search bounds depth 9) tt, omega (arith, c.args.self.now.count))

pub returns : goal.returns
unfolding midpoint
returns c =
    let s = s-word c.args.self.now in
    back-of c.nearest-2.type_inv
    ∙ c.nearest-2.ensures
    ∙ ap (λ (z : ℤ). nearest z (100 * steps * length c.args.self.now.values.now)) (plain-is (search bounds depth 9) tt)
