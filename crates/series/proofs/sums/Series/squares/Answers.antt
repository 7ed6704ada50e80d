-- `Series::squares` meets its contract: a residual above 10^8 alone is beyond the least sum that is refused.
-- Assumes nothing.
use mathlib.Core.Path.{◌≡◌, refl, ap, ◌∙◌}
use Prim.Native.Nat.{zero-le}
use native.Mathlib.Nat.{le_antisymm, mul-le-mul}
use native.Mathlib.Omega.{arith}
use lib.IntN.{pos, nat_abs}
use lib.ListN.{length}
use Rattle.whole.specs.Sum.{sum}
use Rattle.whole.specs.Table.{at}
use Rattle.whole.proofs.Words.{back-of}
use Rattle.series.specs.Scatter.{residual, squares}
use Rattle.series.proofs.Residuals.{square-more, square-least}
use Rattle.series.proofs.sums.Series.squares.Goals.{After-loop-j, After-unsigned_abs-r}
use Rattle.series.proofs.sums.Series.squares.Goals as goal

-- r is the magnitude of residual j
r-is : (c : After-unsigned_abs-r)
    → c.unsigned_abs-r.result ≡ nat_abs (residual (length c.args.self.now.values.now) (at c.args.self.now.values.now) c.loop-j.j)
r-is c = c.unsigned_abs-r.ensures.value ∙ ap nat_abs (back-of c.residual.type_inv ∙ c.residual.ensures)

pub loop-j-init : goal.loop-j-init
unfolding sum
loop-j-init c = record { small = zero-le; q_is = refl }

pub returns-then-r-gt-FAR : goal.returns-then-r-gt-FAR
unfolding squares
returns-then-r-gt-FAR c =
    let n = length c.args.self.now.values.now in (
      refl,
      omega (
        arith,
        mul-le-mul c.if-r-gt-FAR.true c.if-r-gt-FAR.true,
        c.args.self.now.count,
        square-least (residual n (at c.args.self.now.values.now)) n c.unsigned_abs-r.result c.loop-j.j c.loop-j-test.true
            (r-is (goal.at.returns-then-r-gt-FAR c).After-unsigned_abs-r),
      ),
    )

pub loop-j-preserved : goal.loop-j-preserved
loop-j-preserved c = record {
  small = omega (arith, mul-le-mul c.if-r-gt-FAR.false c.if-r-gt-FAR.false, c.loop-j.invariant.small);
  q_is = square-more (residual (length c.args.self.now.values.now) (at c.args.self.now.values.now)) c.loop-j.q c.unsigned_abs-r.result c.loop-j.j
      c.loop-j.invariant.q_is (r-is (goal.at.loop-j-preserved c).After-unsigned_abs-r);
}

-- at the end q is the whole sum
q-is : (c : After-loop-j) → pos c.loop-j.q ≡ squares (length c.args.self.now.values.now) (at c.args.self.now.values.now)
unfolding squares
q-is c =
    let e : c.loop-j.j ≡ length c.args.self.now.values.now = le_antisymm c.loop-j.auto.j-end c.loop-j-test.false in
    rw e at c.loop-j.invariant.q_is

pub returns-then-n-q : goal.returns-then-n-q
returns-then-n-q c = (refl, omega (arith, ap nat_abs (q-is (goal.at.returns-then-n-q c).After-loop-j), c.if-n-q.true))

pub returns : goal.returns
returns c = (q-is (goal.at.returns c).After-loop-j, omega (arith, c.if-n-q.false))
