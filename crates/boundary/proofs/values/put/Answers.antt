-- `boundary::values::put` meets its contract: by the test on the lengths nothing is touched, or there is room for the row.
-- Assumes nothing.
use mathlib.Core.Path.{refl, ◌∙◌}
use Prim.Native.Nat.{ℕ}
use native.Mathlib.Omega.{arith}
use lib.ListN.{length}
use borrow.Author.Tests.{lt-ltb, le-ltb}
use Rattle.limits.specs.Refusal.{◌when◌}
use Rattle.lent.proofs.Placing.{within, placed_first}
use Rattle.boundary.specs.Values.{row_after}
use Rattle.boundary.proofs.values.put.Goals as goal

pub returns-then-lent-row : goal.returns-then-lent-row
unfolding ◌when◌ row_after
returns-then-lent-row c = record {
  answer = simp (lt-ltb _ _ c.if-lent-row.true);
  written = refl;
}

pub returns : goal.returns
unfolding ◌when◌ row_after
returns c = record {
  answer = simp (le-ltb _ _ c.if-lent-row.false);
  written = c.put.ensures ∙ within c.args.lent.now 0 c.args.row.now (omega arith) ∙ placed_first c.args.lent.now c.args.row.now refl;
}
