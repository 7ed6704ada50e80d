-- `delays::store::group_width` meets its contract: by its two cases.
-- Assumes nothing.
use Rattle.delays.specs.Store.{group_width_lem}
use native.Mathlib.Omega.{arith}
use borrow.Author.Tests.{eq-eqb, ne_eqb}
use Rattle.delays.proofs.store.group_width.Goals as goal

pub returns-then-version-eq1 : goal.returns-then-version-eq1
unfolding group_width_lem
returns-then-version-eq1 c = record {
  value = simp (eq-eqb _ _ c.if-version-eq1.true);
  upper_bound = omega arith;
}

pub returns-else-version-eq1 : goal.returns-else-version-eq1
unfolding group_width_lem
returns-else-version-eq1 c = record {
  value = simp (ne_eqb _ _ c.if-version-eq1.false);
  upper_bound = omega arith;
}
