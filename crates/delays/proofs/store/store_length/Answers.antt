-- `delays::store::store_length` meets its contract: by the width of a group.
-- Assumes nothing.
use Rattle.delays.proofs.Stores.{width-times}
use native.Mathlib.Omega.{arith}
use Prim.Native.Nat.{ℕ, ◌+◌, ◌*◌}
use mathlib.Core.Path.{ap}
use Rattle.delays.specs.Store.{store_length_lem}
use Rattle.delays.proofs.store.store_length.Goals as goal

pub overflow_mul-result-2 : goal.overflow_mul-result-2
overflow_mul-result-2 c = omega (arith, width-times c.group_width.ensures.upper_bound c.requires)

pub overflow_add-result-2 : goal.overflow_add-result-2
overflow_add-result-2 c = omega (arith, width-times c.group_width.ensures.upper_bound c.requires)

pub returns : goal.returns
unfolding store_length_lem
returns c = ap (λ (w : ℕ). 4 + (4 + 8 * w) * c.args.count) c.group_width.ensures.value
