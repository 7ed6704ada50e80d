-- `path::root::halved` meets its contract: where the bounds have come together, they are the root.
-- Assumes nothing.
use mathlib.Core.Path.{◌≡◌, subst}
use Prim.Native.Nat.{ℕ, suc, ◌*◌, ◌<◌}
use native.Mathlib.Omega.{arith}
use Rattle.path.proofs.Roots.{root-only}
use Rattle.path.proofs.root.halved.Goals as goal

pub returns : goal.returns
returns c =
    let e : c.loop-low.high ≡ c.loop-low.low = omega arith in (
      root-only c.args.n c.loop-low.low (record { reached = c.loop-low.invariant.2; next = subst (λ (k : ℕ). c.args.n < suc k * suc k) e c.loop-low.invariant.3 }),
      omega arith,
    )
