-- `delays::judge::rising` meets its contract: a turn looks at a start and the one before.
-- Assumes nothing.
use Rattle.delays.specs.Store.{start, rising}
use Prim.Native.Nat.{◌+◌, ◌-◌, ◌≤◌}
use mathlib.Core.Path.{◌≡◌}
use Rattle.delays.proofs.judge.rising.Given as goal

-- with no entry the turns end at 1 as well
abbrev pub invariant-loop-k : goal.invariant-loop-k
invariant-loop-k l = (1 ≤ l.k) × ((l.k ≤ l.n + (1 - l.n)) × (l.ok ≡ rising (start l.store) l.k))

abbrev pub decreases-loop-k : goal.decreases-loop-k
decreases-loop-k l = l.n - l.k
