-- `delays::judge::any_beyond` meets its contract: a turn tests one delay more.
-- Assumes nothing.
use Rattle.limits.specs.Limits.{delay_limit}
use Rattle.decode.specs.Number.{signeds_at}
use Rattle.limits.specs.Lists.{any_beyond_lem}
use Prim.Native.Nat.{◌-◌, ◌+◌, ◌*◌, ◌≤◌}
use mathlib.Core.Bool.{◌||◌}
use mathlib.Core.Path.{◌≡◌}
use Rattle.delays.proofs.judge.any_beyond.Given as goal

abbrev pub invariant-loop-i : goal.invariant-loop-i
invariant-loop-i l =
    (l.i ≤ l.n) × (any_beyond_lem delay_limit (signeds_at l.store l.at 8 l.n) ≡ l.found || any_beyond_lem delay_limit (signeds_at l.store (l.at + 8 * l.i) 8 (l.n - l.i)))

abbrev pub decreases-loop-i : goal.decreases-loop-i
decreases-loop-i l = l.n - l.i
