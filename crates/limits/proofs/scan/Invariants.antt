-- `limits::scan` meets its contract: what is asked of the whole list is asked of what is left of it.
-- Assumes nothing.
use Prim.Native.Nat.{◌≤◌, ◌-◌}
use lib.ListN.{length}
use Rattle.limits.proofs.Scans.{Left}
use Rattle.limits.proofs.scan.Given as goal

abbrev pub invariant-loop-read : goal.invariant-loop-read
invariant-loop-read l = (l.read ≤ length l.values) × Left l.low l.high l.values l.read

abbrev pub decreases-loop-read : goal.decreases-loop-read
decreases-loop-read l = length l.values - l.read
