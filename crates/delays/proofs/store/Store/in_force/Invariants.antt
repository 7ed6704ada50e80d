-- `delays::store::Store::in_force` meets its contract: what lies behind the walk starts after the date.
-- Assumes nothing.
use Rattle.delays.specs.Lookup.{in_force_lem}
use Rattle.delays.specs.Store.{start, count}
use lib.ListN.{length}
use Prim.Native.Nat.{◌+◌, ◌*◌, ◌≤◌}
use mathlib.Core.Path.{◌≡◌}
use Rattle.delays.proofs.store.Store.in_force.Given as goal

abbrev pub invariant-loop-k : goal.invariant-loop-k
invariant-loop-k l =
    record {
      few : l.k ≤ 1000;
      dates_in_bounds : 4 + 4 * l.k ≤ length l.self.bytes.now;
      same : in_force_lem (start l.self.bytes.now) l.mjd (count l.self.bytes.now) ≡ in_force_lem (start l.self.bytes.now) l.mjd l.k;
    }
