-- `delays::store::Store::count` meets its contract: an accepted store has at most 1000 entries, and is as long as they make it.
-- Assumes nothing.
use native.Mathlib.Omega.{arith}
use Rattle.delays.proofs.Answers.{accepted, groups-fit}
use Rattle.delays.proofs.store.Store.count.Goals as goal

pub returns-clause-upper_bound : goal.returns-clause-upper_bound
returns-clause-upper_bound c = omega (arith, (accepted c.args.self.bytes.now c.args.self.accepted).few, c.count.ensures.value)

pub returns-clause-dates_in_bounds : goal.returns-clause-dates_in_bounds
returns-clause-dates_in_bounds c =
    omega (arith, groups-fit c.args.self.bytes.now (accepted c.args.self.bytes.now c.args.self.accepted).long, c.count.ensures.value)
