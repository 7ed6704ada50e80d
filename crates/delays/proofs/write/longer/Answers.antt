-- `delays::write::longer` meets its contract: the three pieces make the longer store.
-- Assumes nothing.
use mathlib.Core.Path.{sym, subst}
use Prim.Native.Nat.{ℕ, ◌+◌, ◌*◌, ◌≤◌}
use lib.ListN.{length}
use Rattle.delays.specs.Store.{group_width_lem}
use Rattle.delays.proofs.Writing.{store-written}
use Rattle.delays.proofs.write.longer.Goals as goal

pub returns : goal.returns
returns c =
    store-written c.args.store.bytes.now c.count.result c.count.ensures.value c.count.ensures.dates_in_bounds c.args.mjd
    c.args.delays.int c.args.delays.cab c.args.delays.refdly c.args.delays.gd c.args.file.now c.version.ensures
    (subst (λ (v : ℕ). length c.args.store.bytes.now + 4 + 8 * group_width_lem v ≤ length c.args.file.now) (sym c.version.ensures) c.requires)
    c.put_dates.ensures
    c.put.ensures
    c.put_group.ensures
