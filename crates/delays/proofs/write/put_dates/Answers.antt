-- `delays::write::put_dates` meets its contract: the four pieces make its head.
-- Assumes nothing.
use Prim.Native.Nat.{ℕ, ◌+◌, ◌*◌, ◌≤◌}
use native.Mathlib.Omega.{arith}
use lib.ListN.{length}
use Rattle.delays.proofs.Writing.{dates-written}
use Rattle.delays.proofs.write.put_dates.Goals as goal

head-room : (entries store file : ℕ) → 4 + 4 * entries ≤ store → store + 4 ≤ file → 8 + 4 * entries ≤ file
head-room entries store file h k = omega arith

pub returns : goal.returns
returns c =
    let n = c.count-entries.ensures in
    dates-written c.args.store.bytes.now c.count-entries.result n.value n.dates_in_bounds c.args.mjd c.args.file.now
    (head-room c.count-entries.result (length c.args.store.bytes.now) (length c.args.file.now) n.dates_in_bounds c.requires)
    c.put.ensures c.put_number.ensures c.put-2.ensures c.put_number-2.ensures
