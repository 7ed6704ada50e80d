-- `lent::fits` meets its contract: room is compared with the offset first, so that nothing falls below 0.
-- Assumes nothing.
use mathlib.Core.Path.{sym}
use Prim.Native.Nat.{◌+◌}
use native.Mathlib.Omega.{arith}
use borrow.Author.Tests.{lt-leb}
use Rattle.whole.proofs.Offsets.{lies_at}
use Rattle.lent.proofs.fits.Goals as goal

pub returns-then-room-at : goal.returns-then-room-at
returns-then-room-at c = sym (lt-leb (c.args.at + c.args.items) c.args.room (omega arith))

pub returns : goal.returns
returns c = lies_at c.args.at c.args.items c.args.room (omega arith)
