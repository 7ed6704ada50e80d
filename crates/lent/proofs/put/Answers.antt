-- `lent::put` meets its contract: where the items fit, the part is as long as they are.
-- Assumes nothing.
use mathlib.Core.Path.{sym, ◌∙◌}
use Prim.Native.Nat.{◌+◌}
use lib.ListN.{length}
use borrow.Author.Tests.{leb-true, leb-false}
use Rattle.lent.proofs.Placing.{within, not_within, put-copied}
use Rattle.lent.proofs.put.Goals as goal

pub returns-then-fits : goal.returns-then-fits
returns-then-fits g c =
    let r = leb-true (c.args.at + length c.args.items.now) (length c.args.lent.now) (sym c.fits.ensures ∙ c.if-fits.true) in
    put-copied c.args.lent.now c.args.items.now _ c.args.at r c.copy.ensures ∙ sym (within c.args.lent.now c.args.at c.args.items.now r)

pub returns-else-fits : goal.returns-else-fits
returns-else-fits g c =
    sym (not_within c.args.lent.now c.args.at c.args.items.now (leb-false (c.args.at + length c.args.items.now) (length c.args.lent.now) (sym c.fits.ensures ∙ c.if-fits.false)))
