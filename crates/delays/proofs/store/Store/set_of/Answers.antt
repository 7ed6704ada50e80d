-- `delays::store::Store::set_of` meets its contract: the group begins as many numbers on as the groups before it hold.
-- Assumes nothing.
use Rattle.delays.proofs.Stores.{width-times, set_is}
use mir.Facts.{to_z-of_z}
use mir.Syntax.{w64}
use mir.Val.{SFits}
use Prim.Native.Nat.{◌*◌, ◌≤◌}
use native.Mathlib.Omega.{arith}
use mathlib.Core.Path.{◌∙◌}
use borrow.Author.Rules.{rules}
use Rattle.delays.proofs.store.Store.set_of.Goals.{After-group_width}
use Rattle.delays.proofs.store.Store.set_of.Goals as goal

-- where the group begins, in numbers of eight bytes
product : (c : After-group_width) → c.group_width.result * c.args.k ≤ 262144
product c = width-times c.group_width.ensures.upper_bound (omega arith)

pub overflow_mul-at-2 : goal.overflow_mul-at-2
overflow_mul-at-2 c = omega (arith, product c)

pub overflow_mul-at-3 : goal.overflow_mul-at-3
overflow_mul-at-3 c = omega (arith, product c)

pub overflow_add-at-2 : goal.overflow_add-at-2
overflow_add-at-2 c = omega (arith, product c)

pub overflow_add-at-3 : goal.overflow_add-at-3
overflow_add-at-3 c = omega (arith, product (goal.at.overflow_add-at-3 c).After-group_width)

pub overflow_add-at-4 : goal.overflow_add-at-4
overflow_add-at-4 c = omega (arith, product (goal.at.overflow_add-at-4 c).After-group_width)

pub overflow_add-at-5 : goal.overflow_add-at-5
overflow_add-at-5 c = omega (arith, product (goal.at.overflow_add-at-5 c).After-group_width)

pub returns : goal.returns
returns c =
    let int : SFits w64 c.signed64.result = search rules in
    let cab : SFits w64 c.signed64-2.result = search rules in
    let refdly : SFits w64 c.signed64-3.result = search rules in
    let gd : SFits w64 c.gd.result = search rules in
    set_is c.args.self.bytes.now c.args.k c.version-version.ensures c.count.ensures.value c.group_width.ensures.value
    (to_z-of_z {w = w64} int ∙ c.signed64.ensures)
    (to_z-of_z {w = w64} cab ∙ c.signed64-2.ensures)
    (to_z-of_z {w = w64} refdly ∙ c.signed64-3.ensures)
    (to_z-of_z {w = w64} gd ∙ c.gd.ensures)
