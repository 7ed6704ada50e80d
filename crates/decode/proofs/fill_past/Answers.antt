-- `decode::fill_past` meets its contract. The loop keeps the numbers stored, and those that follow from the next place on, together the whole.
-- Assumes nothing.
use mathlib.Core.Path.{◌∙◌}
use lib.ListN.{length, length-set}
use borrow.Author.Rules.{rules}
use mir.Syntax.{w64}
use mir.Val.{SFits}
use mir.Facts.{to_z-of_z}
use Rattle.decode.proofs.Signeds.{signeds-turn, signeds-done}
use Rattle.decode.proofs.fill_past.Goals as goal

pub loop-number-preserved : goal.loop-number-preserved
loop-number-preserved c =
    let fits : SFits w64 c.signed64.result = search rules in
    let stored = to_z-of_z fits ∙ c.signed64.ensures in (
      simp length-set c.loop-number.invariant.0,
      simp (stored, c.saturating_add-next.ensures)
          (signeds-turn c.args.bytes.now _ c.loop-number.out c.loop-number.next 18446744073709551615 c.args.stride (length c.args.out.now) c.loop-number.number-index (search rules) (search rules) c.loop-number.invariant.0 c.loop-number.invariant.1),
    )

pub returns : goal.returns
returns c =
    signeds-done c.args.bytes.now _ c.loop-number.out c.loop-number.next c.args.stride (length c.args.out.now) c.loop-number.number-index (search rules) c.loop-number.invariant.0 c.loop-number.invariant.1
