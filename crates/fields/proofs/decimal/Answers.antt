-- `fields::decimal` meets its contract. The loop writes from the right: what is still to be written, the first i digits of the
-- rest, and what is written give the whole.
-- Assumes nothing.
use mathlib.Core.Path.{sym, ◌∙◌}
use lib.ListN.{length-set}
use borrow.Author.Rules.{rules}
use Rattle.fields.proofs.Laws.{decimal-turn, decimal-done}
use Rattle.fields.proofs.decimal.Goals as goal

pub loop-i-preserved : goal.loop-i-preserved
loop-i-preserved c =
    (simp length-set c.loop-i.invariant.0, c.loop-i.invariant.1 ∙ decimal-turn c.loop-i.rest c.loop-i.i c.loop-i.out (search rules) (search rules))

pub returns : goal.returns
returns c = sym (c.loop-i.invariant.1 ∙ decimal-done c.loop-i.rest c.loop-i.i c.loop-i.out (search rules))
