-- `correcting::inputs::Corrections::beyond` meets its contract: after j turns the first j rows are inside, and the rest of the columns tells.
-- Assumes nothing.
use mathlib.Core.Bool.{Bool, ◌||◌}
use mathlib.Core.Path.{◌≡◌, sym, ap, ◌∙◌}
use Prim.Native.Nat.{◌+◌}
use Rattle.correcting.specs.Block.{group_beyond}
use Rattle.correcting.proofs.Columns.{rest_from, from_row, from-none}
use Rattle.correcting.proofs.inputs.Corrections.beyond.Goals.{After-beyond}
use Rattle.correcting.proofs.inputs.Corrections.beyond.Goals as goal

-- what is left to tell, with the row's test
rest : (c : After-beyond) → rest_from c.args.self 0 ≡ c.beyond.result || rest_from c.args.self (c.loop-j.j + 1)
rest c =
    c.loop-j.invariant
    ∙ from_row _ _ _ _ _ c.requires c.loop-j.j c.loop-j-test.true
    ∙ ap (λ (b : Bool). b || rest_from c.args.self (c.loop-j.j + 1)) (sym (c.beyond.ensures ∙ ap group_beyond c.group.ensures))

pub returns-then-beyond : goal.returns-then-beyond
returns-then-beyond c =
    sym (rest (goal.at.returns-then-beyond c).After-beyond ∙ ap (λ (b : Bool). b || rest_from c.args.self (c.loop-j.j + 1)) c.if-beyond.true)

pub loop-j-preserved : goal.loop-j-preserved
loop-j-preserved c =
    rest (goal.at.loop-j-preserved c).After-beyond ∙ ap (λ (b : Bool). b || rest_from c.args.self (c.loop-j.j + 1)) c.if-beyond.false

pub returns : goal.returns
returns c = sym (c.loop-j.invariant ∙ from-none _ _ _ _ _ c.requires c.loop-j.j c.loop-j-test.false)
