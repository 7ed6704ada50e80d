-- `characters::comment_fits` meets its contract: what was found so far, and what is asked of the bytes left, is the answer for all.
-- Assumes nothing.
use mathlib.Core.Path.{sym, ap, ◌∙◌}
use mathlib.Core.Bool.{Bool, ◌&&◌}
use Prim.Native.Nat.{◌+◌}
use lib.ListN.{drop}
use borrow.Author.Rules.{rules}
use Rattle.characters.specs.Kinds.{printable}
use Rattle.characters.proofs.Allowed.{printable-turn, printable-done}
use Rattle.characters.proofs.comment_fits.Goals as goal

pub loop-b-preserved : goal.loop-b-preserved
loop-b-preserved c =
    ap (λ (t : Bool). c.loop-b.fit && t && printable (drop (c.loop-b.b-index + 1) c.args.text.now)) c.within-fit.ensures
    ∙ sym (printable-turn c.args.text.now c.loop-b.b-index c.loop-b.fit (search rules))
    ∙ c.loop-b.invariant

pub returns : goal.returns
returns c = sym (printable-done c.args.text.now c.loop-b.b-index c.loop-b.fit (search rules)) ∙ c.loop-b.invariant
