-- `decode::signed64` meets its contract: std's number of the bytes is the definition's.
-- Assumes nothing.
use mathlib.Core.Path.{ap, ◌∙◌}
use borrow.Author.Rules.{rules}
use mir.Syntax.{w64}
use mir.Val.{SFits, to_z}
use mir.Facts.{to_z-of_z}
use Rattle.decode.specs.Number.{signed_at_lem}
use Rattle.decode.proofs.Little.{eight, signed_is}
use Rattle.decode.proofs.signed64.Goals as goal

pub returns : goal.returns
unfolding signed_at_lem
returns c =
    let fits : SFits w64 c.from_le_bytes.result = search rules in
    to_z-of_z fits
    ∙ c.from_le_bytes.ensures
    ∙ ap (to_z w64) (eight c.chunk.result (search rules) ∙ c.chunk.ensures)
    ∙ signed_is _
