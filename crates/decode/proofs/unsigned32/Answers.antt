-- `decode::unsigned32` meets its contract: std's number of the bytes is the definition's.
-- Assumes nothing.
use mathlib.Core.Path.{◌∙◌}
use borrow.Author.Rules.{rules}
use Rattle.decode.proofs.Little.{four}
use Rattle.decode.proofs.unsigned32.Goals as goal

pub returns : goal.returns
returns c = c.from_le_bytes.ensures ∙ four c.chunk.result (search rules) ∙ c.chunk.ensures
