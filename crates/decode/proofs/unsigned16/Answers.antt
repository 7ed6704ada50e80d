-- `decode::unsigned16` meets its contract: std's number of the bytes is the definition's.
-- Assumes nothing.
use mathlib.Core.Path.{◌∙◌}
use borrow.Author.Rules.{rules}
use Rattle.decode.proofs.Little.{two}
use Rattle.decode.proofs.unsigned16.Goals as goal

pub returns : goal.returns
returns c = c.from_le_bytes.ensures ∙ two c.chunk.result (search rules) ∙ c.chunk.ensures
