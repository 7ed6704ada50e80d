-- `encode::unsigned` meets its contract: what is written, and the bytes of the rest, give the whole.
-- Assumes nothing.
use mathlib.Core.Path.{sym, ◌∙◌}
use lib.ListN.{length-set}
use borrow.Author.Rules.{rules}
use Rattle.encode.proofs.Bytes.{bytes-turn, bytes-done}
use Rattle.encode.proofs.unsigned.Goals as goal

pub loop-byte-preserved : goal.loop-byte-preserved
loop-byte-preserved c =
    (simp length-set (search rules), c.loop-byte.invariant.1 ∙ bytes-turn c.loop-byte.out _ c.loop-byte.byte-index c.loop-byte.rest (search rules) (search rules))

pub returns : goal.returns
returns c = sym (c.loop-byte.invariant.1 ∙ bytes-done c.loop-byte.out _ c.loop-byte.byte-index c.loop-byte.rest (search rules) (search rules))
