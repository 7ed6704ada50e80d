-- `decode::chunk` meets its contract: what the test says picks the definition's case.
-- Assumes nothing.
use mathlib.Core.Path.{sym, ap, ◌∙◌}
use Rattle.decode.specs.Number.{little}
use Rattle.decode.proofs.Little.{unsigned-inside, unsigned-outside, little-none}
use Rattle.decode.proofs.chunk.Goals as goal

pub returns-then-lies : goal.returns-then-lies
returns-then-lies g c = ap little c.chunk.ensures ∙ unsigned-inside g.row.N c.args.at c.args.bytes.now (sym c.lies.ensures ∙ c.if-lies.true)

pub returns-else-lies : goal.returns-else-lies
returns-else-lies g c = little-none g.row.N ∙ unsigned-outside g.row.N c.args.at c.args.bytes.now (sym c.lies.ensures ∙ c.if-lies.false)
