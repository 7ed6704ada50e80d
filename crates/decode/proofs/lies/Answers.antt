-- `decode::lies` meets its contract: a difference is compared, which does not wrap.
-- Assumes nothing.
use Rattle.whole.proofs.Offsets.{lies_at}
use Rattle.decode.proofs.Little.{lies-not}
use Rattle.decode.proofs.lies.Goals as goal

pub returns-then-at-bytes : goal.returns-then-at-bytes
returns-then-at-bytes c = lies_at c.args.at c.args.width _ c.if-at-bytes.true

pub returns-else-at-bytes : goal.returns-else-at-bytes
returns-else-at-bytes c = lies-not c.args.at c.args.width _ c.if-at-bytes.false
