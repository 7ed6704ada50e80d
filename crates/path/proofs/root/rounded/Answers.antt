-- `path::root::rounded` is safe: what is no number has no bits taken. Nothing is said of its result.
-- Assumes nothing.
use Rattle.path.proofs.Patterns.{no-nan-above}
use Rattle.path.proofs.root.rounded.Goals as goal

pub float_to_bits-result : goal.float_to_bits-result
float_to_bits-result c = no-nan-above _ _ c.if-shifted.true
