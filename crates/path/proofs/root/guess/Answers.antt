-- `path::root::guess` is safe: what is no number has no bits taken, and a pattern below that of infinity is no NaN's.
-- Assumes nothing.
use mathlib.Core.Path.{sym, subst}
use native.Mathlib.Omega.{arith}
use lib.Dec.{T}
use lib.Ieee.{binary64, fits}
use lib.Ieee.Bits.{to_bits-lt}
use Rattle.path.proofs.Patterns.{no-nan-above, low-pattern}
use Rattle.path.proofs.root.guess.Goals.{Start}
use Rattle.path.proofs.root.guess.Goals as goal

held : (c : Start) → T (fits binary64 c.args.n)
held c = subst T (sym c.well_formed.0.1) tt

pub float_to_bits-half : goal.float_to_bits-half
float_to_bits-half c = no-nan-above _ c.args.n c.if-n.true

pub overflow_add-half : goal.overflow_add-half
overflow_add-half c = omega (arith, to_bits-lt binary64 c.args.n (held (goal.at.overflow_add-half c).Start))

pub float_from_bits-result : goal.float_from_bits-result
float_from_bits-result c = low-pattern _ c.if-half-lt9218868437227405312.true
