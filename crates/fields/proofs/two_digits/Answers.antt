-- `fields::two_digits` meets its contract: past the end of a list its elements count as 0.
-- Assumes nothing.
use Prim.Native.Nat.{◌+◌}
use native.Mathlib.Omega.{arith}
use lib.ListN.{get_or-eq_default}
use Rattle.fields.proofs.two_digits.Goals as goal

pub returns-then-text-at : goal.returns-then-text-at
returns-then-text-at c =
    (omega (arith, get_or-eq_default c.args.text.now 0 {n = c.args.at} c.if-text-at.true, get_or-eq_default c.args.text.now 0 {n = c.args.at + 1} (omega (arith, c.if-text-at.true))), omega arith)
