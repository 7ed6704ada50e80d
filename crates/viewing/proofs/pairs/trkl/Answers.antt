-- `viewing::pairs::trkl` meets its contract: its digits stand in an accepted line.
-- Assumes nothing.
use native.Mathlib.Omega.{arith}
use Rattle.viewing.proofs.Values.{trkl-raw}
use Rattle.viewing.proofs.pairs.trkl.Goals as goal

pub returns : goal.returns
returns c =
    omega (arith, c.two_digits.ensures.0, c.two_digits-2.ensures.0, trkl-raw _ c.requires)
