-- `characters::allows` meets its contract: the tests are those of the definition, each call by its own contract.
-- Assumes nothing.
use Rattle.labels.specs.Labels.{code_fits_lem}
use Rattle.characters.specs.Kinds.{allows}
use Rattle.characters.proofs.allows.Goals as goal

pub returns : goal.returns
unfolding allows code_fits_lem
returns c =
    simp (c.within-digit.ensures, c.letter_fits.ensures, c.within.ensures, c.within-2.ensures)
