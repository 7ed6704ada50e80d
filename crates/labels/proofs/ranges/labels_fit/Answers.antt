-- `labels::ranges::labels_fit` meets its contract: the tests are those of the definition, each call by its own contract.
-- Assumes nothing.
use Rattle.labels.specs.Labels.{labels_fit_lem}
use Rattle.labels.proofs.ranges.labels_fit.Goals as goal

pub returns : goal.returns
unfolding labels_fit_lem
returns c =
    simp (c.constellation_fits.ensures, c.code_fits.ensures, c.code_fits-2.ensures, c.code_fits-3.ensures)
