-- `labels::ranges::constellation_fits` meets its contract: the letter's own test is the definition's.
-- Assumes nothing.
use borrow.Author.Rules.{rules}
use borrow.Author.Tests.{tests}
use Rattle.labels.specs.Labels.{constellation_fits_lem}
use Rattle.labels.proofs.ranges.constellation_fits.Goals as goal

pub returns-in-71 : goal.returns-in-71
unfolding constellation_fits_lem
returns-in-71 c = search rules

pub returns-in-82 : goal.returns-in-82
unfolding constellation_fits_lem
returns-in-82 c = search rules

pub returns-in-69 : goal.returns-in-69
unfolding constellation_fits_lem
returns-in-69 c = search rules

pub returns-in-67 : goal.returns-in-67
unfolding constellation_fits_lem
returns-in-67 c = search rules

pub returns-in_default : goal.returns-in_default
unfolding constellation_fits_lem
returns-in_default c = search (rules, tests)
