-- `limits::any_outside` meets its contract, by what `scan` answers.
-- Assumes nothing.
use borrow.Author.Rules.{rules}
use Rattle.limits.proofs.Scans.{scan_is_err}
use Rattle.limits.proofs.any_outside.Goals as goal

pub returns : goal.returns
returns c = search (rules, scan_is_err)
