-- `labels::refusal` meets its contract: the tests are the definition's, in its order, each call by its own contract.
-- Assumes nothing.
use borrow.Author.Rules.{rules}
use Rattle.std.proofs.lemmas.Result.{err_from_is_err_and}
use Rattle.limits.specs.Refusal.{◌when◌, ◌then◌}
use Rattle.limits.proofs.Cases.{refused_here, passed_here}
use Rattle.labels.specs.Content.{content_number}
use Rattle.labels.proofs.refusal.Goals as goal

pub returns-then-labels_fit-track_length_fits : goal.returns-then-labels_fit-track_length_fits
unfolding content_number ◌when◌ ◌then◌
returns-then-labels_fit-track_length_fits c = search rules

pub returns-in_err-start : goal.returns-in_err-start
unfolding content_number ◌when◌
returns-in_err-start c =
    let p = err_from_is_err_and c.from_residual.result c.from_residual.ensures.1 in
    rw (p.1, p.2) (search (rules, refused_here, passed_here))

pub returns-in_err-limits : goal.returns-in_err-limits
unfolding content_number ◌when◌
returns-in_err-limits c =
    let p = err_from_is_err_and c.from_residual-in_err-limits.result c.from_residual-in_err-limits.ensures.1 in
    rw (p.1, p.2) (search (rules, refused_here, passed_here))

pub returns : goal.returns
unfolding content_number ◌when◌ ◌then◌
returns c = search rules
