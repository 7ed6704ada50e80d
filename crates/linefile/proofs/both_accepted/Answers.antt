-- `linefile::both_accepted` meets its contract: the second file is judged where the first is accepted.
-- Assumes nothing.
use Rattle.std.proofs.lemmas.Result.{err_from_is_err_and}
use Rattle.limits.proofs.Cases.{refused_here, passed_here}
use Rattle.linefile.proofs.both_accepted.Goals as goal

pub returns-in_err-lines-clause-number : goal.returns-in_err-lines-clause-number
returns-in_err-lines-clause-number c =
    let p = err_from_is_err_and c.from_residual.result c.from_residual.ensures.1 in
    rw (p.1, p.2) (refused_here c.in_err-lines.field-0.0 _ c.in_err-lines.ensures.number)

pub returns-in_err-accepted-clause-number : goal.returns-in_err-accepted-clause-number
returns-in_err-accepted-clause-number c =
    let p = err_from_is_err_and c.from_residual-in_err-accepted.result c.from_residual-in_err-accepted.ensures.1 in
    rw (p.1, p.2) (passed_here c.in_ok-lines.ensures.number c.in_err-accepted.ensures.number)

pub returns-clause-number : goal.returns-clause-number
returns-clause-number c = passed_here c.in_ok-lines.ensures.number c.in_ok-accepted.ensures.number
