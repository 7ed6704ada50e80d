-- `linefile::judge::line_refusal` meets its contract: the columns are read before the end is looked at.
-- Assumes nothing.
use mathlib.Core.Path.{sym, ap}
use mathlib.Core.Bool.{Bool}
use native.Mathlib.Omega.{arith}
use Rattle.std.proofs.lemmas.Result.{err_from_is_err_and}
use Rattle.limits.specs.Refusal.{◌when◌}
use Rattle.limits.proofs.Cases.{paper_above_zero}
use Rattle.linefile.proofs.Judging.{refused-line, read-line, read-is}
use Rattle.linefile.proofs.judge.line_refusal.Goals as goal

pub returns-in_err-read : goal.returns-in_err-read
returns-in_err-read c =
    let p = err_from_is_err_and c.from_residual.result c.from_residual.ensures.1 in
    rw (p.1, p.2) (refused-line c.args.line.now (read-is c.args.line.now c.in_err-read.ensures.answer) (paper_above_zero c.in_err-read.field-0.0))

pub returns-then-line : goal.returns-then-line
unfolding ◌when◌
returns-then-line c =
    read-line c.args.line.now (omega arith) (sym (read-is c.args.line.now c.in_ok-read.ensures.answer))
    (ap (λ (b : Bool). 13 when b) (sym c.if-line.true))

pub returns : goal.returns
unfolding ◌when◌
returns c =
    read-line c.args.line.now (omega arith) (sym (read-is c.args.line.now c.in_ok-read.ensures.answer))
    (ap (λ (b : Bool). 13 when b) (sym c.if-line.false))
