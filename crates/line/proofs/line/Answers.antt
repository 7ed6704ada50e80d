-- `line::line` meets its contract: refused, it touches nothing; accepted, there is room for the text, which is written.
-- Assumes nothing.
use mathlib.Core.Path.{sym, ◌∙◌}
use native.Mathlib.Nat.{ne_of_gt, suc-ne-zero}
use lib.ListN.{length}
use Rattle.std.proofs.lemmas.Result.{err_from_is_err_and}
use Rattle.limits.proofs.Cases.{paper_above_zero}
use Rattle.line.proofs.Accepted.{content-refused, room-refused, answer-zero, kept, written}
use Rattle.line.proofs.line.Goals as goal

pub returns-in_err-refusal : goal.returns-in_err-refusal
returns-in_err-refusal c =
    let p = err_from_is_err_and c.from_residual.result c.from_residual.ensures.1 in
    let e = content-refused c.args.labels c.args.numbers (length c.args.lent.now) _ c.in_err-refusal.ensures in
    rw (p.1, p.2) (record { answer = e; written = kept c.args.labels c.args.numbers c.args.lent.now (λ z. ne_of_gt (paper_above_zero _) (e ∙ z)) })

pub returns-then-lent-lt-LINE_LENGTH : goal.returns-then-lent-lt-LINE_LENGTH
returns-then-lent-lt-LINE_LENGTH c =
    let e = room-refused c.args.labels c.args.numbers (length c.args.lent.now) (sym c.in_ok-refusal.ensures) c.if-lent-lt-LINE_LENGTH.true in
    record { answer = e; written = kept c.args.labels c.args.numbers c.args.lent.now (λ z. suc-ne-zero 8 (e ∙ z)) }

pub returns : goal.returns
returns c =
    let z = answer-zero c.args.labels c.args.numbers (length c.args.lent.now) (sym c.in_ok-refusal.ensures) c.if-lent-lt-LINE_LENGTH.false in
    record { answer = sym z; written = written c.args.labels c.args.numbers c.args.lent.now _ z c.write.ensures }
