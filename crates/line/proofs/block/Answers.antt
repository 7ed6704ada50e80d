-- `line::block` meets its contract: each refusal comes where the rule has it, and where none does, the lent line is Line's.
-- Assumes nothing.
use mathlib.Core.Path.{sym, ap, ◌∙◌}
use lib.ListN.{length}
use Rattle.std.proofs.lemmas.Result.{err_from_is_err_and}
use Rattle.labels.specs.declared.Labels.{Labels}
use Rattle.line.specs.Line.{line_answer, line_after}
use Rattle.limits.proofs.Cases.{paper_above_zero}
use Rattle.line.proofs.Blocks.{sizes-refuse, track-refused, refused, written}
use Rattle.line.proofs.block.Goals as goal

pub returns-in_err-sizes_refusal : goal.returns-in_err-sizes_refusal
returns-in_err-sizes_refusal c =
    let p = err_from_is_err_and c.from_residual.result c.from_residual.ensures.1 in
    rw (p.1, p.2) (refused c.args.block.now c.args.lent.now _ (sizes-refuse c.args.block.now (length c.args.lent.now) _ c.in_err-sizes_refusal.ensures (paper_above_zero _)))

pub returns-in_err-numbers : goal.returns-in_err-numbers
returns-in_err-numbers c =
    let p = err_from_is_err_and c.from_residual-in_err-numbers.result c.from_residual-in_err-numbers.ensures.1 in
    rw (p.1, p.2) (refused c.args.block.now c.args.lent.now _ (track-refused c.args.block.now (length c.args.lent.now) (sym c.in_ok-sizes_refusal.ensures) _ c.in_err-numbers.ensures.answer))

pub returns : goal.returns
returns c =
    written c.args.block.now c.args.lent.now (sym c.in_ok-sizes_refusal.ensures) c.in_ok-numbers.numbers c.in_ok-numbers.ensures.answer c.in_ok-numbers.ensures.accurate
    c.line.result c.line.new.lent
    (c.line.ensures.answer ∙ ap (λ (y : Labels). line_answer y c.in_ok-numbers.numbers (length c.args.lent.now)) c.labels.ensures)
    (c.line.ensures.written ∙ ap (λ (y : Labels). line_after y c.in_ok-numbers.numbers c.args.lent.now) c.labels.ensures)
