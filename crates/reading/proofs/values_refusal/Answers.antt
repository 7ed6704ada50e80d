-- `reading::values_refusal` meets its contract: the row of tests is the rule's, for a line whose characters are those of its columns.
-- Assumes nothing.
use mathlib.Core.Path.{refl, sym, ap, ◌∙◌}
use mathlib.Core.Bool.{true, false}
use Rattle.std.proofs.lemmas.Result.{err_from_is_err_and}
use Rattle.limits.specs.Numbers.{paper_number, number_of}
use Rattle.limits.specs.Refusal.{◌when◌, ◌then◌}
use Rattle.limits.proofs.Laws.{then-refused}
use Rattle.limits.proofs.Cases.{paper_above_zero}
use Rattle.reading.proofs.Refusals.{values_are}
use Rattle.reading.proofs.values_refusal.Goals as goal

pub returns-then-minus_zero : goal.returns-then-minus_zero
unfolding ◌when◌ ◌then◌
returns-then-minus_zero c =
    values_are c.args.columns.line.now c.args.columns.shared {minus = true} c.args.labels c.args.numbers c.requires
    (sym c.if-minus_zero.true ∙ c.minus_zero.ensures) refl refl

pub returns-in_err-refusal : goal.returns-in_err-refusal
unfolding ◌when◌ ◌then◌
returns-in_err-refusal c =
    let p = err_from_is_err_and c.from_residual.result c.from_residual.ensures.1 in
    ap number_of p.1
    ∙ ap paper_number p.2
    ∙ sym (then-refused _ _ (paper_above_zero c.in_err-refusal.field-0.0))
    ∙ values_are c.args.columns.line.now c.args.columns.shared {minus = false} c.args.labels c.args.numbers c.requires
    (sym c.if-minus_zero.false ∙ c.minus_zero.ensures) c.in_err-refusal.ensures refl

pub returns-then-time_beyond : goal.returns-then-time_beyond
unfolding ◌when◌ ◌then◌
returns-then-time_beyond c =
    values_are c.args.columns.line.now c.args.columns.shared {minus = false} {time = true} c.args.labels c.args.numbers c.requires
    (sym c.if-minus_zero.false ∙ c.minus_zero.ensures) c.in_ok-refusal.ensures
    (sym c.if-time_beyond.true ∙ c.time_beyond.ensures)

pub returns : goal.returns
unfolding ◌when◌ ◌then◌
returns c =
    values_are c.args.columns.line.now c.args.columns.shared {minus = false} {time = false} c.args.labels c.args.numbers c.requires
    (sym c.if-minus_zero.false ∙ c.minus_zero.ensures) c.in_ok-refusal.ensures
    (sym c.if-time_beyond.false ∙ c.time_beyond.ensures)
