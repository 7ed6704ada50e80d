-- `boundary::trackline_read` meets its contract: the case of the reading tells the answer and what is put.
-- Assumes nothing.
use mathlib.Core.Path.{ap, ap₂, ◌∙◌}
use native.Mathlib.Omega.{arith}
use Rattle.limits.specs.Numbers.{number_of}
use Rattle.reading.proofs.Readings.{accepted-case, accepted-values, refused-case, refused-number}
use Rattle.columns.specs.Columns.{read_labels, read_numbers}
use Rattle.reading.specs.Read.{read_number}
use Rattle.boundary.specs.Values.{values_of, read_answer, read_after}
use Rattle.boundary.proofs.Rows.{row-refused, row_put}
use Rattle.boundary.proofs.trackline_read.Goals as goal

pub returns-in_default : goal.returns-in_default
unfolding read_answer read_after
returns-in_default c =
    let number = c.reply_number.ensures ∙ ap number_of c.in_default.is ∙ refused-number c.args.line.now c.in_default.is c.read-answer.ensures.answer in
    let some = refused-case c.args.line.now c.in_default.is c.read-answer.ensures.answer in
    let e = row-refused (read_number c.args.line.now) (values_of (read_labels c.args.line.now) (read_numbers c.args.line.now)) c.args.lent.now number (omega (arith, number, some)) in
    record { answer = e.0; written = e.1 }

pub returns : goal.returns
unfolding read_answer read_after
returns c =
    let v = accepted-values c.args.line.now c.in-Ok.is c.read-answer.ensures.answer in
    let e = row_put (read_number c.args.line.now) _ c.args.lent.now (accepted-case c.args.line.now c.in-Ok.is c.read-answer.ensures.answer)
    (c.values-row.ensures ∙ ap₂ values_of v.0 v.1) c.put.ensures.answer c.put.ensures.written in
    record { answer = c.reply_number-2.ensures ∙ e.0; written = e.1 }
