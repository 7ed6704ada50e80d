-- `boundary::trackline_view` meets its contract: the case of the answer tells what is put.
-- Assumes nothing.
use mathlib.Core.Path.{◌≡◌, sym, ap, ◌∙◌}
use mathlib.Core.List.{[], ◌∷◌, map}
use native.Mathlib.Omega.{arith}
use mir.Syntax.{w64}
use mir.Val.{to_z, of_z}
use mir.Facts.{to_z-of_z}
use borrow.Author.Rules.{rules}
use Rattle.viewing.specs.View.{figures, viewed, view_number_lem, view_rule}
use Rattle.viewing.proofs.Gathering.{Fits}
use Rattle.boundary.specs.Values.{report_of, view_answer, view_after}
use Rattle.limits.proofs.Cases.{number_of_reply}
use Rattle.boundary.proofs.Rows.{accepted, above_zero, row-refused, row_put}
use Rattle.boundary.proofs.trackline_view.Goals.{In-Ok}
use Rattle.boundary.proofs.trackline_view.Goals as goal

pub returns-in_default : goal.returns-in_default
unfolding view_answer view_after view_rule
returns-in_default c =
    let f = figures (viewed c.args.first.now c.args.second.now) in
    let k = view_number_lem c.args.first.now c.args.second.now in
    let e = row-refused k (report_of f) c.args.lent.now (c.reply_number.ensures ∙ number_of_reply (figures []) c.common_view-answer.result k f c.common_view-answer.ensures.answer)
    (omega (arith, c.reply_number.ensures, above_zero c.in_default.is)) in
    record { answer = e.0; written = e.1 }

-- the report reads back from its bits
told_fit : (c : In-Ok) → Fits c.in-Ok.figures
told_fit c = search rules

report-is : (c : In-Ok) → map (λ z. to_z w64 (of_z w64 z)) (report_of c.in-Ok.figures) ≡ report_of c.in-Ok.figures
report-is c =
    let f = told_fit c in
    λ i. to_z-of_z f.pairs i ∷ to_z-of_z f.sum i ∷ to_z-of_z f.smallest i ∷ to_z-of_z f.largest i ∷ []

pub returns : goal.returns
unfolding view_answer view_after view_rule
returns c =
    let f = figures (viewed c.args.first.now c.args.second.now) in
    let k = view_number_lem c.args.first.now c.args.second.now in
    let v = accepted (figures []) f k c.in-Ok.is c.common_view-answer.ensures.answer in
    let e = row_put k (report_of f) c.args.lent.now (sym v.0) (report-is (goal.at.returns c).In-Ok ∙ ap report_of v.1) c.put.ensures.answer c.put.ensures.written in
    record { answer = c.reply_number-2.ensures ∙ e.0; written = e.1 }
