-- `characters::Form::refusal` meets its contract: the tests are those of the row, one behind the other.
-- Assumes nothing.
use mathlib.Core.Path.{refl, sym, ap, ap₂, ◌∙◌}
use mathlib.Core.Bool.{Bool, true, false, not, ◌||◌}
use Prim.Native.Nat.{◌+◌}
use Rattle.limits.specs.Refusal.{◌when◌, ◌then◌}
use Rattle.limits.proofs.Parts.{rest_part}
use Rattle.characters.specs.Kinds.{printable}
use Rattle.characters.proofs.Spelled.{row_is}
use Rattle.characters.proofs.Form.refusal.Goals as goal

pub returns-then-line-columns : goal.returns-then-line-columns
unfolding ◌when◌ ◌then◌
returns-then-line-columns c =
    row_is c.args.self c.args.line.now c.columns-columns.ensures c.longest.ensures (sym c.if-line-columns.true) refl refl

pub returns-then-not-checked : goal.returns-then-not-checked
unfolding ◌when◌ ◌then◌
returns-then-not-checked c =
    row_is {wrong = true} c.args.self c.args.line.now c.columns-columns.ensures c.longest.ensures (sym c.if-line-columns.false)
    (sym (ap not (sym c.checked.ensures ∙ c.if-not-checked.true))) refl

pub returns-then-kinds_fit-comment_fits : goal.returns-then-kinds_fit-comment_fits
unfolding ◌when◌ ◌then◌
returns-then-kinds_fit-comment_fits c =
    row_is {wrong = false} {other = true} c.args.self c.args.line.now c.columns-columns.ensures c.longest.ensures (sym c.if-line-columns.false)
    (sym (ap not (sym c.checked.ensures ∙ c.if-not-checked.false)))
    (sym c.if-kinds_fit-comment_fits.true ∙ ap₂ (λ (fit text : Bool). not fit || not text) c.kinds_fit.ensures (c.comment_fits.ensures ∙ ap printable (rest_part c.args.line.now (c.columns-columns.result + 2))))

pub returns : goal.returns
unfolding ◌when◌ ◌then◌
returns c =
    row_is {wrong = false} {other = false} c.args.self c.args.line.now c.columns-columns.ensures c.longest.ensures (sym c.if-line-columns.false)
    (sym (ap not (sym c.checked.ensures ∙ c.if-not-checked.false)))
    (sym c.if-kinds_fit-comment_fits.false ∙ ap₂ (λ (fit text : Bool). not fit || not text) c.kinds_fit.ensures (c.comment_fits.ensures ∙ ap printable (rest_part c.args.line.now (c.columns-columns.result + 2))))
