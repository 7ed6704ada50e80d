-- `reading::old_refusal` meets its contract: what the characters and then the values are refused for.
-- Assumes nothing.
use mathlib.Core.Path.{◌≡◌, sym, ap, ap₂, ◌∙◌}
use mathlib.Core.List.{List}
use Prim.Native.Nat.{ℕ}
use Rattle.std.proofs.lemmas.Result.{err_from_is_err_and}
use Rattle.limits.specs.Numbers.{paper_number, number_of}
use Rattle.limits.proofs.Cases.{refused_here, passed_here}
use Rattle.labels.specs.declared.Labels.{Labels}
use Rattle.limits.specs.declared.Numbers.{Numbers}
use Rattle.characters.specs.Characters.{old_characters_number}
use Rattle.characters.proofs.Spelled.{spelled}
use Rattle.reading.specs.Read.{values_number}
use Rattle.reading.specs.Old.{old_number}
use Rattle.reading.specs.Fields.{Shared}
use Rattle.reading.proofs.Columns.{old-shared}
use Rattle.reading.proofs.old_refusal.Goals as goal

pub returns-in_err-old_refusal : goal.returns-in_err-old_refusal
unfolding old_number
returns-in_err-old_refusal c =
    let p = err_from_is_err_and c.from_residual.result c.from_residual.ensures.1 in
    ap number_of p.1
    ∙ ap paper_number p.2
    ∙ refused_here _ _ c.in_err-old_refusal.ensures

-- columns 2 to 101 hold what they may hold, where the characters are accepted
shared-so : (old : List ℕ) → 0 ≡ old_characters_number old → Shared old
shared-so old e = old-shared old (spelled old (sym e)).columns

pub invariant_of-columns : goal.invariant_of-columns
invariant_of-columns c = record { shared = shared-so _ c.in_ok-old_refusal.ensures }

pub returns : goal.returns
unfolding old_number
returns c =
    passed_here c.in_ok-old_refusal.ensures
    (c.values_refusal.ensures ∙ ap₂ (λ (l : Labels) (n : Numbers). values_number l n c.args.old.now) c.labels_with-labels.ensures c.numbers-numbers.ensures)
