-- `characters::Form::kinds_fit` meets its contract: the rows are the definition's kinds, those of the last row as far as column 96 tested once more.
-- Assumes nothing.
use mathlib.Core.Path.{◌≡◌, sym, ap, ◌∙◌}
use mathlib.Core.List.{List, ◌∷◌}
use Prim.Native.Nat.{ℕ}
use lib.ListN.{take, drop}
use Rattle.fields.specs.Text.{bytes_of}
use Rattle.characters.specs.declared.Form.{Form}
use Rattle.characters.specs.Kinds.{kinds, old_kinds, allowed}
use Rattle.characters.specs.Forms.{first_kind_of, kinds_of}
use Rattle.characters.proofs.Allowed.{row-overlapping}
use Rattle.characters.proofs.Form.kinds_fit.Goals as goal

-- the first columns, of a form that is known
first-is : {self form : Form} {kind : ℕ} (line : List ℕ) → kind ≡ first_kind_of self → self ≡ form
    → allowed (kind ∷ take 95 (drop 1 kinds)) line ≡ allowed (first_kind_of form ∷ take 95 (drop 1 kinds)) line
first-is line k e = ap (λ (n : ℕ). allowed (n ∷ take 95 (drop 1 kinds)) line) (k ∙ ap first_kind_of e)

pub returns-in-Ours : goal.returns-in-Ours
unfolding kinds bytes_of
returns-in-Ours c =
    row-overlapping (take 95 kinds) (take 1 (drop 95 kinds)) (drop 96 kinds) c.args.line.now
    (c.first_fit-first.ensures ∙ first-is c.args.line.now c.first_kind.ensures c.in-Ours.is) c.row_fits.ensures
    ∙ ap (λ (form : Form). allowed (kinds_of form) c.args.line.now) (sym c.in-Ours.is)

pub returns-in-Old : goal.returns-in-Old
unfolding old_kinds kinds bytes_of
returns-in-Old c =
    row-overlapping (take 85 old_kinds) (take 11 (drop 85 old_kinds)) (drop 96 old_kinds) c.args.line.now
    (c.first_fit-first.ensures ∙ first-is c.args.line.now c.first_kind.ensures c.in-Old.is) c.row_fits-in-Old.ensures
    ∙ ap (λ (form : Form). allowed (kinds_of form) c.args.line.now) (sym c.in-Old.is)
