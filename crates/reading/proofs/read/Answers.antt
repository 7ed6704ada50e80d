-- `reading::read` meets its contract: what the characters and then the values are refused for, else what stands in the columns.
-- Assumes nothing.
use mathlib.Core.Path.{◌≡◌, sym, ap, ap₂, ◌∙◌}
use mathlib.Core.Bool.{true}
use mathlib.Core.List.{List}
use Prim.Native.Nat.{ℕ, ◌-◌}
use lib.ListN.{length, take}
use Rattle.std.specs.Prelude.{Err}
use Rattle.std.proofs.lemmas.Result.{err_from_is_err_and}
use Rattle.limits.proofs.Laws.{then-passed}
use Rattle.limits.proofs.Parts.{rest_part}
use Rattle.limits.proofs.Cases.{paper_above_zero}
use Rattle.characters.specs.Characters.{our_characters_number}
use Rattle.characters.specs.Kinds.{kinds, allowed}
use Rattle.characters.proofs.Spelled.{spelled}
use Rattle.labels.specs.declared.Labels.{Labels}
use Rattle.limits.specs.declared.Numbers.{Numbers}
use Rattle.columns.specs.Columns.{read_labels, read_numbers}
use Rattle.reading.specs.Read.{values_number, read_number, read_rule}
use Rattle.reading.specs.Answers.{read_reply}
use Rattle.reading.proofs.Columns.{shared}
use Rattle.reading.proofs.Refusals.{reply-characters, reply-values, reply-line}
use Rattle.reading.proofs.read.Goals as goal

-- the line as it is taken anew, which is the same
abbrev anew : List ℕ → List ℕ
anew line = take (length line - 0) line

same : (line : List ℕ) → anew line ≡ line
same line = rest_part line 0

-- its columns, where the characters are accepted
columns-so : (line : List ℕ) → 0 ≡ our_characters_number line → allowed kinds line ≡ true
columns-so line e = (spelled line (sym e)).columns

-- a row of what was read is that of what stands in the line
own-values : {number : ℕ} {labels : Labels} {numbers : Numbers} (line : List ℕ) → number ≡ values_number labels numbers line → labels ≡ read_labels line
    → numbers ≡ read_numbers line → number ≡ values_number (read_labels line) (read_numbers line) line
own-values line e l n = e ∙ ap₂ (λ (x : Labels) (y : Numbers). values_number x y line) l n

pub returns-in_err-refusal : goal.returns-in_err-refusal
returns-in_err-refusal c =
    let p = err_from_is_err_and c.from_residual.result c.from_residual.ensures.1 in record {
      answer = ap read_reply (p.1 ∙ ap Err p.2) ∙ reply-characters _ c.in_err-refusal.ensures (paper_above_zero _) ∙ ap read_rule (same _);
    }

pub invariant_of-columns : goal.invariant_of-columns
invariant_of-columns c = record { shared = shared _ (columns-so _ c.in_ok-refusal.ensures) }

pub labels-labels-requires : goal.labels-labels-requires
labels-labels-requires c = columns-so _ c.in_ok-refusal.ensures

pub returns-in_err-values_refusal : goal.returns-in_err-values_refusal
returns-in_err-values_refusal c =
    let p = err_from_is_err_and c.from_residual-in_err-values_refusal.result c.from_residual-in_err-values_refusal.ensures.1 in
    let v = own-values (anew c.args.line.now) c.in_err-values_refusal.ensures c.labels-labels.ensures c.numbers-numbers.ensures in record {
      answer = ap read_reply (p.1 ∙ ap Err p.2) ∙ reply-values _ (sym c.in_ok-refusal.ensures) v (paper_above_zero _) ∙ ap read_rule (same _);
    }

pub returns : goal.returns
unfolding read_number
returns c =
    let v = own-values (anew c.args.line.now) c.in_ok-values_refusal.ensures c.labels-labels.ensures c.numbers-numbers.ensures in record {
      answer = reply-line _ (then-passed _ _ (sym c.in_ok-refusal.ensures) ∙ sym v) c.labels-labels.ensures c.numbers-numbers.ensures ∙ ap read_rule (same _);
    }
