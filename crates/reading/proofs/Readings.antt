-- What the reader answers (specs/Answers.antt): what the case of an answer tells of the line.
-- Assumes nothing.
use mathlib.Core.Path.{◌≡◌, sym, ap, ◌∙◌, subst}
use mathlib.Core.List.{List}
use Prim.Native.Nat.{ℕ, ◌<◌}
use Rattle.std.specs.Prelude.{Result, Ok, Err}
use Rattle.limits.specs.Limits.{no_numbers}
use Rattle.limits.specs.Numbers.{paper_number}
use Rattle.limits.specs.Reply.{Reply}
use Rattle.limits.specs.declared.refusal.Refusal.{Refusal}
use Rattle.limits.proofs.Cases.{paper_above_zero}
use Rattle.limits.proofs.Replies.{reply-number, reply-values}
use Rattle.labels.specs.declared.Labels.{Labels}
use Rattle.limits.specs.declared.Numbers.{Numbers}
use Rattle.columns.specs.Columns.{read_labels, read_numbers}
use Rattle.reading.specs.Read.{read_number, no_labels, read_rule}
use Rattle.reading.specs.declared.Reading.{Reading}
use Rattle.reading.specs.Answers.{read_reply}

module _ (line : List ℕ) where
  number_is : (r : Result Reading Refusal) → read_reply r ≡ read_rule line → (read_reply r).number ≡ read_number line
  unfolding read_rule
  number_is r e = ap (λ (t : Reply (Labels × Numbers)). t.number) e ∙ reply-number _ _ (read_number line)

  pub accepted-case : {r : Result Reading Refusal} {reading : Reading} → r ≡ Ok reading → read_reply r ≡ read_rule line → read_number line ≡ 0
  accepted-case {r} e a = sym (number_is r a) ∙ ap (λ (t : Result Reading Refusal). (read_reply t).number) e

  pub refused-number : {r : Result Reading Refusal} {refusal : Refusal} → r ≡ Err refusal → read_reply r ≡ read_rule line → paper_number refusal ≡ read_number line
  refused-number {r} e a = sym (ap (λ (t : Result Reading Refusal). (read_reply t).number) e) ∙ number_is r a

  pub refused-case : {r : Result Reading Refusal} {refusal : Refusal} → r ≡ Err refusal → read_reply r ≡ read_rule line → 0 < read_number line
  refused-case {r} {refusal} e a = subst (λ (n : ℕ). 0 < n) (refused-number e a) (paper_above_zero refusal)

  pub accepted-values : {r : Result Reading Refusal} {reading : Reading} → r ≡ Ok reading → read_reply r ≡ read_rule line
      → (reading.labels ≡ read_labels line) × (reading.numbers ≡ read_numbers line)
  unfolding read_rule
  accepted-values e a =
      let p = (reply-values (no_labels, no_numbers) (read_labels line, read_numbers line) (read_number line) (sym (ap read_reply e) ∙ a)).1 in
      (ap (λ (t : Labels × Numbers). t.0) p, ap (λ (t : Labels × Numbers). t.1) p)
