-- `trackline::put_refusal` meets its contract: the word is put, and one or two digits behind it.
-- Assumes nothing.
use Rattle.std.proofs.Common.{ℕ, List, [], ◌∷◌, ◌++◌, ◌+◌, ◌/◌, ◌%◌, ap, ◌∙◌, append_assoc}
use Rattle.trackline.specs.Printed.{refusal_text}
use Rattle.trackline.proofs.Texts.{refused_text, one-digit, two_digits}
use Rattle.trackline.proofs.put_refusal.Goals.{then-number-ge10, else-number-ge10}
use Rattle.trackline.proofs.put_refusal.Goals as goal

pub returns : goal.returns
returns c =
    let n = c.from-number.result in
    let ones : ℕ = 48 + n % 10 in
    let tens : ℕ = 48 + n / 10 % 10 in
    let text = ap refusal_text c.from-number.ensures in
    c.push-2.ensures
    ∙ elim c.if-number-ge10.branch [
      | then-number-ge10 w ↦
          ap (λ (x : List ℕ). x ++ ones ∷ []) (w.out-is ∙ w.push.ensures ∙ ap (λ (x : List ℕ). x ++ tens ∷ []) c.put.ensures ∙ append_assoc c.args.out.now refused_text (tens ∷ []))
          ∙ append_assoc c.args.out.now (refused_text ++ tens ∷ []) (ones ∷ [])
          ∙ ap (λ (x : List ℕ). c.args.out.now ++ x) (two_digits n w.if-number-ge10.true ∙ text)
      | else-number-ge10 w ↦
          ap (λ (x : List ℕ). x ++ ones ∷ []) (w.out-is ∙ c.put.ensures)
          ∙ append_assoc c.args.out.now refused_text (ones ∷ [])
          ∙ ap (λ (x : List ℕ). c.args.out.now ++ x) (one-digit n w.if-number-ge10.false ∙ text)
    ]
