-- `trackline::reply` meets its contract: what Block answers decides, and two bytes end it, for which there is room.
-- Assumes nothing.
use Rattle.std.proofs.Common.{◌≡◌, ℕ, List, [], ◌∷◌, ◌++◌, replicate, length, length-append, refl, sym, ap, ◌∙◌, arith}
use Rattle.limits.specs.Numbers.{paper_number}
use Rattle.limits.proofs.Cases.{number_at_ok, number_at_err, paper_above_zero}
use native.Mathlib.Nat.{ne_of_gt}
use Rattle.columns.specs.Text.{line_length}
use Rattle.trackline.specs.Printed.{refusal_text, answer}
use Rattle.trackline.proofs.Texts.{refused-answer, written-answer, answer-length, printed-is}
use Rattle.trackline.proofs.reply.Goals.{Joined-block, in-Ok, in-Err}
use Rattle.trackline.proofs.reply.Goals as goal

-- behind the match the output is the line or the refusal
answered : (c : Joined-block) → c.match-block.out ≡ answer c.args.block.now
answered c =
    elim c.match-block.branch [
      | in-Ok w ↦
          w.out-is
          ∙ w.put.ensures
          ∙ ap (λ (x : List ℕ). x ++ c.block.new.lent) c.new-out.ensures
          ∙ written-answer c.args.block.now (replicate line_length 0) c.block.new.lent refl (sym c.block.ensures.answer ∙ number_at_ok w.in-Ok.is) c.block.ensures.written
      | in-Err w ↦
          w.out-is
          ∙ w.put_refusal.ensures
          ∙ ap (λ (x : List ℕ). x ++ refusal_text (paper_number w.in-Err.refusal)) c.new-out.ensures
          ∙ refused-answer c.args.block.now _ (sym (number_at_err w.in-Err.is) ∙ c.block.ensures.answer) (ne_of_gt (paper_above_zero _))
    ]

pub push-requires : goal.push-requires
push-requires c =
    let j = (goal.at.push-requires c).Joined-block in
    omega (arith, ap length (answered j), answer-length j.args.block.now)

pub push-requires-2 : goal.push-requires-2
push-requires-2 c =
    let j = (goal.at.push-requires-2 c).Joined-block in
    omega (arith, ap length c.push.ensures, length-append {A = ℕ}, ap length (answered j), answer-length j.args.block.now)

pub returns : goal.returns
returns c =
    let j = (goal.at.returns c).Joined-block in
    c.push-2.ensures
    ∙ ap (λ (x : List ℕ). x ++ 10 ∷ []) (c.push.ensures ∙ ap (λ (x : List ℕ). x ++ 13 ∷ []) (answered j))
    ∙ printed-is j.args.block.now
