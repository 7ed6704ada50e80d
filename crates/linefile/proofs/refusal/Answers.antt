-- `linefile::refusal` meets its contract: what is left to judge is what is left of the lines, behind the last one's rank.
-- Assumes nothing.
use mathlib.Core.Path.{◌≡◌, sym, ap, ◌∙◌}
use mathlib.Core.Bool.{Bool, not}
use Prim.Native.Nat.{ℕ}
use native.Mathlib.Omega.{arith}
use lib.Dec.{lit<, eqb}
use Rattle.std.proofs.lemmas.Result.{err_from_is_err_and}
use Rattle.limits.specs.Refusal.{◌when◌}
use Rattle.linefile.specs.Files.{file_number}
use Rattle.limits.proofs.Cases.{paper_above_zero}
use Rattle.linefile.proofs.Lines.{chunks-lines}
use Rattle.linefile.proofs.Judging.{line-refused, order-refused, line-passed, file-refused, file-judged}
use Rattle.linefile.proofs.refusal.Goals.{After-is_empty}
use Rattle.linefile.proofs.refusal.Goals as goal

pub returns-in_err-line_refusal : goal.returns-in_err-line_refusal
returns-in_err-line_refusal c =
    let p = err_from_is_err_and c.from_residual.result c.from_residual.ensures.1 in
    let some = paper_above_zero c.in_err-line_refusal.field-0.0 in
    rw (p.1, p.2)
    (file-refused c.args.file.now (chunks-lines c.args.file.now c.as_chunks.ensures.front)
    (c.loop-line.invariant ∙ line-refused c.as_chunks.result.0.now c.loop-line.line-index c.loop-line.last (omega arith) c.in_err-line_refusal.ensures some) some)

pub returns-then-place-last : goal.returns-then-place-last
returns-then-place-last c =
    file-refused c.args.file.now (chunks-lines c.args.file.now c.as_chunks.ensures.front)
    (c.loop-line.invariant
    ∙ order-refused c.as_chunks.result.0.now c.loop-line.line-index c.loop-line.last (omega arith) c.in_ok-line_refusal.ensures c.rank-place.ensures c.if-place-last.true)
    (lit< tt)

pub loop-line-preserved : goal.loop-line-preserved
loop-line-preserved c =
    c.loop-line.invariant
    ∙ line-passed c.as_chunks.result.0.now c.loop-line.line-index c.loop-line.last (omega arith) c.in_ok-line_refusal.ensures c.rank-place.ensures c.if-place-last.false

-- what the lines and the tail give
abbrev tail : (c : After-is_empty) → file_number c.args.file.now ≡ 12 when not c.is_empty.result
tail c =
    file-judged c.args.file.now (chunks-lines c.args.file.now c.as_chunks.ensures.front) c.loop-line.line-index c.loop-line.last (omega arith) c.loop-line.invariant
    ∙ ap (λ (b : Bool). 12 when not b) (ap (λ (n : ℕ). eqb n 0) (sym c.as_chunks.ensures.back_len) ∙ sym c.is_empty.ensures)

pub returns-then-not-is_empty : goal.returns-then-not-is_empty
unfolding ◌when◌
returns-then-not-is_empty c =
    sym (tail (goal.at.returns-then-not-is_empty c).After-is_empty ∙ ap (λ (b : Bool). 12 when not b) c.if-not-is_empty.true)

pub returns : goal.returns
unfolding ◌when◌
returns c = sym (tail (goal.at.returns c).After-is_empty ∙ ap (λ (b : Bool). 12 when not b) c.if-not-is_empty.false)
