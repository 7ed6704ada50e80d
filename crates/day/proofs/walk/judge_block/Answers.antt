-- `day::walk::judge_block` meets its contract: Block's answer, then the order.
-- Assumes nothing.
use mathlib.Core.Path.{◌≡◌, sym, ap, ◌∙◌}
use mathlib.Core.Bool.{Bool, not}
use Prim.Native.Nat.{◌≤◌}
use native.Mathlib.Omega.{arith}
use lib.ListN.{length, drop}
use Rattle.std.specs.Prelude.{Option}
use Rattle.std.proofs.lemmas.Result.{err_from_is_err_and}
use Rattle.limits.specs.Refusal.{◌when◌}
use Rattle.limits.proofs.Cases.{refused_here, passed_here}
use Rattle.labels.specs.declared.Labels.{Labels}
use Rattle.columns.specs.Text.{line_length}
use Rattle.linefile.specs.Files.{keys_of, before}
use Rattle.line.specs.Block.{block_number}
use Rattle.line.proofs.AcceptedBlocks.{room-enough, line_after_lem, end_after}
use Rattle.day.specs.Day.{block_keys}
use Rattle.day.specs.Walk.{last_keys}
use Rattle.day.proofs.Verdicts.{first-follows}
use Rattle.day.proofs.walk.judge_block.Goals.{Start, After-follows, In_ok-block}
use Rattle.day.proofs.walk.judge_block.Goals as goal

room : (c : Start) → line_length ≤ length c.args.lent.now
room c = omega (arith, c.told-lent)

-- Block has no refusal of its own
own : (c : In_ok-block) → 0 ≡ block_number c.args.block.now
own c = c.in_ok-block.ensures.answer ∙ room-enough c.args.block.now (length c.args.lent.now) (room (goal.at.In_ok-block c).Start)

-- what the test of the order is on
order : (c : After-follows) → before (last_keys c.args.last) (block_keys c.args.block.now) ≡ c.follows.result
order c =
    ap (λ (l : Option Labels). before (last_keys l) (block_keys c.args.block.now)) c.in-Some.is
    ∙ sym (c.follows.ensures ∙ ap (λ (l : Labels). before (keys_of c.in-Some.last) (keys_of l)) c.labels-labels.ensures)

pub returns-in_err-block-clause-value : goal.returns-in_err-block-clause-value
returns-in_err-block-clause-value c =
    let p = err_from_is_err_and c.from_residual.result c.from_residual.ensures.1 in
    rw (p.1, p.2)
    (refused_here _ _ (c.in_err-block.ensures.answer ∙ room-enough c.args.block.now (length c.args.lent.now) (room (goal.at.returns-in_err-block-clause-value c).Start)))

pub returns-in_err-block-clause-lent_unchanged : goal.returns-in_err-block-clause-lent_unchanged
returns-in_err-block-clause-lent_unchanged c = ap (drop line_length) c.block.ensures.written ∙ end_after c.args.block.now c.args.lent.now

pub returns-in-Some-clause-value : goal.returns-in-Some-clause-value
unfolding ◌when◌
returns-in-Some-clause-value c =
    passed_here (own (goal.at.returns-in-Some-clause-value c).In_ok-block)
    (sym (ap (λ (t : Bool). 16 when not t) (order (goal.at.returns-in-Some-clause-value c).After-follows) ∙ ap (λ (t : Bool). 16 when not t) c.if-not-follows.true))

pub returns-in-Some-clause-lent_unchanged : goal.returns-in-Some-clause-lent_unchanged
returns-in-Some-clause-lent_unchanged c = ap (drop line_length) c.block.ensures.written ∙ end_after c.args.block.now c.args.lent.now

pub returns-in_default-clause-value : goal.returns-in_default-clause-value
unfolding ◌when◌
returns-in_default-clause-value c =
    passed_here (own (goal.at.returns-in_default-clause-value c).In_ok-block)
    (sym (ap (λ (t : Bool). 16 when not t) (order (goal.at.returns-in_default-clause-value c).After-follows) ∙ ap (λ (t : Bool). 16 when not t) c.if-not-follows.false))

pub returns-in_default-clause-lent_after : goal.returns-in_default-clause-lent_after
returns-in_default-clause-lent_after c =
    c.block.ensures.written ∙ line_after_lem c.args.block.now c.args.lent.now (sym c.in_ok-block.ensures.answer)

pub returns-in_default-clause-lent_unchanged : goal.returns-in_default-clause-lent_unchanged
returns-in_default-clause-lent_unchanged c = ap (drop line_length) c.block.ensures.written ∙ end_after c.args.block.now c.args.lent.now

pub returns-in_default-2-clause-value : goal.returns-in_default-2-clause-value
unfolding ◌when◌
returns-in_default-2-clause-value c =
    passed_here (own (goal.at.returns-in_default-2-clause-value c).In_ok-block)
    (sym (ap (λ (l : Option Labels). 16 when not (before (last_keys l) (block_keys c.args.block.now))) c.in_default.is ∙ ap (λ (t : Bool). 16 when not t) (first-follows c.args.block.now)))

pub returns-in_default-2-clause-lent_after : goal.returns-in_default-2-clause-lent_after
returns-in_default-2-clause-lent_after c =
    c.block.ensures.written ∙ line_after_lem c.args.block.now c.args.lent.now (sym c.in_ok-block.ensures.answer)

pub returns-in_default-2-clause-lent_unchanged : goal.returns-in_default-2-clause-lent_unchanged
returns-in_default-2-clause-lent_unchanged c = ap (drop line_length) c.block.ensures.written ∙ end_after c.args.block.now c.args.lent.now
