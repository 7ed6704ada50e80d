-- `day::walk::write` meets its contract: the lines of the blocks that were seen are in their places.
-- Assumes nothing.
use mathlib.Core.Path.{◌≡◌, refl, ap, ◌∙◌}
use mathlib.Core.List.{List, ◌++◌}
use Prim.Native.Nat.{ℕ, ◌+◌, ◌*◌, ◌/◌, ◌≤◌, ◌<◌}
use native.Mathlib.Omega.{arith}
use lib.ListN.{length}
use borrow.Author.Tests.{ltb-true}
use Rattle.std.proofs.lemmas.Result.{err_from_is_err_and}
use Rattle.limits.proofs.Laws.{both}
use Rattle.lent.proofs.Placing.{within}
use Rattle.columns.specs.Text.{ended_length}
use Rattle.line.specs.Block.{block_line}
use Rattle.day.specs.Walk.{next_block}
use Rattle.day.specs.declared.walk.State.{State}
use Rattle.day.proofs.Walking.{Stepped, stepped, step-refused, wrote_none, wrote_on}
use Rattle.day.proofs.walk.write.Goals.{In-loop-state, In_ok-next}
use Rattle.day.proofs.walk.write.Goals as goal

pub loop-state-init : goal.loop-state-init
loop-state-init c =
    (wrote_none c.args.blocks.now c.args.from c.args.file.now c.requires.within_bytes c.requires.room, refl, refl, refl)

-- there is room for one line more
place : {k l m n : ℕ} → k < m / ended_length → n ≡ m → l ≡ ended_length → ended_length * k + l ≤ n
place h e f = omega arith

room-left : {k r m : ℕ} → k < m / ended_length → r ≡ k + 1 → ended_length * r ≤ m
room-left h e = omega arith

-- what the loop's test tells
turn : (c : In-loop-state)
    → (c.loop-state.state.at < length c.args.blocks.now) × (c.loop-state.state.count < length c.args.file.now / ended_length)
turn c = let t = both _ _ c.loop-state-test.true in (ltb-true _ _ t.0, ltb-true _ _ t.1)

next : (c : In_ok-next) → Stepped c.args.blocks.now c.loop-state.state c.in_ok-next.next
next c =
    stepped c.args.blocks.now c.loop-state.state c.in_ok-next.next c.loop-state.invariant.0.walked.within (turn (goal.at.In_ok-next c).In-loop-state).0 c.in_ok-next.ensures.value

pub returns-in_err-next-clause-rejected : goal.returns-in_err-next-clause-rejected
returns-in_err-next-clause-rejected c =
    let p = err_from_is_err_and c.from_residual.result c.from_residual.ensures.1 in
    rw (p.1, p.2)
    (c.loop-state.invariant.0.walked.same
    ∙ step-refused c.args.blocks.now c.loop-state.state c.loop-state.invariant.0.walked.within (turn (goal.at.returns-in_err-next-clause-rejected c).In-loop-state).0 c.in_err-next.field-0.0 c.in_err-next.ensures.value)

pub loop-state-smaller : goal.loop-state-smaller
loop-state-smaller c = (next (goal.at.loop-state-smaller c).In_ok-next).less

pub loop-state-preserved : goal.loop-state-preserved
loop-state-preserved c =
    let t = (turn (goal.at.loop-state-preserved c).In-loop-state).1 in (
      wrote_on c.args.blocks.now c.args.from c.loop-state.state c.in_ok-next.next c.args.file.now c.loop-state.file _ _ c.requires.room c.loop-state.invariant.0
          (next (goal.at.loop-state-preserved c).In_ok-next).walked
          (c.in_ok-next.ensures.lent_after ∙ ap (λ (end : List ℕ). block_line (next_block c.args.blocks.now c.loop-state.state) ++ end) c.loop-state.invariant.3)
          (c.put.ensures ∙ within c.loop-state.file _ _ (place t c.loop-state.invariant.1 c.step.array_long))
          (room-left t (ap (λ (s : State). s.count) c.in_ok-next.ensures.value.1)),
      c.put.auto.lent ∙ c.loop-state.invariant.1,
      c.step.array_long,
      c.in_ok-next.ensures.lent_unchanged ∙ c.loop-state.invariant.3,
    )

pub returns : goal.returns
returns c = record {
  wrote = c.loop-state.invariant.0;
  stopped = c.loop-state-test.false;
  rejected = tt;
}
