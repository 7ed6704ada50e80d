-- `merging::walk::write` meets its contract: what is left to write are the lines that are left of the walk.
-- Assumes nothing.
use mathlib.Core.Path.{ap, subst, ◌∙◌}
use mathlib.Core.List.{map}
use Rattle.lent.specs.Placed.{placed_within}
use Rattle.lent.proofs.Written.{Written, nothing_written, all-written}
use Rattle.linefile.specs.Files.{joined}
use Rattle.linefile.specs.Walk.{line_of}
use Rattle.linefile.proofs.Steps.{unrefused}
use Rattle.merging.specs.Merge.{merged}
use Rattle.merging.proofs.Walking.{steps-text, steps-long, line-of-map, line-written}
use Rattle.merging.proofs.walk.write.Goals as goal

pub loop-passed-init : goal.loop-passed-init
loop-passed-init c =
    let a = unrefused c.args.first.lines.now c.args.first.accepted in
    let b = unrefused c.args.second.lines.now c.args.second.accepted in
    rw (c.into_iter-passed-iterator.ensures.into_iter_gives, c.walk-passed-items.ensures.first, c.walk-passed-items.ensures.second) (
      steps-long _ _ a b,
      subst (Written (joined (merged c.args.first.lines.now c.args.second.lines.now)) c.args.file.now c.args.file.now 0) (steps-text _ _ a b) (nothing_written _ _),
    )

pub loop-passed-preserved : goal.loop-passed-preserved
loop-passed-preserved c =
    line-written c.requires c.loop-passed.invariant.0 c.loop-passed.invariant.1 (ap (map line_of) c.in-Some.ensures.steps)
    (c.put.ensures ∙ ap (placed_within c.loop-passed.file c.loop-passed.at) (ap (λ t. t.now) c.line.ensures ∙ line-of-map c.in-Some.passed))

pub returns : goal.returns
unfolding joined
returns c =
    all-written c.requires
    (subst (λ ls. Written (joined (merged c.args.first.lines.now c.args.second.lines.now)) c.args.file.now c.loop-passed.file c.loop-passed.at (joined (map line_of ls))) c.in-None.ensures.steps.0 c.loop-passed.invariant.1)
