-- `day::walk::finish` meets its contract: what is left is written behind what was kept.
-- Assumes nothing.
use mathlib.Core.Path.{ap, ◌∙◌}
use mathlib.Core.List.{List}
use Prim.Native.Nat.{ℕ, ◌*◌}
use native.Mathlib.Omega.{arith}
use lib.ListN.{take}
use lib.Seq.{length-take-le}
use Rattle.lent.specs.Placed.{placed}
use Rattle.lent.proofs.Placing.{within}
use Rattle.columns.specs.Text.{ended_length}
use Rattle.day.specs.Day.{file_of}
use Rattle.day.specs.Walk.{left}
use Rattle.day.proofs.Finishing.{all_accepted_written}
use Rattle.day.proofs.walk.finish.Goals as goal

pub returns : goal.returns
returns c =
    let t = file_of (left c.args.blocks.now c.args.begun) in
    all_accepted_written c.args.blocks.now c.args.begun _ _ c.write.result c.write.ensures.wrote c.write.ensures.stopped c.write.ensures.rejected c.requires.accepted (omega (arith, c.requires.room, c.put.auto.lent))
    ∙ ap (λ (f : List ℕ). placed f (ended_length * c.args.begun.count) t)
    (c.put.ensures
    ∙ within c.args.file.now 0 (take (ended_length * c.args.begun.count) c.args.kept.now)
    (rw (length-take-le (ended_length * c.args.begun.count) c.args.kept.now c.requires.kept_lines) (omega (arith, c.requires.room))))
