-- `day::walk::write` meets its contract: the lines of the blocks that were seen are in their places.
-- Assumes nothing.
use mathlib.Core.Path.{◌≡◌}
use Prim.Native.Nat.{◌-◌}
use lib.ListN.{length, drop}
use Rattle.columns.specs.Text.{line_length, ended_length, line_end}
use Rattle.day.specs.Walk.{Wrote}
use Rattle.day.proofs.walk.write.Given as goal

abbrev pub invariant-loop-state : goal.invariant-loop-state
invariant-loop-state l =
    Wrote l.blocks l.initial.state l.state l.initial.file l.file × (length l.file ≡ length l.initial.file) × (length l.line ≡ ended_length) × (drop line_length l.line ≡ line_end)

abbrev pub decreases-loop-state : goal.decreases-loop-state
decreases-loop-state l = length l.blocks - l.state.at
