-- `day::walk::judge` meets its contract: the verdict stays what it was.
-- Assumes nothing.
use mathlib.Core.Path.{◌≡◌}
use Prim.Native.Nat.{◌-◌}
use lib.ListN.{length}
use Rattle.columns.specs.Text.{ended_length}
use Rattle.day.specs.Walk.{WithinBytes, verdict}
use Rattle.day.proofs.walk.judge.Given as goal

abbrev pub invariant-loop-state : goal.invariant-loop-state
invariant-loop-state l =
    WithinBytes l.blocks l.state × (verdict l.blocks l.initial.state ≡ verdict l.blocks l.state) × (length l.line ≡ ended_length)

abbrev pub decreases-loop-state : goal.decreases-loop-state
decreases-loop-state l = length l.blocks - l.state.at
