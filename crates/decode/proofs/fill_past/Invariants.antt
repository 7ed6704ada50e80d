-- `decode::fill_past` meets its contract. The loop keeps the numbers stored, and those that follow from the next place on, together the whole.
-- Assumes nothing.
use mathlib.Core.Path.{◌≡◌}
use mathlib.Core.List.{◌++◌}
use Prim.Native.Nat.{◌-◌}
use lib.ListN.{length, take}
use Rattle.decode.specs.Number.{signeds_at}
use Rattle.decode.proofs.fill_past.Given as goal

abbrev pub invariant-loop-number : goal.invariant-loop-number
invariant-loop-number l =
    (length l.out ≡ length l.initial.out)
    × (signeds_at l.bytes l.at l.stride (length l.initial.out) ≡ take l.number-index l.out ++ signeds_at l.bytes l.next l.stride (length l.initial.out - l.number-index))
