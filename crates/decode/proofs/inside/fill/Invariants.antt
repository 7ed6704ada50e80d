-- `decode::inside::fill` meets its contract. The loop keeps the numbers stored, and those that follow, together the whole.
-- Assumes nothing.
use mathlib.Core.Path.{◌≡◌}
use mathlib.Core.List.{◌++◌}
use Prim.Native.Nat.{◌+◌, ◌*◌, ◌-◌}
use lib.ListN.{length, take}
use Rattle.decode.specs.Number.{signeds_at}
use Rattle.decode.proofs.inside.fill.Given as goal

abbrev pub invariant-loop-i : goal.invariant-loop-i
invariant-loop-i l =
    (length l.out ≡ length l.initial.out)
    × (signeds_at l.bytes l.at l.stride (length l.initial.out) ≡ take l.i l.out ++ signeds_at l.bytes (l.at + l.stride * l.i) l.stride (length l.initial.out - l.i))
