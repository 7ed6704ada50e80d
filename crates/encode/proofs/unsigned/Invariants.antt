-- `encode::unsigned` meets its contract: what is written, and the bytes of the rest, give the whole.
-- Assumes nothing.
use mathlib.Core.Path.{◌≡◌}
use mathlib.Core.List.{◌++◌}
use Prim.Native.Nat.{◌-◌}
use lib.ListN.{length, take}
use Rattle.encode.specs.Encode.{little_bytes}
use Rattle.encode.proofs.unsigned.Given as goal

abbrev pub invariant-loop-byte : goal.invariant-loop-byte
invariant-loop-byte l =
    (length l.out ≡ length l.initial.out) × (little_bytes (length l.initial.out) l.value ≡ take l.byte-index l.out ++ little_bytes (length l.initial.out - l.byte-index) l.rest)
