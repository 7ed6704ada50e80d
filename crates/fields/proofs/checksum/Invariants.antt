-- `fields::checksum` meets its contract: the loop keeps the sum of the bytes passed, modulo 256.
-- Assumes nothing.
use mathlib.Core.Path.{◌≡◌}
use Prim.Native.Nat.{◌%◌}
use lib.ListN.{take}
use Rattle.fields.specs.Text.{byte_sum}
use Rattle.fields.proofs.checksum.Given as goal

abbrev pub invariant-loop-byte : goal.invariant-loop-byte
invariant-loop-byte l = l.sum ≡ byte_sum (take l.byte-index l.text) % 256
