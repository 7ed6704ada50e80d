-- `reading::values::digits` meets its contract: what was read so far, with the digits left behind it, is the number of all.
-- Assumes nothing.
use mathlib.Core.Path.{◌≡◌}
use Prim.Native.Nat.{◌^◌, ◌<◌}
use lib.ListN.{drop}
use Rattle.fields.specs.Read.{digits_from, read_decimal}
use Rattle.reading.proofs.values.digits.Given as goal

abbrev pub invariant-loop-digit : goal.invariant-loop-digit
invariant-loop-digit l = (digits_from l.value (drop l.digit-index l.text) ≡ read_decimal l.text) × (l.value < 10 ^ l.digit-index)
