-- `fields::decimal` meets its contract. The loop writes from the right: what is still to be written, the first i digits of the
-- rest, and what is written give the whole.
-- Assumes nothing.
use mathlib.Core.Path.{◌≡◌}
use mathlib.Core.List.{◌++◌}
use lib.ListN.{length, drop}
use Rattle.fields.specs.Text.{decimal}
use Rattle.fields.proofs.decimal.Given as goal

abbrev pub invariant-loop-i : goal.invariant-loop-i
invariant-loop-i l = (length l.out ≡ length l.initial.out) × (decimal (length l.initial.out) l.value ≡ decimal l.i l.rest ++ drop l.i l.out)
