-- `reading::values::digits` meets its contract: what was read so far, with the digits left behind it, is the number of all.
-- Assumes nothing.
use mathlib.Core.Path.{refl, sym, ap, ◌∙◌}
use Prim.Native.Nat.{◌^◌, ◌≤◌, ◌<◌}
use native.Mathlib.Omega.{arith}
use lib.ListN.{length, get_or, drop_of_length-le}
use borrow.Author.Rules.{rules}
use Rattle.fields.specs.Read.{digits_from, read_decimal}
use Rattle.fields.proofs.Decimals.{room, value-turn, after_turn}
use Rattle.reading.proofs.Columns.{digit_at}
use Rattle.reading.proofs.values.digits.Goals.{In-loop-digit}
use Rattle.reading.proofs.values.digits.Goals as goal

-- the number so far has room for a digit more, and the byte read is a digit
small : (c : In-loop-digit) → c.loop-digit.value < 10 ^ 9
small c =
    room c.loop-digit.digit-index (length c.args.text.now) c.loop-digit.value (search rules) c.requires.text_len_bound c.loop-digit.invariant.1

digit : (c : In-loop-digit)
    → let b = get_or c.args.text.now c.loop-digit.digit-index 0 in (48 ≤ b) × (b ≤ 57)
digit c =
    digit_at (length c.args.text.now) c.args.text.now c.requires.text_value c.loop-digit.digit-index (search rules)

pub loop-digit-init : goal.loop-digit-init
unfolding read_decimal
loop-digit-init c = (refl, search rules)

pub overflow_mul-value : goal.overflow_mul-value
overflow_mul-value c = omega (arith, small (goal.at.overflow_mul-value c).In-loop-digit)

pub overflow_sub-value : goal.overflow_sub-value
overflow_sub-value c = (digit (goal.at.overflow_sub-value c).In-loop-digit).0

pub overflow_cast-value : goal.overflow_cast-value
overflow_cast-value c = omega (arith, digit (goal.at.overflow_cast-value c).In-loop-digit)

pub overflow_add-value : goal.overflow_add-value
overflow_add-value c = omega (arith, digit (goal.at.overflow_add-value c).In-loop-digit, small (goal.at.overflow_add-value c).In-loop-digit)

pub loop-digit-preserved : goal.loop-digit-preserved
loop-digit-preserved c = (
  sym (after_turn c.args.text.now c.loop-digit.digit-index c.loop-digit.value (search rules)) ∙ c.loop-digit.invariant.0,
  value-turn c.loop-digit.digit-index c.loop-digit.value (get_or c.args.text.now c.loop-digit.digit-index 0) c.loop-digit.invariant.1 (digit (goal.at.loop-digit-preserved c).In-loop-digit),
)

pub returns : goal.returns
unfolding digits_from
returns c =
    sym (ap (digits_from c.loop-digit.value) (drop_of_length-le c.args.text.now {i = c.loop-digit.digit-index} (search rules))) ∙ c.loop-digit.invariant.0
