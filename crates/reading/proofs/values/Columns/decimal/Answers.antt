-- `reading::values::Columns::decimal` meets its contract: the part that is lent is the field.
-- Assumes nothing.
use mathlib.Core.Path.{◌≡◌, sym, ap, subst, ◌∙◌}
use mathlib.Core.List.{List}
use Prim.Native.Nat.{ℕ, ◌+◌, ◌-◌, ◌^◌, ◌≤◌, ◌<◌}
use lib.ListN.{take, drop}
use Rattle.fields.specs.Read.{read_decimal}
use Rattle.columns.specs.Columns.{field}
use Rattle.columns.proofs.Widths.{field_is}
use Rattle.reading.proofs.Columns.{within-line, field-digits, field_bound, exactly}
use Rattle.reading.proofs.values.Columns.decimal.Goals as goal

pub slice_bounds-digits-end : goal.slice_bounds-digits-end
slice_bounds-digits-end c = within-line c.requires

pub digits-requires-clause-text_value : goal.digits-requires-clause-text_value
digits-requires-clause-text_value c =
    rw (field_is c.args.first c.args.last c.args.self.line.now c.requires.counted) (field-digits c.requires)

-- the number is the field's
value-is : {n : ℕ} (first last : ℕ) (line : List ℕ) → n ≡ read_decimal (take (last - (first - 1)) (drop (first - 1) line)) → 1 ≤ first → n ≡ read_decimal (field first last line)
value-is first last line e h = e ∙ ap read_decimal (field_is first last line h)

pub returns-clause-value : goal.returns-clause-value
returns-clause-value c = value-is c.args.first c.args.last c.args.self.line.now c.digits.ensures c.requires.counted

pub returns-clause-small : goal.returns-clause-small
returns-clause-small c =
    subst (λ (n : ℕ). n < 10 ^ (c.args.last + 1 - c.args.first)) (sym (value-is c.args.first c.args.last c.args.self.line.now c.digits.ensures c.requires.counted)) (field_bound (exactly c.requires))
