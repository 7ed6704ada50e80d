-- `reading::values::Columns::signed` meets its contract: the sign tells whether the number is taken from 0.
-- Assumes nothing.
use mathlib.Core.Path.{refl, sym, ap, ◌∙◌}
use native.Mathlib.Omega.{arith}
use lib.IntN.{+ℤ_idl}
use Rattle.whole.proofs.Words.{Word, count, equal, plain-is, bounds}
use Rattle.fields.specs.Read.{read_signed}
use Rattle.fields.proofs.Signs.{minus-read, plus-read}
use Rattle.reading.proofs.Columns.{within-line, field-most, signed-field}
use Rattle.reading.proofs.values.Columns.signed.Goals.{After-natural-size}
use Rattle.reading.proofs.values.Columns.signed.Goals as goal

pub bounds-self-first : goal.bounds-self-first
bounds-self-first c = omega (arith, c.requires.counted, c.requires.digits.ordered, within-line c.requires.digits)

-- the magnitude is what the digits say
abbrev size : (c : After-natural-size) → Word c.natural-size.result
size c = equal c.natural-size.ensures (count (field-most 9999999999 c.requires.digits refl))

pub returns-then-self-first-eq45 : goal.returns-then-self-first-eq45
returns-then-self-first-eq45 c =
    let w = size (goal.at.returns-then-self-first-eq45 c).After-natural-size in
    plain-is (search bounds depth 9) tt
    ∙ +ℤ_idl _
    ∙ sym (ap read_signed (signed-field c.requires) ∙ minus-read _ _ c.if-self-first-eq45.true)

pub returns : goal.returns
returns c =
    let w = size (goal.at.returns c).After-natural-size in
    plain-is (search bounds depth 9) tt
    ∙ sym (ap read_signed (signed-field c.requires) ∙ plus-read _ _ c.if-self-first-eq45.false)
