-- `viewing::pairs::refsys` meets its contract: the sign tells whether the magnitude is taken from 0.
-- Assumes nothing.
use mathlib.Core.Path.{sym, ◌∙◌}
use lib.IntN.{+ℤ_idl}
use Rattle.whole.proofs.Words.{Word, count, equal, plain-is, bounds}
use Rattle.viewing.proofs.Values.{size-bound, refsys-minus, refsys-plus}
use Rattle.viewing.proofs.pairs.refsys.Goals.{After-refsys_size-size}
use Rattle.viewing.proofs.pairs.refsys.Goals as goal

-- the magnitude is what the digits say
abbrev size : (c : After-refsys_size-size) → Word c.refsys_size-size.result
size c = equal c.refsys_size-size.ensures (count {b = 9999999999} (size-bound _ c.requires))

pub returns-then-line-eq45 : goal.returns-then-line-eq45
returns-then-line-eq45 c =
    let w = size (goal.at.returns-then-line-eq45 c).After-refsys_size-size in
    plain-is (search bounds depth 9) tt ∙ +ℤ_idl _ ∙ sym (refsys-minus _ c.requires c.if-line-eq45.true)

pub returns-else-line-eq45 : goal.returns-else-line-eq45
returns-else-line-eq45 c =
    let w = size (goal.at.returns-else-line-eq45 c).After-refsys_size-size in
    plain-is (search bounds depth 9) tt ∙ sym (refsys-plus _ c.requires c.if-line-eq45.false)
