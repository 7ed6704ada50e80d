-- `fields::hex_digit` meets its contract: each arm is a case of the definition.
-- Assumes nothing.
use borrow.Author.Tests.{lt-ltb, le-ltb}
use Rattle.fields.specs.Text.{hex_digit_lem}
use Rattle.fields.proofs.hex_digit.Goals as goal

pub returns-then-d-lt10 : goal.returns-then-d-lt10
unfolding hex_digit_lem
returns-then-d-lt10 c = simp (lt-ltb _ _ c.if-d-lt10.true)

pub returns-else-d-lt10 : goal.returns-else-d-lt10
unfolding hex_digit_lem
returns-else-d-lt10 c = simp (le-ltb _ _ c.if-d-lt10.false)
