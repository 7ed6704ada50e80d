-- `fields::sign` meets its contract: the test on the value is the definition's case.
-- Assumes nothing.
use mir.Facts.{to_z-of_z}
use Rattle.fields.proofs.Laws.{sign_below, sign_above}
use Rattle.fields.proofs.sign.Goals as goal

pub returns-then-value-lt0 : goal.returns-then-value-lt0
returns-then-value-lt0 c = sign_below _ (simp (to_z-of_z c.ranges.value) at c.if-value-lt0.true)

pub returns-else-value-lt0 : goal.returns-else-value-lt0
returns-else-value-lt0 c = sign_above _ (simp (to_z-of_z c.ranges.value) at c.if-value-lt0.false)
