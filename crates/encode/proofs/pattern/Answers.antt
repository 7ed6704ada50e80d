-- `encode::pattern` meets its contract: std's pattern is the definition's.
-- Assumes nothing.
use mathlib.Core.Path.{◌∙◌, ap}
use mir.Syntax.{w64}
use mir.Val.{of_z}
use mir.Facts.{to_z-of_z}
use Rattle.encode.proofs.Bytes.{pattern_is}
use Rattle.encode.proofs.pattern.Goals as goal

pub returns : goal.returns
returns c = c.cast_unsigned.ensures ∙ ap (of_z w64) (to_z-of_z c.ranges.value) ∙ pattern_is c.args.value
