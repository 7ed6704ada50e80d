-- `reading::values::hex_value` meets its contract: a letter stands for ten and above.
-- Assumes nothing.
use mathlib.Core.Path.{sym}
use Rattle.fields.proofs.Hexadecimals.{hex-least, letter-value, figure-value}
use Rattle.characters.proofs.Allowed.{hex-range}
use Rattle.reading.proofs.values.hex_value.Goals as goal

pub overflow_sub-result-else-b-ge65 : goal.overflow_sub-result-else-b-ge65
overflow_sub-result-else-b-ge65 c = hex-least c.args.b (hex-range c.args.b c.requires)

pub returns-then-b-ge65 : goal.returns-then-b-ge65
returns-then-b-ge65 c = sym (letter-value c.args.b c.if-b-ge65.true)

pub returns-else-b-ge65 : goal.returns-else-b-ge65
returns-else-b-ge65 c = sym (figure-value c.args.b c.if-b-ge65.false)
