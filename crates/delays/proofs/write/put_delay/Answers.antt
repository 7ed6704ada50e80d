-- `delays::write::put_delay` meets its contract: the bytes are those of the pattern.
-- Assumes nothing.
use Rattle.encode.specs.Encode.{little_bytes, pattern_of}
use Rattle.lent.specs.Placed.{placed}
use mir.Facts.{to_z-of_z}
use Prim.Native.Nat.{ℕ}
use mathlib.Core.Path.{ap, ◌∙◌}
use Rattle.delays.proofs.write.put_delay.Goals as goal

pub returns : goal.returns
returns c = c.put_number.ensures
    ∙ ap (λ (n : ℕ). placed c.args.file.now c.args.at (little_bytes 8 n)) (c.pattern.ensures ∙ ap pattern_of (to_z-of_z c.ranges.value))
