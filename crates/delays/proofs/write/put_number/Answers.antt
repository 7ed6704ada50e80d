-- `delays::write::put_number` meets its contract: the part is filled.
-- Assumes nothing.
use Rattle.encode.proofs.Bytes.{length-bytes}
use Rattle.encode.specs.Encode.{little_bytes}
use Rattle.lent.proofs.Placing.{filled}
use Prim.Native.Nat.{ℕ}
use Rattle.delays.proofs.write.put_number.Goals as goal

pub returns : goal.returns
returns c = filled (λ (w : ℕ). little_bytes w c.args.value) (λ w. length-bytes w c.args.value) c.args.file.now _ c.args.at c.args.width c.requires c.unsigned.ensures
