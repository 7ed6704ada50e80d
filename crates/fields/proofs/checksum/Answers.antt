-- `fields::checksum` meets its contract: the loop keeps the sum of the bytes passed, modulo 256.
-- Assumes nothing.
use mathlib.Core.Path.{ap, ◌∙◌}
use mathlib.Core.List.{List}
use Prim.Native.Nat.{ℕ, ◌%◌}
use native.Mathlib.Omega.{arith}
use lib.Seq.{take_all}
use borrow.Author.Rules.{rules}
use Rattle.fields.specs.Text.{byte_sum, checksum}
use Rattle.fields.proofs.Laws.{byte_sum-turn}
use Rattle.fields.proofs.checksum.Goals as goal

pub loop-byte-init : goal.loop-byte-init
unfolding byte_sum
loop-byte-init c = λ i. 0

pub loop-byte-preserved : goal.loop-byte-preserved
loop-byte-preserved c = omega (arith, byte_sum-turn c.args.text.now c.loop-byte.byte-index (search rules), c.loop-byte.invariant)

pub returns : goal.returns
unfolding checksum
returns c = c.loop-byte.invariant ∙ ap (λ (t : List ℕ). byte_sum t % 256) (take_all c.loop-byte.byte-index c.args.text.now (search rules))
