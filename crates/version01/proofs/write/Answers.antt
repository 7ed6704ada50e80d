-- `version01::write` meets its contract: one part behind the other, and CK of them behind.
-- Assumes nothing.
use mathlib.Core.Path.{◌≡◌, sym, ap, ap₂, ◌∙◌}
use mathlib.Core.List.{[], ◌∷◌, ◌++◌}
use Prim.Native.Nat.{ℕ}
use native.Mathlib.Omega.{arith}
use lib.ListN.{length}
use lib.Seq.{length-take-le}
use Rattle.fields.specs.Text.{hexadecimal}
use Rattle.columns.specs.Columns.{field}
use Rattle.lent.specs.Placed.{placed, placed_within}
use Rattle.lent.proofs.Placing.{length-placed}
use Rattle.version01.proofs.Forms.{columns-length, columns-put, all-put}
use Rattle.version01.proofs.write.Goals.{After-put-3}
use Rattle.version01.proofs.write.Goals as goal

-- columns 1 to 101 and those behind them
columns-are : (c : After-put-3) → c.put-3.new.lent ≡ placed c.args.lent.now 0 (c.args.first ∷ (field 2 101 c.args.line.now ++ c.args.behind.now))
unfolding field
columns-are c =
    columns-put c.args.first c.args.line.now c.args.behind.now c.args.lent.now c.requires.in_bounds c.requires.behind_in_bounds c.put.ensures c.put-2.ensures c.put-3.ensures

columns-long : (c : After-put-3) → length c.put-3.new.lent ≡ length c.args.lent.now
columns-long c =
    let n = columns-length c.args.first c.args.line.now c.args.behind.now c.args.lent.now c.requires.in_bounds in
    ap length (columns-are c) ∙ length-placed c.args.lent.now 0 _ (omega (arith, n, c.requires.behind_in_bounds))

pub slice_bounds-checksum-end-2 : goal.slice_bounds-checksum-end-2
slice_bounds-checksum-end-2 c =
    sym (length-take-le _ c.put-3.new.lent (omega (arith, columns-long (goal.at.slice_bounds-checksum-end-2 c).After-put-3, c.requires.behind_in_bounds)))

pub returns : goal.returns
unfolding hexadecimal
returns c =
    all-put c.args.first c.args.line.now c.args.behind.now c.args.lent.now c.requires.in_bounds c.requires.behind_in_bounds (columns-are (goal.at.returns c).After-put-3) c.checksum-sum.ensures
    (c.put-4.ensures
    ∙ ap (placed_within c.put-3.new.lent _) (ap₂ (λ (a b : ℕ). a ∷ b ∷ []) c.hex_digit.ensures c.hex_digit-2.ensures))
