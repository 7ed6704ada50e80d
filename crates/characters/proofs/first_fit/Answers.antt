-- `characters::first_fit` meets its contract: the rows behind each other are the kinds of columns 1 to 96.
-- Assumes nothing.
use mathlib.Core.List.{List, ◌∷◌}
use Prim.Native.Nat.{ℕ}
use lib.ListN.{take, drop}
use Rattle.fields.specs.Text.{bytes_of}
use Rattle.characters.specs.Kinds.{kinds}
use Rattle.characters.proofs.Allowed.{row-added}
use Rattle.characters.proofs.first_fit.Goals as goal

-- the first column and so many behind it, and sixteen columns behind so many
abbrev upto : (n kind : ℕ) → List ℕ
upto n kind = kind ∷ take n (drop 1 kinds)

abbrev row : ℕ → List ℕ
row before = take 16 (drop before kinds)

pub returns : goal.returns
unfolding kinds bytes_of
returns c =
    let two = row-added (upto 15 c.args.kind) (row 16) c.args.line.now c.row_fits.ensures c.row_fits-2.ensures in
    let three = row-added (upto 31 c.args.kind) (row 32) c.args.line.now two c.row_fits-3.ensures in
    let four = row-added (upto 47 c.args.kind) (row 48) c.args.line.now three c.row_fits-4.ensures in
    let five = row-added (upto 63 c.args.kind) (row 64) c.args.line.now four c.row_fits-5.ensures in
    row-added (upto 79 c.args.kind) (row 80) c.args.line.now five c.row_fits-6.ensures
