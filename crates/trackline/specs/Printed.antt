-- What `trackline` prints of a block (document 01, "The hire block", last paragraph).
-- Assumes nothing.
use Rattle.std.specs.Prelude.{cond, List, [], ◌∷◌, ◌++◌, ℕ, ltb, eqb}
use Prim.Native.Char.{code}
use Rattle.fields.specs.Text.{decimal}
use Rattle.columns.specs.Text.{line_end}
use Rattle.line.specs.Block.{block_line, block_number}

-- `refused`, a space, and the number in one digit or two.
unfoldable pub refusal_text : ℕ → List ℕ
refusal_text number =
    (code "r" ∷ code "e" ∷ code "f" ∷ code "u" ∷ code "s" ∷ code "e" ∷ code "d" ∷ code " " ∷ [])
    ++ decimal (cond (ltb number 10) 1 2) number

-- The block's line where Block accepts it, else the refusal.
unfoldable pub answer : List ℕ → List ℕ
answer b =
    cond (eqb (block_number b) 0) (block_line b) (refusal_text (block_number b))

-- Either, with a line end behind it.
unfoldable pub printed : List ℕ → List ℕ
printed b = answer b ++ line_end
