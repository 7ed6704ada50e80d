-- The signed fields, which stand in a table of their own, are those that `kinds` pictures.
-- Assumes nothing.
use mathlib.Core.Path.{◌≡◌, refl}
use mathlib.Core.Bool.{cond}
use mathlib.Core.List.{List, [], ◌∷◌}
use Prim.Native.Nat.{ℕ, suc, ◌+◌}
use Prim.Native.Char.{code}
use lib.Dec.{eqb}
use Rattle.fields.specs.Text.{bytes_of}
use Rattle.characters.specs.Kinds.{kinds}
use Rattle.reading.specs.Read.{signed_fields}

-- How many columns there are before the next space.
abbrev pub until_space : List ℕ → ℕ
until_space [] = 0
until_space (k ∷ rest) = cond (eqb k (code " ")) 0 (suc (until_space rest))

-- Each column of a sign, with the last one before the next space.
abbrev pub signed_in : (column : ℕ) → List ℕ → List (ℕ × ℕ)
signed_in column [] = []
signed_in column (k ∷ rest) =
    cond (eqb k (code "+")) ((column, column + until_space rest) ∷ signed_in (suc column) rest) (signed_in (suc column) rest)

pub signed-pictured : signed_in 1 kinds ≡ signed_fields
unfolding kinds bytes_of
signed-pictured = refl
