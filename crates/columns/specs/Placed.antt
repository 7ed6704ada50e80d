-- A column as its writer leaves it in a line.
-- Assumes nothing.
use Rattle.std.specs.Prelude.{ℕ, List, [], ◌∷◌, ◌++◌}
use Prim.Native.Char.{code}

-- A column and the space that ends it.
abbrev pub with_space : List ℕ → List ℕ
with_space c = c ++ code " " ∷ []
