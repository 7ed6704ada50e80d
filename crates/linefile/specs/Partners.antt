-- The lines of two files that share all four keys: what merge compares, and what common view makes its pairs of (document 02, Jobs 5 and 6).
-- Assumes nothing.
use Rattle.std.specs.Prelude.{ℕ, cond, List, [], ◌∷◌, ◌++◌}
use Rattle.linefile.specs.Files.{same, keys}

-- Each two lines, one of each file, that share all four keys.
unfoldable pub partners_of : (line : List ℕ) → List (List ℕ) → List (List ℕ × List ℕ)
partners_of line [] = []
partners_of line (other ∷ others) =
    cond (same (keys line) (keys other)) ((line, other) ∷ []) [] ++ partners_of line others

unfoldable pub partners : (first second : List (List ℕ)) → List (List ℕ × List ℕ)
partners [] second = []
partners (line ∷ first) second = partners_of line second ++ partners first second
