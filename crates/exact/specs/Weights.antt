-- The weights of the program's sums (document 01, "Smoothing" and "Fitting"). The exact figures do not use them: that they belong to the least
-- parabola and the least line are the theorems `weights-exact` of the module Smoothing and `slope-exact` of the module Fitting.
-- Assumes nothing.
use Rattle.std.specs.Prelude.{List, [], ◌∷◌, ℕ, ◌*◌, ◌-◌, ℤ, pos, neg_ℤ, ◌-ℤ◌}

-- The constant table: fifteen weights whose weighted sum over 1105 is the smoothed value.
unfoldable pub weights : List ℤ
weights =
    neg_ℤ (pos 78) ∷ neg_ℤ (pos 13) ∷ pos 42 ∷ pos 87 ∷ pos 122 ∷ pos 147 ∷ pos 162 ∷ pos 167 ∷ pos 162 ∷ pos 147 ∷ pos 122
    ∷ pos 87 ∷ pos 42 ∷ neg_ℤ (pos 13) ∷ neg_ℤ (pos 78) ∷ []

-- The weight of value j in T, its place among n values: 2j - (n - 1). With 52 values it is 2j - 51.
unfoldable pub place : ℕ → ℕ → ℤ
place n j = pos (2 * j) -ℤ pos (n - 1)
