-- Worked examples of the nearest whole number.
-- Assumes nothing.
use Rattle.std.specs.Prelude.{◌≡◌, refl, [], ◌∷◌, map, ℤ, pos, negsuc}
use Rattle.whole.specs.Nearest.{nearest}

-- a tie goes up on either side of 0: 50/100, -50/100, -51/100, 150/100, -150/100
ties : map (λ (n : ℤ). nearest n 100) (pos 50 ∷ negsuc 49 ∷ negsuc 50 ∷ pos 150 ∷ negsuc 149 ∷ [])
    ≡ pos 1 ∷ pos 0 ∷ negsuc 0 ∷ pos 2 ∷ negsuc 0 ∷ []
unfolding nearest
ties = refl
