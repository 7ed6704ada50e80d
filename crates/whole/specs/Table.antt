-- Lists by index: tabulate f n is f 0, f 1, .., f (n - 1), and at l j is what stands at place j.
-- Assumes nothing.
use Rattle.std.specs.Prelude.{List, [], ◌∷◌, ◌++◌, ℕ, zero, suc, ℤ, pos, get_or}

unfoldable pub tabulate {ℓ} : {A : Type ℓ} → (ℕ → A) → ℕ → List A
tabulate f zero = []
tabulate f (suc n) = tabulate f n ++ (f n ∷ [])

-- What stands at place j of a list, counted from 0; 0 past the end.
abbrev pub at : List ℤ → ℕ → ℤ
at l j = get_or l j (pos 0)
