-- Worked examples of equations between sums.
-- Assumes nothing.
use mathlib.Core.Path.{◌≡◌}
use Rattle.std.specs.Prelude.{[], ◌∷◌, ℕ, ℤ, pos, ◌+ℤ◌, ◌-ℤ◌, ◌*ℤ◌}
use Rattle.whole.specs.Square.{squared}
use Rattle.whole.specs.Sum.{sum}
use Rattle.whole.proofs.Identity.{identity, quote}
use Rattle.whole.proofs.Sums.{sum-eq, sums}

-- Σ(f - c g)² = Σf² - 2c Σfg + c² Σg²
expanded : (n : ℕ) (f g : ℕ → ℤ) (c : ℤ)
    → sum n (λ i. squared (f i -ℤ c *ℤ g i))
    ≡ sum n (λ i. squared (f i)) -ℤ pos 2 *ℤ c *ℤ sum n (λ i. f i *ℤ g i) +ℤ c *ℤ c *ℤ sum n (λ i. squared (g i))
expanded n f g c =
    sum-eq n (search sums depth 12) (λ i h. identity (f i ∷ g i ∷ c ∷ []) (search quote depth 20) tt)

-- n terms that are the same
repeated-term : (n : ℕ) (f : ℕ → ℤ) (c : ℤ) → sum n (λ i. f i +ℤ c) -ℤ sum n f ≡ pos n *ℤ c
repeated-term n f c = sum-eq n (search sums depth 12) (λ i h. identity (f i ∷ c ∷ []) (search quote depth 20) tt)

-- a sum of fixed length computes
first-squares : sum 15 (λ i. squared (pos i -ℤ pos 7)) ≡ pos 280
unfolding sum
first-squares = mathlib.Core.Path.refl
