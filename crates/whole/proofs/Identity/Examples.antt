-- Worked examples of `identity`.
-- Assumes nothing.
use Rattle.std.specs.Prelude.{◌≡◌, [], ◌∷◌, ℕ, ℤ, pos, ◌+ℤ◌, ◌-ℤ◌, ◌*ℤ◌}
use Rattle.whole.proofs.Identity.{identity, quote}

square-of-sum : (a b : ℤ) → (a +ℤ b) *ℤ (a +ℤ b) ≡ a *ℤ a +ℤ pos 2 *ℤ (a *ℤ b) +ℤ b *ℤ b
square-of-sum a b = identity (a ∷ b ∷ []) (search quote depth 20) tt

-- an atom may be any term
of_values : (f : ℕ → ℤ) (i j : ℕ) → f i *ℤ (f j -ℤ pos 1) +ℤ f i ≡ f j *ℤ f i
of_values f i j = identity (f i ∷ f j ∷ []) (search quote depth 20) tt

-- a larger one: the search reads more, so its bounds are raised
fourth-power : (a b c d e f : ℤ)
    → (a +ℤ b +ℤ c +ℤ d +ℤ e +ℤ f) *ℤ (a +ℤ b +ℤ c +ℤ d +ℤ e +ℤ f) *ℤ ((a +ℤ b +ℤ c +ℤ d +ℤ e +ℤ f) *ℤ (a +ℤ b +ℤ c +ℤ d +ℤ e +ℤ f))
    ≡ (a *ℤ (a +ℤ pos 2 *ℤ (b +ℤ c +ℤ d +ℤ e +ℤ f)) +ℤ (b +ℤ c +ℤ d +ℤ e +ℤ f) *ℤ (b +ℤ c +ℤ d +ℤ e +ℤ f)) *ℤ (a +ℤ b +ℤ c +ℤ d +ℤ e +ℤ f) *ℤ (a +ℤ b +ℤ c +ℤ d +ℤ e +ℤ f)
fourth-power a b c d e f = identity (a ∷ b ∷ c ∷ d ∷ e ∷ f ∷ []) (search quote depth 30 fits 4000) tt
