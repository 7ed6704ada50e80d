-- Least squares in general: of all curves of a kind, one has the least sum of squared residuals exactly when its residuals are orthogonal to every
-- curve of the kind. A kind is any family of functions that is closed under linear combination; parabolas and lines are two.
-- Assumes nothing.
use Rattle.std.specs.Prelude.{◌≡◌, [], ◌∷◌, ℕ, ℤ, pos, neg_ℤ, ◌+ℤ◌, ◌-ℤ◌, ◌*ℤ◌}
use Rattle.std.proofs.Common.{sym, ◌∙◌, subst}
use Rattle.std.proofs.Math.Path.{ap}
use Rattle.whole.specs.Square.{squared}
use Rattle.whole.specs.Sum.{sum}
use Rattle.whole.proofs.Identity.{identity, quote}
use Rattle.whole.specs.Order.{◌⩽◌, ◌⋖◌}
use Rattle.whole.proofs.Order.{le_antisymm, le-slack, le-shift, lt-le-trans, mul-pos, cancel-le, square-nonneg, square-pos, square-zero}
use Rattle.whole.proofs.Sums.{sum-eq, sums, sum-cong, sum-squares-nonneg}

-- the sum of squared residuals of the curve p / d from the data y, times d²
unfoldable pub misfit : ℕ → (ℕ → ℤ) → (ℕ → ℤ) → ℤ → ℤ
misfit n y p d = sum n (λ i. squared (d *ℤ y i -ℤ p i))

-- a kind of curve: its coefficients, the curve that they give, and the coefficients of a linear combination of two
pub record Kind (A : Type 0) : Type 0 where
  pub curve : A → ℕ → ℤ
  pub combine : ℤ → ℤ → A → A → A
  pub combined : (a b : ℤ) (f g : A) (i : ℕ) → curve (combine a b f g) i ≡ a *ℤ curve f i +ℤ b *ℤ curve g i

module _ {A : Type 0} (K : Kind A) (n : ℕ) (y : ℕ → ℤ) (p : A) (d : ℤ) where
  -- the residuals of p / d, times d
  abbrev residual : ℕ → ℤ
  residual i = d *ℤ y i -ℤ K.curve p i

  -- p / d has the least sum among the curves of the kind
  abbrev pub Least : Type 0
  Least = (q : A) (d' : ℤ) → pos 0 ⋖ d' → squared d' *ℤ misfit n y (K.curve p) d ⩽ squared d *ℤ misfit n y (K.curve q) d'

  -- its residuals are orthogonal to every curve of the kind
  abbrev pub Orthogonal : Type 0
  Orthogonal = (φ : A) → sum n (λ i. residual i *ℤ K.curve φ i) ≡ pos 0

  -- the sum of squares after a step c / N along φ
  after-step : (N c : ℤ) (φ : A)
      → misfit n y (K.curve (K.combine N c p φ)) (N *ℤ d)
      ≡ N *ℤ N *ℤ misfit n y (K.curve p) d -ℤ pos 2 *ℤ (N *ℤ c) *ℤ sum n (λ i. residual i *ℤ K.curve φ i)
      +ℤ c *ℤ c *ℤ sum n (λ i. squared (K.curve φ i))
  unfolding misfit
  after-step N c φ =
      sum-cong n (λ i h. ap (λ (z : ℤ). squared (N *ℤ d *ℤ y i -ℤ z)) (K.combined N c p φ i))
      ∙ sum-eq n (search sums depth 12)
      (λ i h. identity (N ∷ c ∷ d ∷ y i ∷ K.curve p i ∷ K.curve φ i ∷ []) (search quote depth 20 fits 4000) tt)

  -- The step c / (k + 1), where k is the sum of squares of φ and c how far the residuals are from orthogonal to it, would lessen the sum by
  -- c² (k + 2): so c is 0.
  pub orthogonal : pos 0 ⋖ d → Least → Orthogonal
  orthogonal d-pos least φ = square-zero c (le_antisymm (cancel-le _ factor (small d k c E stepped)) (square-nonneg c))
    where
      k : ℤ
      k = sum n (λ i. squared (K.curve φ i))

      c : ℤ
      c = sum n (λ i. residual i *ℤ K.curve φ i)

      E : ℤ
      E = misfit n y (K.curve p) d

      small : (d k c E : ℤ)
          → squared ((k +ℤ pos 1) *ℤ d) *ℤ E
          ⩽ squared d *ℤ ((k +ℤ pos 1) *ℤ (k +ℤ pos 1) *ℤ E -ℤ pos 2 *ℤ ((k +ℤ pos 1) *ℤ c) *ℤ c +ℤ c *ℤ c *ℤ k)
          → squared d *ℤ (k +ℤ pos 2) *ℤ (c *ℤ c) ⩽ squared d *ℤ (k +ℤ pos 2) *ℤ pos 0
      small d k c E h = le-shift h (identity (d ∷ k ∷ c ∷ E ∷ []) (search quote depth 20 fits 4000) tt)

      above : (m : ℤ) → pos 0 ⋖ m → pos 0 ⋖ k +ℤ m
      above m h = lt-le-trans h (le-shift (sum-squares-nonneg n (K.curve φ)) (identity (m ∷ k ∷ []) (search quote depth 20) tt))

      factor : pos 0 ⋖ squared d *ℤ (k +ℤ pos 2)
      factor = mul-pos (square-pos d-pos) (above (pos 2) (record { lt = tt }))

      stepped : squared ((k +ℤ pos 1) *ℤ d) *ℤ E
          ⩽ squared d *ℤ ((k +ℤ pos 1) *ℤ (k +ℤ pos 1) *ℤ E -ℤ pos 2 *ℤ ((k +ℤ pos 1) *ℤ c) *ℤ c +ℤ c *ℤ c *ℤ k)
      stepped =
          subst (λ (z : ℤ). squared ((k +ℤ pos 1) *ℤ d) *ℤ E ⩽ squared d *ℤ z) (after-step (k +ℤ pos 1) c φ)
          (least (K.combine (k +ℤ pos 1) c p φ) ((k +ℤ pos 1) *ℤ d) (mul-pos (above (pos 1) (record { lt = tt })) d-pos))

  -- the sums of two curves compared
  other-curve : (q : ℕ → ℤ) (d' : ℤ)
      → squared d *ℤ misfit n y q d' -ℤ squared d' *ℤ misfit n y (K.curve p) d
      ≡ sum n (λ i. squared (d' *ℤ K.curve p i +ℤ neg_ℤ d *ℤ q i))
      +ℤ pos 2 *ℤ d' *ℤ sum n (λ i. residual i *ℤ (d' *ℤ K.curve p i +ℤ neg_ℤ d *ℤ q i))
  unfolding misfit
  other-curve q d' =
      sum-eq n (search sums depth 12)
      (λ i h. identity (d ∷ d' ∷ y i ∷ K.curve p i ∷ q i ∷ []) (search quote depth 20 fits 4000) tt)

  -- The residuals of any other curve q / d', times d, are d' times these and a curve of the kind; so its sum is larger by that curve's squares.
  pub least : Orthogonal → Least
  least orth q d' h =
      le-slack (sum-squares-nonneg n (λ i. d' *ℤ K.curve p i +ℤ neg_ℤ d *ℤ K.curve q i))
      (other-curve (K.curve q) d'
      ∙ ap (λ (z : ℤ). sum n (λ i. squared (d' *ℤ K.curve p i +ℤ neg_ℤ d *ℤ K.curve q i)) +ℤ pos 2 *ℤ d' *ℤ z) vanishing
      ∙ drop (sum n (λ i. squared (d' *ℤ K.curve p i +ℤ neg_ℤ d *ℤ K.curve q i))) d')
    where
      drop : (a d' : ℤ) → a +ℤ pos 2 *ℤ d' *ℤ pos 0 ≡ a
      drop a d' = identity (a ∷ d' ∷ []) (search quote depth 20) tt

      vanishing : sum n (λ i. residual i *ℤ (d' *ℤ K.curve p i +ℤ neg_ℤ d *ℤ K.curve q i)) ≡ pos 0
      vanishing =
          sum-cong n (λ i h. ap (λ (z : ℤ). residual i *ℤ z) (sym (K.combined d' (neg_ℤ d) p q i)))
          ∙ orth (K.combine d' (neg_ℤ d) p q)
