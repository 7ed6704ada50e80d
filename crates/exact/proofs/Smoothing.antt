-- The least parabola through fifteen measurements: the table's weights are its weights, it exists, and its middle value is one number.
-- Assumes nothing.
use Rattle.std.specs.Prelude.{◌≡◌, refl, List, [], ◌∷◌, reverse, ℕ, ◌<◌, ℤ, pos, neg_ℤ, ◌+ℤ◌, ◌-ℤ◌, ◌*ℤ◌}
use Rattle.std.proofs.Common.{sym, ap, ◌∙◌}
use Rattle.std.proofs.Math.IntN.{+ℤ_idl}
use Rattle.whole.specs.Square.{squared}
use Rattle.whole.specs.Sum.{sum}
use Rattle.whole.specs.Table.{tabulate, at}
use Rattle.whole.proofs.Identity.{identity, quote}
use Rattle.whole.specs.Order.{◌⋖◌}
use Rattle.whole.proofs.Order.{cancel-eq}
use Rattle.whole.proofs.Sums.{sum-eq, sums, sum-cong}
use Rattle.whole.proofs.Tables.{tabulate-get_or}
use Rattle.exact.specs.Parabola.{second, parabola_misfit, LeastParabola, ExactSmoothed}
use Rattle.exact.specs.Weights.{weights}
use Rattle.exact.proofs.LeastSquares.{misfit, Kind, Orthogonal, orthogonal, least}

-- ---- parabolas are a kind of curve

unfoldable pub parabola : ℤ × ℤ × ℤ → ℕ → ℤ
parabola c i = c.0 +ℤ c.1 *ℤ second i +ℤ c.2 *ℤ squared (second i)

pub combined : (a b P Q R P' Q' R' : ℤ) (i : ℕ)
    → parabola (a *ℤ P +ℤ b *ℤ P', a *ℤ Q +ℤ b *ℤ Q', a *ℤ R +ℤ b *ℤ R') i
    ≡ a *ℤ parabola (P, Q, R) i +ℤ b *ℤ parabola (P', Q', R') i
unfolding parabola
combined a b P Q R P' Q' R' i =
    identity (a ∷ b ∷ P ∷ Q ∷ R ∷ P' ∷ Q' ∷ R' ∷ second i ∷ []) (search quote depth 30 fits 4000) tt

abbrev pub parabolas : Kind (ℤ × ℤ × ℤ)
parabolas =
    record {
      curve = parabola;
      combine = λ a b f g. (a *ℤ f.0 +ℤ b *ℤ g.0, a *ℤ f.1 +ℤ b *ℤ g.1, a *ℤ f.2 +ℤ b *ℤ g.2);
      combined = λ a b f g i. combined a b f.0 f.1 f.2 g.0 g.1 g.2 i;
    }

-- LeastParabola says that one is the least of them
module _ (m : ℕ → ℤ) (P Q R d : ℤ) where
  pub parabola-orthogonal : LeastParabola m P Q R d → Orthogonal parabolas 15 m (P, Q, R) d
  unfolding parabola_misfit misfit parabola
  parabola-orthogonal l = orthogonal parabolas 15 m (P, Q, R) d l.positive (λ q d' h. l.least q.0 q.1 q.2 d' h)

  pub parabola-least : pos 0 ⋖ d → Orthogonal parabolas 15 m (P, Q, R) d → LeastParabola m P Q R d
  unfolding parabola_misfit misfit parabola
  parabola-least h o = record { positive = h; least = λ P' Q' R' d' k. least parabolas 15 m (P, Q, R) d o (P', Q', R') d' k }

-- ---- sums over a block

-- the residuals of the parabola P, Q, R, multiplied by the parabola a, b, c and summed
products : (n : ℕ) (x m : ℕ → ℤ) (d P Q R a b c : ℤ)
    → sum n (λ i. (d *ℤ m i -ℤ (P +ℤ Q *ℤ x i +ℤ R *ℤ squared (x i))) *ℤ (a +ℤ b *ℤ x i +ℤ c *ℤ squared (x i)))
    ≡ d *ℤ (a *ℤ sum n m +ℤ b *ℤ sum n (λ i. x i *ℤ m i) +ℤ c *ℤ sum n (λ i. squared (x i) *ℤ m i))
    -ℤ (pos n *ℤ (P *ℤ a)
    +ℤ (P *ℤ b +ℤ Q *ℤ a) *ℤ sum n x
    +ℤ (P *ℤ c +ℤ Q *ℤ b +ℤ R *ℤ a) *ℤ sum n (λ i. squared (x i))
    +ℤ (Q *ℤ c +ℤ R *ℤ b) *ℤ sum n (λ i. x i *ℤ squared (x i))
    +ℤ R *ℤ c *ℤ sum n (λ i. squared (squared (x i))))
products n x m d P Q R a b c =
    sum-eq n (search sums depth 14)
    (λ i h. identity (d ∷ P ∷ Q ∷ R ∷ a ∷ b ∷ c ∷ x i ∷ m i ∷ []) (search quote depth 30 fits 8000) tt)

-- the sums of the powers of x from -7 to 7: odd ones are 0
sum-x : sum 15 second ≡ pos 0
unfolding sum second
sum-x = refl

sum-x² : sum 15 (λ i. squared (second i)) ≡ pos 280
unfolding sum second
sum-x² = refl

sum-x³ : sum 15 (λ i. second i *ℤ squared (second i)) ≡ pos 0
unfolding sum second
sum-x³ = refl

sum-x⁴ : sum 15 (λ i. squared (squared (second i))) ≡ pos 9352
unfolding sum second
sum-x⁴ = refl

-- the same with those sums put in
products-15 : (m : ℕ → ℤ) (d P Q R a b c : ℤ)
    → sum 15 (λ i. (d *ℤ m i -ℤ parabola (P, Q, R) i) *ℤ parabola (a, b, c) i)
    ≡ d *ℤ (a *ℤ sum 15 m +ℤ b *ℤ sum 15 (λ i. second i *ℤ m i) +ℤ c *ℤ sum 15 (λ i. squared (second i) *ℤ m i))
    -ℤ (pos 15 *ℤ (P *ℤ a) +ℤ pos 280 *ℤ (P *ℤ c +ℤ Q *ℤ b +ℤ R *ℤ a) +ℤ pos 9352 *ℤ (R *ℤ c))
unfolding parabola
products-15 m d P Q R a b c =
    products 15 second m d P Q R a b c
    ∙ simp (sum-x, sum-x², sum-x³, sum-x⁴)
    (tidy (d *ℤ (a *ℤ sum 15 m +ℤ b *ℤ sum 15 (λ i. second i *ℤ m i) +ℤ c *ℤ sum 15 (λ i. squared (second i) *ℤ m i))) P Q R a b c)
  where
    tidy : (u P Q R a b c : ℤ)
        → u -ℤ (pos 15 *ℤ (P *ℤ a) +ℤ (P *ℤ b +ℤ Q *ℤ a) *ℤ pos 0 +ℤ (P *ℤ c +ℤ Q *ℤ b +ℤ R *ℤ a) *ℤ pos 280
        +ℤ (Q *ℤ c +ℤ R *ℤ b) *ℤ pos 0 +ℤ R *ℤ c *ℤ pos 9352)
        ≡ u -ℤ (pos 15 *ℤ (P *ℤ a) +ℤ pos 280 *ℤ (P *ℤ c +ℤ Q *ℤ b +ℤ R *ℤ a) +ℤ pos 9352 *ℤ (R *ℤ c))
    tidy u P Q R a b c = identity (u ∷ P ∷ Q ∷ R ∷ a ∷ b ∷ c ∷ []) (search quote depth 30 fits 8000) tt

-- ---- the weights

-- The rule of the table, one computed test: the weight at x is 167 - 5x², so the table reads the same from either end; the weights add up to 1105,
-- and their second moment is 0.
pub weights-rule :
    (weights ≡ tabulate (parabola (pos 167, pos 0, neg_ℤ (pos 5))) 15) × (reverse weights ≡ weights)
    × (sum 15 (at weights) ≡ pos 1105) × (sum 15 (λ i. squared (second i) *ℤ at weights i) ≡ pos 0)
unfolding weights tabulate parabola second sum
weights-rule = (refl, refl, refl, refl)

weight : (i : ℕ) → i < 15 → at weights i ≡ parabola (pos 167, pos 0, neg_ℤ (pos 5)) i
weight i h = ap (λ (l : List ℤ). at l i) weights-rule.0 ∙ tabulate-get_or (parabola (pos 167, pos 0, neg_ℤ (pos 5))) 15 i (pos 0) h

weighted : (m : ℕ → ℤ)
    → sum 15 (λ i. at weights i *ℤ m i)
    ≡ pos 167 *ℤ sum 15 m +ℤ pos 0 *ℤ sum 15 (λ i. second i *ℤ m i) +ℤ neg_ℤ (pos 5) *ℤ sum 15 (λ i. squared (second i) *ℤ m i)
unfolding parabola
weighted m =
    sum-cong 15 (λ i h. ap (λ (w : ℤ). w *ℤ m i) (weight i h))
    ∙ sum-eq 15 (search sums depth 14) (λ i h. identity (second i ∷ m i ∷ []) (search quote depth 30 fits 4000) tt)

-- These are the parabola's weights: the exact smoothed value P / d is the weighted sum over 1105.
pub weights-exact : {m : ℕ → ℤ} {P Q R d : ℤ} → LeastParabola m P Q R d
    → pos 1105 *ℤ P ≡ d *ℤ sum 15 (λ i. at weights i *ℤ m i)
weights-exact {m} {P} {Q} {R} {d} l =
    sym (solved d P Q R _ (sym (products-15 m d P Q R (pos 167) (pos 0) (neg_ℤ (pos 5))) ∙ balanced))
    ∙ ap (λ (z : ℤ). d *ℤ z) (sym (weighted m))
  where
    balanced : sum 15 (λ i. (d *ℤ m i -ℤ parabola (P, Q, R) i) *ℤ parabola (pos 167, pos 0, neg_ℤ (pos 5)) i) ≡ pos 0
    balanced = parabola-orthogonal m P Q R d l (pos 167, pos 0, neg_ℤ (pos 5))

    solved : (d P Q R s : ℤ)
        → d *ℤ s
        -ℤ (pos 15 *ℤ (P *ℤ pos 167) +ℤ pos 280 *ℤ (P *ℤ neg_ℤ (pos 5) +ℤ Q *ℤ pos 0 +ℤ R *ℤ pos 167)
        +ℤ pos 9352 *ℤ (R *ℤ neg_ℤ (pos 5)))
        ≡ pos 0 → d *ℤ s ≡ pos 1105 *ℤ P
    solved d P Q R s h =
        identity (d ∷ P ∷ Q ∷ R ∷ s ∷ []) (search quote depth 30 fits 4000) tt
        ∙ ap (λ (z : ℤ). z +ℤ pos 1105 *ℤ P) h
        ∙ +ℤ_idl (pos 1105 *ℤ P)

-- ---- a least parabola exists, and its middle value is one number

-- for every fifteen measurements, over the denominator 61880
pub parabola-exists : (m : ℕ → ℤ)
    → LeastParabola m (pos 9352 *ℤ sum 15 m -ℤ pos 280 *ℤ sum 15 (λ i. squared (second i) *ℤ m i))
    (pos 221 *ℤ sum 15 (λ i. second i *ℤ m i))
    (pos 15 *ℤ sum 15 (λ i. squared (second i) *ℤ m i) -ℤ pos 280 *ℤ sum 15 m) (pos 61880)
parabola-exists m = parabola-least m P Q R (pos 61880) (record { lt = tt }) zero
  where
    S₀ : ℤ
    S₀ = sum 15 m

    S₁ : ℤ
    S₁ = sum 15 (λ i. second i *ℤ m i)

    S₂ : ℤ
    S₂ = sum 15 (λ i. squared (second i) *ℤ m i)

    P : ℤ
    P = pos 9352 *ℤ S₀ -ℤ pos 280 *ℤ S₂

    Q : ℤ
    Q = pos 221 *ℤ S₁

    R : ℤ
    R = pos 15 *ℤ S₂ -ℤ pos 280 *ℤ S₀

    vanish : (s₀ s₁ s₂ a b c : ℤ)
        → pos 61880 *ℤ (a *ℤ s₀ +ℤ b *ℤ s₁ +ℤ c *ℤ s₂)
        -ℤ (pos 15 *ℤ ((pos 9352 *ℤ s₀ -ℤ pos 280 *ℤ s₂) *ℤ a)
        +ℤ pos 280
        *ℤ ((pos 9352 *ℤ s₀ -ℤ pos 280 *ℤ s₂) *ℤ c +ℤ pos 221 *ℤ s₁ *ℤ b +ℤ (pos 15 *ℤ s₂ -ℤ pos 280 *ℤ s₀) *ℤ a)
        +ℤ pos 9352 *ℤ ((pos 15 *ℤ s₂ -ℤ pos 280 *ℤ s₀) *ℤ c))
        ≡ pos 0
    vanish s₀ s₁ s₂ a b c = identity (s₀ ∷ s₁ ∷ s₂ ∷ a ∷ b ∷ c ∷ []) (search quote depth 30 fits 8000) tt

    zero : Orthogonal parabolas 15 m (P, Q, R) (pos 61880)
    zero φ = products-15 m (pos 61880) P Q R φ.0 φ.1 φ.2 ∙ vanish S₀ S₁ S₂ φ.0 φ.1 φ.2

-- so n blocks have exact smoothed values over one denominator
pub smoothed-exist : (n : ℕ) (block : ℕ → ℕ → ℤ) → (Y : ℕ → ℤ) × (e : ℤ) × ExactSmoothed n block Y e
smoothed-exist n block = (
  λ j. pos 9352 *ℤ sum 15 (block j) -ℤ pos 280 *ℤ sum 15 (λ i. squared (second i) *ℤ block j i),
  pos 61880,
  record {
    positive = record { lt = tt };
    at = λ j h. (
      pos 221 *ℤ sum 15 (λ i. second i *ℤ block j i),
      pos 15 *ℤ sum 15 (λ i. squared (second i) *ℤ block j i) -ℤ pos 280 *ℤ sum 15 (block j),
      parabola-exists (block j),
    );
  },
)

-- the exact value P / d does not depend on the choice
pub parabola-unique : {m : ℕ → ℤ} {P Q R d P' Q' R' d' : ℤ} → LeastParabola m P Q R d → LeastParabola m P' Q' R' d'
    → d' *ℤ P ≡ d *ℤ P'
parabola-unique {m} {P} {Q} {R} {d} {P'} {Q'} {R'} {d'} l l' =
    cancel-eq (pos 1105) (record { lt = tt })
    (swap d' P ∙ ap (λ (z : ℤ). d' *ℤ z) (weights-exact l) ∙ exchange d d' _ ∙ ap (λ (z : ℤ). d *ℤ z) (sym (weights-exact l')) ∙ sym (swap d P'))
  where
    swap : (d p : ℤ) → pos 1105 *ℤ (d *ℤ p) ≡ d *ℤ (pos 1105 *ℤ p)
    swap d p = identity (d ∷ p ∷ []) (search quote depth 30) tt

    exchange : (d d' s : ℤ) → d' *ℤ (d *ℤ s) ≡ d *ℤ (d' *ℤ s)
    exchange d d' s = identity (d ∷ d' ∷ s ∷ []) (search quote depth 30) tt
