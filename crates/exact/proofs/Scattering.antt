-- What rounding can do to DSG. Values within half a step of the exact ones, and residuals rounded to whole steps, leave the sum of squared
-- residuals within one step of the root mean square. The argument takes no roots:
--   the residuals of the rounding errors are no longer than the errors (projection), so residuals differ by d with Σ d² ≤ n;
--   and c Σu² ≤ (c + 1) Σw² + c (c + 1) Σ(u - w)² carries a bound from one sum of squares to the other, in both directions.
-- Assumes nothing.
use Rattle.std.specs.Prelude.{◌≡◌, List, [], ◌∷◌, ℕ, ◌*◌, ◌-◌, ◌≤◌, ◌<◌, ℤ, ◌+ℤ◌, ◌-ℤ◌, ◌*ℤ◌}
use Rattle.std.proofs.Math.Path.{refl, ap, ap₂, subst₃}
use Rattle.std.proofs.Common.{sym, ◌∙◌, subst, subst₂, arith}
use Rattle.std.proofs.Math.IntN.{pos}
use Rattle.whole.specs.Square.{squared, magnitude}
use Rattle.whole.specs.Sum.{sum}
use Rattle.whole.proofs.Identity.{identity, quote}
use Rattle.whole.proofs.Linear.{le-by, le_is}
use Rattle.whole.specs.Order.{◌⩽◌, ◌⋖◌}
use Rattle.whole.proofs.Order.{lt-le-trans, le_trans, le_of_eq, le-slack, le-shift, add-le, sub-nonneg, zero-le-pos, mul-nonneg, mul-le, cancel-le, square-nonneg, square_le, square-mul, square-pos}
use Rattle.whole.proofs.Magnitudes.{magnitude-nonneg, square-magnitude}
use Rattle.whole.proofs.Sums.{sum-eq, sums-le, sums, sum-squares-nonneg}
use Rattle.exact.specs.Line.{line_residual, line_misfit, LeastLine}
use Rattle.exact.specs.Weights.{place}
use Rattle.exact.proofs.Places.{span, sum-place, sum-place²}
use Rattle.exact.proofs.Fitting.{line, residual-is, midpoint-exact, slope-exact, span_pos}
use Rattle.exact.proofs.Bounds.{gap, sum-gap, moment-gap, Near, Rounded}

-- The residual of value j from the least line through the whole values u, times n (n² - 1).
unfoldable pub spread : ℕ → (ℕ → ℤ) → ℕ → ℤ
spread n u j = pos (span n) *ℤ u j -ℤ pos (n * n - 1) *ℤ sum n u -ℤ pos 3 *ℤ (place n j *ℤ sum n (λ i. place n i *ℤ u i))

-- it is the value, times n (n² - 1), less what the line takes off
spread-parts : (n : ℕ) (u : ℕ → ℤ) (j : ℕ)
    → spread n u j
    ≡ pos (span n) *ℤ u j -ℤ (pos (n * n - 1) *ℤ sum n u +ℤ pos 3 *ℤ sum n (λ i. place n i *ℤ u i) *ℤ place n j)
unfolding spread
spread-parts n u j = reordered (pos (span n)) (u j) (pos (n * n - 1)) (sum n u) (place n j) (sum n (λ i. place n i *ℤ u i))
  where
    reordered : (N v m S x T : ℤ) → N *ℤ v -ℤ m *ℤ S -ℤ pos 3 *ℤ (x *ℤ T) ≡ N *ℤ v -ℤ (m *ℤ S +ℤ pos 3 *ℤ T *ℤ x)
    reordered N v m S x T = identity (N ∷ v ∷ m ∷ S ∷ x ∷ T ∷ []) (search quote depth 20 fits 4000) tt

-- ---- a sum of squares carried to another

-- the squares of N u and of its two parts s and t
pythagoras : (n : ℕ) (N : ℤ) (u s t : ℕ → ℤ) → ((j : ℕ) → s j ≡ N *ℤ u j -ℤ t j)
    → squared N *ℤ sum n (λ j. squared (u j)) -ℤ sum n (λ j. squared (s j))
    ≡ sum n (λ j. squared (t j)) +ℤ pos 2 *ℤ sum n (λ j. s j *ℤ t j)
pythagoras n N u s t parts =
    sum-eq n (search sums depth 12) (λ j h. simp (parts j) (whole N (u j) (t j)))
  where
    whole : (N u t : ℤ)
        → squared N *ℤ squared u -ℤ squared (N *ℤ u -ℤ t) ≡ squared t +ℤ pos 2 *ℤ ((N *ℤ u -ℤ t) *ℤ t)
    whole N u t = identity (N ∷ u ∷ t ∷ []) (search quote depth 20 fits 4000) tt

carried : (n : ℕ) (c : ℤ) (u w : ℕ → ℤ)
    → c *ℤ sum n (λ j. squared (u j))
    ⩽ (c +ℤ pos 1) *ℤ sum n (λ j. squared (w j)) +ℤ c *ℤ (c +ℤ pos 1) *ℤ sum n (λ j. squared (u j -ℤ w j))
carried n c u w =
    le-slack (sum-squares-nonneg n (λ j. w j -ℤ c *ℤ (u j -ℤ w j)))
    (sum-eq n (search sums depth 12) (λ j h. identity (c ∷ u j ∷ w j ∷ []) (search quote depth 20 fits 4000) tt))

-- what follows for the sums, with M for (2de)²: from n c² ≤ q, ...
lower : (c n M q W D : ℤ) → pos 1 ⩽ c → pos 0 ⩽ M
    → (c -ℤ pos 1) *ℤ (M *ℤ q) ⩽ (c -ℤ pos 1 +ℤ pos 1) *ℤ W +ℤ (c -ℤ pos 1) *ℤ (c -ℤ pos 1 +ℤ pos 1) *ℤ D → D ⩽ n *ℤ M
    → n *ℤ squared c ⩽ q → n *ℤ squared (c -ℤ pos 1) *ℤ M ⩽ W
lower c n M q W D one-le M-pos step errors least =
    cancel-le c (lt-le-trans (record { lt = tt }) one-le)
    (subst₂ ◌⩽◌ (sym multiplied) restored
    (linear (mul-le (c -ℤ pos 1) before (mul-le M M-pos least))
    (mul-le ((c -ℤ pos 1) *ℤ (c -ℤ pos 1 +ℤ pos 1)) (mul-nonneg before (le_trans before after)) errors) step))
  where
    multiplied : c *ℤ (n *ℤ squared (c -ℤ pos 1) *ℤ M)
        ≡ (c -ℤ pos 1) *ℤ (M *ℤ (n *ℤ squared c)) -ℤ (c -ℤ pos 1) *ℤ (c -ℤ pos 1 +ℤ pos 1) *ℤ (n *ℤ M)
    multiplied = identity (c ∷ n ∷ M ∷ []) (search quote depth 30 fits 8000) tt

    restored : (c -ℤ pos 1 +ℤ pos 1) *ℤ W ≡ c *ℤ W
    restored = identity (c ∷ W ∷ []) (search quote depth 20) tt

    before : pos 0 ⩽ c -ℤ pos 1
    before = sub-nonneg one-le

    after : c -ℤ pos 1 ⩽ c -ℤ pos 1 +ℤ pos 1
    after = le-slack (zero-le-pos 1) (identity (c ∷ []) (search quote depth 20) tt)

    linear : {a b g h w : ℤ} → a ⩽ b → g ⩽ h → b ⩽ w +ℤ g → a -ℤ h ⩽ w
    linear {a} {b} {g} {h} {w} p q r =
        let ρ : List ℤ = a ∷ b ∷ g ∷ h ∷ w ∷ [] in
        le-by ρ (search quote depth 20)
        (omega (arith, le_is ρ (search quote depth 20) p, le_is ρ (search quote depth 20) q, le_is ρ (search quote depth 20) r))

-- ... and from q ≤ n c²
upper : (c n M q W D : ℤ) → pos 1 ⩽ c → pos 0 ⩽ M
    → c *ℤ W ⩽ (c +ℤ pos 1) *ℤ (M *ℤ q) +ℤ c *ℤ (c +ℤ pos 1) *ℤ D → D ⩽ n *ℤ M
    → q ⩽ n *ℤ squared c → W ⩽ n *ℤ squared (c +ℤ pos 1) *ℤ M
upper c n M q W D one-le M-pos step errors most =
    cancel-le c (lt-le-trans (record { lt = tt }) one-le)
    (le_trans step
    (le_trans
    (add-le (mul-le (c +ℤ pos 1) after (mul-le M M-pos most)) (mul-le (c *ℤ (c +ℤ pos 1)) (mul-nonneg c_pos after) errors))
    (le_of_eq (identity (c ∷ n ∷ M ∷ []) (search quote depth 30 fits 8000) tt))))
  where
    c_pos : pos 0 ⩽ c
    c_pos = le_trans (zero-le-pos 1) one-le

    after : pos 0 ⩽ c +ℤ pos 1
    after = add-le c_pos (zero-le-pos 1)

-- ---- the residuals of errors are no longer than the errors

module _ (n : ℕ) (h : 1 ≤ n) (u : ℕ → ℤ) where
  -- the residuals are orthogonal to any line
  spread-orthogonal : (a b : ℤ) → sum n (λ j. spread n u j *ℤ (a +ℤ b *ℤ place n j)) ≡ pos 0
  unfolding spread
  spread-orthogonal a b =
      expanded (pos (span n)) (pos (n * n - 1)) (sum n u) (sum n (λ i. place n i *ℤ u i))
      ∙ simp (sum-place n h, sum-place² n h) (vanish (pos n) (pos (n * n - 1)) (sum n u) (sum n (λ i. place n i *ℤ u i)))
    where
      expanded : (N m S T : ℤ)
          → sum n (λ j. (N *ℤ u j -ℤ m *ℤ S -ℤ pos 3 *ℤ (place n j *ℤ T)) *ℤ (a +ℤ b *ℤ place n j))
          ≡ N *ℤ a *ℤ sum n u +ℤ N *ℤ b *ℤ sum n (λ i. place n i *ℤ u i) -ℤ pos n *ℤ (m *ℤ S *ℤ a)
          -ℤ (m *ℤ S *ℤ b +ℤ pos 3 *ℤ a *ℤ T) *ℤ sum n (place n) -ℤ b *ℤ T *ℤ (pos 3 *ℤ sum n (λ j. squared (place n j)))
      expanded N m S T =
          sum-eq n (search sums depth 14)
          (λ j k. identity (N ∷ m ∷ S ∷ T ∷ a ∷ b ∷ u j ∷ place n j ∷ []) (search quote depth 30 fits 8000) tt)

      vanish : (n m S T : ℤ)
          → n *ℤ m *ℤ a *ℤ S +ℤ n *ℤ m *ℤ b *ℤ T -ℤ n *ℤ (m *ℤ S *ℤ a) -ℤ (m *ℤ S *ℤ b +ℤ pos 3 *ℤ a *ℤ T) *ℤ pos 0
          -ℤ b *ℤ T *ℤ (n *ℤ m)
          ≡ pos 0
      vanish n m S T = identity (n ∷ m ∷ S ∷ T ∷ a ∷ b ∷ []) (search quote depth 30 fits 8000) tt

  -- they and what the least line takes off add up to the values, so no sum of squares exceeds the values'
  pub projection : sum n (λ j. squared (spread n u j)) ⩽ squared (pos (span n)) *ℤ sum n (λ j. squared (u j))
  projection =
      le-slack (sum-squares-nonneg n (λ j. a +ℤ b *ℤ place n j))
      (pythagoras n (pos (span n)) u (spread n u) (λ j. a +ℤ b *ℤ place n j) (spread-parts n u)
      ∙ ap (λ (z : ℤ). sum n (λ j. squared (a +ℤ b *ℤ place n j)) +ℤ pos 2 *ℤ z) (spread-orthogonal a b)
      ∙ drop (sum n (λ j. squared (a +ℤ b *ℤ place n j))))
    where
      a : ℤ
      a = pos (n * n - 1) *ℤ sum n u

      b : ℤ
      b = pos 3 *ℤ sum n (λ i. place n i *ℤ u i)

      drop : (a : ℤ) → a +ℤ pos 2 *ℤ pos 0 ≡ a
      drop a = identity (a ∷ []) (search quote depth 20) tt

-- ---- the whole residuals and the exact ones

module _ (n : ℕ) (v : ℕ → ℤ) {Y : ℕ → ℤ} {e P Q d : ℤ} (h : 2 ≤ n) (e-pos : pos 0 ⋖ e) (near : Near n v Y e)
    (l : LeastLine n Y e P Q d) (r : ℕ → ℤ) (rounded : (j : ℕ) → j < n → Rounded (r j) (spread n v j) (pos (span n))) where
  one : 1 ≤ n
  one = omega arith

  abbrev N : ℤ
  N = pos (span n)

  -- the exact residual, times 2de, is the spread of Y, times 2d over N
  exact-spread : (j : ℕ) → N *ℤ line_residual n Y e P Q d j ≡ pos 2 *ℤ d *ℤ spread n Y j
  unfolding line spread
  exact-spread j =
      ap (λ (z : ℤ). N *ℤ z) (residual-is n Y e P Q d j)
      ∙ before (pos n) (pos (n * n - 1)) d (Y j) e P (place n j) Q
      ∙ ap₂ (λ (a b : ℤ). pos 2 *ℤ d *ℤ (pos n *ℤ pos (n * n - 1)) *ℤ Y j -ℤ pos 2 *ℤ pos (n * n - 1) *ℤ a -ℤ pos 3 *ℤ place n j *ℤ b)
      (sym (midpoint-exact one e-pos l)) (sym (slope-exact one e-pos l))
      ∙ after (pos n) (pos (n * n - 1)) d (Y j) (sum n Y) (place n j) (sum n (λ i. place n i *ℤ Y i))
    where
      before : (n m d y e P x Q : ℤ)
          → n *ℤ m *ℤ (d *ℤ (pos 2 *ℤ y) -ℤ (pos 2 *ℤ e *ℤ P +ℤ pos 15 *ℤ e *ℤ x *ℤ Q))
          ≡ pos 2 *ℤ d *ℤ (n *ℤ m) *ℤ y -ℤ pos 2 *ℤ m *ℤ (e *ℤ n *ℤ P) -ℤ pos 3 *ℤ x *ℤ (pos 5 *ℤ e *ℤ (n *ℤ m) *ℤ Q)
      before n m d y e P x Q = identity (n ∷ m ∷ d ∷ y ∷ e ∷ P ∷ x ∷ Q ∷ []) (search quote depth 30 fits 8000) tt

      after : (n m d y S x T : ℤ)
          → pos 2 *ℤ d *ℤ (n *ℤ m) *ℤ y -ℤ pos 2 *ℤ m *ℤ (d *ℤ S) -ℤ pos 3 *ℤ x *ℤ (pos 2 *ℤ d *ℤ T)
          ≡ pos 2 *ℤ d *ℤ (n *ℤ m *ℤ y -ℤ m *ℤ S -ℤ pos 3 *ℤ (x *ℤ T))
      after n m d y S x T = identity (n ∷ m ∷ d ∷ y ∷ S ∷ x ∷ T ∷ []) (search quote depth 30 fits 8000) tt

  -- the spread is linear: that of the errors is the difference of the two
  gap-spread : (j : ℕ) → spread n (gap v Y e) j ≡ pos 2 *ℤ e *ℤ spread n v j -ℤ pos 2 *ℤ spread n Y j
  unfolding spread
  gap-spread j =
      ap₂ (λ (S T : ℤ). pos (span n) *ℤ gap v Y e j -ℤ pos (n * n - 1) *ℤ S -ℤ pos 3 *ℤ (place n j *ℤ T)) (sum-gap n v Y e) (moment-gap n v Y e)
      ∙ regrouped (pos (span n)) (pos (n * n - 1)) (v j) (Y j) (sum n v) (sum n Y) (place n j)
      (sum n (λ i. place n i *ℤ v i)) (sum n (λ i. place n i *ℤ Y i))
    where
      regrouped : (N m v y S S' x T T' : ℤ)
          → N *ℤ (pos 2 *ℤ e *ℤ v -ℤ pos 2 *ℤ y) -ℤ m *ℤ (pos 2 *ℤ e *ℤ S -ℤ pos 2 *ℤ S')
          -ℤ pos 3 *ℤ (x *ℤ (pos 2 *ℤ e *ℤ T -ℤ pos 2 *ℤ T'))
          ≡ pos 2 *ℤ e *ℤ (N *ℤ v -ℤ m *ℤ S -ℤ pos 3 *ℤ (x *ℤ T)) -ℤ pos 2 *ℤ (N *ℤ y -ℤ m *ℤ S' -ℤ pos 3 *ℤ (x *ℤ T'))
      regrouped N m v y S S' x T T' =
          identity (e ∷ N ∷ m ∷ v ∷ y ∷ S ∷ S' ∷ x ∷ T ∷ T' ∷ []) (search quote depth 30 fits 8000) tt

  -- how far a whole residual is from the exact one, times 2de
  abbrev apart : ℕ → ℤ
  apart j = pos 2 *ℤ d *ℤ e *ℤ r j -ℤ line_residual n Y e P Q d j

  -- ... comes from rounding the residual, and from the errors of the values
  apart_parts : (j : ℕ)
      → N *ℤ apart j ≡ d *ℤ e *ℤ (pos 2 *ℤ N *ℤ r j -ℤ pos 2 *ℤ spread n v j) +ℤ d *ℤ spread n (gap v Y e) j
  apart_parts j =
      before N d e (r j) (line_residual n Y e P Q d j)
      ∙ ap (λ (z : ℤ). pos 2 *ℤ d *ℤ e *ℤ N *ℤ r j -ℤ z) (exact-spread j)
      ∙ after N d e (r j) (spread n v j) (spread n Y j)
      ∙ ap (λ (z : ℤ). d *ℤ e *ℤ (pos 2 *ℤ N *ℤ r j -ℤ pos 2 *ℤ spread n v j) +ℤ d *ℤ z) (sym (gap-spread j))
    where
      before : (N d e r E : ℤ) → N *ℤ (pos 2 *ℤ d *ℤ e *ℤ r -ℤ E) ≡ pos 2 *ℤ d *ℤ e *ℤ N *ℤ r -ℤ N *ℤ E
      before N d e r E = identity (N ∷ d ∷ e ∷ r ∷ E ∷ []) (search quote depth 20 fits 4000) tt

      after : (N d e r s t : ℤ)
          → pos 2 *ℤ d *ℤ e *ℤ N *ℤ r -ℤ pos 2 *ℤ d *ℤ t
          ≡ d *ℤ e *ℤ (pos 2 *ℤ N *ℤ r -ℤ pos 2 *ℤ s) +ℤ d *ℤ (pos 2 *ℤ e *ℤ s -ℤ pos 2 *ℤ t)
      after N d e r s t = identity (N ∷ d ∷ e ∷ r ∷ s ∷ t ∷ []) (search quote depth 20 fits 4000) tt

  square-within : (x b : ℤ) → magnitude x ⩽ b → squared x ⩽ squared b
  square-within x b k = subst (λ (z : ℤ). z ⩽ squared b) (square-magnitude x) (square_le (magnitude-nonneg x) k)

  apart-square : (j : ℕ) → j < n
      → squared N *ℤ squared (apart j)
      ⩽ pos 2 *ℤ (squared (d *ℤ e) *ℤ squared N) +ℤ pos 2 *ℤ squared d *ℤ squared (spread n (gap v Y e) j)
  apart-square j k =
      le_trans (le_of_eq (square-mul N (apart j) ∙ ap squared (apart_parts j)))
      (le_trans (two-squares (d *ℤ e *ℤ x) (d *ℤ y))
      (le-shift
      (mul-le (pos 2 *ℤ squared (d *ℤ e)) (mul-nonneg (zero-le-pos 2) (square-nonneg (d *ℤ e))) (square-within x N (rounded j k)))
      (same (d *ℤ e) d x y N)))
    where
      x : ℤ
      x = pos 2 *ℤ N *ℤ r j -ℤ pos 2 *ℤ spread n v j

      y : ℤ
      y = spread n (gap v Y e) j

      two-squares : (a b : ℤ) → squared (a +ℤ b) ⩽ pos 2 *ℤ squared a +ℤ pos 2 *ℤ squared b
      two-squares a b = le-slack (square-nonneg (a -ℤ b)) (identity (a ∷ b ∷ []) (search quote depth 20) tt)

      same : (f d x y N : ℤ)
          → pos 2 *ℤ (squared f *ℤ squared N) +ℤ pos 2 *ℤ squared d *ℤ squared y
          -ℤ (pos 2 *ℤ squared (f *ℤ x) +ℤ pos 2 *ℤ squared (d *ℤ y))
          ≡ pos 2 *ℤ squared f *ℤ squared N -ℤ pos 2 *ℤ squared f *ℤ squared x
      same f d x y N = identity (f ∷ d ∷ x ∷ y ∷ N ∷ []) (search quote depth 30 fits 8000) tt

  -- the squares of the errors add up to at most n e²
  gap-squares : sum n (λ j. squared (gap v Y e j)) ⩽ pos n *ℤ squared e
  gap-squares = sums-le n (search sums depth 12) (λ j k. square-within (gap v Y e j) e (near j k))

  -- so the whole residuals and the exact ones differ, in the mean square, by at most one step
  apart-squares : sum n (λ j. squared (apart j)) ⩽ pos n *ℤ squared (pos 2 *ℤ d *ℤ e)
  apart-squares =
      cancel-le (squared N) (square-pos (span_pos n h))
      (le_trans
      (sums-le n (search sums depth 12) apart-square)
      (chain (squared N) (pos n) (sum n (λ j. squared (spread n (gap v Y e) j))) (sum n (λ j. squared (gap v Y e j)))
      (square-nonneg N) (projection n one (gap v Y e)) gap-squares))
    where
      chain : (M n A B : ℤ) → pos 0 ⩽ M → A ⩽ M *ℤ B → B ⩽ n *ℤ squared e
          → n *ℤ (pos 2 *ℤ (squared (d *ℤ e) *ℤ M)) +ℤ pos 2 *ℤ squared d *ℤ A ⩽ M *ℤ (n *ℤ squared (pos 2 *ℤ d *ℤ e))
      chain M n A B M-pos p q =
          le-shift
          (mul-le (pos 2 *ℤ squared d) (mul-nonneg (zero-le-pos 2) (square-nonneg d)) (le_trans p (mul-le M M-pos q)))
          (identity (M ∷ n ∷ A ∷ d ∷ e ∷ []) (search quote depth 30 fits 8000) tt)

  -- ---- the two bounds

  -- U, the squares of the whole residuals, and W, those of the exact ones, both times (2de)²
  abbrev U : ℤ
  U = squared (pos 2 *ℤ d *ℤ e) *ℤ sum n (λ j. squared (r j))

  abbrev W : ℤ
  W = line_misfit n Y e P Q d

  whole-squares : sum n (λ j. squared (pos 2 *ℤ d *ℤ e *ℤ r j)) ≡ U
  whole-squares = sum-eq n (search sums depth 12) (λ j k. sym (square-mul (pos 2 *ℤ d *ℤ e) (r j)))

  exact-squares : sum n (λ j. squared (line_residual n Y e P Q d j)) ≡ W
  unfolding line_misfit
  exact-squares = refl

  reversed : sum n (λ j. squared (line_residual n Y e P Q d j -ℤ pos 2 *ℤ d *ℤ e *ℤ r j)) ≡ sum n (λ j. squared (apart j))
  reversed =
      sum-eq n (search sums depth 12)
      (λ j k. identity (d ∷ e ∷ r j ∷ line_residual n Y e P Q d j ∷ []) (search quote depth 20 fits 4000) tt)

  down : (c : ℤ) → c *ℤ U ⩽ (c +ℤ pos 1) *ℤ W +ℤ c *ℤ (c +ℤ pos 1) *ℤ sum n (λ j. squared (apart j))
  down c =
      subst₂ (λ (a b : ℤ). c *ℤ a ⩽ (c +ℤ pos 1) *ℤ b +ℤ c *ℤ (c +ℤ pos 1) *ℤ sum n (λ j. squared (apart j))) whole-squares exact-squares
      (carried n c (λ j. pos 2 *ℤ d *ℤ e *ℤ r j) (line_residual n Y e P Q d))

  up : (c : ℤ) → c *ℤ W ⩽ (c +ℤ pos 1) *ℤ U +ℤ c *ℤ (c +ℤ pos 1) *ℤ sum n (λ j. squared (apart j))
  up c =
      subst₃ (λ (a b g : ℤ). c *ℤ a ⩽ (c +ℤ pos 1) *ℤ b +ℤ c *ℤ (c +ℤ pos 1) *ℤ g) exact-squares whole-squares reversed
      (carried n c (line_residual n Y e P Q d) (λ j. pos 2 *ℤ d *ℤ e *ℤ r j))

  -- n c² ≤ Σ r² gives n (c - 1)² ≤ the exact sum
  pub scatter-above : (c : ℤ) → pos 1 ⩽ c → pos n *ℤ squared c ⩽ sum n (λ j. squared (r j))
      → pos n *ℤ squared (c -ℤ pos 1) *ℤ squared (pos 2 *ℤ d *ℤ e) ⩽ line_misfit n Y e P Q d
  scatter-above c k q =
      lower c (pos n) (squared (pos 2 *ℤ d *ℤ e)) (sum n (λ j. squared (r j))) W (sum n (λ j. squared (apart j))) k
      (square-nonneg (pos 2 *ℤ d *ℤ e)) (down (c -ℤ pos 1)) apart-squares q

  -- Σ r² ≤ n c² gives the exact sum ≤ n (c + 1)²
  pub scatter-below : (c : ℤ) → pos 1 ⩽ c → sum n (λ j. squared (r j)) ⩽ pos n *ℤ squared c
      → line_misfit n Y e P Q d ⩽ pos n *ℤ squared (c +ℤ pos 1) *ℤ squared (pos 2 *ℤ d *ℤ e)
  scatter-below c k q =
      upper c (pos n) (squared (pos 2 *ℤ d *ℤ e)) (sum n (λ j. squared (r j))) W (sum n (λ j. squared (apart j))) k
      (square-nonneg (pos 2 *ℤ d *ℤ e)) (up c) apart-squares q
