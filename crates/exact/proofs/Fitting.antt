-- The least line through n values: its normal equations, that it exists, and that midpoint, slope and least sum are one number each.
-- S is the sum of the values, T the sum of (2j - (n - 1)) times the value, both over the values' denominator e.
-- Assumes nothing.
use Rattle.std.specs.Prelude.{◌≡◌, [], ◌∷◌, ℕ, ◌*◌, ◌-◌, ◌≤◌, ◌<◌, ℤ, ◌+ℤ◌, ◌-ℤ◌, ◌*ℤ◌}
use Rattle.std.proofs.Math.Path.{sym, ap}
use Rattle.std.proofs.Common.{◌∙◌, subst₂, mul-le-mul_left, arith}
use Rattle.std.proofs.Math.Nat.{one-le-mul}
use Rattle.std.proofs.Math.IntN.{pos, *ℤ-zero, *ℤ_comm}
use Rattle.whole.specs.Square.{squared}
use Rattle.whole.specs.Sum.{sum}
use Rattle.whole.proofs.Ring.{eq-of-sub}
use Rattle.whole.proofs.Identity.{identity, quote}
use Rattle.whole.specs.Order.{◌⩽◌, ◌⋖◌}
use Rattle.whole.proofs.Order.{mul-pos, cancel-eq, pos-lt, square-mul}
use Rattle.whole.proofs.Sums.{sum-eq, sums, sum-cong}
use Rattle.exact.specs.Line.{twice_seconds, line_residual, line_misfit, LeastLine}
use Rattle.exact.proofs.LeastSquares.{misfit, Kind, Orthogonal, orthogonal, least}
use Rattle.exact.specs.Weights.{place}
use Rattle.exact.proofs.Places.{seconds-place, span, sum-place, sum-place²}

-- ---- lines are a kind of curve

unfoldable pub line : ℕ → ℤ → ℤ × ℤ → ℕ → ℤ
line n e c j = pos 2 *ℤ e *ℤ c.0 +ℤ pos 15 *ℤ e *ℤ place n j *ℤ c.1

pub combined : (n : ℕ) (e a b P Q P' Q' : ℤ) (j : ℕ)
    → line n e (a *ℤ P +ℤ b *ℤ P', a *ℤ Q +ℤ b *ℤ Q') j ≡ a *ℤ line n e (P, Q) j +ℤ b *ℤ line n e (P', Q') j
unfolding line
combined n e a b P Q P' Q' j =
    identity (e ∷ a ∷ b ∷ P ∷ Q ∷ P' ∷ Q' ∷ place n j ∷ []) (search quote depth 30 fits 8000) tt

abbrev pub lines : ℕ → ℤ → Kind (ℤ × ℤ)
lines n e =
    record {
      curve = line n e;
      combine = λ a b f g. (a *ℤ f.0 +ℤ b *ℤ g.0, a *ℤ f.1 +ℤ b *ℤ g.1);
      combined = λ a b f g j. combined n e a b f.0 f.1 g.0 g.1 j;
    }

-- LeastLine says that one is the least of them; the data are the doubled values
abbrev pub doubled : (ℕ → ℤ) → ℕ → ℤ
doubled Y j = pos 2 *ℤ Y j

module _ (n : ℕ) (Y : ℕ → ℤ) (e P Q d : ℤ) where
  pub residual-is : (j : ℕ) → line_residual n Y e P Q d j ≡ d *ℤ doubled Y j -ℤ line n e (P, Q) j
  unfolding line_residual line
  residual-is j =
      ap (λ (t : ℤ). pos 2 *ℤ d *ℤ Y j -ℤ (pos 2 *ℤ e *ℤ P +ℤ e *ℤ t *ℤ Q)) (seconds-place n j)
      ∙ identity (d ∷ e ∷ P ∷ Q ∷ Y j ∷ place n j ∷ []) (search quote depth 20 fits 4000) tt

  pub misfit-is : line_misfit n Y e P Q d ≡ misfit n (doubled Y) (line n e (P, Q)) d
  unfolding line_misfit misfit
  misfit-is = sum-cong n (λ j h. ap squared (residual-is j))

module _ (n : ℕ) (Y : ℕ → ℤ) (e P Q d : ℤ) where
  abbrev Ordered : ℤ → ℤ → ℤ → Type 0
  Ordered d' a b = squared d' *ℤ a ⩽ squared d *ℤ b

  pub line-orthogonal : LeastLine n Y e P Q d → Orthogonal (lines n e) n (doubled Y) (P, Q) d
  line-orthogonal l =
      orthogonal (lines n e) n (doubled Y) (P, Q) d l.positive
      (λ q d' h.
      subst₂ (Ordered d') (misfit-is n Y e P Q d) (misfit-is n Y e q.0 q.1 d') (l.least q.0 q.1 d' h))

  pub line-least : pos 0 ⋖ d → Orthogonal (lines n e) n (doubled Y) (P, Q) d → LeastLine n Y e P Q d
  line-least h o =
      record {
        positive = h;
        least = λ P' Q' d' k.
            subst₂ (Ordered d') (sym (misfit-is n Y e P Q d)) (sym (misfit-is n Y e P' Q' d'))
            (least (lines n e) n (doubled Y) (P, Q) d o (P', Q') d' k);
      }

-- ---- sums over the values

-- the residuals of the line P, Q, multiplied by the line a, b and summed
products : (n : ℕ) (x Y : ℕ → ℤ) (e d P Q a b : ℤ)
    → sum n
    (λ j.
    (d *ℤ (pos 2 *ℤ Y j) -ℤ (pos 2 *ℤ e *ℤ P +ℤ pos 15 *ℤ e *ℤ x j *ℤ Q)) *ℤ (pos 2 *ℤ e *ℤ a +ℤ pos 15 *ℤ e *ℤ x j *ℤ b))
    ≡ pos 4 *ℤ e *ℤ a *ℤ d *ℤ sum n Y +ℤ pos 30 *ℤ e *ℤ b *ℤ d *ℤ sum n (λ j. x j *ℤ Y j)
    -ℤ pos n *ℤ (pos 4 *ℤ e *ℤ e *ℤ a *ℤ P) -ℤ pos 30 *ℤ e *ℤ e *ℤ (b *ℤ P +ℤ a *ℤ Q) *ℤ sum n x
    -ℤ pos 75 *ℤ e *ℤ e *ℤ b *ℤ Q *ℤ (pos 3 *ℤ sum n (λ j. squared (x j)))
products n x Y e d P Q a b =
    sum-eq n (search sums depth 14)
    (λ j h. identity (e ∷ d ∷ P ∷ Q ∷ a ∷ b ∷ x j ∷ Y j ∷ []) (search quote depth 30 fits 8000) tt)

-- the same with the sums over the places put in
products-place : (n : ℕ) → 1 ≤ n → (Y : ℕ → ℤ) (e d P Q a b : ℤ)
    → sum n (λ j. (d *ℤ doubled Y j -ℤ line n e (P, Q) j) *ℤ line n e (a, b) j)
    ≡ pos 4 *ℤ e *ℤ a *ℤ (d *ℤ sum n Y -ℤ e *ℤ pos n *ℤ P)
    +ℤ pos 15 *ℤ e *ℤ b *ℤ (pos 2 *ℤ d *ℤ sum n (λ j. place n j *ℤ Y j) -ℤ pos 5 *ℤ e *ℤ pos (span n) *ℤ Q)
unfolding line
products-place n h Y e d P Q a b =
    products n (place n) Y e d P Q a b
    ∙ simp (sum-place n h, sum-place² n h) (tidy (sum n Y) (sum n (λ j. place n j *ℤ Y j)) (pos n) (pos (span n)))
  where
    tidy : (S T N K : ℤ)
        → pos 4 *ℤ e *ℤ a *ℤ d *ℤ S +ℤ pos 30 *ℤ e *ℤ b *ℤ d *ℤ T -ℤ N *ℤ (pos 4 *ℤ e *ℤ e *ℤ a *ℤ P)
        -ℤ pos 30 *ℤ e *ℤ e *ℤ (b *ℤ P +ℤ a *ℤ Q) *ℤ pos 0 -ℤ pos 75 *ℤ e *ℤ e *ℤ b *ℤ Q *ℤ K
        ≡ pos 4 *ℤ e *ℤ a *ℤ (d *ℤ S -ℤ e *ℤ N *ℤ P) +ℤ pos 15 *ℤ e *ℤ b *ℤ (pos 2 *ℤ d *ℤ T -ℤ pos 5 *ℤ e *ℤ K *ℤ Q)
    tidy S T N K =
        identity (e ∷ a ∷ b ∷ d ∷ P ∷ Q ∷ S ∷ T ∷ N ∷ K ∷ []) (search quote depth 30 fits 8000) tt

-- ---- the normal equations

module _ {n : ℕ} {Y : ℕ → ℤ} {e P Q d : ℤ} (h : 1 ≤ n) (e-pos : pos 0 ⋖ e) (l : LeastLine n Y e P Q d) where
  -- the midpoint P / d is S / n
  pub midpoint-exact : d *ℤ sum n Y ≡ e *ℤ pos n *ℤ P
  midpoint-exact =
      eq-of-sub _ _
      (cancel-eq (pos 4 *ℤ e) (mul-pos {x = pos 4} (record { lt = tt }) e-pos)
      (first e (d *ℤ sum n Y -ℤ e *ℤ pos n *ℤ P) _ ∙ sym (products-place n h Y e d P Q (pos 1) (pos 0)) ∙ line-orthogonal n Y e P Q d l (pos 1, pos 0)
      ∙ sym (*ℤ-zero (pos 4 *ℤ e))))
    where
      first : (e u v : ℤ) → pos 4 *ℤ e *ℤ u ≡ pos 4 *ℤ e *ℤ pos 1 *ℤ u +ℤ pos 15 *ℤ e *ℤ pos 0 *ℤ v
      first e u v = identity (e ∷ u ∷ v ∷ []) (search quote depth 20) tt

  -- the slope Q / d is 2T / 5n (n² - 1)
  pub slope-exact : pos 2 *ℤ d *ℤ sum n (λ j. place n j *ℤ Y j) ≡ pos 5 *ℤ e *ℤ pos (span n) *ℤ Q
  slope-exact =
      eq-of-sub _ _
      (cancel-eq (pos 15 *ℤ e) (mul-pos {x = pos 15} (record { lt = tt }) e-pos)
      (second e _ (pos 2 *ℤ d *ℤ sum n (λ j. place n j *ℤ Y j) -ℤ pos 5 *ℤ e *ℤ pos (span n) *ℤ Q)
      ∙ sym (products-place n h Y e d P Q (pos 0) (pos 1)) ∙ line-orthogonal n Y e P Q d l (pos 0, pos 1) ∙ sym (*ℤ-zero (pos 15 *ℤ e))))
    where
      second : (e u v : ℤ) → pos 15 *ℤ e *ℤ v ≡ pos 4 *ℤ e *ℤ pos 0 *ℤ u +ℤ pos 15 *ℤ e *ℤ pos 1 *ℤ v
      second e u v = identity (e ∷ u ∷ v ∷ []) (search quote depth 20) tt

-- ---- a least line exists

pub span_pos : (n : ℕ) → 2 ≤ n → pos 0 ⋖ pos (span n)
span_pos n h = pos-lt (one-le-mul (some n h) (big n h))
  where
    some : (n : ℕ) → 2 ≤ n → 1 ≤ n
    some n h = omega arith

    big : (n : ℕ) → 2 ≤ n → 1 ≤ n * n - 1
    big n h = omega (arith, mul-le-mul_left n h)

-- through every two or more values, over the denominator 5e n (n² - 1)
pub line-exists : (n : ℕ) → 2 ≤ n → (Y : ℕ → ℤ) (e : ℤ) → pos 0 ⋖ e
    → LeastLine n Y e (pos 5 *ℤ pos (n * n - 1) *ℤ sum n Y) (pos 2 *ℤ sum n (λ j. place n j *ℤ Y j)) (pos 5 *ℤ e *ℤ pos (span n))
line-exists n h Y e e-pos =
    line-least n Y e P Q d (mul-pos (mul-pos {x = pos 5} (record { lt = tt }) e-pos) (span_pos n h))
    (λ φ.
    products-place n (omega arith) Y e d P Q φ.0 φ.1
    ∙ vanish e (pos n) (pos (n * n - 1)) (sum n Y) (sum n (λ j. place n j *ℤ Y j)) φ.0 φ.1)
  where
    P : ℤ
    P = pos 5 *ℤ pos (n * n - 1) *ℤ sum n Y

    Q : ℤ
    Q = pos 2 *ℤ sum n (λ j. place n j *ℤ Y j)

    d : ℤ
    d = pos 5 *ℤ e *ℤ pos (span n)

    vanish : (e n m S T a b : ℤ)
        → pos 4 *ℤ e *ℤ a *ℤ (pos 5 *ℤ e *ℤ (n *ℤ m) *ℤ S -ℤ e *ℤ n *ℤ (pos 5 *ℤ m *ℤ S))
        +ℤ pos 15 *ℤ e *ℤ b *ℤ (pos 2 *ℤ (pos 5 *ℤ e *ℤ (n *ℤ m)) *ℤ T -ℤ pos 5 *ℤ e *ℤ (n *ℤ m) *ℤ (pos 2 *ℤ T))
        ≡ pos 0
    vanish e n m S T a b = identity (e ∷ n ∷ m ∷ S ∷ T ∷ a ∷ b ∷ []) (search quote depth 30 fits 8000) tt

-- ---- midpoint, slope and least sum do not depend on the choice of line or of denominators

-- two fractions p / d and p' / d' that a multiple k of makes the same number s / e, s' / e'
ratio-unique : {k e e' : ℤ} (d d' p p' s s' : ℤ) → pos 0 ⋖ k → pos 0 ⋖ e → pos 0 ⋖ e'
    → d *ℤ s ≡ e *ℤ k *ℤ p → d' *ℤ s' ≡ e' *ℤ k *ℤ p' → e' *ℤ s ≡ e *ℤ s' → d' *ℤ p ≡ d *ℤ p'
ratio-unique {k} {e} {e'} d d' p p' s s' k-pos e-pos e'-pos a b c =
    cancel-eq (e *ℤ e' *ℤ k) (mul-pos (mul-pos e-pos e'-pos) k-pos)
    (grouped e e' d' p
    ∙ ap (λ (z : ℤ). e' *ℤ d' *ℤ z) (sym a)
    ∙ crossed e' d d' s
    ∙ ap (λ (z : ℤ). d *ℤ d' *ℤ z) c
    ∙ ap (λ (z : ℤ). z *ℤ (e *ℤ s')) (*ℤ_comm d d')
    ∙ sym (crossed e d' d s')
    ∙ ap (λ (z : ℤ). e *ℤ d *ℤ z) b
    ∙ sym (grouped e' e d p')
    ∙ ap (λ (z : ℤ). z *ℤ k *ℤ (d *ℤ p')) (*ℤ_comm e' e))
  where
    grouped : (e e' d p : ℤ) → e *ℤ e' *ℤ k *ℤ (d *ℤ p) ≡ e' *ℤ d *ℤ (e *ℤ k *ℤ p)
    grouped e e' d p = identity (e ∷ e' ∷ k ∷ d ∷ p ∷ []) (search quote depth 20 fits 4000) tt

    crossed : (e d d' s : ℤ) → e *ℤ d' *ℤ (d *ℤ s) ≡ d *ℤ d' *ℤ (e *ℤ s)
    crossed e d d' s = identity (e ∷ d ∷ d' ∷ s ∷ []) (search quote depth 20 fits 4000) tt

module _ {n : ℕ} {Y Y' : ℕ → ℤ} {e e' P P' Q Q' d d' : ℤ} (h : 2 ≤ n) (e-pos : pos 0 ⋖ e) (e'-pos : pos 0 ⋖ e')
    (same : (j : ℕ) → j < n → e' *ℤ Y j ≡ e *ℤ Y' j) (l : LeastLine n Y e P Q d) (l' : LeastLine n Y' e' P' Q' d') where
  one : 1 ≤ n
  one = omega arith

  -- P / d
  pub line-midpoint-unique : d' *ℤ P ≡ d *ℤ P'
  line-midpoint-unique =
      ratio-unique d d' P P' (sum n Y) (sum n Y') (pos-lt (omega arith)) e-pos e'-pos (midpoint-exact one e-pos l)
      (midpoint-exact one e'-pos l') (sum-eq n (search sums depth 12) same)

  -- Q / d
  pub line-slope-unique : d' *ℤ Q ≡ d *ℤ Q'
  line-slope-unique =
      ratio-unique {k = pos 5 *ℤ pos (span n)} d d' Q Q' (pos 2 *ℤ sum n (λ j. place n j *ℤ Y j))
      (pos 2 *ℤ sum n (λ j. place n j *ℤ Y' j)) (mul-pos {x = pos 5} (record { lt = tt }) (span_pos n h)) e-pos e'-pos
      (doubled-slope e d Q _ (slope-exact one e-pos l)) (doubled-slope e' d' Q' _ (slope-exact one e'-pos l'))
      (sum-eq n (search sums depth 12) moment)
    where
      doubled-slope : (e d q t : ℤ) → pos 2 *ℤ d *ℤ t ≡ pos 5 *ℤ e *ℤ pos (span n) *ℤ q
          → d *ℤ (pos 2 *ℤ t) ≡ e *ℤ (pos 5 *ℤ pos (span n)) *ℤ q
      doubled-slope e d q t u =
          identity (d ∷ t ∷ []) (search quote depth 20) tt ∙ u ∙ reordered e (pos (span n)) q
        where
          reordered : (e k q : ℤ) → pos 5 *ℤ e *ℤ k *ℤ q ≡ e *ℤ (pos 5 *ℤ k) *ℤ q
          reordered e k q = identity (e ∷ k ∷ q ∷ []) (search quote depth 20) tt

      swap : (e x y : ℤ) → e *ℤ (pos 2 *ℤ (x *ℤ y)) ≡ pos 2 *ℤ x *ℤ (e *ℤ y)
      swap e x y = identity (e ∷ x ∷ y ∷ []) (search quote depth 20) tt

      moment : (j : ℕ) → j < n → e' *ℤ (pos 2 *ℤ (place n j *ℤ Y j)) ≡ e *ℤ (pos 2 *ℤ (place n j *ℤ Y' j))
      moment j k =
          swap e' (place n j) (Y j) ∙ ap (λ (z : ℤ). pos 2 *ℤ place n j *ℤ z) (same j k) ∙ sym (swap e (place n j) (Y' j))

  -- each residual, and so the least sum
  residual-unique : (j : ℕ) → j < n → e' *ℤ d' *ℤ line_residual n Y e P Q d j ≡ e *ℤ d *ℤ line_residual n Y' e' P' Q' d' j
  unfolding line_residual
  residual-unique j k =
      spread e e' d d' (twice_seconds n j) (Y j) P Q
      ∙ simp (same j k, line-midpoint-unique, line-slope-unique) (gather e e' d d' (twice_seconds n j) (Y' j) P' Q')
    where
      spread : (e e' d d' x y p q : ℤ)
          → e' *ℤ d' *ℤ (pos 2 *ℤ d *ℤ y -ℤ (pos 2 *ℤ e *ℤ p +ℤ e *ℤ x *ℤ q))
          ≡ pos 2 *ℤ (d *ℤ d') *ℤ (e' *ℤ y) -ℤ pos 2 *ℤ (e *ℤ e') *ℤ (d' *ℤ p) -ℤ (e *ℤ e') *ℤ x *ℤ (d' *ℤ q)
      spread e e' d d' x y p q =
          identity (e ∷ e' ∷ d ∷ d' ∷ x ∷ y ∷ p ∷ q ∷ []) (search quote depth 30 fits 8000) tt

      gather : (e e' d d' x y p q : ℤ)
          → pos 2 *ℤ (d *ℤ d') *ℤ (e *ℤ y) -ℤ pos 2 *ℤ (e *ℤ e') *ℤ (d *ℤ p) -ℤ (e *ℤ e') *ℤ x *ℤ (d *ℤ q)
          ≡ e *ℤ d *ℤ (pos 2 *ℤ d' *ℤ y -ℤ (pos 2 *ℤ e' *ℤ p +ℤ e' *ℤ x *ℤ q))
      gather e e' d d' x y p q =
          identity (e ∷ e' ∷ d ∷ d' ∷ x ∷ y ∷ p ∷ q ∷ []) (search quote depth 30 fits 8000) tt

  pub line-misfit-unique : squared (e' *ℤ d') *ℤ line_misfit n Y e P Q d ≡ squared (e *ℤ d) *ℤ line_misfit n Y' e' P' Q' d'
  unfolding line_misfit
  line-misfit-unique =
      sum-eq n (search sums depth 12)
      (λ j k. square-mul (e' *ℤ d') (line_residual n Y e P Q d j) ∙ ap squared (residual-unique j k)
      ∙ sym (square-mul (e *ℤ d) (line_residual n Y' e' P' Q' d' j)))

-- ---- values k times as large have a line k times as large: the same figures, counted in steps of which there are k

module _ (n : ℕ) (Y : ℕ → ℤ) (e k : ℤ) where
  -- the least sum is k² times as large
  pub misfit-scaled : (P Q d : ℤ) → line_misfit n (λ j. k *ℤ Y j) e (k *ℤ P) (k *ℤ Q) d ≡ squared k *ℤ line_misfit n Y e P Q d
  unfolding line_misfit line_residual
  misfit-scaled P Q d =
      sum-eq n (search sums depth 12)
      (λ j h. identity (k ∷ d ∷ e ∷ P ∷ Q ∷ Y j ∷ twice_seconds n j ∷ []) (search quote depth 30 fits 8000) tt)

  -- any line over d is one through the values themselves over k d
  misfit-divided : (P Q d : ℤ) → line_misfit n (λ j. k *ℤ Y j) e P Q d ≡ line_misfit n Y e P Q (k *ℤ d)
  unfolding line_misfit line_residual
  misfit-divided P Q d =
      sum-eq n (search sums depth 12)
      (λ j h. identity (k ∷ d ∷ e ∷ P ∷ Q ∷ Y j ∷ twice_seconds n j ∷ []) (search quote depth 30 fits 8000) tt)

  pub least-scaled : pos 0 ⋖ k → {P Q d : ℤ} → LeastLine n Y e P Q d → LeastLine n (λ j. k *ℤ Y j) e (k *ℤ P) (k *ℤ Q) d
  least-scaled k-pos {P} {Q} {d} l =
      record {
        positive = l.positive;
        least = λ P' Q' d' h.
            subst₂ (λ (a b : ℤ). a ⩽ squared d *ℤ b) (before d') (sym (misfit-divided P' Q' d'))
            (l.least P' Q' (k *ℤ d') (mul-pos k-pos h));
      }
    where
      moved : (k d' W : ℤ) → squared (k *ℤ d') *ℤ W ≡ squared d' *ℤ (squared k *ℤ W)
      moved k d' W = identity (k ∷ d' ∷ W ∷ []) (search quote depth 30 fits 4000) tt

      before : (d' : ℤ)
          → squared (k *ℤ d') *ℤ line_misfit n Y e P Q d
          ≡ squared d' *ℤ line_misfit n (λ j. k *ℤ Y j) e (k *ℤ P) (k *ℤ Q) d
      before d' = moved k d' (line_misfit n Y e P Q d) ∙ ap (λ (z : ℤ). squared d' *ℤ z) (sym (misfit-scaled P Q d))
