-- The figures of a track are accurate: what Smooth, Correct, Fit and Scatter of document 01 round, put together.
-- Assumes nothing.
use Rattle.std.specs.Prelude.{◌≡◌, List, [], ◌∷◌, ℕ, ◌*◌, ◌≤◌, ◌<◌, ℤ, pos, ◌+ℤ◌, ◌-ℤ◌, ◌*ℤ◌}
use Rattle.std.proofs.Common.{sym, ap, ◌∙◌, subst, subst₂, mul-le-mul_left, arith}
use Rattle.whole.specs.Square.{squared, magnitude}
use Rattle.whole.specs.Sum.{sum}
use Rattle.whole.proofs.Identity.{identity, quote}
use Rattle.whole.proofs.Linear.{le-by, le_is, lt-is}
use Rattle.whole.specs.Order.{◌⩽◌, ◌⋖◌}
use Rattle.whole.proofs.Order.{le_refl, le_of_eq, le_of_lt, lt-le-trans, le-shift, cancel-le, pos-le, pos-lt, pos-sub, zero-le-pos, mul-le, mul-le-mul, mul-nonneg, add-le, sub-nonneg, le_trans, square-nonneg, square-pos, square_le}
use Rattle.whole.proofs.Magnitudes.{magnitude-mul, magnitude-combined}
use Rattle.limits.specs.declared.Numbers.{Numbers}
use Rattle.exact.specs.Parabola.{LeastParabola, ExactSmoothed}
use Rattle.exact.specs.Line.{LeastLine, line_misfit}
use Rattle.whole.specs.Table.{at}
use Rattle.exact.specs.Corrected.{Given, block, to_a, to_b, steps}
use Rattle.exact.specs.Accurate.{AccurateLine, AccurateScatter, AccurateTrack}
use Rattle.exact.specs.Weights.{weights, place}
use Rattle.exact.specs.Accuracy.{EarlierLine, EarlierScatter, SlopeWithin502}
use Rattle.exact.proofs.Smoothing.{weights-exact}
use Rattle.exact.proofs.Places.{span, span-is}
use Rattle.exact.proofs.Fitting.{misfit-scaled, least-scaled}
use Rattle.exact.proofs.Bounds.{Near, Rounded, midpoint-bound, slope-bound}
use Rattle.exact.proofs.Scattering.{spread, scatter-above, scatter-below}

-- ---- smoothed and corrected values are within half a step of the exact ones

pub smoothed-near : (s : ℕ) {m : ℕ → ℤ} {Y Q R e : ℤ} (v : ℤ) → Rounded v (pos s *ℤ sum 15 (λ i. at weights i *ℤ m i)) (pos 1105)
    → LeastParabola m Y Q R e → magnitude (pos 2 *ℤ e *ℤ v -ℤ pos 2 *ℤ (pos s *ℤ Y)) ⩽ e
smoothed-near s {m} {Y} {Q} {R} {e} v rounded l =
    magnitude-combined (pos 2 *ℤ e *ℤ v -ℤ pos 2 *ℤ (pos s *ℤ Y)) _ (pos 0) {Y = pos 0} (pos 1105) e (pos 0) (record { lt = tt })
    (le_of_lt l.positive) (le_refl (pos 0))
    (before (pos s) e v Y ∙ ap (λ (z : ℤ). pos 2210 *ℤ e *ℤ v -ℤ pos 2 *ℤ (pos s *ℤ z)) (weights-exact l)
    ∙ after (pos s) e v (sum 15 (λ i. at weights i *ℤ m i)))
    rounded (le_refl (pos 0)) (le_of_eq (added e))
  where
    before : (s e v Y : ℤ)
        → pos 1105 *ℤ (pos 2 *ℤ e *ℤ v -ℤ pos 2 *ℤ (s *ℤ Y)) ≡ pos 2210 *ℤ e *ℤ v -ℤ pos 2 *ℤ (s *ℤ (pos 1105 *ℤ Y))
    before s e v Y = identity (s ∷ e ∷ v ∷ Y ∷ []) (search quote depth 20 fits 4000) tt

    after : (s e v S : ℤ)
        → pos 2210 *ℤ e *ℤ v -ℤ pos 2 *ℤ (s *ℤ (e *ℤ S))
        ≡ e *ℤ (pos 2 *ℤ pos 1105 *ℤ v -ℤ pos 2 *ℤ (s *ℤ S)) +ℤ pos 0 *ℤ pos 0
    after s e v S = identity (s ∷ e ∷ v ∷ S ∷ []) (search quote depth 20 fits 4000) tt

    added : (e : ℤ) → e *ℤ pos 1105 +ℤ pos 0 *ℤ pos 0 ≡ pos 1105 *ℤ e
    added e = identity (e ∷ []) (search quote depth 20) tt

-- the corrections are whole steps, so they drop out of the error
gap-a : (g : Given) (s e : ℤ) (j : ℕ) (v y : ℤ)
    → pos 2 *ℤ e *ℤ to_a g s j v -ℤ pos 2 *ℤ (s *ℤ to_a g e j y) ≡ pos 2 *ℤ e *ℤ v -ℤ pos 2 *ℤ (s *ℤ y)
unfolding to_a
gap-a g s e j v y =
    dropped (g.int +ℤ g.cab -ℤ g.refdly) (at g.geometry j) (at g.relativity j) (at g.ionosphere j)
    (at g.troposphere j) g.gd
  where
    dropped : (a b c d f h : ℤ)
        → pos 2 *ℤ e *ℤ (v -ℤ s *ℤ a -ℤ s *ℤ b +ℤ s *ℤ c -ℤ s *ℤ d -ℤ s *ℤ f -ℤ s *ℤ h)
        -ℤ pos 2 *ℤ (s *ℤ (y -ℤ e *ℤ a -ℤ e *ℤ b +ℤ e *ℤ c -ℤ e *ℤ d -ℤ e *ℤ f -ℤ e *ℤ h))
        ≡ pos 2 *ℤ e *ℤ v -ℤ pos 2 *ℤ (s *ℤ y)
    dropped a b c d f h = identity (s ∷ e ∷ v ∷ y ∷ a ∷ b ∷ c ∷ d ∷ f ∷ h ∷ []) (search quote depth 30 fits 8000) tt

gap-b : (g : Given) (s e : ℤ) (j : ℕ) (v y : ℤ)
    → pos 2 *ℤ e *ℤ to_b g s j v -ℤ pos 2 *ℤ (s *ℤ to_b g e j y) ≡ pos 2 *ℤ e *ℤ v -ℤ pos 2 *ℤ (s *ℤ y)
unfolding to_b
gap-b g s e j v y = dropped (to_a g s j v) (to_a g e j y) (at g.clock j) ∙ gap-a g s e j v y
  where
    dropped : (a b c : ℤ)
        → pos 2 *ℤ e *ℤ (a +ℤ s *ℤ c) -ℤ pos 2 *ℤ (s *ℤ (b +ℤ e *ℤ c)) ≡ pos 2 *ℤ e *ℤ a -ℤ pos 2 *ℤ (s *ℤ b)
    dropped a b c = identity (s ∷ e ∷ a ∷ b ∷ c ∷ []) (search quote depth 20 fits 4000) tt

-- whole values are within half a step of themselves
near-self : (n : ℕ) (v : ℕ → ℤ) → Near n v v (pos 1)
near-self n v j h = subst (λ (z : ℤ). magnitude z ⩽ pos 1) (sym (none (v j))) (zero-le-pos 1)
  where
    none : (v : ℤ) → pos 2 *ℤ pos 1 *ℤ v -ℤ pos 2 *ℤ v ≡ pos 0
    none v = identity (v ∷ []) (search quote depth 20) tt

-- ---- one fit, of values v in steps, within half a step of s times the exact values Y / e, which are picoseconds

module _ (s n : ℕ) (s-pos : 0 < s) (h : 2 ≤ n) (v Y : ℕ → ℤ) (e : ℤ) (e-pos : pos 0 ⋖ e) (near : Near n v (λ j. pos s *ℤ Y j) e) where
  midpoint-error : {P Q d : ℤ} → LeastLine n Y e P Q d → (r : ℤ) → Rounded r (sum n v) (pos 100 *ℤ pos s *ℤ pos n)
      → pos 2 *ℤ pos s *ℤ magnitude (pos 100 *ℤ d *ℤ r -ℤ P) ⩽ (pos 100 *ℤ pos s +ℤ pos 1) *ℤ d
  midpoint-error {P} {Q} {d} l r rounded =
      subst (λ (u : ℤ). u ⩽ (pos 100 *ℤ pos s +ℤ pos 1) *ℤ d)
      (ap magnitude (apart (pos s) d r P) ∙ magnitude-mul (pos 2 *ℤ pos s) (pos 100 *ℤ d *ℤ r -ℤ P))
      (midpoint-bound s n v h e-pos near (least-scaled n Y e (pos s) (pos-lt s-pos) l) r rounded)
    where
      apart : (s d r P : ℤ) → pos 2 *ℤ (pos 100 *ℤ s *ℤ d *ℤ r -ℤ s *ℤ P) ≡ pos 2 *ℤ s *ℤ (pos 100 *ℤ d *ℤ r -ℤ P)
      apart s d r P = identity (s ∷ d ∷ r ∷ P ∷ []) (search quote depth 20 fits 4000) tt

  slope-error : {P Q d : ℤ} → LeastLine n Y e P Q d → (r : ℤ)
      → Rounded r (pos 4 *ℤ sum n (λ j. place n j *ℤ v j)) (pos s *ℤ pos (span n))
      → pos 2 *ℤ pos (span n) *ℤ pos s *ℤ magnitude (d *ℤ r -ℤ pos 10 *ℤ Q) ⩽ d *ℤ (pos s *ℤ pos (span n) +ℤ pos 2 *ℤ (pos n *ℤ pos n))
  slope-error {P} {Q} {d} l r rounded =
      subst (λ (u : ℤ). u ⩽ d *ℤ (pos s *ℤ pos (span n) +ℤ pos 2 *ℤ (pos n *ℤ pos n)))
      (ap magnitude (apart (pos s) (pos (span n)) d r Q) ∙ magnitude-mul (pos 2 *ℤ pos (span n) *ℤ pos s) (d *ℤ r -ℤ pos 10 *ℤ Q))
      (slope-bound s n v h e-pos near (least-scaled n Y e (pos s) (pos-lt s-pos) l) r rounded)
    where
      apart : (s N d r Q : ℤ) → pos 2 *ℤ N *ℤ (s *ℤ d *ℤ r -ℤ pos 10 *ℤ (s *ℤ Q)) ≡ pos 2 *ℤ N *ℤ s *ℤ (d *ℤ r -ℤ pos 10 *ℤ Q)
      apart s N d r Q = identity (s ∷ N ∷ d ∷ r ∷ Q ∷ []) (search quote depth 20 fits 4000) tt

-- n, a factor of every term, drops out: u is the error's magnitude and m is n² - 1
by_n : (s n m u d : ℤ) → pos 0 ⋖ n → pos 2 *ℤ (n *ℤ m) *ℤ s *ℤ u ⩽ d *ℤ (s *ℤ (n *ℤ m) +ℤ pos 2 *ℤ (n *ℤ n))
    → pos 2 *ℤ s *ℤ m *ℤ u ⩽ (s *ℤ m +ℤ pos 2 *ℤ n) *ℤ d
by_n s n m u d n_pos error =
    cancel-le n n_pos (le-shift error (identity (s ∷ n ∷ m ∷ u ∷ d ∷ []) (search quote depth 20 fits 4000) tt))

-- What Fit gives for n values in steps: midpoint and slope rounded to the nearest.
pub record RoundedFit (s n : ℕ) (v : ℕ → ℤ) (midpoint slope : ℤ) : Type 0 where
  pub midpoint_rounded : Rounded midpoint (sum n v) (pos 100 *ℤ pos s *ℤ pos n)
  pub slope_rounded : Rounded slope (pos 4 *ℤ sum n (λ j. place n j *ℤ v j)) (pos s *ℤ pos (span n))

-- A midpoint is off by half a unit and half a step, a slope by half a unit and what half a step at each value can tilt the line, from two values up.
pub accurate-line : (s n : ℕ) → 0 < s → 2 ≤ n → (v Y : ℕ → ℤ) (e : ℤ) {midpoint slope : ℤ} → pos 0 ⋖ e → Near n v (λ j. pos s *ℤ Y j) e
    → RoundedFit s n v midpoint slope → AccurateLine s n Y e midpoint slope
accurate-line s n s-pos h v Y e {midpoint} {slope} e-pos near f =
    record {
      midpoint_near = λ P Q d l.
          let ρ : List ℤ = pos s ∷ magnitude (pos 100 *ℤ d *ℤ midpoint -ℤ P) ∷ d ∷ [] in
          le-by ρ (search quote depth 20)
          (omega (
            arith,
            lt-is ρ (search quote depth 20) l.positive,
            le_is ρ (search quote depth 20) (midpoint-error s n s-pos h v Y e e-pos near l midpoint f.midpoint_rounded),
          ));
      slope_near = λ P Q d l.
          by_n (pos s) (pos n) (squared (pos n) -ℤ pos 1) (magnitude (d *ℤ slope -ℤ pos 10 *ℤ Q)) d (pos-lt one)
          (subst
          (λ (N : ℤ). pos 2 *ℤ N *ℤ pos s *ℤ magnitude (d *ℤ slope -ℤ pos 10 *ℤ Q) ⩽ d *ℤ (pos s *ℤ N +ℤ pos 2 *ℤ (pos n *ℤ pos n)))
          (span-is n one) (slope-error s n s-pos h v Y e e-pos near l slope f.slope_rounded));
    }
  where
    one : 1 ≤ n
    one = omega arith

-- What Scatter gives for n values in steps: residuals rounded to the nearest, the sum q of their squares, and the number whose two thresholds hold q.
pub record RoundedScatter (s n : ℕ) (v : ℕ → ℤ) (dsg : ℤ) : Type 0 where
  pub residual : ℕ → ℤ
  pub rounded : (j : ℕ) → j < n → Rounded (residual j) (spread n v j) (pos (span n))
  pub not_negative : pos 0 ⩽ dsg
  pub threshold : pos 1 ⩽ dsg → pos n *ℤ squared (pos s *ℤ (pos 100 *ℤ dsg -ℤ pos 50)) ⩽ sum n (λ j. squared (residual j))
  pub next_threshold : sum n (λ j. squared (residual j)) ⩽ pos n *ℤ squared (pos s *ℤ (pos 100 *ℤ dsg +ℤ pos 50))

-- half a unit below a number from 1 up is above 0
below-dsg : (dsg : ℤ) → pos 1 ⩽ dsg → pos 1 ⩽ pos 100 *ℤ dsg -ℤ pos 50
below-dsg dsg k = let ρ : List ℤ = dsg ∷ [] in le-by ρ (search quote depth 20) (omega (arith, le_is ρ (search quote depth 20) k))

pub accurate-scatter : (s n : ℕ) → 0 < s → 2 ≤ n → (v Y : ℕ → ℤ) (e : ℤ) {dsg : ℤ} → pos 0 ⋖ e → Near n v (λ j. pos s *ℤ Y j) e
    → RoundedScatter s n v dsg → AccurateScatter s n Y e dsg
accurate-scatter s n s-pos h v Y e {dsg} e-pos near r =
    record {
      at_most = λ P Q d l.
          subst (λ (W : ℤ). W ⩽ pos n *ℤ squared (pos s *ℤ (pos 100 *ℤ dsg +ℤ pos 50) +ℤ pos 1) *ℤ squared (pos 2 *ℤ d *ℤ e))
          (misfit-scaled n Y e (pos s) P Q d)
          (scatter-below n v h e-pos near (scaled l) r.residual r.rounded (pos s *ℤ (pos 100 *ℤ dsg +ℤ pos 50)) (in-steps above) r.next_threshold);
      at_least = λ P Q d l k.
          subst (λ (W : ℤ). pos n *ℤ squared (pos s *ℤ (pos 100 *ℤ dsg -ℤ pos 50) -ℤ pos 1) *ℤ squared (pos 2 *ℤ d *ℤ e) ⩽ W)
          (misfit-scaled n Y e (pos s) P Q d)
          (scatter-above n v h e-pos near (scaled l) r.residual r.rounded (pos s *ℤ (pos 100 *ℤ dsg -ℤ pos 50)) (in-steps (below-dsg dsg k)) (r.threshold k));
    }
  where
    scaled : {P Q d : ℤ} → LeastLine n Y e P Q d → LeastLine n (λ j. pos s *ℤ Y j) e (pos s *ℤ P) (pos s *ℤ Q) d
    scaled l = least-scaled n Y e (pos s) (pos-lt s-pos) l

    -- what is at least 1 picosecond is at least 1 step
    in-steps : {z : ℤ} → pos 1 ⩽ z → pos 1 ⩽ pos s *ℤ z
    in-steps k = mul-le-mul {x = pos 1} {u = pos 1} (zero-le-pos 1) (pos-le s-pos) (zero-le-pos 1) k

    above : pos 1 ⩽ pos 100 *ℤ dsg +ℤ pos 50
    above =
        let ρ : List ℤ = dsg ∷ [] in
        le-by ρ (search quote depth 20) (omega (arith, le_is ρ (search quote depth 20) r.not_negative))

-- ---- the track

-- What Track computes for n blocks: smoothed values v, the four kinds of corrected values, all in steps, and their fits.
pub record Computed (s n : ℕ) (g : Given) (v A B C D : ℕ → ℤ) (f : Numbers) : Type 0 where
  pub smoothed : (j : ℕ) → j < n → Rounded (v j) (pos s *ℤ sum 15 (λ i. at weights i *ℤ block g j i)) (pos 1105)
  pub is_a : (j : ℕ) → j < n → A j ≡ to_a g (pos s) j (v j)
  pub is_b : (j : ℕ) → j < n → B j ≡ to_b g (pos s) j (v j)
  pub is_c : (j : ℕ) → j < n → C j ≡ pos s *ℤ at g.troposphere j
  pub is_d : (j : ℕ) → j < n → D j ≡ pos s *ℤ at g.ionosphere j
  pub fit_a : RoundedFit s n A f.refsv f.srsv
  pub fit_b : RoundedFit s n B f.refsys f.srsys
  pub fit_c : RoundedFit s n C f.mdtr f.smdt
  pub fit_d : RoundedFit s n D f.mdio f.smdi
  pub scatter_b : RoundedScatter s n B f.dsg

pub accurate-track : (s n : ℕ) → 0 < s → 2 ≤ n → (g : Given) (v A B C D : ℕ → ℤ) (f : Numbers) → Computed s n g v A B C D f
    → AccurateTrack s n g f
accurate-track s n s-pos h g v A B C D f t =
    record {
      a = λ Y e x. accurate-line s n s-pos h A (λ j. to_a g e j (Y j)) e x.positive (near-a Y e x) t.fit_a;
      b = λ Y e x. accurate-line s n s-pos h B (λ j. to_b g e j (Y j)) e x.positive (near-b Y e x) t.fit_b;
      scatter = λ Y e x.
          accurate-scatter s n s-pos h B (λ j. to_b g e j (Y j)) e x.positive (near-b Y e x) t.scatter_b;
      c = accurate-line s n s-pos h C (at g.troposphere) (pos 1) (record { lt = tt }) (near-column C (at g.troposphere) t.is_c) t.fit_c;
      d = accurate-line s n s-pos h D (at g.ionosphere) (pos 1) (record { lt = tt }) (near-column D (at g.ionosphere) t.is_d) t.fit_d;
    }
  where
    -- values that are w's have w's errors
    moved : (Y : ℕ → ℤ) {e : ℤ} (u w : ℕ → ℤ) → ((j : ℕ) → j < n → u j ≡ w j) → Near n w Y e → Near n u Y e
    moved Y {e} u w same near j k = subst (λ (z : ℤ). magnitude (pos 2 *ℤ e *ℤ z -ℤ pos 2 *ℤ Y j) ⩽ e) (sym (same j k)) (near j k)

    near : (Y : ℕ → ℤ) (e : ℤ) → ExactSmoothed n (block g) Y e → Near n v (λ j. pos s *ℤ Y j) e
    near Y e x j k = smoothed-near s (v j) (t.smoothed j k) (x.at j k).2

    near-a : (Y : ℕ → ℤ) (e : ℤ) → ExactSmoothed n (block g) Y e → Near n A (λ j. pos s *ℤ to_a g e j (Y j)) e
    near-a Y e x =
        moved (λ j. pos s *ℤ to_a g e j (Y j)) A (λ j. to_a g (pos s) j (v j)) t.is_a
        (λ j k. subst (λ (z : ℤ). magnitude z ⩽ e) (sym (gap-a g (pos s) e j (v j) (Y j))) (near Y e x j k))

    near-b : (Y : ℕ → ℤ) (e : ℤ) → ExactSmoothed n (block g) Y e → Near n B (λ j. pos s *ℤ to_b g e j (Y j)) e
    near-b Y e x =
        moved (λ j. pos s *ℤ to_b g e j (Y j)) B (λ j. to_b g (pos s) j (v j)) t.is_b
        (λ j k. subst (λ (z : ℤ). magnitude z ⩽ e) (sym (gap-b g (pos s) e j (v j) (Y j))) (near Y e x j k))

    near-column : (u w : ℕ → ℤ) → ((j : ℕ) → j < n → u j ≡ pos s *ℤ w j) → Near n u (λ j. pos s *ℤ w j) (pos 1)
    near-column u w same = moved (λ j. pos s *ℤ w j) u (λ j. pos s *ℤ w j) same (near-self n (λ j. pos s *ℤ w j))

-- ---- finer steps promise more: what holds with s steps a picosecond holds with one

finer : (s x y w : ℤ) → pos 1 ⩽ s → pos 0 ⩽ w → s *ℤ x ⩽ s *ℤ y +ℤ w → x ⩽ y +ℤ w
finer s x y w one-le w-pos h = cancel-le s (lt-le-trans (record { lt = tt }) one-le) (le_trans h (le-shift (grown one-le) (identity (s ∷ y ∷ w ∷ []) (search quote depth 20) tt)))
  where
    grown : pos 1 ⩽ s → pos 1 *ℤ w ⩽ s *ℤ w
    grown k = mul-le-mul {x = pos 1} {u = w} (zero-le-pos 1) k w-pos (le_refl w)

coarser-line : (s n : ℕ) → 0 < s → {Y : ℕ → ℤ} {e midpoint slope : ℤ} → AccurateLine s n Y e midpoint slope → AccurateLine 1 n Y e midpoint slope
coarser-line s n s-pos {Y} {e} {midpoint} {slope} f =
    record {
      midpoint_near = λ P Q d l.
          mid (pos s) (magnitude (pos 100 *ℤ d *ℤ midpoint -ℤ P)) d (pos-le s-pos) (le_of_lt l.positive) (f.midpoint_near P Q d l);
      slope_near = λ P Q d l.
          slo (pos s) (squared (pos n) -ℤ pos 1) (pos n) (magnitude (d *ℤ slope -ℤ pos 10 *ℤ Q)) d (pos-le s-pos)
          (mul-nonneg (mul-nonneg (zero-le-pos 2) (zero-le-pos n)) (le_of_lt l.positive)) (f.slope_near P Q d l);
    }
  where
    mid : (s u d : ℤ) → pos 1 ⩽ s → pos 0 ⩽ d → pos 2 *ℤ s *ℤ u ⩽ (pos 100 *ℤ s +ℤ pos 1) *ℤ d → pos 2 *ℤ pos 1 *ℤ u ⩽ (pos 100 *ℤ pos 1 +ℤ pos 1) *ℤ d
    mid s u d k d-pos h =
        le-shift
        (finer s (pos 2 *ℤ u) (pos 100 *ℤ d) d k d-pos (le-shift h (identity (s ∷ u ∷ d ∷ []) (search quote depth 20 fits 4000) tt)))
        (identity (u ∷ d ∷ []) (search quote depth 20 fits 4000) tt)

    slo : (s m n u d : ℤ) → pos 1 ⩽ s → pos 0 ⩽ pos 2 *ℤ n *ℤ d → pos 2 *ℤ s *ℤ m *ℤ u ⩽ (s *ℤ m +ℤ pos 2 *ℤ n) *ℤ d
        → pos 2 *ℤ pos 1 *ℤ m *ℤ u ⩽ (pos 1 *ℤ m +ℤ pos 2 *ℤ n) *ℤ d
    slo s m n u d k w-pos h =
        le-shift
        (finer s (pos 2 *ℤ m *ℤ u) (m *ℤ d) (pos 2 *ℤ n *ℤ d) k w-pos (le-shift h (identity (s ∷ m ∷ n ∷ u ∷ d ∷ []) (search quote depth 20 fits 4000) tt)))
        (identity (m ∷ n ∷ u ∷ d ∷ []) (search quote depth 20 fits 4000) tt)

coarser-scatter : (s n : ℕ) → 0 < s → {Y : ℕ → ℤ} {e dsg : ℤ} → pos 0 ⩽ dsg → AccurateScatter s n Y e dsg → AccurateScatter 1 n Y e dsg
coarser-scatter s n s-pos {Y} {e} {dsg} dsg-pos f =
    record {
      at_most = λ P Q d l. above (pos s) (pos 100 *ℤ dsg +ℤ pos 50) (pos n) (squared (pos 2 *ℤ d *ℤ e)) (line_misfit n Y e P Q d) (pos-le s-pos) a-pos
          (zero-le-pos n) (square-nonneg (pos 2 *ℤ d *ℤ e)) (f.at_most P Q d l);
      at_least = λ P Q d l k. below (pos s) (pos 100 *ℤ dsg -ℤ pos 50) (pos n) (squared (pos 2 *ℤ d *ℤ e)) (line_misfit n Y e P Q d) (pos-le s-pos) (below-dsg dsg k)
          (zero-le-pos n) (square-nonneg (pos 2 *ℤ d *ℤ e)) (f.at_least P Q d l k);
    }
  where
    a-pos : pos 0 ⩽ pos 100 *ℤ dsg +ℤ pos 50
    a-pos = let ρ : List ℤ = dsg ∷ [] in le-by ρ (search quote depth 20) (omega (arith, le_is ρ (search quote depth 20) dsg-pos))

    above : (s a n M W : ℤ) → pos 1 ⩽ s → pos 0 ⩽ a → pos 0 ⩽ n → pos 0 ⩽ M → squared s *ℤ W ⩽ n *ℤ squared (s *ℤ a +ℤ pos 1) *ℤ M
        → squared (pos 1) *ℤ W ⩽ n *ℤ squared (pos 1 *ℤ a +ℤ pos 1) *ℤ M
    above s a n M W k a-pos n_pos M-pos h =
        cancel-le (squared s) (square-pos (lt-le-trans {x = pos 0} (record { lt = tt }) k))
        (subst₂ ◌⩽◌ (identity (s ∷ W ∷ []) (search quote depth 20) tt) (identity (s ∷ a ∷ n ∷ M ∷ []) (search quote depth 20 fits 4000) tt)
        (le_trans h (mul-le-mul (mul-nonneg n_pos (square-nonneg (s *ℤ a +ℤ pos 1)))
        (mul-le n n_pos (square_le lower upper)) M-pos (le_refl M))))
      where
        lower : pos 0 ⩽ s *ℤ a +ℤ pos 1
        lower = add-le (mul-nonneg (le_trans (zero-le-pos 1) k) a-pos) (zero-le-pos 1)

        upper : s *ℤ a +ℤ pos 1 ⩽ s *ℤ (a +ℤ pos 1)
        upper = le-shift k (identity (s ∷ a ∷ []) (search quote depth 20) tt)

    below : (s b n M W : ℤ) → pos 1 ⩽ s → pos 1 ⩽ b → pos 0 ⩽ n → pos 0 ⩽ M → n *ℤ squared (s *ℤ b -ℤ pos 1) *ℤ M ⩽ squared s *ℤ W
        → n *ℤ squared (pos 1 *ℤ b -ℤ pos 1) *ℤ M ⩽ squared (pos 1) *ℤ W
    below s b n M W k b-one n_pos M-pos h =
        cancel-le (squared s) (square-pos (lt-le-trans {x = pos 0} (record { lt = tt }) k))
        (subst₂ ◌⩽◌ (identity (s ∷ b ∷ n ∷ M ∷ []) (search quote depth 20 fits 4000) tt) (identity (s ∷ W ∷ []) (search quote depth 20) tt)
        (le_trans (mul-le-mul (mul-nonneg n_pos (square-nonneg (s *ℤ (b -ℤ pos 1))))
        (mul-le n n_pos (square_le lower upper)) M-pos (le_refl M)) h))
      where
        lower : pos 0 ⩽ s *ℤ (b -ℤ pos 1)
        lower = mul-nonneg (le_trans (zero-le-pos 1) k) (sub-nonneg b-one)

        upper : s *ℤ (b -ℤ pos 1) ⩽ s *ℤ b -ℤ pos 1
        upper = le-shift k (identity (s ∷ b ∷ []) (search quote depth 20) tt)

pub coarser : (s n : ℕ) → 0 < s → {g : Given} {f : Numbers} → pos 0 ⩽ f.dsg → AccurateTrack s n g f → AccurateTrack 1 n g f
coarser s n s-pos dsg-pos t =
    record {
      a = λ Y e x. coarser-line s n s-pos (t.a Y e x);
      b = λ Y e x. coarser-line s n s-pos (t.b Y e x);
      scatter = λ Y e x. coarser-scatter s n s-pos dsg-pos (t.scatter Y e x);
      c = coarser-line s n s-pos t.c;
      d = coarser-line s n s-pos t.d;
    }

-- ---- what was promised before tenths were carried holds still

-- with one step a picosecond a midpoint is within 0.505, and the rest is word for word what it was
pub earlier-line : (n : ℕ) {Y : ℕ → ℤ} {e midpoint slope : ℤ} → AccurateLine 1 n Y e midpoint slope → EarlierLine n Y e midpoint slope
earlier-line n {midpoint = midpoint} {slope = slope} f =
    record {
      midpoint_near = λ P Q d l.
          let ρ : List ℤ = magnitude (pos 100 *ℤ d *ℤ midpoint -ℤ P) ∷ d ∷ [] in
          le-by ρ (search quote depth 20)
          (omega (arith, lt-is ρ (search quote depth 20) l.positive, le_is ρ (search quote depth 20) (f.midpoint_near P Q d l)));
      slope_near = λ P Q d l.
          le-shift (f.slope_near P Q d l) (units (squared (pos n) -ℤ pos 1) (pos n) (magnitude (d *ℤ slope -ℤ pos 10 *ℤ Q)) d);
    }
  where
    units : (m n u d : ℤ)
        → (m +ℤ pos 2 *ℤ n) *ℤ d -ℤ pos 2 *ℤ m *ℤ u ≡ (pos 1 *ℤ m +ℤ pos 2 *ℤ n) *ℤ d -ℤ pos 2 *ℤ pos 1 *ℤ m *ℤ u
    units m n u d = identity (m ∷ n ∷ u ∷ d ∷ []) (search quote depth 20 fits 4000) tt

pub earlier-scatter : (n : ℕ) {Y : ℕ → ℤ} {e dsg : ℤ} → AccurateScatter 1 n Y e dsg → EarlierScatter n Y e dsg
earlier-scatter n {Y} {e} {dsg} f =
    record {
      at_most = λ P Q d l. le-shift (f.at_most P Q d l) (above (pos n) dsg (squared (pos 2 *ℤ d *ℤ e)) (line_misfit n Y e P Q d));
      at_least = λ P Q d l k. le-shift (f.at_least P Q d l k) (below (pos n) dsg (squared (pos 2 *ℤ d *ℤ e)) (line_misfit n Y e P Q d));
    }
  where
    above : (n g M W : ℤ)
        → n *ℤ squared (pos 100 *ℤ g +ℤ pos 51) *ℤ M -ℤ W
        ≡ n *ℤ squared (pos 1 *ℤ (pos 100 *ℤ g +ℤ pos 50) +ℤ pos 1) *ℤ M -ℤ squared (pos 1) *ℤ W
    above n g M W = identity (n ∷ g ∷ M ∷ W ∷ []) (search quote depth 20 fits 4000) tt

    below : (n g M W : ℤ)
        → W -ℤ n *ℤ squared (pos 100 *ℤ g -ℤ pos 51) *ℤ M
        ≡ squared (pos 1) *ℤ W -ℤ n *ℤ squared (pos 1 *ℤ (pos 100 *ℤ g -ℤ pos 50) -ℤ pos 1) *ℤ M
    below n g M W = identity (n ∷ g ∷ M ∷ W ∷ []) (search quote depth 20 fits 4000) tt

-- ---- a full track's bound on slopes: 0.502 of a unit

-- from 51 values on, n / (n² - 1) is at most 0.02
pub tilt : (n : ℕ) → 51 ≤ n → pos 50 *ℤ pos n ⩽ squared (pos n) -ℤ pos 1
tilt n h = subst (λ (m : ℤ). pos 50 *ℤ pos n ⩽ m) (sym (pos-sub (n * n) 1 (omega (arith, mul-le-mul_left n h)))) (pos-le (omega (arith, mul-le-mul_left n h)))

-- so that a slope's bound is at most 0.5 + 0.02 / s of a unit, in tenths 0.502, with u for the error's magnitude and m for n² - 1
tilted-by : (s m n u d : ℤ) → pos 0 ⋖ m → pos 0 ⩽ d → pos 2 *ℤ s *ℤ m *ℤ u ⩽ (s *ℤ m +ℤ pos 2 *ℤ n) *ℤ d → pos 50 *ℤ n ⩽ m
    → pos 50 *ℤ s *ℤ u ⩽ (pos 25 *ℤ s +ℤ pos 1) *ℤ d
tilted-by s m n u d m-pos d-pos error tilted =
    cancel-le m m-pos
    (subst₂ ◌⩽◌ (left s m u) (right s m d) (summed (s *ℤ m *ℤ u) (s *ℤ m *ℤ d) (m *ℤ d) (d *ℤ n)
    (le-shift error (identity (s ∷ m ∷ n ∷ u ∷ d ∷ []) (search quote depth 20 fits 4000) tt))
    (le-shift (mul-le d d-pos tilted) (identity (m ∷ n ∷ d ∷ []) (search quote depth 20 fits 4000) tt))))
  where
    left : (s m u : ℤ) → pos 50 *ℤ (s *ℤ m *ℤ u) ≡ m *ℤ (pos 50 *ℤ s *ℤ u)
    left s m u = identity (s ∷ m ∷ u ∷ []) (search quote depth 20) tt

    right : (s m d : ℤ) → pos 25 *ℤ (s *ℤ m *ℤ d) +ℤ m *ℤ d ≡ m *ℤ ((pos 25 *ℤ s +ℤ pos 1) *ℤ d)
    right s m d = identity (s ∷ m ∷ d ∷ []) (search quote depth 20 fits 4000) tt

    summed : (x y v z : ℤ) → pos 2 *ℤ x ⩽ y +ℤ pos 2 *ℤ z → pos 50 *ℤ z ⩽ v → pos 50 *ℤ x ⩽ pos 25 *ℤ y +ℤ v
    summed x y v z p q =
        let ρ : List ℤ = x ∷ y ∷ v ∷ z ∷ [] in
        le-by ρ (search quote depth 20) (omega (arith, le_is ρ (search quote depth 20) p, le_is ρ (search quote depth 20) q))

pub slope-thousandths : (n : ℕ) → 51 ≤ n → {Y : ℕ → ℤ} {e midpoint slope : ℤ} → AccurateLine steps n Y e midpoint slope → SlopeWithin502 n Y e slope
slope-thousandths n h {slope = slope} f P Q d l =
    let ρ : List ℤ = magnitude (d *ℤ slope -ℤ pos 10 *ℤ Q) ∷ d ∷ [] in
    le-by ρ (search quote depth 20)
    (omega (
      arith,
      le_is ρ (search quote depth 20)
          (tilted-by (pos steps) (squared (pos n) -ℤ pos 1) (pos n) (magnitude (d *ℤ slope -ℤ pos 10 *ℤ Q)) d above (le_of_lt l.positive)
          (f.slope_near P Q d l) (tilt n h)),
    ))
  where
    above : pos 0 ⋖ squared (pos n) -ℤ pos 1
    above = lt-le-trans (pos-lt {m = 0} {n = 50 * n} (omega arith)) (tilt n h)
