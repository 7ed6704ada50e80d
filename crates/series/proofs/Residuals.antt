-- Laws of the residuals and of their sum of squares (specs/Scatter.antt).
-- Assumes nothing.
use mathlib.Core.Path.{◌≡◌, sym, ap, ap₂, ◌∙◌, subst, subst₂}
use mathlib.Core.List.{[], ◌∷◌}
use mathlib.Core.Logic.{⊎_elim}
use Prim.Native.Nat.{ℕ, zero, suc, ◌+◌, ◌*◌, ◌-◌, ◌≤◌, ◌<◌}
use native.Mathlib.Nat.{eq-or-lt_of_le, le_of_suc-le-suc, not-suc-le-zero}
use native.Mathlib.Numerals.{add-one}
use lib.Dec.{lit<}
use lib.IntN.{ℤ, pos, nat_abs, ◌+ℤ◌, ◌-ℤ◌, ◌*ℤ◌, +ℤ_idl, +ℤ_idr}
use Rattle.whole.specs.Sum.{sum}
use Rattle.whole.specs.Square.{squared}
use Rattle.whole.specs.Nearest.{nearest}
use Rattle.whole.proofs.Identity.{identity, quote}
use Rattle.whole.specs.Order.{◌⩽◌}
use Rattle.whole.proofs.Order.{le_refl, add-le, square-nonneg, as-pos, pos-le-is}
use Rattle.whole.proofs.Magnitudes.{square-magnitude}
use Rattle.whole.proofs.Sums.{sum-cong, sum-suc, sum-squares-nonneg}
use Rattle.whole.proofs.Rounding.{nearest-scale}
use Rattle.exact.specs.Weights.{place}
use Rattle.series.specs.Fit.{total, moment}
use Rattle.series.specs.Scatter.{residual, squares}
use Rattle.series.proofs.Fitting.{total-cong, moment-cong}

-- document 01's numbers for 52 values: a residual's divisors are the same in tenths
pub residual-52 : (v : ℕ → ℤ) (j : ℕ)
    → residual 52 v j ≡ nearest (pos 46852 *ℤ v j -ℤ pos 901 *ℤ total 52 v -ℤ place 52 j *ℤ moment 52 v) 46852
unfolding residual
residual-52 v j =
    ap (λ (z : ℤ). nearest z 140556) (thrice (v j) (total 52 v) (place 52 j) (moment 52 v))
    ∙ nearest-scale _ 46852 3 (lit< tt) (lit< tt)
  where
    thrice : (v s p t : ℤ)
        → pos 140556 *ℤ v -ℤ pos 2703 *ℤ s -ℤ pos 3 *ℤ (p *ℤ t) ≡ pos 3 *ℤ (pos 46852 *ℤ v -ℤ pos 901 *ℤ s -ℤ p *ℤ t)
    thrice v s p t = identity (v ∷ s ∷ p ∷ t ∷ []) (search quote depth 20) tt

-- ---- a sum of squares, kept as a natural number

module _ (f : ℕ → ℤ) where
  square-of : (r j : ℕ) → r ≡ nat_abs (f j) → pos (r * r) ≡ squared (f j)
  square-of r j e = ap (λ (k : ℕ). pos (k * k)) e ∙ square-magnitude (f j)

  -- one term more
  pub square-more : (q r j : ℕ) → pos q ≡ sum j (λ k. squared (f k)) → r ≡ nat_abs (f j)
      → pos (q + r * r) ≡ sum (j + 1) (λ k. squared (f k))
  square-more q r j so_far e = rw (add-one, sum-suc) (ap₂ ◌+ℤ◌ so_far (square-of r j e))

  one_of : (n j : ℕ) → j < n → squared (f j) ⩽ sum n (λ k. squared (f k))
  one_of zero j h = absurd (not-suc-le-zero h)
  one_of (suc n) j h = rw sum-suc (⊎_elim last (λ k. earlier (one_of n j k)) (eq-or-lt_of_le (le_of_suc-le-suc h)))
    where
      last : j ≡ n → squared (f j) ⩽ sum n (λ k. squared (f k)) +ℤ squared (f n)
      last e =
          rw e
          (subst (λ (z : ℤ). z ⩽ sum n (λ k. squared (f k)) +ℤ squared (f n)) (+ℤ_idl (squared (f n)))
          (add-le (sum-squares-nonneg n f) (le_refl (squared (f n)))))

      earlier : squared (f j) ⩽ sum n (λ k. squared (f k)) → squared (f j) ⩽ sum n (λ k. squared (f k)) +ℤ squared (f n)
      earlier h =
          subst (λ (z : ℤ). z ⩽ sum n (λ k. squared (f k)) +ℤ squared (f n)) (+ℤ_idr (squared (f j)))
          (add-le h (square-nonneg (f n)))

  -- the sum is a natural number, and no square in it is larger
  pub squares-natural : (n : ℕ) → sum n (λ k. squared (f k)) ≡ pos (nat_abs (sum n (λ k. squared (f k))))
  squares-natural n = as-pos (sum-squares-nonneg n f)

  pub square-least : (n r j : ℕ) → j < n → r ≡ nat_abs (f j) → r * r ≤ nat_abs (sum n (λ k. squared (f k)))
  square-least n r j h e =
      pos-le-is (subst₂ (λ (x y : ℤ). x ⩽ y) (sym (square-of r j e)) (squares-natural n) (one_of n j h))

-- no value past the n values is read
pub squares-cong : (n : ℕ) {u v : ℕ → ℤ} → ((j : ℕ) → j < n → u j ≡ v j) → squares n u ≡ squares n v
unfolding squares residual
squares-cong n {u} {v} same = sum-cong n (λ j h. ap squared (alike j h))
  where
    alike : (j : ℕ) → j < n → residual n u j ≡ residual n v j
    alike j h = λ i.
        nearest
        (pos (n * (n * n - 1)) *ℤ same j h i -ℤ pos (n * n - 1) *ℤ total-cong n same i -ℤ pos 3 *ℤ (place n j *ℤ moment-cong n same i))
        (n * (n * n - 1))

pub squares-pos : (n : ℕ) (v : ℕ → ℤ) → squares n v ≡ pos (nat_abs (squares n v))
unfolding squares
squares-pos n v = squares-natural (residual n v) n
