-- What Smooth, Fit and Scatter make of values that are all moved by the same.
-- Assumes nothing.
use mathlib.Core.Path.{◌≡◌, refl, ap, ◌∙◌}
use mathlib.Core.List.{[], ◌∷◌}
use Prim.Native.Nat.{ℕ, ◌*◌, ◌-◌, ◌≤◌, ◌<◌}
use native.Mathlib.Omega.{arith}
use lib.IntN.{ℤ, pos, ◌+ℤ◌, ◌-ℤ◌, ◌*ℤ◌, +ℤ_idr, *ℤ-zero, *ℤ_comm}
use Rattle.whole.specs.Square.{squared}
use Rattle.whole.specs.Sum.{sum}
use Rattle.whole.specs.Nearest.{nearest}
use Rattle.whole.proofs.Rounding.{nearest-shift}
use Rattle.whole.proofs.Identity.{identity, quote}
use Rattle.whole.proofs.Sums.{sum-cong, sum-eq, sums}
use Rattle.whole.specs.Table.{at}
use Rattle.exact.specs.Corrected.{steps}
use Rattle.exact.specs.Weights.{weights, place}
use Rattle.exact.proofs.Places.{sum-place}
use Rattle.exact.proofs.Smoothing.{weights-rule}
use Rattle.series.specs.Smooth.{smoothed}
use Rattle.series.specs.Fit.{total, moment, midpoint, slope}
use Rattle.series.specs.Scatter.{residual, squares}
use Rattle.offset.specs.Shifted.{unit}

-- fifteen measurements moved by c: their smoothed value, in tenths, moves by c picoseconds, as the weights add up to 1105
pub smoothed-moves : (c : ℤ) (m moved : ℕ → ℤ) → ((i : ℕ) → i < 15 → moved i ≡ m i +ℤ c) → smoothed moved ≡ smoothed m +ℤ pos steps *ℤ c
unfolding smoothed
smoothed-moves c m moved e =
    ap (λ (z : ℤ). nearest (pos steps *ℤ z) 1105)
    (sum-cong 15 (λ i h. ap (λ (z : ℤ). at weights i *ℤ z) (e i h))
    ∙ sum-eq 15 {y = sum 15 (λ i. at weights i *ℤ m i) +ℤ c *ℤ sum 15 (at weights)} (search sums depth 12)
    (λ i h. identity (at weights i ∷ m i ∷ c ∷ []) (search quote depth 20) tt)
    ∙ ap (λ (z : ℤ). sum 15 (λ i. at weights i *ℤ m i) +ℤ c *ℤ z) weights-rule.2)
    ∙ ap (λ (z : ℤ). nearest z 1105) (in-steps (sum 15 (λ i. at weights i *ℤ m i)) c)
    ∙ nearest-shift (pos steps *ℤ sum 15 (λ i. at weights i *ℤ m i)) 1105 (omega arith) (pos steps *ℤ c)
  where
    in-steps : (S c : ℤ) → pos steps *ℤ (S +ℤ c *ℤ pos 1105) ≡ pos steps *ℤ S +ℤ pos steps *ℤ c *ℤ pos 1105
    in-steps S c = identity (S ∷ c ∷ []) (search quote depth 20) tt

-- n values moved by c
module _ (n : ℕ) (h : 1 ≤ n) (c : ℤ) (v moved : ℕ → ℤ) (e : (j : ℕ) → j < n → moved j ≡ v j +ℤ c) where
  -- S moves by n c
  total-moves : total n moved ≡ total n v +ℤ c *ℤ pos n
  unfolding total
  total-moves =
      sum-cong n e
      ∙ sum-eq n {y = sum n v +ℤ pos n *ℤ c} (search sums depth 12) (λ i h. refl)
      ∙ ap (λ (z : ℤ). sum n v +ℤ z) (*ℤ_comm (pos n) c)

  -- T does not, as the places add up to 0
  moment-stays : moment n moved ≡ moment n v
  unfolding moment
  moment-stays =
      sum-cong n (λ j k. ap (λ (z : ℤ). place n j *ℤ z) (e j k))
      ∙ sum-eq n {y = sum n (λ j. place n j *ℤ v j) +ℤ c *ℤ sum n (place n)} (search sums depth 12)
      (λ j k. identity (place n j ∷ v j ∷ c ∷ []) (search quote depth 20) tt)
      ∙ ap (λ (z : ℤ). sum n (λ j. place n j *ℤ v j) +ℤ c *ℤ z) (sum-place n h)
      ∙ ap (λ (z : ℤ). sum n (λ j. place n j *ℤ v j) +ℤ z) (*ℤ-zero c)
      ∙ +ℤ_idr (sum n (λ j. place n j *ℤ v j))

  pub slope-stays : slope steps n moved ≡ slope steps n v
  unfolding slope
  slope-stays = ap (λ (z : ℤ). nearest (pos 4 *ℤ z) (steps * (n * (n * n - 1)))) moment-stays

  -- a residual does not: what the value gains its mean gains too
  residual-stays : (j : ℕ) → j < n → residual n moved j ≡ residual n v j
  unfolding residual
  residual-stays j k =
      ap (λ (z : ℤ). nearest z (n * (n * n - 1)))
      (numerator (e j k) total-moves moment-stays
      ∙ same (pos n) (pos (n * n - 1)) (v j) c (total n v) (place n j) (moment n v))
    where
      numerator : {w x S R T U : ℤ} → w ≡ x → S ≡ R → T ≡ U
          → pos (n * (n * n - 1)) *ℤ w -ℤ pos (n * n - 1) *ℤ S -ℤ pos 3 *ℤ (place n j *ℤ T)
          ≡ pos (n * (n * n - 1)) *ℤ x -ℤ pos (n * n - 1) *ℤ R -ℤ pos 3 *ℤ (place n j *ℤ U)
      numerator p q r = λ i. pos (n * (n * n - 1)) *ℤ p i -ℤ pos (n * n - 1) *ℤ q i -ℤ pos 3 *ℤ (place n j *ℤ r i)

      same : (N M v c S x T : ℤ)
          → N *ℤ M *ℤ (v +ℤ c) -ℤ M *ℤ (S +ℤ c *ℤ N) -ℤ pos 3 *ℤ (x *ℤ T) ≡ N *ℤ M *ℤ v -ℤ M *ℤ S -ℤ pos 3 *ℤ (x *ℤ T)
      same N M v c S x T = identity (N ∷ M ∷ v ∷ c ∷ S ∷ x ∷ T ∷ []) (search quote depth 20 fits 4000) tt

  pub squares-stay : squares n moved ≡ squares n v
  unfolding squares
  squares-stay = sum-cong n (λ j k. ap squared (residual-stays j k))

-- and the midpoint moves by k where they are moved by k × 100 ps, which are steps times as many steps
pub midpoint-moves : (n : ℕ) → 1 ≤ n → (k : ℤ) (v moved : ℕ → ℤ) → ((j : ℕ) → j < n → moved j ≡ v j +ℤ pos steps *ℤ (unit *ℤ k))
    → midpoint steps n moved ≡ midpoint steps n v +ℤ k
unfolding midpoint
midpoint-moves n h k v moved e =
    ap (λ (z : ℤ). nearest z (100 * steps * n))
    (total-moves n h (pos steps *ℤ (unit *ℤ k)) v moved e ∙ ap (λ (z : ℤ). total n v +ℤ z) (units k (pos n)))
    ∙ nearest-shift (total n v) (100 * steps * n) (omega arith) k
  where
    units : (k n : ℤ) → pos steps *ℤ (unit *ℤ k) *ℤ n ≡ k *ℤ (pos (100 * steps) *ℤ n)
    units k n = identity (k ∷ n ∷ []) (search quote depth 20) tt
