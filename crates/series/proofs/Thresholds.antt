-- Laws of DSG and its thresholds (specs/Scatter.antt). DSG is document 01's number: `dsg-greatest` says that its threshold is reached and the next one is
-- not, `greatest` that no number from 1 up whose threshold is reached is greater then, and `greatest-only` that there is one such number only.
-- Assumes nothing.
use mathlib.Core.Path.{◌≡◌, refl, sym, ap, ◌∙◌, subst, subst₂}
use mathlib.Core.Bool.{Bool, true, false, cond}
use mathlib.Core.List.{List, [], ◌∷◌}
use lib.ListN.{length, take}
use lib.Seq.{length-take-le, get_or-take}
use Prim.Native.Nat.{ℕ, zero, suc, ◌+◌, ◌*◌, ◌-◌, ◌≤◌, ◌<◌, zero-le}
use native.Mathlib.Nat.{le_trans, lt_of_not-le, mul-le-mul, mul-le-mul_left, mul_comm, le_antisymm}
use native.Mathlib.Decide.{dec_le}
use native.Mathlib.Omega.{arith}
use lib.Dec.{lit<}
use lib.IntN.{ℤ, pos, nat_abs, ◌-ℤ◌, ◌*ℤ◌}
use lib.Signed.{le_z, lt_z}
use Rattle.whole.specs.Square.{squared}
use Rattle.whole.proofs.Identity.{identity, quote}
use Rattle.whole.specs.Order.{◌⩽◌, ◌⋖◌}
use Rattle.whole.proofs.Order.{le_lt_trans, lt-le-trans, lt_irrefl, le_trans as chain, from_le, from-not-le, from-lt, from-not-lt, pos-le, pos-lt, pos-sub}
use Rattle.whole.proofs.Magnitudes.{le-magnitude}
use Rattle.limits.specs.Limits.{dsg_number}
use Rattle.whole.specs.Table.{at}
use Rattle.exact.specs.Corrected.{steps}
use Rattle.limits.specs.Lists.{any_beyond_lem}
use Rattle.limits.specs.Reply.{Reply, reply}
use Rattle.series.specs.Fit.{value_limit}
use Rattle.series.specs.Scatter.{squares, threshold, climb, dsg, scatter_rule, squares_cap}
use Rattle.limits.proofs.Blocks.{within-blocks}
use Rattle.limits.proofs.Lists.{list-passes, any-take}
use Rattle.series.proofs.Residuals.{squares-cong}
use Rattle.limits.proofs.Laws.{then-passed}

-- ---- climbing

module _ (e : ℕ → ℤ) (q : ℤ) where
  -- the last number reached has a threshold that is not above q
  climb-reached : (k d : ℕ) → e d ⩽ q → e (climb e q k d) ⩽ q
  unfolding climb
  climb-reached zero d h = h
  climb-reached (suc k) d h = go (le_z (e (suc d)) q) refl (climb-reached k (suc d))
    where
      go : (b : Bool) → le_z (e (suc d)) q ≡ b → (e (suc d) ⩽ q → e (climb e q k (suc d)) ⩽ q)
          → e (elim b [ true ↦ climb e q k (suc d) | false ↦ d ]) ⩽ q
      go true t up = up (from_le (e (suc d)) q t)
      go false t up = h

  -- and the next threshold is above, where the turns suffice
  climb-next : (k d : ℕ) → q ⋖ e (suc (k + d)) → q ⋖ e (suc (climb e q k d))
  unfolding climb
  climb-next zero d h = subst (λ (n : ℕ). q ⋖ e (suc n)) (omega arith) h
  climb-next (suc k) d h = go (le_z (e (suc d)) q) refl (climb-next k (suc d) (subst (λ (n : ℕ). q ⋖ e (suc n)) (omega arith) h))
    where
      go : (b : Bool) → le_z (e (suc d)) q ≡ b → q ⋖ e (suc (climb e q k (suc d)))
          → q ⋖ e (suc (elim b [ true ↦ climb e q k (suc d) | false ↦ d ]))
      go true t up = up
      go false t up = from-not-le (e (suc d)) q t

-- ---- thresholds

-- the threshold of d, as a natural number
abbrev pub threshold_of : ℕ → ℕ → ℕ → ℕ
threshold_of s n d = n * (s * (100 * d - 50) * (s * (100 * d - 50)))

pub threshold-natural : (s n d : ℕ) → 0 < d → threshold s n d ≡ pos (threshold_of s n d)
unfolding threshold
threshold-natural s n d h = ap (λ (z : ℤ). pos n *ℤ squared (pos s *ℤ z)) (pos-sub (100 * d) 50 (omega arith))

-- in tenths (document 02, Job 8)
pub threshold-tenths : (n d : ℕ) → threshold steps n d ≡ pos n *ℤ squared (pos 1000 *ℤ pos d -ℤ pos 500)
unfolding threshold
threshold-tenths n d = ap (λ (z : ℤ). pos n *ℤ squared z) (tenfold (pos d))
  where
    tenfold : (d : ℤ) → pos steps *ℤ (pos 100 *ℤ d -ℤ pos 50) ≡ pos 1000 *ℤ d -ℤ pos 500
    tenfold d = identity (d ∷ []) (search quote depth 20) tt

-- document 01's number for 52 values, in tenths
pub first-threshold-52 : threshold steps 52 1 ≡ pos 13000000
unfolding threshold
first-threshold-52 = refl

-- the threshold of 10000, from which on DSG is above 9999
pub cap-is : (n : ℕ) → threshold steps n 10000 ≡ pos (squares_cap * n)
cap-is n = threshold-natural steps n 10000 (lit< tt) ∙ ap pos (mul_comm n squares_cap)

pub threshold-mono : (s n : ℕ) {d e : ℕ} → 0 < d → d ≤ e → threshold s n d ⩽ threshold s n e
threshold-mono s n {d} {e} h k =
    subst₂ (λ (x y : ℤ). x ⩽ y) (sym (threshold-natural s n d h)) (sym (threshold-natural s n e (le_trans h k)))
    (pos-le (mul-le-mul_left n (mul-le-mul root root)))
  where
    inner : 100 * d - 50 ≤ 100 * e - 50
    inner = omega arith

    root : s * (100 * d - 50) ≤ s * (100 * e - 50)
    root = mul-le-mul_left s inner

-- d's threshold is reached, if d is not 0, and the next one is not
pub record Greatest (s n : ℕ) (q : ℤ) (d : ℕ) : Type 0 where
  pub reached : 1 ≤ d → threshold s n d ⩽ q
  pub next : q ⋖ threshold s n (suc d)

-- no number from 1 up whose threshold is reached is greater
pub greatest : (s n : ℕ) {q : ℤ} {d e : ℕ} → Greatest s n q d → 1 ≤ e → threshold s n e ⩽ q → e ≤ d
greatest s n {q} {d} {e} g h r = elim (dec_le e d) [ yes k ↦ k | no k ↦ absurd (above (lt_of_not-le k)) ]
  where
    above : d < e → ⊥
    above k = lt_irrefl (lt-le-trans g.next (chain (threshold-mono s n (omega arith) k) r))

-- so there is one such number only
pub greatest-only : (s n : ℕ) {q : ℤ} {d e : ℕ} → Greatest s n q d → Greatest s n q e → d ≡ e
greatest-only s n g k = le_antisymm (below g k) (below k g)
  where
    below : {q : ℤ} {d e : ℕ} → Greatest s n q d → Greatest s n q e → d ≤ e
    below {d = zero} g k = zero-le
    below {d = suc d} g k = greatest s n k (omega arith) (g.reached (omega arith))

module _ (s n : ℕ) (s-pos : 0 < s) (n_pos : 0 < n) where
  -- a threshold is not below its d
  threshold-least : (d : ℕ) → 0 < d → d ≤ threshold_of s n d
  threshold-least d h =
      let root : 1 * d ≤ s * (100 * d - 50) = mul-le-mul s-pos (omega arith) in
      let one : 1 ≤ s * (100 * d - 50) = omega arith in
      let square : 1 * (1 * (1 * d)) ≤ threshold_of s n d = mul-le-mul n_pos (mul-le-mul one root) in
      omega arith

  -- the least sum of squares that has a DSG of 1
  pub first-threshold : threshold s n 1 ≡ pos (2500 * (s * s) * n)
  first-threshold = threshold-natural s n 1 (omega arith) ∙ ap pos (omega arith)

  -- ---- DSG

  enough : (q : ℤ) → q ⋖ threshold s n (suc (nat_abs q + 1))
  enough q =
      le_lt_trans (le-magnitude q)
      (subst (λ (z : ℤ). pos (nat_abs q) ⋖ z) (sym (threshold-natural s n (suc (nat_abs q + 1)) (omega arith)))
      (pos-lt (le_trans {m = suc (nat_abs q + 1)} (omega arith) (threshold-least (suc (nat_abs q + 1)) (omega arith)))))

  -- What the definition climbs to is the greatest: its own threshold is reached, if it is not 0, and the next one is not. With `greatest`, which says what
  -- follows of every other number, this is "the greatest d from 1 up with n × (100d - 50)² not above Q", in square picoseconds, or 0 where there is none.
  pub dsg-greatest : (q : ℤ) → Greatest s n q (dsg s n q)
  unfolding dsg
  dsg-greatest q = go (lt_z q (pos (2500 * (s * s) * n))) refl
    where
      go : (b : Bool) → lt_z q (pos (2500 * (s * s) * n)) ≡ b → Greatest s n q (cond b 0 (climb (threshold s n) q (nat_abs q) 1))
      go true t = record {
        reached = λ h. absurd (omega arith);
        next = subst (λ (z : ℤ). q ⋖ z) (sym first-threshold) (from-lt q _ t);
      }
      go false t = record {
        reached = λ h. climb-reached (threshold s n) q (nat_abs q) 1 (subst (λ (z : ℤ). z ⩽ q) (sym first-threshold) (from-not-lt q _ t));
        next = climb-next (threshold s n) q (nat_abs q) 1 (enough q);
      }

  -- below a threshold DSG is below its number
  pub dsg-below : {q : ℤ} {d : ℕ} → 0 < d → q ⋖ threshold s n d → dsg s n q < d
  dsg-below {q} {d} d-pos h = lt_of_not-le above
    where
      above : d ≤ dsg s n q → ⊥
      above k = lt_irrefl (lt-le-trans h (chain (threshold-mono s n d-pos k) ((dsg-greatest q).reached (le_trans d-pos k))))

-- ---- the limit on DSG

-- the reply with a DSG, or with its refusal
abbrev pub sigma_reply : ℕ → Reply ℤ
sigma_reply d = reply (pos 0) (dsg_number (pos d)) (pos d)

-- Scatter's reply to values that are not refused before their DSG is known
scatter-passed : (l : List ℤ) → 4 ≤ length l → length l ≤ 52 → any_beyond_lem value_limit l ≡ false
    → scatter_rule l ≡ sigma_reply (dsg steps (length l) (squares (length l) (at l)))
unfolding scatter_rule
scatter-passed l h k e =
    let sigma = pos (dsg steps (length l) (squares (length l) (at l))) in
    ap (λ (n : ℕ). reply (pos 0) n sigma) (then-passed _ (dsg_number sigma) (list-passes _ _ _ l (within-blocks (length l) h k) e))

-- to the first n values of a list
pub scatter-part : (n : ℕ) (l : List ℤ) → 4 ≤ n → n ≤ 52 → n ≤ length l → any_beyond_lem value_limit l ≡ false
    → scatter_rule (take n l) ≡ sigma_reply (dsg steps n (squares n (at l)))
scatter-part n l h k m e =
    scatter-passed (take n l) (subst (λ (i : ℕ). 4 ≤ i) (sym count) h) (subst (λ (i : ℕ). i ≤ 52) (sym count) k) (any-take _ _ n l e)
    ∙ ap (λ (i : ℕ). sigma_reply (dsg steps i (squares i (at (take n l))))) count
    ∙ ap (λ (q : ℤ). sigma_reply (dsg steps n q)) (squares-cong n (λ j i. get_or-take n l j (pos 0) i))
  where
    count : length (take n l) ≡ n
    count = length-take-le n l m
