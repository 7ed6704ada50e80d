-- Laws of the nearest whole number (module Nearest): how far it is from the fraction, where a tie goes, that it is the only such number, and
-- how it moves with the fraction.
-- Assumes nothing.
use Rattle.std.specs.Prelude.{◌≡◌, List, [], ◌∷◌, ◌⊎◌, ℕ, suc, ◌+◌, ◌*◌, ◌/◌, ◌≤◌, ◌<◌, ℤ, pos, negsuc, neg_ℤ, nat_abs, ◌+ℤ◌, ◌-ℤ◌, ◌*ℤ◌}
use Rattle.std.proofs.Common.{sym, ap, ◌∙◌, subst, subst₂, inl, inr, suc-le-suc, add-one, arith}
use Rattle.std.proofs.Math.Nat.{mul-div-le, lt-mul-div-succ, one-le-mul}
use Rattle.std.proofs.Math.IntN.{+ℤ_comm, +ℤ_idl}
use Rattle.std.specs.Int.Signed.{shr_z}
use Rattle.whole.specs.Square.{magnitude}
use Rattle.whole.specs.Nearest.{nearest}
use Rattle.whole.proofs.Ring.{negℤ-*ℤ, *ℤ-negℤ}
use Rattle.whole.proofs.Identity.{identity, quote}
use Rattle.whole.proofs.Linear.{le-by, lt_by, le_is, lt-is}
use Rattle.whole.specs.Order.{◌⩽◌, ◌⋖◌}
use Rattle.whole.proofs.Order.{lt-le-trans, le_of_lt, le_antisymm, le-or-lt, lt_irrefl, le-shift, lt-shift, pos-le, pos-lt, pos-le-is, zero-le-pos, mul-pos, mul-le, mul-lt, cancel-lt}
use Rattle.whole.proofs.Magnitudes.{magnitude-le, magnitude-le-is}

-- ---- the floor of z / m

neg-le : (m k q : ℤ) → k ⩽ m *ℤ q → m *ℤ neg_ℤ q ⩽ neg_ℤ k
neg-le m k q h = le-shift h (identity (m ∷ k ∷ q ∷ []) (search quote depth 12) tt)

neg-lt : (m k q : ℤ) → m *ℤ q ⋖ k → neg_ℤ k ⋖ m *ℤ (neg_ℤ (q +ℤ pos 1) +ℤ pos 1)
neg-lt m k q h = lt-shift h (identity (m ∷ k ∷ q ∷ []) (search quote depth 12) tt)

pub floor-le : (z : ℤ) (m : ℕ) → 0 < m → pos m *ℤ shr_z z m ⩽ z
floor-le (pos a) m h = pos-le (mul-div-le a m)
floor-le (negsuc a) m h =
    neg-le (pos m) (pos (suc a)) (pos (suc (a / m)))
    (pos-le (subst (λ (k : ℕ). a < m * k) (add-one (a / m)) (lt-mul-div-succ a h)))

pub floor-lt : (z : ℤ) (m : ℕ) → 0 < m → z ⋖ pos m *ℤ (shr_z z m +ℤ pos 1)
floor-lt (pos a) m h = pos-lt (lt-mul-div-succ a h)
floor-lt (negsuc a) m h =
    subst (λ (k : ℕ). negsuc a ⋖ pos m *ℤ (neg_ℤ (pos k) +ℤ pos 1)) (add-one (a / m))
    (neg-lt (pos m) (pos (suc a)) (pos (a / m)) (pos-lt (suc-le-suc (mul-div-le a m))))

-- ---- the nearest whole number r to n / d lies above (2n - d) / 2d and not above (2n + d) / 2d

-- 2dr - 2n is above -d: of the two whole numbers at a tie it is the upper one,
pub nearest-gt : (n : ℤ) (d : ℕ) → 0 < d → neg_ℤ (pos d) ⋖ pos 2 *ℤ pos d *ℤ nearest n d -ℤ pos 2 *ℤ n
unfolding nearest
nearest-gt n d h = shift n (pos d) (nearest n d) (floor-lt _ (2 * d) (omega arith))
  where
    shift : (n d r : ℤ) → pos 2 *ℤ n +ℤ d ⋖ pos 2 *ℤ d *ℤ (r +ℤ pos 1) → neg_ℤ d ⋖ pos 2 *ℤ d *ℤ r -ℤ pos 2 *ℤ n
    shift n d r h = lt-shift h (identity (n ∷ d ∷ r ∷ []) (search quote depth 12) tt)

-- and at most d
pub nearest-le : (n : ℤ) (d : ℕ) → 0 < d → pos 2 *ℤ pos d *ℤ nearest n d -ℤ pos 2 *ℤ n ⩽ pos d
unfolding nearest
nearest-le n d h = shift n (pos d) (nearest n d) (floor-le _ (2 * d) (omega arith))
  where
    shift : (n d r : ℤ) → pos 2 *ℤ d *ℤ r ⩽ pos 2 *ℤ n +ℤ d → pos 2 *ℤ d *ℤ r -ℤ pos 2 *ℤ n ⩽ d
    shift n d r h = le-shift h (identity (n ∷ d ∷ r ∷ []) (search quote depth 12) tt)

-- so it is within half of n / d: |2dr - 2n| ≤ d
pub nearest-within : (n : ℤ) (d : ℕ) → 0 < d → magnitude (pos 2 *ℤ pos d *ℤ nearest n d -ℤ pos 2 *ℤ n) ⩽ pos d
nearest-within n d h = magnitude-le (le_of_lt (nearest-gt n d h)) (nearest-le n d h)

-- and it is the only number with -d < 2dr - 2n ≤ d
pub nearest-only : (n : ℤ) (d : ℕ) → 0 < d → (r : ℤ) → neg_ℤ (pos d) ⋖ pos 2 *ℤ pos d *ℤ r -ℤ pos 2 *ℤ n
    → pos 2 *ℤ pos d *ℤ r -ℤ pos 2 *ℤ n ⩽ pos d → r ≡ nearest n d
nearest-only n d h r low high =
    le_antisymm (below (pos d) d-pos n r (nearest n d) high (nearest-gt n d h))
    (below (pos d) d-pos n (nearest n d) r (nearest-le n d h) low)
  where
    d-pos : pos 0 ⋖ pos d
    d-pos = pos-lt h

    -- two numbers less than a whole step apart: the first is not above the second
    near : (d n a b : ℤ) → pos 2 *ℤ d *ℤ a -ℤ pos 2 *ℤ n ⩽ d → neg_ℤ d ⋖ pos 2 *ℤ d *ℤ b -ℤ pos 2 *ℤ n
        → pos 2 *ℤ d *ℤ a ⋖ pos 2 *ℤ d *ℤ (b +ℤ pos 1)
    near d n a b p q =
        let ρ : List ℤ = d ∷ n ∷ a ∷ b ∷ [] in
        lt_by ρ (search quote depth 12) (omega (arith, le_is ρ (search quote depth 12) p, lt-is ρ (search quote depth 12) q))

    less : (a b : ℤ) → a ⋖ b +ℤ pos 1 → a ⩽ b
    less a b p =
        let ρ : List ℤ = a ∷ b ∷ [] in
        le-by ρ (search quote depth 12) (omega (arith, lt-is ρ (search quote depth 12) p))

    below : (d : ℤ) → pos 0 ⋖ d → (n a b : ℤ) → pos 2 *ℤ d *ℤ a -ℤ pos 2 *ℤ n ⩽ d
        → neg_ℤ d ⋖ pos 2 *ℤ d *ℤ b -ℤ pos 2 *ℤ n → a ⩽ b
    below d h n a b p q =
        less a b (cancel-lt (pos 2 *ℤ d) (le_of_lt (mul-pos (pos-lt {m = 0} {n = 2} (omega arith)) h)) (near d n a b p q))

-- ---- without doubling: half the denominator, rounded down, is added to the numerator before the floor is taken

pub nearest-floor : (n : ℤ) (d : ℕ) → 0 < d → shr_z (n +ℤ pos (d / 2)) d ≡ nearest n d
nearest-floor n d h =
    nearest-only n d h (shr_z (n +ℤ pos (d / 2)) d)
    (low (pos d) n (pos (d / 2)) (shr_z (n +ℤ pos (d / 2)) d) (pos-le {m = d} {n = 2 * (d / 2) + 1} (omega arith)) (floor-lt _ d h))
    (high (pos d) n (pos (d / 2)) (shr_z (n +ℤ pos (d / 2)) d) (pos-le {m = 2 * (d / 2)} {n = d} (omega arith)) (floor-le _ d h))
  where
    low : (d n k r : ℤ) → d ⩽ pos 2 *ℤ k +ℤ pos 1 → n +ℤ k ⋖ d *ℤ (r +ℤ pos 1) → neg_ℤ d ⋖ pos 2 *ℤ d *ℤ r -ℤ pos 2 *ℤ n
    low d n k r p q =
        let ρ : List ℤ = d ∷ n ∷ k ∷ r ∷ [] in
        lt_by ρ (search quote depth 14) (omega (arith, le_is ρ (search quote depth 14) p, lt-is ρ (search quote depth 14) q))

    high : (d n k r : ℤ) → pos 2 *ℤ k ⩽ d → d *ℤ r ⩽ n +ℤ k → pos 2 *ℤ d *ℤ r -ℤ pos 2 *ℤ n ⩽ d
    high d n k r p q =
        let ρ : List ℤ = d ∷ n ∷ k ∷ r ∷ [] in
        le-by ρ (search quote depth 14) (omega (arith, le_is ρ (search quote depth 14) p, le_is ρ (search quote depth 14) q))

-- ---- how it moves

-- by whole steps: (n + kd) / d
pub nearest-shift : (n : ℤ) (d : ℕ) → 0 < d → (k : ℤ) → nearest (n +ℤ k *ℤ pos d) d ≡ nearest n d +ℤ k
nearest-shift n d h k =
    sym
    (nearest-only (n +ℤ k *ℤ pos d) d h (nearest n d +ℤ k)
    (subst (λ (z : ℤ). neg_ℤ (pos d) ⋖ z) (same n (pos d) k (nearest n d)) (nearest-gt n d h))
    (subst (λ (z : ℤ). z ⩽ pos d) (same n (pos d) k (nearest n d)) (nearest-le n d h)))
  where
    same : (n d k r : ℤ)
        → pos 2 *ℤ d *ℤ r -ℤ pos 2 *ℤ n ≡ pos 2 *ℤ d *ℤ (r +ℤ k) -ℤ pos 2 *ℤ (n +ℤ k *ℤ d)
    same n d k r = identity (n ∷ d ∷ k ∷ r ∷ []) (search quote depth 12) tt

-- not, where numerator and denominator are multiplied alike
pub nearest-scale : (n : ℤ) (d m : ℕ) → 0 < d → 0 < m → nearest (pos m *ℤ n) (m * d) ≡ nearest n d
nearest-scale n d m h k =
    sym
    (nearest-only (pos m *ℤ n) (m * d) (one-le-mul k h) (nearest n d)
    (subst₂ ◌⋖◌ (*ℤ-negℤ (pos m) (pos d)) (same n (pos d) (pos m) (nearest n d)) (mul-lt (pos m) (pos-lt k) (nearest-gt n d h)))
    (subst (λ (z : ℤ). z ⩽ pos m *ℤ pos d) (same n (pos d) (pos m) (nearest n d))
    (mul-le (pos m) (zero-le-pos m) (nearest-le n d h))))
  where
    same : (n d m r : ℤ)
        → m *ℤ (pos 2 *ℤ d *ℤ r -ℤ pos 2 *ℤ n) ≡ pos 2 *ℤ (m *ℤ d) *ℤ r -ℤ pos 2 *ℤ (m *ℤ n)
    same n d m r = identity (n ∷ d ∷ m ∷ r ∷ []) (search quote depth 12) tt

-- a whole value can be taken out of the fraction before it is rounded, which leaves a smaller numerator
pub value-apart : (N : ℕ) → 0 < N → (v a b : ℤ) → nearest (pos N *ℤ v -ℤ a -ℤ b) N ≡ v +ℤ nearest (pos 0 -ℤ a -ℤ b) N
value-apart N h v a b =
    ap (λ (z : ℤ). nearest z N) (moved (pos N) v a b)
    ∙ nearest-shift (pos 0 -ℤ a -ℤ b) N h v
    ∙ +ℤ_comm (nearest (pos 0 -ℤ a -ℤ b) N) v
  where
    moved : (N v a b : ℤ) → N *ℤ v -ℤ a -ℤ b ≡ pos 0 -ℤ a -ℤ b +ℤ v *ℤ N
    moved N v a b = identity (N ∷ v ∷ a ∷ b ∷ []) (search quote depth 20 fits 4000) tt

-- with the numerator: a larger fraction has no smaller nearest number
pub nearest-mono : (d : ℕ) → 0 < d → {n m : ℤ} → n ⩽ m → nearest n d ⩽ nearest m d
nearest-mono d h {n} {m} e = go (le-or-lt (nearest n d) (nearest m d))
  where
    high : (n m d a b : ℤ) → n ⩽ m → pos 2 *ℤ d *ℤ a -ℤ pos 2 *ℤ n ⩽ d → neg_ℤ d ⋖ pos 2 *ℤ d *ℤ b -ℤ pos 2 *ℤ m
        → pos 2 *ℤ d *ℤ a ⋖ pos 2 *ℤ d *ℤ (b +ℤ pos 1)
    high n m d a b e p q =
        let ρ : List ℤ = n ∷ m ∷ d ∷ a ∷ b ∷ [] in
        lt_by ρ (search quote depth 14)
        (omega (arith, le_is ρ (search quote depth 14) e, le_is ρ (search quote depth 14) p, lt-is ρ (search quote depth 14) q))

    more : (a b : ℤ) → b ⋖ a → b +ℤ pos 1 ⩽ a
    more a b p =
        let ρ : List ℤ = a ∷ b ∷ [] in
        le-by ρ (search quote depth 12) (omega (arith, lt-is ρ (search quote depth 12) p))

    go : (nearest n d ⩽ nearest m d) ⊎ (nearest m d ⋖ nearest n d) → nearest n d ⩽ nearest m d
    go (inl p) = p
    go (inr q) =
        absurd
        (lt_irrefl
        (lt-le-trans (high n m (pos d) (nearest n d) (nearest m d) e (nearest-le n d h) (nearest-gt m d h))
        (mul-le (pos 2 *ℤ pos d) (zero-le-pos (2 * d)) (more (nearest n d) (nearest m d) q))))

-- a whole number is its own nearest
pub nearest-whole : (d : ℕ) → 0 < d → (k : ℤ) → nearest (k *ℤ pos d) d ≡ k
nearest-whole d h k =
    ap (λ (z : ℤ). nearest z d) (sym (+ℤ_idl (k *ℤ pos d))) ∙ nearest-shift (pos 0) d h k ∙ ap (λ (z : ℤ). z +ℤ k) none ∙ +ℤ_idl k
  where
    none : nearest (pos 0) d ≡ pos 0
    none =
        sym
        (nearest-only (pos 0) d h (pos 0) (lt_by (pos d ∷ []) (search quote depth 12) (omega arith))
        (le-by (pos d ∷ []) (search quote depth 12) (omega arith)))

-- a bound of the fraction is one of its nearest number
pub nearest-bound : (n : ℤ) (d b : ℕ) → 0 < d → nat_abs n ≤ b * d → nat_abs (nearest n d) ≤ b
nearest-bound n d b h e = pos-le-is (magnitude-le low high)
  where
    sides : (neg_ℤ (pos (b * d)) ⩽ n) × (n ⩽ pos (b * d))
    sides = magnitude-le-is (pos-le e)

    high : nearest n d ⩽ pos b
    high = subst (λ (z : ℤ). nearest n d ⩽ z) (nearest-whole d h (pos b)) (nearest-mono d h sides.1)

    low : neg_ℤ (pos b) ⩽ nearest n d
    low =
        subst (λ (z : ℤ). z ⩽ nearest n d) (nearest-whole d h (neg_ℤ (pos b)))
        (nearest-mono d h (subst (λ (z : ℤ). z ⩽ n) (sym (negℤ-*ℤ (pos b) (pos d))) sides.0))
