-- The order of the whole numbers: its laws with sums, products and squares, cancellation, and no zero divisors.
-- What is linear is proved by the module Linear; the last section has two laws for what is not.
-- Assumes nothing.
use Rattle.std.specs.Prelude.{◌≡◌, true, false, List, [], ◌∷◌, ◌⊎◌, ℕ, zero, suc, ◌+◌, ◌*◌, ◌-◌, ◌≤◌, ◌<◌, T, ℤ, pos, negsuc, neg_ℤ, nat_abs, ◌+ℤ◌, ◌-ℤ◌, ◌*ℤ◌}
use Rattle.std.proofs.Common.{sym, ap, ◌∙◌, subst, subst₂, inl, inr, ⊎_elim, zero-le, arith, leb→le, le→leb, lt→ltb}
use Rattle.std.proofs.Math.Decide.{dec_le}
use Rattle.std.proofs.Math.IntN.{*ℤ-zero, *ℤ_comm}
use Rattle.std.specs.Int.Signed.{le_z, lt_z, ≤ℤ_refl, <ℤ-≤ℤ_trans, <ℤ_irrefl, yes_non_neg, pos-nat_abs}
use Rattle.whole.specs.Square.{squared}
use Rattle.whole.specs.Order.{◌⩽◌, ◌⋖◌}
use Rattle.whole.proofs.Differences.{Dif, of, view, dif-le, dif-lt}
use Rattle.whole.proofs.Identity.{identity, quote}
use Rattle.whole.proofs.Linear.{le-by, lt_by, eq-by, le_is, lt-is, eq_is}

-- ---- a linear order

pub le_refl : (x : ℤ) → x ⩽ x
le_refl = ≤ℤ_refl

pub le_of_eq : {x y : ℤ} → x ≡ y → x ⩽ y
le_of_eq {x} e = subst (λ (z : ℤ). x ⩽ z) e (le_refl x)

pub le_trans : {x y z : ℤ} → x ⩽ y → y ⩽ z → x ⩽ z
le_trans {x} {y} {z} h k =
    let ρ : List ℤ = x ∷ y ∷ z ∷ [] in
    le-by ρ (search quote depth 8) (omega (arith, le_is ρ (search quote depth 8) h, le_is ρ (search quote depth 8) k))

pub le_lt_trans : {x y z : ℤ} → x ⩽ y → y ⋖ z → x ⋖ z
le_lt_trans {x} {y} {z} h k =
    let ρ : List ℤ = x ∷ y ∷ z ∷ [] in
    lt_by ρ (search quote depth 8) (omega (arith, le_is ρ (search quote depth 8) h, lt-is ρ (search quote depth 8) k))

pub lt-le-trans : {x y z : ℤ} → x ⋖ y → y ⩽ z → x ⋖ z
lt-le-trans = <ℤ-≤ℤ_trans

pub le_of_lt : {x y : ℤ} → x ⋖ y → x ⩽ y
le_of_lt {x} {y} h =
    let ρ : List ℤ = x ∷ y ∷ [] in le-by ρ (search quote depth 8) (omega (arith, lt-is ρ (search quote depth 8) h))

pub lt_irrefl : {x : ℤ} → x ⋖ x → ⊥
lt_irrefl = <ℤ_irrefl

pub le_antisymm : {x y : ℤ} → x ⩽ y → y ⩽ x → x ≡ y
le_antisymm {x} {y} h k =
    let ρ : List ℤ = x ∷ y ∷ [] in
    eq-by ρ (search quote depth 8) (omega (arith, le_is ρ (search quote depth 8) h, le_is ρ (search quote depth 8) k))

pub le-or-lt : (x y : ℤ) → (x ⩽ y) ⊎ (y ⋖ x)
le-or-lt x y = go (view x) (view y)
  where
    go : {x y : ℤ} → Dif x → Dif y → (x ⩽ y) ⊎ (y ⋖ x)
    go (of a b) (of c d) = elim (dec_le (a + d) (c + b)) [ yes h ↦ inl (dif-le a b c d h) | no h ↦ inr (dif-lt c d a b (omega arith)) ]

-- what the library's tests tell
pub from_le : (x y : ℤ) → le_z x y ≡ true → x ⩽ y
from_le x y e = record { le = subst T (sym e) tt }

pub from-not-le : (x y : ℤ) → le_z x y ≡ false → y ⋖ x
from-not-le x y e = ⊎_elim (λ h. absurd (subst T e h.le)) (λ h. h) (le-or-lt x y)

pub from-lt : (x y : ℤ) → lt_z x y ≡ true → x ⋖ y
from-lt x y e = record { lt = subst T (sym e) tt }

pub from-not-lt : (x y : ℤ) → lt_z x y ≡ false → y ⩽ x
from-not-lt x y e = ⊎_elim (λ h. h) (λ h. absurd (subst T e h.lt)) (le-or-lt y x)

-- ---- between natural numbers

pub pos-le : {m n : ℕ} → m ≤ n → pos m ⩽ pos n
pos-le {m} {n} h = record { le = le→leb m n h }

pub pos-le-is : {m n : ℕ} → pos m ⩽ pos n → m ≤ n
pos-le-is {m} {n} h = leb→le m n h.le

pub pos-lt : {m n : ℕ} → m < n → pos m ⋖ pos n
pos-lt {m} {n} h = record { lt = lt→ltb m n h }

pub zero-le-pos : (n : ℕ) → pos 0 ⩽ pos n
zero-le-pos n = pos-le zero-le

-- natural numbers taken off as whole ones
pub pos-sub : (a b : ℕ) → b ≤ a → pos a -ℤ pos b ≡ pos (a - b)
pos-sub a b h = eq-by (pos a ∷ pos b ∷ pos (a - b) ∷ []) (search quote depth 12) (omega arith)

-- a number that is not below 0 is a natural number
pub as-pos : {x : ℤ} → pos 0 ⩽ x → x ≡ pos (nat_abs x)
as-pos {x} h = sym (pos-nat_abs x (yes_non_neg h))

-- ---- sums and products

pub add-le : {x y u v : ℤ} → x ⩽ y → u ⩽ v → x +ℤ u ⩽ y +ℤ v
add-le {x} {y} {u} {v} h k =
    let ρ : List ℤ = x ∷ y ∷ u ∷ v ∷ [] in
    le-by ρ (search quote depth 8) (omega (arith, le_is ρ (search quote depth 8) h, le_is ρ (search quote depth 8) k))

pub mul-nonneg : {x y : ℤ} → pos 0 ⩽ x → pos 0 ⩽ y → pos 0 ⩽ x *ℤ y
mul-nonneg {x} {y} h k =
    subst₂ (λ (a b : ℤ). pos 0 ⩽ a *ℤ b) (sym (as-pos h)) (sym (as-pos k)) (zero-le-pos (nat_abs x * nat_abs y))

pub mul-pos : {x y : ℤ} → pos 0 ⋖ x → pos 0 ⋖ y → pos 0 ⋖ x *ℤ y
mul-pos {x = pos (suc m)} {y = pos (suc n)} h k = pos-lt (omega arith)
mul-pos {x = pos (suc m)} {y = pos zero} h k = absurd (lt_irrefl k)
mul-pos {x = pos (suc m)} {y = negsuc n} h k = absurd k.lt
mul-pos {x = pos zero} h k = absurd (lt_irrefl h)
mul-pos {x = negsuc m} h k = absurd h.lt

-- ---- two laws for orders that are not linear

-- u ≤ v where v - u is known not to be below 0
pub le-slack : {u v s : ℤ} → pos 0 ⩽ s → v -ℤ u ≡ s → u ⩽ v
le-slack {u} {v} {s} h e =
    let ρ : List ℤ = u ∷ v ∷ s ∷ [] in
    le-by ρ (search quote depth 8) (omega (arith, le_is ρ (search quote depth 8) h, eq_is ρ (search quote depth 8) e))

pub lt-slack : {u v s : ℤ} → pos 0 ⋖ s → v -ℤ u ≡ s → u ⋖ v
lt-slack {u} {v} {s} h e =
    let ρ : List ℤ = u ∷ v ∷ s ∷ [] in
    lt_by ρ (search quote depth 8) (omega (arith, lt-is ρ (search quote depth 8) h, eq_is ρ (search quote depth 8) e))

-- u ≤ v where v - u is the difference of an order that is known
pub le-shift : {u v a b : ℤ} → a ⩽ b → v -ℤ u ≡ b -ℤ a → u ⩽ v
le-shift {u} {v} {a} {b} h e =
    let ρ : List ℤ = u ∷ v ∷ a ∷ b ∷ [] in
    le-by ρ (search quote depth 8) (omega (arith, le_is ρ (search quote depth 8) h, eq_is ρ (search quote depth 8) e))

pub lt-shift : {u v a b : ℤ} → a ⋖ b → v -ℤ u ≡ b -ℤ a → u ⋖ v
lt-shift {u} {v} {a} {b} h e =
    let ρ : List ℤ = u ∷ v ∷ a ∷ b ∷ [] in
    lt_by ρ (search quote depth 8) (omega (arith, lt-is ρ (search quote depth 8) h, eq_is ρ (search quote depth 8) e))

-- the difference of an order, and of a strict one
pub sub-nonneg : {x y : ℤ} → x ⩽ y → pos 0 ⩽ y -ℤ x
sub-nonneg {x} {y} h = le-shift h (identity (x ∷ y ∷ []) (search quote depth 12) tt)

pub sub-pos : {x y : ℤ} → x ⋖ y → pos 0 ⋖ y -ℤ x
sub-pos {x} {y} h = lt-shift h (identity (x ∷ y ∷ []) (search quote depth 12) tt)

-- ---- multiples

pub mul-le : {x y : ℤ} (k : ℤ) → pos 0 ⩽ k → x ⩽ y → k *ℤ x ⩽ k *ℤ y
mul-le {x} {y} k h e =
    le-slack (mul-nonneg h (sub-nonneg e)) (identity (k ∷ x ∷ y ∷ []) (search quote depth 12) tt)

pub mul-lt : {x y : ℤ} (k : ℤ) → pos 0 ⋖ k → x ⋖ y → k *ℤ x ⋖ k *ℤ y
mul-lt {x} {y} k h e =
    lt-slack (mul-pos h (sub-pos e)) (identity (k ∷ x ∷ y ∷ []) (search quote depth 12) tt)

pub mul-le-mul : {x y u v : ℤ} → pos 0 ⩽ x → x ⩽ y → pos 0 ⩽ u → u ⩽ v → x *ℤ u ⩽ y *ℤ v
mul-le-mul {x} {y} {u} {v} h e k f =
    le_trans (mul-le x h f) (subst₂ ◌⩽◌ (*ℤ_comm v x) (*ℤ_comm v y) (mul-le v (le_trans k f) e))

-- a positive factor cancels
pub cancel-le : {x y : ℤ} (k : ℤ) → pos 0 ⋖ k → k *ℤ x ⩽ k *ℤ y → x ⩽ y
cancel-le {x} {y} k h e = go (le-or-lt x y)
  where
    go : (x ⩽ y) ⊎ (y ⋖ x) → x ⩽ y
    go (inl a) = a
    go (inr b) = absurd (lt_irrefl (lt-le-trans (mul-lt k h b) e))

pub cancel-lt : {x y : ℤ} (k : ℤ) → pos 0 ⩽ k → k *ℤ x ⋖ k *ℤ y → x ⋖ y
cancel-lt {x} {y} k h e = go (le-or-lt y x)
  where
    go : (y ⩽ x) ⊎ (x ⋖ y) → x ⋖ y
    go (inl a) = absurd (lt_irrefl (lt-le-trans e (mul-le k h a)))
    go (inr b) = b

pub cancel-eq : {x y : ℤ} (k : ℤ) → pos 0 ⋖ k → k *ℤ x ≡ k *ℤ y → x ≡ y
cancel-eq k h e = le_antisymm (cancel-le k h (le_of_eq e)) (cancel-le k h (le_of_eq (sym e)))

-- ---- squares

pub square-nonneg : (x : ℤ) → pos 0 ⩽ x *ℤ x
square-nonneg (pos n) = zero-le-pos (n * n)
square-nonneg (negsuc n) = zero-le-pos (suc n * suc n)

-- there are no zero divisors
pub zero-or-zero : (x y : ℤ) → x *ℤ y ≡ pos 0 → (x ≡ pos 0) ⊎ (y ≡ pos 0)
zero-or-zero x y e = go (le-or-lt x (pos 0)) (le-or-lt (pos 0) x)
  where
    positive : {x : ℤ} → pos 0 ⋖ x → x *ℤ y ≡ pos 0 → y ≡ pos 0
    positive {x} h e = cancel-eq x h (e ∙ sym (*ℤ-zero x))

    go : (x ⩽ pos 0) ⊎ (pos 0 ⋖ x) → (pos 0 ⩽ x) ⊎ (x ⋖ pos 0) → (x ≡ pos 0) ⊎ (y ≡ pos 0)
    go (inr h) k = inr (positive h e)
    go (inl h) (inl k) = inl (le_antisymm h k)
    go (inl h) (inr k) =
        inr (positive {x = neg_ℤ x} (lt-shift k (identity (x ∷ []) (search quote depth 12) tt))
        (identity (x ∷ y ∷ []) (search quote depth 12) tt ∙ ap neg_ℤ e))

pub square-zero : (x : ℤ) → x *ℤ x ≡ pos 0 → x ≡ pos 0
square-zero x e = go (zero-or-zero x x e)
  where
    go : (x ≡ pos 0) ⊎ (x ≡ pos 0) → x ≡ pos 0
    go (inl h) = h
    go (inr h) = h

pub square-mul : (x y : ℤ) → squared x *ℤ squared y ≡ squared (x *ℤ y)
square-mul x y = identity (x ∷ y ∷ []) (search quote depth 12) tt

pub square-pos : {x : ℤ} → pos 0 ⋖ x → pos 0 ⋖ x *ℤ x
square-pos h = mul-pos h h

pub square_le : {x y : ℤ} → pos 0 ⩽ x → x ⩽ y → x *ℤ x ⩽ y *ℤ y
square_le h e = mul-le-mul h e h e
