-- The absolute value: nat_abs as a natural number, `magnitude` as a whole number (module Square).
-- Assumes nothing.
use Rattle.std.specs.Prelude.{◌≡◌, refl, [], ◌∷◌, zero, suc, ◌+◌, ◌*◌, ◌/◌, ◌≤◌, ℤ, pos, negsuc, neg_ℤ, nat_abs, ◌+ℤ◌, ◌*ℤ◌}
use Rattle.std.proofs.Common.{sym, ap, ◌∙◌, subst}
use Rattle.std.specs.Int.Signed.{quot_z}
use Rattle.whole.specs.Square.{squared, magnitude}
use Rattle.whole.proofs.Identity.{identity, quote}
use Rattle.whole.specs.Order.{◌⩽◌, ◌⋖◌}
use Rattle.whole.proofs.Order.{le_refl, le_trans, le_of_eq, le_of_lt, le-shift, add-le, mul-le, cancel-le, pos-le-is, zero-le-pos}

-- ---- negation, product, quotient

pub nat_abs-neg : (x : ℤ) → nat_abs (neg_ℤ x) ≡ nat_abs x
nat_abs-neg (pos zero) = refl
nat_abs-neg (pos (suc n)) = refl
nat_abs-neg (negsuc n) = refl

pub nat_abs_mul : (x y : ℤ) → nat_abs (x *ℤ y) ≡ nat_abs x * nat_abs y
nat_abs_mul (pos a) (pos b) = refl
nat_abs_mul (pos a) (negsuc b) = nat_abs-neg (pos (a * suc b))
nat_abs_mul (negsuc a) (pos b) = nat_abs-neg (pos (suc a * b))
nat_abs_mul (negsuc a) (negsuc b) = refl

-- of the quotient that is rounded toward 0
pub nat_abs-quot : (x y : ℤ) → nat_abs (quot_z x y) ≡ nat_abs x / nat_abs y
nat_abs-quot (pos a) (pos b) = refl
nat_abs-quot (pos a) (negsuc b) = nat_abs-neg (pos (a / suc b))
nat_abs-quot (negsuc a) (pos b) = nat_abs-neg (pos (suc a / b))
nat_abs-quot (negsuc a) (negsuc b) = refl

-- ---- bounds on both sides

neg-flip : (x y : ℤ) → neg_ℤ x ⩽ neg_ℤ y → y ⩽ x
neg-flip x y h = le-shift h (identity (x ∷ y ∷ []) (search quote depth 12) tt)

neg-le : (x y : ℤ) → y ⩽ x → neg_ℤ x ⩽ neg_ℤ y
neg-le x y h = le-shift h (identity (x ∷ y ∷ []) (search quote depth 12) tt)

pub le-magnitude : (x : ℤ) → x ⩽ magnitude x
le-magnitude (pos n) = le_refl (pos n)
le-magnitude (negsuc n) = record { le = tt }

pub neg-magnitude-le : (x : ℤ) → neg_ℤ (magnitude x) ⩽ x
neg-magnitude-le (pos zero) = le_refl (pos 0)
neg-magnitude-le (pos (suc n)) = record { le = tt }
neg-magnitude-le (negsuc n) = le_refl (negsuc n)

-- |x| ≤ b exactly when -b ≤ x ≤ b
pub magnitude-le : {x b : ℤ} → neg_ℤ b ⩽ x → x ⩽ b → magnitude x ⩽ b
magnitude-le {x = pos n} h k = k
magnitude-le {x = negsuc n} {b = b} h k = neg-flip b (pos (suc n)) h

pub magnitude-le-is : {x b : ℤ} → magnitude x ⩽ b → (neg_ℤ b ⩽ x) × (x ⩽ b)
magnitude-le-is {x} {b} h = (le_trans (neg-le b (magnitude x) h) (neg-magnitude-le x), le_trans (le-magnitude x) h)

pub magnitude-nonneg : (x : ℤ) → pos 0 ⩽ magnitude x
magnitude-nonneg x = zero-le-pos (nat_abs x)

pub magnitude-of : {x : ℤ} → pos 0 ⩽ x → magnitude x ≡ x
magnitude-of {x = pos n} h = refl
magnitude-of {x = negsuc n} h = absurd h.le

-- ---- in sums and products

pub magnitude-add : (x y : ℤ) → magnitude (x +ℤ y) ⩽ magnitude x +ℤ magnitude y
magnitude-add x y =
    magnitude-le
    (le_trans (le_of_eq (identity (magnitude x ∷ magnitude y ∷ []) (search quote depth 12) tt))
    (add-le (neg-magnitude-le x) (neg-magnitude-le y)))
    (add-le (le-magnitude x) (le-magnitude y))

pub nat_abs-add : (x y : ℤ) → nat_abs (x +ℤ y) ≤ nat_abs x + nat_abs y
nat_abs-add x y = pos-le-is (magnitude-add x y)

pub magnitude-mul : (x y : ℤ) → magnitude (x *ℤ y) ≡ magnitude x *ℤ magnitude y
magnitude-mul x y = ap pos (nat_abs_mul x y)

pub magnitude-neg : (x : ℤ) → magnitude (neg_ℤ x) ≡ magnitude x
magnitude-neg x = ap pos (nat_abs-neg x)

pub square-magnitude : (x : ℤ) → squared (magnitude x) ≡ squared x
square-magnitude (pos n) = refl
square-magnitude (negsuc n) = refl

pub magnitude-scaled : (m u : ℤ) {U : ℤ} → pos 0 ⩽ m → magnitude u ⩽ U → magnitude (m *ℤ u) ⩽ m *ℤ U
magnitude-scaled m u {U} h g =
    subst (λ (w : ℤ). w ⩽ m *ℤ U) (sym (magnitude-mul m u ∙ ap (λ (s : ℤ). s *ℤ magnitude u) (magnitude-of h))) (mul-le m h g)

-- A multiple of z is a combination of two numbers of known magnitude, so the magnitude of z is known. Every rounding error is bounded by this one law.
pub magnitude-combined : (z x y : ℤ) {X Y b : ℤ} (k a c : ℤ) → pos 0 ⋖ k → pos 0 ⩽ a → pos 0 ⩽ c
    → k *ℤ z ≡ a *ℤ x +ℤ c *ℤ y → magnitude x ⩽ X → magnitude y ⩽ Y → a *ℤ X +ℤ c *ℤ Y ⩽ k *ℤ b → magnitude z ⩽ b
magnitude-combined z x y {X} {Y} {b} k a c k-pos a-pos c_pos e hx hy hb = cancel-le k k-pos (le_trans bound hb)
  where
    multiple : magnitude (k *ℤ z) ≡ k *ℤ magnitude z
    multiple = magnitude-mul k z ∙ ap (λ (s : ℤ). s *ℤ magnitude z) (magnitude-of (le_of_lt k-pos))

    bound : k *ℤ magnitude z ⩽ a *ℤ X +ℤ c *ℤ Y
    bound =
        le_trans (le_of_eq (sym multiple ∙ ap magnitude e))
        (le_trans (magnitude-add (a *ℤ x) (c *ℤ y)) (add-le (magnitude-scaled a x a-pos hx) (magnitude-scaled c y c_pos hy)))
