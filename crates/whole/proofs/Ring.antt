-- The whole numbers are a commutative ring with no zero divisors. The laws of the sum alone are in lib.IntN (+ℤ_comm, +ℤ-assoc, +ℤ_idl,
-- +ℤ-idr, +ℤ-invr, *ℤ_comm); these are the others. An identity that is no single law is one line of the module Identity.
-- Assumes nothing.
use Rattle.std.specs.Prelude.{◌≡◌, ℤ, pos, negsuc, neg_ℤ, ◌+ℤ◌, ◌-ℤ◌, ◌*ℤ◌}
use Rattle.std.proofs.Common.{sym, ap, ap₂, ◌∙◌, arith}
use Rattle.std.proofs.Math.IntN.{+ℤ_idl, +ℤ_comm, *ℤ_comm, neg_ℤ-neg_ℤ, neg_ℤ-+ℤ}
use Rattle.whole.proofs.Differences.{dif-eq, dif-eq-is, Dif, of, view, difs}

pub *ℤ-assoc : (x y z : ℤ) → (x *ℤ y) *ℤ z ≡ x *ℤ (y *ℤ z)
*ℤ-assoc x y z = go (view x) (view y) (view z)
  where
    go : {x y z : ℤ} → Dif x → Dif y → Dif z → (x *ℤ y) *ℤ z ≡ x *ℤ (y *ℤ z)
    go (of a b) (of c d) (of e f) = simp difs (dif-eq _ _ _ _ (omega arith))

pub *ℤ-+ℤ : (x y z : ℤ) → x *ℤ (y +ℤ z) ≡ x *ℤ y +ℤ x *ℤ z
*ℤ-+ℤ x y z = go (view x) (view y) (view z)
  where
    go : {x y z : ℤ} → Dif x → Dif y → Dif z → x *ℤ (y +ℤ z) ≡ x *ℤ y +ℤ x *ℤ z
    go (of a b) (of c d) (of e f) = simp difs (dif-eq _ _ _ _ (omega arith))

pub +ℤ-*ℤ : (x y z : ℤ) → (x +ℤ y) *ℤ z ≡ x *ℤ z +ℤ y *ℤ z
+ℤ-*ℤ x y z = *ℤ_comm (x +ℤ y) z ∙ *ℤ-+ℤ z x y ∙ ap₂ ◌+ℤ◌ (*ℤ_comm z x) (*ℤ_comm z y)

pub one-*ℤ : (x : ℤ) → pos 1 *ℤ x ≡ x
one-*ℤ x = go (view x)
  where
    go : {x : ℤ} → Dif x → pos 1 *ℤ x ≡ x
    go (of a b) = simp difs (dif-eq _ _ _ _ (omega arith))

pub negℤ-*ℤ : (x y : ℤ) → neg_ℤ x *ℤ y ≡ neg_ℤ (x *ℤ y)
negℤ-*ℤ x y = go (view x) (view y)
  where
    go : {x y : ℤ} → Dif x → Dif y → neg_ℤ x *ℤ y ≡ neg_ℤ (x *ℤ y)
    go (of a b) (of c d) = simp difs (dif-eq _ _ _ _ (omega arith))

pub *ℤ-negℤ : (x y : ℤ) → x *ℤ neg_ℤ y ≡ neg_ℤ (x *ℤ y)
*ℤ-negℤ x y = *ℤ_comm x (neg_ℤ y) ∙ negℤ-*ℤ y x ∙ ap neg_ℤ (*ℤ_comm y x)

-- the middle two of four summands change places
pub +ℤ-swap : (a b c d : ℤ) → (a +ℤ b) +ℤ (c +ℤ d) ≡ (a +ℤ c) +ℤ (b +ℤ d)
+ℤ-swap w x y z = go (view w) (view x) (view y) (view z)
  where
    go : {w x y z : ℤ} → Dif w → Dif x → Dif y → Dif z → (w +ℤ x) +ℤ (y +ℤ z) ≡ (w +ℤ y) +ℤ (x +ℤ z)
    go (of a b) (of c d) (of e f) (of g h) = simp difs (dif-eq _ _ _ _ (omega arith))

-- one step of Horner's rule, for a product
pub horner-*ℤ : (a x p q : ℤ) → a *ℤ q +ℤ (pos 0 +ℤ x *ℤ (p *ℤ q)) ≡ (a +ℤ x *ℤ p) *ℤ q
horner-*ℤ a x p q =
    ap (λ (z : ℤ). a *ℤ q +ℤ z) (+ℤ_idl (x *ℤ (p *ℤ q)) ∙ sym (*ℤ-assoc x p q)) ∙ sym (+ℤ-*ℤ a (x *ℤ p) q)

-- and for a sum
pub horner-+ℤ : (a b x p q : ℤ) → (a +ℤ b) +ℤ x *ℤ (p +ℤ q) ≡ (a +ℤ x *ℤ p) +ℤ (b +ℤ x *ℤ q)
horner-+ℤ a b x p q = ap (λ (z : ℤ). (a +ℤ b) +ℤ z) (*ℤ-+ℤ x p q) ∙ +ℤ-swap a b (x *ℤ p) (x *ℤ q)

-- and for a multiple
pub horner-scale : (m a x p : ℤ) → m *ℤ a +ℤ x *ℤ (m *ℤ p) ≡ m *ℤ (a +ℤ x *ℤ p)
horner-scale m a x p =
    ap (λ (z : ℤ). m *ℤ a +ℤ z) (sym (*ℤ-assoc x m p) ∙ ap (λ (z : ℤ). z *ℤ p) (*ℤ_comm x m) ∙ *ℤ-assoc m x p)
    ∙ sym (*ℤ-+ℤ m a (x *ℤ p))

-- a negation is a product by -1
pub negℤ-is : (x : ℤ) → neg_ℤ x ≡ negsuc 0 *ℤ x
negℤ-is x = ap neg_ℤ (sym (one-*ℤ x)) ∙ sym (negℤ-*ℤ (pos 1) x)

-- a difference taken the other way round
pub sub-turned : (x y : ℤ) → x -ℤ y ≡ neg_ℤ (y -ℤ x)
sub-turned x y = sym (neg_ℤ-+ℤ y (neg_ℤ x) ∙ ap (λ (z : ℤ). neg_ℤ y +ℤ z) (neg_ℤ-neg_ℤ x) ∙ +ℤ_comm (neg_ℤ y) x)

-- x - y is 0 only at equal numbers
pub eq-of-sub : (x y : ℤ) → x +ℤ neg_ℤ y ≡ pos 0 → x ≡ y
eq-of-sub x y = go (view x) (view y)
  where
    go : {x y : ℤ} → Dif x → Dif y → x +ℤ neg_ℤ y ≡ pos 0 → x ≡ y
    go (of a b) (of c d) e = let h = dif-eq-is _ _ _ _ (simp difs at e) in dif-eq _ _ _ _ (omega arith)
