-- A whole number as a difference of two natural numbers. Each law of the ring and of the order becomes a law of natural numbers,
-- which omega proves by multiplying out: see the module Ring for its use.
-- Assumes nothing.
use Rattle.std.specs.Prelude.{◌≡◌, refl, ℕ, zero, suc, ◌+◌, ◌*◌, ◌-◌, ◌≤◌, ◌<◌, T, ℤ, pos, negsuc, neg_ℤ, ◌+ℤ◌, ◌*ℤ◌, ◌≤ℤ◌, ◌<ℤ◌}
use Rattle.std.proofs.Common.{sym, ap, ap₂, ◌∙◌, subst, add-sub_of_le, arith, leb→le, le→leb, ltb→lt, lt→ltb, lt-ltb, le-ltb}
use Rattle.std.proofs.Math.Decide.{dec_le}
use Rattle.std.proofs.Math.IntN.{sub_ℕ}
use Rattle.std.specs.Int.Signed.{le_z, lt_z}

-- The part of a whole number above 0, and the part below.
abbrev pub above : ℤ → ℕ
above (pos n) = n
above (negsuc n) = 0

abbrev pub below : ℤ → ℕ
below (pos n) = 0
below (negsuc n) = suc n

-- a - b
pub dif : ℕ → ℕ → ℤ
dif a b = sub_ℕ a b

-- which of two numbers is the larger, and by how much
data Sign : ℕ → ℕ → Type 0 where
  up : (b k : ℕ) → Sign (b + k) b
  down : (a k : ℕ) → Sign a (a + suc k)

sign : (a b : ℕ) → Sign a b
sign a b = go (dec_le b a)
  where
    raise : (h : b ≤ a) → Sign a b
    raise h = subst (λ (x : ℕ). Sign x b) (add-sub_of_le h) (up b (a - b))

    lower : (¬ (b ≤ a)) → a + suc (b - suc a) ≡ b
    lower h = omega arith

    go : Dec (b ≤ a) → Sign a b
    go (yes h) = raise h
    go (no h) = subst (λ (x : ℕ). Sign a x) (lower h) (down a (b - suc a))

dif-up : (b k : ℕ) → dif (b + k) b ≡ pos k
unfolding dif
dif-up b k = simp (le-ltb (b + k) b (omega arith)) (ap pos (omega arith))

dif-down : (a k : ℕ) → dif a (a + suc k) ≡ negsuc k
unfolding dif
dif-down a k = simp (lt-ltb a (a + suc k) (omega arith)) (ap negsuc (omega arith))

pub pos-dif : (k : ℕ) → pos k ≡ dif k 0
pos-dif k = sym (dif-up 0 k) ∙ ap (λ (x : ℕ). dif x 0) (omega arith)

negsuc-dif : (k : ℕ) → negsuc k ≡ dif 0 (suc k)
negsuc-dif k = sym (dif-down 0 k) ∙ ap (λ (x : ℕ). dif 0 x) (omega arith)

neg-pos-dif : (k : ℕ) → neg_ℤ (pos k) ≡ dif 0 k
neg-pos-dif zero = pos-dif 0
neg-pos-dif (suc k) = negsuc-dif k

-- every whole number is one
pub dif-of : (z : ℤ) → z ≡ dif (above z) (below z)
dif-of (pos n) = pos-dif n
dif-of (negsuc n) = negsuc-dif n

-- equal differences
same : (a b c d k : ℕ) → a ≡ b + k → c ≡ d + k → dif a b ≡ dif c d
same a b c d k p q =
    ap (λ (x : ℕ). dif x b) p ∙ dif-up b k ∙ sym (dif-up d k) ∙ ap (λ (x : ℕ). dif x d) (sym q)

same-down : (a b c d k : ℕ) → b ≡ a + suc k → d ≡ c + suc k → dif a b ≡ dif c d
same-down a b c d k p q =
    ap (λ (x : ℕ). dif a x) p ∙ dif-down a k ∙ sym (dif-down c k) ∙ ap (λ (x : ℕ). dif c x) (sym q)

eq-go : {a b : ℕ} → Sign a b → (c d : ℕ) → a + d ≡ c + b → dif a b ≡ dif c d
eq-go (up b k) c d e = same (b + k) b c d k refl (omega arith)
eq-go (down a k) c d e = same-down a (a + suc k) c d k refl (omega arith)

pub dif-eq : (a b c d : ℕ) → a + d ≡ c + b → dif a b ≡ dif c d
dif-eq a b c d e = eq-go (sign a b) c d e

-- the operations
pub dif_neg : (a b : ℕ) → neg_ℤ (dif a b) ≡ dif b a
dif_neg a b = go (sign a b)
  where
    go : {a b : ℕ} → Sign a b → neg_ℤ (dif a b) ≡ dif b a
    go (up b k) = ap neg_ℤ (dif-up b k) ∙ neg-pos-dif k ∙ dif-eq _ _ _ _ (omega arith)
    go (down a k) = ap neg_ℤ (dif-down a k) ∙ pos-dif (suc k) ∙ dif-eq _ _ _ _ (omega arith)

add-sub : (a b : ℕ) → sub_ℕ a b ≡ dif a b
unfolding dif
add-sub a b = refl

pub dif-add : (a b c d : ℕ) → dif a b +ℤ dif c d ≡ dif (a + c) (b + d)
dif-add a b c d = go (sign a b) (sign c d)
  where
    go : {a b c d : ℕ} → Sign a b → Sign c d → dif a b +ℤ dif c d ≡ dif (a + c) (b + d)
    go (up b k) (up d l) = ap₂ ◌+ℤ◌ (dif-up b k) (dif-up d l) ∙ pos-dif (k + l) ∙ dif-eq _ _ _ _ (omega arith)
    go (up b k) (down c l) =
        ap₂ ◌+ℤ◌ (dif-up b k) (dif-down c l) ∙ add-sub k (suc l) ∙ dif-eq _ _ _ _ (omega arith)
    go (down a k) (up d l) =
        ap₂ ◌+ℤ◌ (dif-down a k) (dif-up d l) ∙ add-sub l (suc k) ∙ dif-eq _ _ _ _ (omega arith)
    go (down a k) (down c l) =
        ap₂ ◌+ℤ◌ (dif-down a k) (dif-down c l) ∙ negsuc-dif (suc (k + l)) ∙ dif-eq _ _ _ _ (omega arith)

pub dif-mul : (a b c d : ℕ) → dif a b *ℤ dif c d ≡ dif (a * c + b * d) (a * d + b * c)
dif-mul a b c d = go (sign a b) (sign c d)
  where
    go : {a b c d : ℕ} → Sign a b → Sign c d → dif a b *ℤ dif c d ≡ dif (a * c + b * d) (a * d + b * c)
    go (up b k) (up d l) = ap₂ ◌*ℤ◌ (dif-up b k) (dif-up d l) ∙ pos-dif (k * l) ∙ dif-eq _ _ _ _ (omega arith)
    go (up b k) (down c l) =
        ap₂ ◌*ℤ◌ (dif-up b k) (dif-down c l) ∙ neg-pos-dif (k * suc l) ∙ dif-eq _ _ _ _ (omega arith)
    go (down a k) (up d l) =
        ap₂ ◌*ℤ◌ (dif-down a k) (dif-up d l) ∙ neg-pos-dif (suc k * l) ∙ dif-eq _ _ _ _ (omega arith)
    go (down a k) (down c l) =
        ap₂ ◌*ℤ◌ (dif-down a k) (dif-down c l) ∙ pos-dif (suc k * suc l) ∙ dif-eq _ _ _ _ (omega arith)

-- what an equation or an order between differences says of the natural numbers
pub dif-eq-is : (a b c d : ℕ) → dif a b ≡ dif c d → a + d ≡ c + b
dif-eq-is a b c d e = go (sign a b) (sign c d) e
  where
    go : {a b c d : ℕ} → Sign a b → Sign c d → dif a b ≡ dif c d → a + d ≡ c + b
    go (up b k) (up d l) e = let h : k ≡ l = cc (dif-up b k, dif-up d l) in omega arith
    go (up b k) (down c l) e = let h : ◌≡◌ {A = ℕ} 0 1 = cc (dif-up b k, dif-down c l) in omega arith
    go (down a k) (up d l) e = let h : ◌≡◌ {A = ℕ} 0 1 = cc (dif-down a k, dif-up d l) in omega arith
    go (down a k) (down c l) e = let h : k ≡ l = cc (dif-down a k, dif-down c l) in omega arith

pub dif-le : (a b c d : ℕ) → a + d ≤ c + b → dif a b ≤ℤ dif c d
dif-le a b c d h = record { le = go (sign a b) (sign c d) h }
  where
    go : {a b c d : ℕ} → Sign a b → Sign c d → a + d ≤ c + b → T (le_z (dif a b) (dif c d))
    go (up b k) (up d l) h = rw (dif-up b k, dif-up d l) (le→leb k l (omega arith))
    go (up b k) (down c l) h = absurd (omega arith)
    go (down a k) (up d l) h = rw (dif-down a k, dif-up d l) tt
    go (down a k) (down c l) h = rw (dif-down a k, dif-down c l) (le→leb l k (omega arith))

pub dif-le-is : (a b c d : ℕ) → dif a b ≤ℤ dif c d → a + d ≤ c + b
dif-le-is a b c d h = go (sign a b) (sign c d) h.le
  where
    go : {a b c d : ℕ} → Sign a b → Sign c d → T (le_z (dif a b) (dif c d)) → a + d ≤ c + b
    go (up b k) (up d l) h = let x : k ≤ l = leb→le k l (rw (dif-up b k, dif-up d l) at h) in omega arith
    go (up b k) (down c l) h = absurd (rw (dif-up b k, dif-down c l) at h)
    go (down a k) (up d l) h = omega arith
    go (down a k) (down c l) h = let x : l ≤ k = leb→le l k (rw (dif-down a k, dif-down c l) at h) in omega arith

pub dif-lt : (a b c d : ℕ) → a + d < c + b → dif a b <ℤ dif c d
dif-lt a b c d h = record { lt = go (sign a b) (sign c d) h }
  where
    go : {a b c d : ℕ} → Sign a b → Sign c d → a + d < c + b → T (lt_z (dif a b) (dif c d))
    go (up b k) (up d l) h = rw (dif-up b k, dif-up d l) (lt→ltb k l (omega arith))
    go (up b k) (down c l) h = absurd (omega arith)
    go (down a k) (up d l) h = rw (dif-down a k, dif-up d l) tt
    go (down a k) (down c l) h = rw (dif-down a k, dif-down c l) (lt→ltb l k (omega arith))

pub dif-lt-is : (a b c d : ℕ) → dif a b <ℤ dif c d → a + d < c + b
dif-lt-is a b c d h = go (sign a b) (sign c d) h.lt
  where
    go : {a b c d : ℕ} → Sign a b → Sign c d → T (lt_z (dif a b) (dif c d)) → a + d < c + b
    go (up b k) (up d l) h = let x : k < l = ltb→lt k l (rw (dif-up b k, dif-up d l) at h) in omega arith
    go (up b k) (down c l) h = absurd (rw (dif-up b k, dif-down c l) at h)
    go (down a k) (up d l) h = omega arith
    go (down a k) (down c l) h = let x : l < k = ltb→lt l k (rw (dif-down a k, dif-down c l) at h) in omega arith

-- Every whole number seen as a difference: a law over z is proved at `of a b`.
pub data Dif : ℤ → Type 0 where
  of : (a b : ℕ) → Dif (dif a b)

pub view : (z : ℤ) → Dif z
view z = subst Dif (sym (dif-of z)) (of (above z) (below z))

-- what `simp` brings an expression to one difference by
pub ruleset difs = (dif-add, dif-mul, dif_neg, pos-dif)
