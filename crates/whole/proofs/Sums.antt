-- Laws of finite sums (module Sum): equal terms, linearity, order, bounds and splitting.
-- An equation between linear combinations of sums over the same range is proved term by term:
--     sum-eq n (search sums depth 12) (λ i h. identity .. (search quote depth 20) tt)
-- Assumes nothing.
pub mod Examples
use Rattle.std.specs.Prelude.{◌≡◌, refl, ℕ, zero, suc, ◌+◌, ◌*◌, ◌≤◌, ◌<◌, ℤ, pos, neg_ℤ, nat_abs, ◌+ℤ◌, ◌*ℤ◌}
use Rattle.std.proofs.Common.{sym, ap, ap₂, ◌∙◌, subst, subst₂, add-zero, add-suc, lt-suc_self}
use Rattle.std.proofs.Math.Nat.{le_step}
use Rattle.std.proofs.Math.IntN.{+ℤ_idl, +ℤ_idr, +ℤ_assoc, *ℤ-zero, zero-*ℤ, neg_ℤ-+ℤ, suc_ℤ-*ℤ, *ℤ_comm}
use Rattle.whole.specs.Square.{squared, magnitude}
use Rattle.whole.specs.Sum.{sum}
use Rattle.whole.proofs.Ring.{*ℤ-+ℤ, +ℤ-swap}
use Rattle.whole.specs.Order.{◌⩽◌}
use Rattle.whole.proofs.Order.{le_refl, le_trans, add-le, square-nonneg, pos-le, pos-le-is}
use Rattle.whole.proofs.Magnitudes.{magnitude-add}

-- ---- terms

pub sum-cong : (n : ℕ) {f g : ℕ → ℤ} → ((i : ℕ) → i < n → f i ≡ g i) → sum n f ≡ sum n g
unfolding sum
sum-cong zero h = refl
sum-cong (suc n) h = ap₂ ◌+ℤ◌ (sum-cong n (λ i k. h i (le_step k))) (h n (lt-suc_self n))

-- one term more
pub sum-suc : (n : ℕ) (f : ℕ → ℤ) → sum (suc n) f ≡ sum n f +ℤ f n
unfolding sum
sum-suc n f = refl

-- ---- linearity

pub sum-zero : (n : ℕ) → sum n (λ i. pos 0) ≡ pos 0
unfolding sum
sum-zero zero = refl
sum-zero (suc n) = ap (λ (z : ℤ). z +ℤ pos 0) (sum-zero n)

pub sum-add : (n : ℕ) (f g : ℕ → ℤ) → sum n f +ℤ sum n g ≡ sum n (λ i. f i +ℤ g i)
unfolding sum
sum-add zero f g = refl
sum-add (suc n) f g =
    +ℤ-swap (sum n f) (f n) (sum n g) (g n) ∙ ap (λ (z : ℤ). z +ℤ (f n +ℤ g n)) (sum-add n f g)

pub sum-scale : (n : ℕ) (k : ℤ) (f : ℕ → ℤ) → k *ℤ sum n f ≡ sum n (λ i. k *ℤ f i)
unfolding sum
sum-scale zero k f = *ℤ-zero k
sum-scale (suc n) k f = *ℤ-+ℤ k (sum n f) (f n) ∙ ap (λ (z : ℤ). z +ℤ k *ℤ f n) (sum-scale n k f)

pub sum-neg : (n : ℕ) (f : ℕ → ℤ) → neg_ℤ (sum n f) ≡ sum n (λ i. neg_ℤ (f i))
unfolding sum
sum-neg zero f = refl
sum-neg (suc n) f = neg_ℤ-+ℤ (sum n f) (f n) ∙ ap (λ (z : ℤ). z +ℤ neg_ℤ (f n)) (sum-neg n f)

pub sum-constant : (n : ℕ) (c : ℤ) → pos n *ℤ c ≡ sum n (λ i. c)
unfolding sum
sum-constant zero c = zero-*ℤ c
sum-constant (suc n) c = suc_ℤ-*ℤ (pos n) c ∙ ap (λ (z : ℤ). z +ℤ c) (sum-constant n c)

-- ---- order

pub sum-le : (n : ℕ) {f g : ℕ → ℤ} → ((i : ℕ) → i < n → f i ⩽ g i) → sum n f ⩽ sum n g
unfolding sum
sum-le zero h = le_refl (pos 0)
sum-le (suc n) h = add-le (sum-le n (λ i k. h i (le_step k))) (h n (lt-suc_self n))

pub sum_nonneg : (n : ℕ) {f : ℕ → ℤ} → ((i : ℕ) → i < n → pos 0 ⩽ f i) → pos 0 ⩽ sum n f
sum_nonneg n {f} h = subst (λ (z : ℤ). z ⩽ sum n f) (sum-zero n) (sum-le n h)

pub sum-squares-nonneg : (n : ℕ) (f : ℕ → ℤ) → pos 0 ⩽ sum n (λ i. squared (f i))
sum-squares-nonneg n f = sum_nonneg n (λ i h. square-nonneg (f i))

-- |f 0 + .. + f (n - 1)| is at most |f 0| + .. + |f (n - 1)|
pub magnitude-sum : (n : ℕ) (f : ℕ → ℤ) → magnitude (sum n f) ⩽ sum n (λ i. magnitude (f i))
unfolding sum
magnitude-sum zero f = le_refl (pos 0)
magnitude-sum (suc n) f = le_trans (magnitude-add (sum n f) (f n)) (add-le (magnitude-sum n f) (le_refl (magnitude (f n))))

-- and at most n b where no term is larger than b
pub magnitude-sum-le : (n : ℕ) (f : ℕ → ℤ) {b : ℤ} → ((i : ℕ) → i < n → magnitude (f i) ⩽ b) → magnitude (sum n f) ⩽ pos n *ℤ b
magnitude-sum-le n f {b} h =
    le_trans (magnitude-sum n f) (subst (λ (z : ℤ). sum n (λ i. magnitude (f i)) ⩽ z) (sym (sum-constant n b)) (sum-le n h))

pub nat_abs-sum : (n : ℕ) (f : ℕ → ℤ) (b : ℕ) → ((i : ℕ) → i < n → nat_abs (f i) ≤ b) → nat_abs (sum n f) ≤ n * b
nat_abs-sum n f b h = pos-le-is (magnitude-sum-le n f (λ i k. pos-le (h i k)))

-- ---- splitting

pub sum-split : (m n : ℕ) (f : ℕ → ℤ) → sum (m + n) f ≡ sum m f +ℤ sum n (λ i. f (m + i))
unfolding sum
sum-split m zero f = ap (λ (k : ℕ). sum k f) (add-zero m) ∙ sym (+ℤ_idr (sum m f))
sum-split m (suc n) f =
    ap (λ (k : ℕ). sum k f) (add-suc m n)
    ∙ ap (λ (z : ℤ). z +ℤ f (m + n)) (sum-split m n f)
    ∙ +ℤ_assoc (sum m f) (sum n (λ i. f (m + i))) (f (m + n))

-- the first term and the others
pub sum_first : (n : ℕ) (f : ℕ → ℤ) → sum (suc n) f ≡ f 0 +ℤ sum n (λ i. f (suc i))
unfolding sum
sum_first zero f = +ℤ_idl (f 0) ∙ sym (+ℤ_idr (f 0))
sum_first (suc n) f =
    ap (λ (z : ℤ). z +ℤ f (suc n)) (sum_first n f) ∙ +ℤ_assoc (f 0) (sum n (λ i. f (suc i))) (f (suc n))

-- ---- linear combinations of sums over the same range

-- A combination whose value is z.
pub data Combination (n : ℕ) : ℤ → Type 0 where
  one-sum : (f : ℕ → ℤ) → Combination n (sum n f)
  added : {x y : ℤ} → Combination n x → Combination n y → Combination n (x +ℤ y)
  negated : {x : ℤ} → Combination n x → Combination n (neg_ℤ x)
  multiple : (k : ℤ) {x : ℤ} → Combination n x → Combination n (k *ℤ x)
  multiple-right : {x : ℤ} (k : ℤ) → Combination n x → Combination n (x *ℤ k)
  repeated : (c : ℤ) → Combination n (pos n *ℤ c)
  nothing : Combination n (pos 0)

-- its terms: it is the sum of them
abbrev pub terms : {n : ℕ} {z : ℤ} → Combination n z → ℕ → ℤ
terms (one-sum f) i = f i
terms (added a b) i = terms a i +ℤ terms b i
terms (negated a) i = neg_ℤ (terms a i)
terms (multiple k a) i = k *ℤ terms a i
terms (multiple-right k a) i = terms a i *ℤ k
terms (repeated c) i = c
terms nothing i = pos 0

terms-sum : {n : ℕ} {z : ℤ} (c : Combination n z) → z ≡ sum n (terms c)
terms-sum (one-sum f) = refl
terms-sum {n} (added a b) = ap₂ ◌+ℤ◌ (terms-sum a) (terms-sum b) ∙ sum-add n (terms a) (terms b)
terms-sum {n} (negated a) = ap neg_ℤ (terms-sum a) ∙ sum-neg n (terms a)
terms-sum {n} (multiple k a) = ap (λ (z : ℤ). k *ℤ z) (terms-sum a) ∙ sum-scale n k (terms a)
terms-sum {n} (multiple-right {x} k a) =
    *ℤ_comm x k
    ∙ ap (λ (z : ℤ). k *ℤ z) (terms-sum a)
    ∙ sum-scale n k (terms a)
    ∙ sum-cong n (λ i h. *ℤ_comm k (terms a i))
terms-sum {n} (repeated c) = sum-constant n c
terms-sum {n} nothing = sym (sum-zero n)

pub data Combinations (n : ℕ) : ℤ → ℤ → Type 0 where
  combinations : {x y : ℤ} → Combination n x → Combination n y → Combinations n x y

abbrev pub left-terms : {n : ℕ} {x y : ℤ} → Combinations n x y → ℕ → ℤ
left-terms (combinations a b) = terms a

abbrev pub right-terms : {n : ℕ} {x y : ℤ} → Combinations n x y → ℕ → ℤ
right-terms (combinations a b) = terms b

pub sum-eq : (n : ℕ) {x y : ℤ} (c : Combinations n x y) → ((i : ℕ) → i < n → left-terms c i ≡ right-terms c i) → x ≡ y
sum-eq n (combinations a b) h = terms-sum a ∙ sum-cong n h ∙ sym (terms-sum b)

pub sums-le : (n : ℕ) {x y : ℤ} (c : Combinations n x y) → ((i : ℕ) → i < n → left-terms c i ⩽ right-terms c i) → x ⩽ y
sums-le n (combinations a b) h = subst₂ ◌⩽◌ (sym (terms-sum a)) (sym (terms-sum b)) (sum-le n h)

-- what `search` reads a combination by
pub ruleset sums = (combinations, added, negated, one-sum, multiple, multiple-right, repeated, nothing)
