-- Machine words: when a signed value fits 64 bits, and that what is read back of its bits is the value. A signed local holds bits, so what the
-- prover asks of a sum or a product speaks of values read back, to_z w64 (of_z w64 z). The datatype Word reads such an expression and carries a
-- bound on its magnitude; `search bounds` builds it, from what is known of the variables:
--     fits (search bounds depth 12) tt       proves that the expression fits
--     bound (search bounds depth 12) tt      proves that its magnitude is at most what is asked
--     plain-is (search bounds depth 12) tt   proves that it is the same without the reading back
-- What is known goes in as a Word: `known h`, with h : nat_abs x ≤ b; `count h`, with h : j ≤ b, of a number without sign; `equal e w`, with
-- e : x ≡ y, of a variable that an invariant says y of.
-- Assumes nothing.
pub mod Examples
use Rattle.std.specs.Prelude.{◌≡◌, refl, Bool, true, false, cond, ◌&&◌, ℕ, zero, suc, ◌+◌, ◌-◌, ◌*◌, ◌^◌, ◌≤◌, ◌<◌, T, eqb, leb, ltb, ℤ, pos, negsuc, neg_ℤ, nat_abs, ◌+ℤ◌, ◌-ℤ◌, ◌*ℤ◌}
use Rattle.std.proofs.Common.{sym, ap, ap₂, ◌∙◌, subst, true≢false, le_refl, le_trans, le_of_eq, lt_of_le_of_lt, lt_of_lt_of_le, add-le-add, mul-le-mul, mul-le-mul_right, div-le_self, zero-add, not-suc-le-zero, arith, leb→le, ltb→lt, ltb-true, lt-ltb, SFits, to_z, of_z, to_z-of_z}
use Rattle.std.proofs.Math.Nat.{le_step}
use Rattle.std.proofs.Math.IntN.{sub_ℕ, +ℤ_idr, -ℤ_one}
use Rattle.std.specs.Int.Signed.{mag, lt_z, quot_z}
use Rattle.std.specs.Int.{w64}
use Rattle.std.proofs.Math.Facts.{to_z_pos, and_yes}
use Rattle.whole.specs.Words.{Within}
use Rattle.whole.specs.Sum.{sum}
use Rattle.whole.proofs.Sums.{nat_abs-sum}
use Rattle.whole.proofs.Magnitudes.{nat_abs-neg, nat_abs_mul, nat_abs-add, nat_abs-quot}

-- ---- one number

pub mag-le : (z : ℤ) → mag z ≤ nat_abs z
mag-le (pos n) = le_refl n
mag-le (negsuc n) = le_step (le_refl n)

pub fits-of : {z : ℤ} {b : ℕ} → nat_abs z ≤ b → b < 2 ^ 63 → SFits w64 z
fits-of {z} h k = record { sfits = lt_of_le_of_lt (le_trans (mag-le z) h) k }

-- what is read back of an element or of a call's result, of which its range is known
pub back-of : {z : ℤ} → mag z < 2 ^ 63 → to_z w64 (of_z w64 z) ≡ z
back-of h = to_z-of_z {w = w64} (record { sfits = h })

-- from -1 up, any number of 63 bits can be taken: what is left is no less than the least number
difference-fits : (a b : ℕ) → a < 2 ^ 63 → b < 2 ^ 63 → SFits w64 (sub_ℕ a b)
difference-fits a b h k = by-test (ltb a b)
  where
    by-test : (t : Bool) → SFits w64 (cond t (negsuc (b - suc a)) (pos (a - b)))
    by-test true = record { sfits = omega arith }
    by-test false = record { sfits = omega arith }

less-fits : (z : ℤ) (k : ℕ) → lt_z z (negsuc 0) ≡ false → SFits w64 z → k < 2 ^ 63 → SFits w64 (z -ℤ pos k)
less-fits z zero e f h = rw (+ℤ_idr z) f
less-fits (pos a) (suc k) e f h = difference-fits a (suc k) f.sfits h
less-fits (negsuc zero) (suc k) e f h = record { sfits = omega arith }
less-fits (negsuc (suc a)) (suc k) e f h = absurd (true≢false (sym (lt-ltb 0 (suc a) (omega arith)) ∙ e))

pub minus-fits : (z : ℤ) (k : ℕ) → lt_z z (negsuc 0) ≡ false → SFits w64 z → k < 2 ^ 63 → SFits w64 (z -ℤ to_z w64 k)
minus-fits z k e f h = rw (to_z_pos w64 h) (less-fits z k e f h)

-- the first k terms of a sum whose terms are at most b
pub partial : (n k : ℕ) (f : ℕ → ℤ) (b : ℕ) → k ≤ n → ((i : ℕ) → i < n → nat_abs (f i) ≤ b) → nat_abs (sum k f) ≤ n * b
partial n k f b h all = le_trans (nat_abs-sum k f b (λ i l. all i (lt_of_lt_of_le l h))) (mul-le-mul_right b h)

-- ---- an expression with a bound

-- The index is the expression as the machine has it.
pub data Word : ℤ → Type 0 where
  known : {z : ℤ} {b : ℕ} → nat_abs z ≤ b → Word z
  literal : (n : ℕ) → eqb n n ≡ true → Word (pos n)
  minus-literal : (n : ℕ) → eqb n n ≡ true → Word (negsuc n)
  count : {j b : ℕ} → j ≤ b → Word (pos j)
  count-read : {j b : ℕ} → j ≤ b → Word (to_z w64 j)
  equal : {x y : ℤ} → x ≡ y → Word y → Word x
  read : {z : ℤ} → Word z → Word (to_z w64 (of_z w64 z))
  sum_of : {x y : ℤ} → Word x → Word y → Word (x +ℤ y)
  product-of : {x y : ℤ} → Word x → Word y → Word (x *ℤ y)
  negation-of : {x : ℤ} → Word x → Word (neg_ℤ x)
  quotient-of : {x y : ℤ} → Word x → Word y → Word (quot_z x y)

-- what its magnitude can be at most
abbrev pub reach : {z : ℤ} → Word z → ℕ
reach (known {b = b} h) = b
reach (literal n e) = n
reach (minus-literal n e) = suc n
reach (count {b = b} h) = b
reach (count-read {b = b} h) = b
reach (equal e w) = reach w
reach (read w) = reach w
reach (sum_of v w) = reach v + reach w
reach (product-of v w) = reach v * reach w
reach (negation-of w) = reach w
reach (quotient-of v w) = reach v

-- whatever is read back fits
abbrev pub sound : {z : ℤ} → Word z → Bool
sound (known h) = true
sound (literal n e) = true
sound (minus-literal n e) = true
sound (count h) = true
sound (count-read {b = b} h) = ltb b (2 ^ 63)
sound (equal e w) = sound w
sound (read w) = sound w && ltb (reach w) (2 ^ 63)
sound (sum_of v w) = sound v && sound w
sound (product-of v w) = sound v && sound w
sound (negation-of w) = sound w
sound (quotient-of v w) = sound v && sound w

-- the expression without the reading back
abbrev pub plain : {z : ℤ} → Word z → ℤ
plain (known {z} h) = z
plain (literal n e) = pos n
plain (minus-literal n e) = negsuc n
plain (count {j} h) = pos j
plain (count-read {j} h) = pos j
plain (equal e w) = plain w
plain (read w) = plain w
plain (sum_of v w) = plain v +ℤ plain w
plain (product-of v w) = plain v *ℤ plain w
plain (negation-of w) = neg_ℤ (plain w)
plain (quotient-of v w) = quot_z (plain v) (plain w)

-- a number that is known to be y, and to within b
abbrev pub told : {x y : ℤ} {b : ℕ} → x ≡ y → Within b x → Word x
told {b = b} e w = equal e (known (subst (λ (z : ℤ). nat_abs z ≤ b) e w.within))

left : (a b : Bool) → T (a && b) → T a
left a b t = (and_yes a b t).0

right : (a b : Bool) → T (a && b) → T b
right a b t = (and_yes a b t).1

count-read-is : {j b : ℕ} → j ≤ b → T (ltb b (2 ^ 63)) → to_z w64 j ≡ pos j
count-read-is {j} {b} h t = to_z_pos w64 (lt_of_le_of_lt h (ltb→lt b (2 ^ 63) t))

read-bounded : (z : ℤ) {b : ℕ} → nat_abs z ≤ b → b < 2 ^ 63 → nat_abs (to_z w64 (of_z w64 z)) ≤ b
read-bounded z {b} h k = subst (λ (x : ℤ). nat_abs x ≤ b) (sym (to_z-of_z {z = z} (fits-of h k))) h

bounded : {z : ℤ} (w : Word z) → T (sound w) → nat_abs z ≤ reach w
bounded (known h) t = h
bounded (literal n e) t = le_refl n
bounded (minus-literal n e) t = le_refl (suc n)
bounded (count h) t = h
bounded (count-read {j} {b} h) t = subst (λ (z : ℤ). nat_abs z ≤ b) (sym (count-read-is h t)) h
bounded (equal e w) t = subst (λ (x : ℤ). nat_abs x ≤ reach w) (sym e) (bounded w t)
bounded (read {z} w) t =
    read-bounded z (bounded w (left (sound w) _ t)) (ltb→lt (reach w) (2 ^ 63) (right (sound w) _ t))
bounded (sum_of {x} {y} v w) t =
    le_trans (nat_abs-add x y) (add-le-add (bounded v (left (sound v) _ t)) (bounded w (right (sound v) _ t)))
bounded (product-of {x} {y} v w) t =
    le_trans (le_of_eq (nat_abs_mul x y)) (mul-le-mul (bounded v (left (sound v) _ t)) (bounded w (right (sound v) _ t)))
bounded (negation-of {x} w) t = le_trans (le_of_eq (nat_abs-neg x)) (bounded w t)
bounded (quotient-of {x} {y} v w) t =
    le_trans (le_of_eq (nat_abs-quot x y))
    (le_trans (div-le_self (nat_abs x) (nat_abs y)) (bounded v (left (sound v) _ t)))

pub fits : {z : ℤ} (w : Word z) → T (sound w && ltb (reach w) (2 ^ 63)) → SFits w64 z
fits w t = fits-of (bounded w (left (sound w) _ t)) (ltb→lt (reach w) (2 ^ 63) (right (sound w) _ t))

pub bound : {z : ℤ} {b : ℕ} (w : Word z) → T (sound w && leb (reach w) b) → Within b z
bound {b = b} w t = record { within = le_trans (bounded w (left (sound w) _ t)) (leb→le (reach w) b (right (sound w) _ t)) }

-- what is read back of a value that fits
pub back : {z : ℤ} (w : Word z) → T (sound w && ltb (reach w) (2 ^ 63)) → to_z w64 (of_z w64 z) ≡ z
back w t = to_z-of_z (fits w t)

pub plain-is : {z : ℤ} (w : Word z) → T (sound w) → z ≡ plain w
plain-is (known h) t = refl
plain-is (literal n e) t = refl
plain-is (minus-literal n e) t = refl
plain-is (count h) t = refl
plain-is (count-read h) t = count-read-is h t
plain-is (equal e w) t = e ∙ plain-is w t
plain-is (read w) t = back w t ∙ plain-is w (left (sound w) _ t)
plain-is (sum_of v w) t = ap₂ ◌+ℤ◌ (plain-is v (left (sound v) _ t)) (plain-is w (right (sound v) _ t))
plain-is (product-of v w) t = ap₂ ◌*ℤ◌ (plain-is v (left (sound v) _ t)) (plain-is w (right (sound v) _ t))
plain-is (negation-of w) t = ap neg_ℤ (plain-is w t)
plain-is (quotient-of v w) t = ap₂ quot_z (plain-is v (left (sound v) _ t)) (plain-is w (right (sound v) _ t))

-- what `search` reads an expression by
pub ruleset bounds = (read, sum_of, product-of, negation-of, quotient-of, literal, minus-literal)

-- ---- numbers below 0

one_less : (a : ℕ) → negsuc 0 -ℤ negsuc a ≡ pos a
one_less a = -ℤ_one (pos (suc a))

pub minus-one-less : (k : ℕ) → negsuc 0 -ℤ pos k ≡ negsuc k
minus-one-less zero = refl
minus-one-less (suc k) = ap (λ (j : ℕ). negsuc (suc j)) (zero-add k)

-- for v below 0, -1 - v is its distance from -1
pub turned : (v : ℤ) → lt_z v (pos 0) ≡ true → negsuc 0 -ℤ v ≡ pos (mag v)
turned (pos a) t = absurd (not-suc-le-zero (ltb-true a 0 t))
turned (negsuc a) t = one_less a
