-- Floats that are whole numbers: what the test of a coordinate says of m * 2 ^ e.
-- Assumes nothing.
use mathlib.Core.Path.{◌≡◌, refl, sym, ap, ap₂, ◌∙◌, subst}
use mathlib.Core.Logic.{◌⊎◌, inl, inr}
use mathlib.Core.Bool.{Bool, true, false, not, cond, ◌&&◌, ◌||◌, beq, and-true, or-true, true≢false}
use Prim.Native.Nat.{ℕ, zero, suc, ◌*◌, ◌/◌, ◌%◌, ◌^◌, ◌≤◌, ◌<◌}
use native.Mathlib.Nat.{mul-one, mul-mod_left, mul-div_cancel, zero-mul, mod-one, mul_right_comm, eq_of_mul-eq-mul_right, pow-suc}
use native.Mathlib.Omega.{arith}
use lib.Dec.{T, leb, ltb, eqb, ltb→lt, eqb-suc-zero}
use lib.IntN.{ℤ, pos, negsuc, neg_ℤ, nat_abs}
use lib.Pow.{pow_pos}
use lib.Ieee.{Float, nan, inf, fin, binary64, up, down, lt, eq, of_int, in_signed, fits}
use lib.Ieee as ieee
use lib.Ieee.Fits.{and_l, and_r, down_pos}
use lib.Ieee.Exact.{HasValue}
use lib.Ieee.Back.{round_whole}
use borrow.Author.Tests.{eqb-true, eq-eqb, le-leb, lt-ltb, leb-false}
use Rattle.std.specs.Float.{float_is_finite}
use Rattle.limits.proofs.Laws.{both, eqb_same}
use Rattle.path.specs.Coordinate.{whole, coordinate_beyond, millimetres, coordinate_limit}
use Rattle.path.proofs.Ranges.{in_range, quotient-bound, within-limit}

beq-eq : (a b : Bool) → beq a b ≡ true → a ≡ b
beq-eq true true h = refl
beq-eq true false h = absurd (true≢false (sym h))
beq-eq false true h = absurd (true≢false (sym h))
beq-eq false false h = refl

nothing : (q a b : ℕ) → 0 < a → 0 < b → q * a * b ≡ 0 → q ≡ 0
nothing q a b h k e =
    eq_of_mul-eq-mul_right a h q 0 (eq_of_mul-eq-mul_right b k (q * a) (0 * a) (e ∙ sym (ap (λ (x : ℕ). x * b) (zero-mul a) ∙ zero-mul b)))

-- a float that stands for ±q beside fin s m e
module _ (s : Bool) (m : ℕ) (e : ℤ) (t : Bool) (q : ℕ) where
  sides : (n : ℕ) (d : ℤ) → n * up d * 1 ≡ q * down d → n * up d * down e ≡ q * down e * down d
  sides n d v = ap (λ (x : ℕ). x * down e) (sym (mul-one (n * up d)) ∙ v) ∙ mul_right_comm q (down d) (down e)

  levels : (n : ℕ) (d : ℤ) → n * up d * 1 ≡ q * down d → eqb (n * up d * down e) (m * up e * down d) ≡ eqb (q * down e) (m * up e)
  levels n d v =
      ap (λ (x : ℕ). eqb x (m * up e * down d)) (sides n d v)
      ∙ eqb_same (q * down e * down d) (m * up e * down d) (q * down e) (m * up e)
      (eq_of_mul-eq-mul_right (down d) (down_pos d) (q * down e) (m * up e))
      (ap (λ (x : ℕ). x * down d))

  either : (beq t s ≡ true) ⊎ (q ≡ 0) → (n : ℕ) (d : ℤ) → n * up d * 1 ≡ q * down d → (beq t s || eqb (n * up d * down e) 0) ≡ true
  either signs n d v = go signs
    where
      none : q ≡ 0 → n * up d * down e ≡ 0
      none z = sides n d v ∙ ap (λ (x : ℕ). x * down e * down d) z ∙ zeros
        where
          zeros : 0 * down e * down d ≡ 0
          zeros = ap (λ (x : ℕ). x * down d) (zero-mul (down e)) ∙ zero-mul (down d)

      go : (beq t s ≡ true) ⊎ (q ≡ 0) → (beq t s || eqb (n * up d * down e) 0) ≡ true
      go (inl h) = ap (λ (b : Bool). b || eqb (n * up d * down e) 0) h
      go (inr z) = ap (λ (b : Bool). beq t s || b) (eq-eqb (n * up d * down e) 0 (none z)) ∙ or-true (beq t s)

  pub value-eq : (beq t s ≡ true) ⊎ (q ≡ 0) → (y : Float) → HasValue y t q 1 → eq y (fin s m e) ≡ eqb (q * down e) (m * up e)
  unfolding eq
  value-eq signs nan v = absurd v
  value-eq signs (inf u) v = absurd v
  value-eq signs (fin u n d) v =
      ap (λ (w : Bool). eqb (n * up d * down e) (m * up e * down d) && (beq w s || eqb (n * up d * down e) 0)) v.0
      ∙ ap₂ (λ (a b : Bool). a && b) (levels n d v.1) (either signs n d v.1)
      ∙ and-true (eqb (q * down e) (m * up e))

  -- and back: a float that equals it stands for the same number
  back-eq : (y : Float) → HasValue y t q 1 → eq y (fin s m e) ≡ true → (q * down e ≡ m * up e) × ((t ≡ s) ⊎ (q ≡ 0))
  unfolding eq
  back-eq nan v h = absurd v
  back-eq (inf u) v h = absurd v
  back-eq (fin u n d) v h =
      let p = both (eqb (n * up d * down e) (m * up e * down d)) (beq u s || eqb (n * up d * down e) 0) h in
      (eqb-true (q * down e) (m * up e) (sym (levels n d v.1) ∙ p.0), signs (beq u s) refl p.1)
    where
      signs : (b : Bool) → beq u s ≡ b → (b || eqb (n * up d * down e) 0) ≡ true → (t ≡ s) ⊎ (q ≡ 0)
      signs true g k = inl (sym v.0 ∙ beq-eq u s g)
      signs false g k =
          inr (nothing q (down e) (down d) (down_pos e) (down_pos d) (sym (sides n d v.1) ∙ eqb-true (n * up d * down e) 0 k))

-- from 2^52 on there is no fraction left
pub large : (s : Bool) (m : ℕ) (e : ℤ) → T (fits binary64 (fin s m e)) → 4503599627370496 * down e ≤ m * up e → whole (fin s m e) ≡ true
unfolding whole fits
large s m (pos k) f h = eq-eqb (m * 2 ^ k % 1) 0 (mod-one (m * 2 ^ k))
large s zero (negsuc k) f h = absurd (omega (arith, pow_pos (suc k)))
large s (suc m) (negsuc k) f h =
    absurd (few (suc m) (2 ^ k) (digits (eqb (suc m % 2) 1) _ _ f) (pow_pos k) (subst (λ (d : ℕ). 4503599627370496 * d ≤ suc m * 1) (pow-suc 2 k) h))
  where
    digits : (a c d : Bool) → T (a && ltb (suc m) (2 ^ 53) && c && d) → suc m < 9007199254740992
    digits a c d t = ltb→lt (suc m) 9007199254740992 (and_r a (ltb (suc m) (2 ^ 53)) (and_l (a && ltb (suc m) (2 ^ 53)) c (and_l (a && ltb (suc m) (2 ^ 53) && c) d t)))

    few : (n d : ℕ) → n < 9007199254740992 → 0 < d → 4503599627370496 * (d * 2) ≤ n * 1 → ⊥
    few n d a b c = omega arith

-- past ±2^52 it is whole where it is finite
pub far-whole : (x : Float) → T (fits binary64 x) → in_range 4503599627370496 x ≡ false → float_is_finite x ≡ whole x
unfolding float_is_finite whole
far-whole nan f h = refl
far-whole (inf true) f h = refl
far-whole (inf false) f h = refl
far-whole (fin s m e) f h = sym (large s m e f (omega (arith, leb-false (m * up e) (4503599627370496 * down e) h)))

-- ---- a whole number whose float is x is the one that x is

eq-nan : (y : Float) → eq y nan ≡ false
unfolding eq
eq-nan nan = refl
eq-nan (inf s) = refl
eq-nan (fin s m e) = refl

eq-inf : (y : Float) (t u : Bool) (q : ℕ) → HasValue y t q 1 → eq y (inf u) ≡ false
unfolding eq
eq-inf nan t u q v = absurd v
eq-inf (inf s) t u q v = absurd v
eq-inf (fin s m e) t u q v = refl

-- the number that a whole number's float stands for
pub right-value : (s : Bool) (m : ℕ) (e : ℤ) (t : Bool) (q : ℕ) (y : Float) → HasValue y t q 1 → eq y (fin s m e) ≡ true
    → (whole (fin s m e) ≡ true) × (m * up e / down e ≡ q) × ((t ≡ s) ⊎ (q ≡ 0))
unfolding whole
right-value s m e t q y v h =
    let b = back-eq s m e t q y v h in (
      eq-eqb (m * up e % down e) 0 (ap (λ (k : ℕ). k % down e) (sym b.0) ∙ mul-mod_left q (down e)),
      ap (λ (k : ℕ). k / down e) (sym b.0) ∙ mul-div_cancel q (down_pos e),
      b.1,
    )

above_zero : (s : Bool) (n : ℕ) → (false ≡ s) ⊎ (n ≡ 0) → pos n ≡ cond s (neg_ℤ (pos n)) (pos n)
above_zero false n h = refl
above_zero true n (inl h) = absurd (true≢false (sym h))
above_zero true n (inr z) = subst (λ (k : ℕ). pos k ≡ neg_ℤ (pos k)) (sym z) refl

below-zero : (s : Bool) (n : ℕ) → (true ≡ s) ⊎ (suc n ≡ 0) → negsuc n ≡ cond s (neg_ℤ (pos (suc n))) (pos (suc n))
below-zero true n h = refl
below-zero false n (inl h) = absurd (true≢false h)
below-zero false n (inr z) = absurd (omega arith)

pub right_of : (x : Float) (t : ℤ) → nat_abs t ≤ 9007199254740992 → eq (of_int binary64 t) x ≡ true → (whole x ≡ true) × (t ≡ millimetres x)
unfolding millimetres of_int
right_of nan t b h = absurd (true≢false (sym h ∙ eq-nan (of_int binary64 t)))
right_of (inf s) (pos n) b h = absurd (true≢false (sym h ∙ eq-inf _ false s n (round_whole binary64 false n b)))
right_of (inf s) (negsuc n) b h = absurd (true≢false (sym h ∙ eq-inf _ true s (suc n) (round_whole binary64 true (suc n) b)))
right_of (fin s m e) (pos n) b h =
    let r = right-value s m e false n _ (round_whole binary64 false n b) h in
    (r.0, subst (λ (k : ℕ). pos n ≡ cond s (neg_ℤ (pos k)) (pos k)) (sym r.1) (above_zero s n r.2))
right_of (fin s m e) (negsuc n) b h =
    let r = right-value s m e true (suc n) _ (round_whole binary64 true (suc n) b) h in
    (r.0, subst (λ (k : ℕ). negsuc n ≡ cond s (neg_ℤ (pos k)) (pos k)) (sym r.1) (below-zero s n r.2))

-- ---- where the cast to an integer is defined: of a whole number that is not minus zero

zero-eq : (s : Bool) (e : ℤ) → eq (fin false 0 (pos 0)) (fin s 0 e) ≡ true
unfolding eq
zero-eq s e =
    (λ i. eqb (first i) (second i) && (beq false s || eqb (first i) 0)) ∙ or-true (beq false s)
  where
    first : 0 * up (pos 0) * down e ≡ 0
    first = ap (λ (n : ℕ). n * down e) (zero-mul (up (pos 0))) ∙ zero-mul (down e)

    second : 0 * up e * down (pos 0) ≡ 0
    second = ap (λ (n : ℕ). n * down (pos 0)) (zero-mul (up e)) ∙ zero-mul (down (pos 0))

signed : (s : Bool) (m : ℕ) (e : ℤ) → eq (fin false 0 (pos 0)) (fin s m e) ≡ false → not (s && eqb m 0) ≡ true
signed s zero e h = absurd (true≢false (sym (zero-eq s e) ∙ h))
signed true (suc m) e h = ap not (eqb-suc-zero m)
signed false (suc m) e h = refl

pub castable : (x : Float) → whole x ≡ true → coordinate_beyond x ≡ false → eq (fin false 0 (pos 0)) x ≡ false → T (in_signed binary64 63 x)
unfolding whole in_signed ieee.whole
castable nan h k z = absurd (true≢false (sym h))
castable (inf s) h k z = absurd (true≢false (sym h))
castable (fin s m e) h k z =
    subst T (sym (λ i. h i && few i && signed s m e z i && side s i)) tt
  where
    q : m * up e / down e ≤ coordinate_limit
    q = quotient-bound (m * up e) (down e) coordinate_limit (down_pos e) (within-limit (fin s m e) k)

    few : leb (m * up e / down e) 9007199254740992 ≡ true
    few = le-leb (m * up e / down e) 9007199254740992 (omega (arith, q))

    side : (s : Bool) → cond s (leb (m * up e / down e) 9223372036854775808) (ltb (m * up e / down e) 9223372036854775808) ≡ true
    side true = le-leb (m * up e / down e) 9223372036854775808 (omega (arith, q))
    side false = lt-ltb (m * up e / down e) 9223372036854775808 (omega (arith, q))
