-- A float within ±2^52, after 2^52 was added and taken away again, or taken away and added: it is the same where it is a whole number, and only there.
-- Assumes nothing.
use mathlib.Core.Path.{◌≡◌, refl, sym, ap, ◌∙◌, subst}
use mathlib.Core.Logic.{◌⊎◌, inl, inr}
use mathlib.Core.Bool.{Bool, true, false, cond, ◌&&◌, beq, and-false, and-true, true≢false}
use Prim.Native.Nat.{ℕ, zero, suc, ◌+◌, ◌-◌, ◌*◌, ◌/◌, ◌%◌, ◌^◌, ◌≤◌, ◌<◌}
use native.Mathlib.Nat.{mul-one, mul_right_comm, add-mul, mul-pos, div-add-mod', le_of_mul-le-mul_right, eq_of_mul-eq-mul_right}
use native.Mathlib.Omega.{arith}
use lib.Dec.{T, ltb, lit<, lit≤}
use lib.IntN.{ℤ, pos}
use lib.Pow.{pow_pos}
use lib.Ieee.{Float, nan, inf, fin, Format, binary64, prec, low, up, down, round, sum, add, sub, neg, le, eq, fits}
use lib.Ieee.Fits.{down_pos, round_is, round-fits}
use lib.Ieee.Exact.{HasValue, units_val}
use lib.Ieee.Back.{round_whole}
use lib.Ieee.Order.{round_mono, drop, kept}
use lib.Ieee.Scale.{round_same, round_val, round_under, grid, finite}
use lib.Ieee.Positive.{num, den, positive, own_value, positive_of_value, values_of_le, between}
use borrow.Author.Tests.{eqb-true, eq-eqb, ltb-true, ltb-false, lt-ltb}
use Rattle.path.specs.Coordinate.{whole}
use Rattle.path.proofs.Ranges.{Inside, quotient-bound}
use Rattle.path.proofs.WholeFloats.{value-eq, right-value, large}

-- 2^52, or -2^52
abbrev pub beside : Bool → Float
beside t = fin t 1 (pos 52)

-- ---- sums of whole numbers up to 2^53 are exact

exact : (s : Bool) (n k c : ℕ) → 0 < k → n ≡ c * k → c ≤ 9007199254740992 → HasValue (round binary64 s n k) s c 1
exact s n k c p h b =
    subst (λ (x : Float). HasValue x s c 1) (sym (round_same binary64 s n k c 1 p (lit< tt) (mul-one n ∙ h))) (round_whole binary64 s c b)

-- of a / 1 and b / 1, both over k
module _ (s t : Bool) (a b k : ℕ) (p : 0 < k) where
  opened : (u : Bool) → beq s t ≡ u
      → sum binary64 s (a * k) t (b * k) k
      ≡ cond u (round binary64 s (a * k + b * k) k)
      (cond (ltb (a * k) (b * k)) (round binary64 t (b * k - a * k) k) (round binary64 (s && ltb (b * k) (a * k)) (a * k - b * k) k))
  unfolding sum
  opened u e =
      ap (λ (v : Bool). cond v (round binary64 s (a * k + b * k) k)
      (cond (ltb (a * k) (b * k)) (round binary64 t (b * k - a * k) k) (round binary64 (s && ltb (b * k) (a * k)) (a * k - b * k) k))) e

  -- with the same sign
  like : beq s t ≡ true → a + b ≤ 9007199254740992 → HasValue (sum binary64 s (a * k) t (b * k) k) s (a + b) 1
  like e h =
      subst (λ (x : Float). HasValue x s (a + b) 1) (sym (opened true e)) (exact s (a * k + b * k) k (a + b) p (sym (add-mul a b k)) h)

  -- with other signs, the first no smaller
  more : (c : ℕ) → beq s t ≡ false → a ≡ c + b → c ≤ 9007199254740992
      → HasValue (sum binary64 s (a * k) t (b * k) k) (s && ltb (b * k) (a * k)) c 1
  more c e f h = subst (λ (x : Float). HasValue x (s && ltb (b * k) (a * k)) c 1) (sym (opened false e)) (go (ltb (a * k) (b * k)) refl)
    where
      scaled : a * k ≡ c * k + b * k
      scaled = ap (λ (n : ℕ). n * k) f ∙ add-mul c b k

      go : (l : Bool) → ltb (a * k) (b * k) ≡ l
          → HasValue (cond l (round binary64 t (b * k - a * k) k) (round binary64 (s && ltb (b * k) (a * k)) (a * k - b * k) k)) (s && ltb (b * k) (a * k)) c 1
      go true l = absurd (omega (arith, scaled, ltb-true (a * k) (b * k) l))
      go false l = exact (s && ltb (b * k) (a * k)) (a * k - b * k) k c p (omega (arith, scaled)) h

  -- with other signs, the second larger
  less : (c : ℕ) → beq s t ≡ false → b ≡ c + a → 0 < c → c ≤ 9007199254740992 → HasValue (sum binary64 s (a * k) t (b * k) k) t c 1
  less c e f q h = subst (λ (x : Float). HasValue x t c 1) (sym (opened false e)) (go (ltb (a * k) (b * k)) refl)
    where
      scaled : b * k ≡ c * k + a * k
      scaled = ap (λ (n : ℕ). n * k) f ∙ add-mul c a k

      go : (l : Bool) → ltb (a * k) (b * k) ≡ l
          → HasValue (cond l (round binary64 t (b * k - a * k) k) (round binary64 (s && ltb (b * k) (a * k)) (a * k - b * k) k)) t c 1
      go true l = exact t (b * k - a * k) k c p (omega (arith, scaled)) h
      go false l = absurd (omega (arith, scaled, ltb-false (a * k) (b * k) l, mul-pos q p))

-- ---- 2^52 or -2^52 added to a whole number

-- the sum, over one number
added : (r : Float) (s t : Bool) (a : ℕ) → HasValue r s a 1
    → (k : ℕ) × (0 < k) × (add binary64 r (beside t) ≡ sum binary64 s (a * k) t (4503599627370496 * k) k)
unfolding add
added nan s t a v = absurd v
added (inf u) s t a v = absurd v
added (fin u n d) s t a v = (
  down d,
  down_pos d,
  λ i. sum binary64 (v.0 i) (v.1 i) t (4503599627370496 * down d) (mul-one (down d) i),
)

-- the same sign
add-like : (r : Float) (s t : Bool) (a : ℕ) → HasValue r s a 1 → beq s t ≡ true → a ≤ 4503599627370496
    → HasValue (add binary64 r (beside t)) s (a + 4503599627370496) 1
add-like r s t a v e h =
    let k = added r s t a v in
    subst (λ (x : Float). HasValue x s (a + 4503599627370496) 1) (sym k.2) (like s t a 4503599627370496 k.0 k.1 e (omega (arith, h)))

-- y stands for the whole number c with the sign s; zero has either sign
abbrev Same : Bool → ℕ → Float → Type 0
Same s c y = (t : Bool) × ((beq t s ≡ true) ⊎ (c ≡ 0)) × HasValue y t c 1

-- the other sign, from 2^52 on
add-more : (r : Float) (s t : Bool) (c : ℕ) → HasValue r s (c + 4503599627370496) 1 → beq s t ≡ false → c ≤ 9007199254740992
    → Same s c (add binary64 r (beside t))
add-more r s t c v e h =
    let k = added r s t (c + 4503599627370496) v in (
      s && ltb (4503599627370496 * k.0) ((c + 4503599627370496) * k.0),
      sign c s k.0 k.1,
      subst (λ (x : Float). HasValue x (s && ltb (4503599627370496 * k.0) ((c + 4503599627370496) * k.0)) c 1) (sym k.2)
          (more s t (c + 4503599627370496) 4503599627370496 k.0 k.1 c e refl h),
    )
  where
    beq_same : (u : Bool) → beq u u ≡ true
    beq_same true = refl
    beq_same false = refl

    sign : (c : ℕ) (s : Bool) (k : ℕ) → 0 < k → (beq (s && ltb (4503599627370496 * k) ((c + 4503599627370496) * k)) s ≡ true) ⊎ (c ≡ 0)
    sign zero s k p = inr refl
    sign (suc c) s k p =
        inl (ap (λ (u : Bool). beq (s && u) s) (lt-ltb (4503599627370496 * k) ((suc c + 4503599627370496) * k) (larger (suc c) (omega arith)))
        ∙ ap (λ (u : Bool). beq u s) (and-true s)
        ∙ beq_same s)
      where
        larger : (n : ℕ) → 0 < n → 4503599627370496 * k < (n + 4503599627370496) * k
        larger n q = omega (arith, add-mul n 4503599627370496 k, mul-pos q p)

-- the other sign, below 2^52
add-less : (r : Float) (s t : Bool) (a c : ℕ) → HasValue r s a 1 → beq s t ≡ false → 4503599627370496 ≡ c + a → 0 < c
    → HasValue (add binary64 r (beside t)) t c 1
add-less r s t a c v e f q =
    let k = added r s t a v in
    subst (λ (x : Float). HasValue x t c 1) (sym k.2) (less s t a 4503599627370496 k.0 k.1 c e f q (omega (arith, f)))

-- ---- there and back of a whole number

module _ (x : Float) (q : ℕ) where
  -- on its own side of zero
  own-side : (s u : Bool) → HasValue x s q 1 → q ≤ 4503599627370496 → beq s s ≡ true → beq s u ≡ false
      → Same s q (add binary64 (add binary64 x (beside s)) (beside u))
  own-side s u v h e f = add-more (add binary64 x (beside s)) s u q (add-like x s s q v e h) f (omega (arith, h))

  -- on the other side
  other-side : (s u : Bool) → HasValue x s q 1 → q ≤ 4503599627370496 → beq s s ≡ true → beq s u ≡ false → beq u s ≡ false
      → Same s q (add binary64 (add binary64 x (beside u)) (beside s))
  other-side s u v h e f g = by-limit (ltb q 4503599627370496) refl
    where
      from_zero : (r : Float) → Same s 0 r → q ≡ 4503599627370496 → Same s q (add binary64 r (beside s))
      from_zero r w z = by_sign w.0 (beq w.0 s) refl w.2
        where
          by_sign : (t : Bool) (b : Bool) → beq t s ≡ b → HasValue r t 0 1 → Same s q (add binary64 r (beside s))
          by_sign t true i n = (t, inl i, subst (λ (c : ℕ). HasValue (add binary64 r (beside s)) t c 1) (sym z) (add-like r t s 0 n i (lit≤ tt)))
          by_sign t false i n =
              (s, inl e, subst (λ (c : ℕ). HasValue (add binary64 r (beside s)) s c 1) (sym z) (add-less r t s 0 4503599627370496 n i refl (lit< tt)))

      back : (c : ℕ) → 4503599627370496 ≡ c + q → 0 < c → HasValue (add binary64 x (beside u)) u c 1 → Same s q (add binary64 (add binary64 x (beside u)) (beside s))
      back c i j w = by_zero (ltb 0 q) refl
        where
          by_zero : (b : Bool) → ltb 0 q ≡ b → Same s q (add binary64 (add binary64 x (beside u)) (beside s))
          by_zero true l = (s, inl e, add-less (add binary64 x (beside u)) u s c q w g (omega (arith, i)) (ltb-true 0 q l))
          by_zero false l =
              let z : q ≡ 0 = omega (arith, ltb-false 0 q l) in
              let y = add-more (add binary64 x (beside u)) u s 0 (subst (λ (n : ℕ). HasValue (add binary64 x (beside u)) u n 1) (omega (arith, i, z)) w) g (lit≤ tt) in
              (y.0, inr z, subst (λ (n : ℕ). HasValue (add binary64 (add binary64 x (beside u)) (beside s)) y.0 n 1) (sym z) y.2)

      by-limit : (b : Bool) → ltb q 4503599627370496 ≡ b → Same s q (add binary64 (add binary64 x (beside u)) (beside s))
      by-limit true l =
          let below = ltb-true q 4503599627370496 l in
          back (4503599627370496 - q) (omega (arith, below)) (omega (arith, below))
          (add-less x s u q (4503599627370496 - q) v f (omega (arith, below)) (omega (arith, below)))
      by-limit false l =
          let z : q ≡ 4503599627370496 = omega (arith, h, ltb-false q 4503599627370496 l) in
          from_zero (add binary64 x (beside u)) (add-more x s u 0 (subst (λ (n : ℕ). HasValue x s n 1) z v) f (lit≤ tt)) z

-- ---- there and back of any other float: beside 2^52 every float is a whole number, so what comes back is one

-- the part before the point of a whole number is all of it
all-of-it : (m : ℕ) (e : ℤ) → m * up e % down e ≡ 0 → m * up e ≡ m * up e / down e * down e
all-of-it m e z = omega (arith, div-add-mod' (m * up e) (down e), z)

-- what is rounded between 2^52 and 2^53
whole-value : (r : Float) → T (positive r) → T (fits binary64 r) → 4503599627370496 * den r ≤ num r * 1 → num r * 1 ≤ 9007199254740992 * den r
    → (c : ℕ) × (HasValue r false (c + 4503599627370496) 1) × (c ≤ 9007199254740992)
unfolding whole
whole-value nan p f l h = absurd p
whole-value (inf s) p f l h = absurd p
whole-value (fin true m e) p f l h = absurd p
whole-value (fin false m e) p f l h =
    let z = eqb-true (m * up e % down e) 0 (large false m e f (omega (arith, l))) in
    let d = div-add-mod' (m * up e) (down e) in
    let lower : 4503599627370496 ≤ m * up e / down e = le_of_mul-le-mul_right (omega (arith, l, d, z)) (down_pos e) in
    let parted : m * up e / down e ≡ m * up e / down e - 4503599627370496 + 4503599627370496 = omega (arith, lower) in
    let upper : m * up e / down e ≤ 9007199254740992 = quotient-bound (m * up e) (down e) 9007199254740992 (down_pos e) (omega (arith, h)) in (
      m * up e / down e - 4503599627370496,
      (refl, mul-one (m * up e) ∙ all-of-it m e z ∙ ap (λ (n : ℕ). n * down e) parted),
      omega (arith, upper),
    )

rounded-between : (n k : ℕ) → 0 < k → 4503599627370496 * k ≤ n → n ≤ 9007199254740992 * k
    → (c : ℕ) × (HasValue (round binary64 false n k) false (c + 4503599627370496) 1) × (c ≤ 9007199254740992)
rounded-between n k p l h =
    let r = round binary64 false n k in
    let low_value = round_whole binary64 false 4503599627370496 (lit≤ tt) in
    let high_value = round_whole binary64 false 9007199254740992 (lit≤ tt) in
    let above : T (le (round binary64 false 4503599627370496 1) r) = round_mono binary64 4503599627370496 1 n k (lit< tt) p (omega (arith, l)) in
    let under : T (le r (round binary64 false 9007199254740992 1)) = round_mono binary64 n k 9007199254740992 1 p (lit< tt) (omega (arith, h)) in
    let low-positive = positive_of_value (round binary64 false 4503599627370496 1) 4503599627370496 1 low_value (lit< tt) in
    let high-positive = positive_of_value (round binary64 false 9007199254740992 1) 9007199254740992 1 high_value (lit< tt) in
    let inner = between (round binary64 false 4503599627370496 1) r (round binary64 false 9007199254740992 1) low-positive high-positive above under in
    whole-value r inner (round-fits binary64 false n k)
    (values_of_le (round binary64 false 4503599627370496 1) r 4503599627370496 1 (num r) (den r) low-positive inner low_value (own_value r inner) above)
    (values_of_le r (round binary64 false 9007199254740992 1) (num r) (den r) 9007199254740992 1 inner high-positive (own_value r inner) high_value under)

-- the sign goes through a rounding: below zero the value is that above zero

finite-value : (y : Float) (s : Bool) (c : ℕ) → HasValue y s c 1 → T (finite y)
finite-value nan s c v = absurd v
finite-value (inf t) s c v = absurd v
finite-value (fin t m e) s c v = tt

-- one float as c / 1 and as g / l
over-one : (y : Float) (s : Bool) (c g l : ℕ) → HasValue y s c 1 → HasValue y s g l → c * l ≡ g
over-one nan s c g l v w = absurd v
over-one (inf t) s c g l v w = absurd v
over-one (fin t m e) s c g l v w =
    eq_of_mul-eq-mul_right (down e) (down_pos e) (c * l) g
    (mul_right_comm c l (down e) ∙ ap (λ (n : ℕ). n * l) (sym v.1 ∙ mul-one (m * up e)) ∙ w.1)

to_one : (y : Float) (s : Bool) (c g l : ℕ) → 0 < l → c * l ≡ g → HasValue y s g l → HasValue y s c 1
to_one nan s c g l p h v = absurd v
to_one (inf t) s c g l p h v = absurd v
to_one (fin t m e) s c g l p h v = (
  v.0,
  mul-one (m * up e)
      ∙ eq_of_mul-eq-mul_right l p (m * up e) (c * down e) (v.1 ∙ ap (λ (n : ℕ). n * down e) (sym h) ∙ mul_right_comm c l (down e)),
)

signed-value : (f : Format) (s : Bool) (n k c : ℕ) → HasValue (round f false n k) false c 1 → HasValue (round f s n k) s c 1
signed-value f s n k c v =
    let g = grid f n k in
    let under = round_under f n k (finite-value (round f false n k) false c v) in
    to_one (round f s n k) s c g (2 ^ low f) (pow_pos (low f)) (over-one (round f false n k) false c g (2 ^ low f) v (round_val f n k under))
    (subst (λ (y : Float). HasValue y s g (2 ^ low f)) (sym (round_is f s n k))
    (units_val f s (kept (prec f) (n * 2 ^ low f) k) (drop (prec f) (n * 2 ^ low f) k) under))

module _ (m : ℕ) (e : ℤ) (h : m * up e ≤ 4503599627370496 * down e) where
  shifted : (s : Bool) → add binary64 (fin s m e) (beside s) ≡ round binary64 s (m * up e + 4503599627370496 * down e) (down e)
  unfolding add sum
  shifted true = λ i. round binary64 true (mul-one (m * up e) i + 4503599627370496 * down e) (mul-one (down e) i)
  shifted false = λ i. round binary64 false (mul-one (m * up e) i + 4503599627370496 * down e) (mul-one (down e) i)

  only-whole : (s u : Bool) → beq s u ≡ false → eq (add binary64 (add binary64 (fin s m e) (beside s)) (beside u)) (fin s m e) ≡ true → whole (fin s m e) ≡ true
  only-whole s u f g =
      let b = rounded-between (m * up e + 4503599627370496 * down e) (down e) (down_pos e) (omega arith) (omega (arith, h)) in
      let v = signed-value binary64 s (m * up e + 4503599627370496 * down e) (down e) (b.0 + 4503599627370496) b.1 in
      let y = add-more (add binary64 (fin s m e) (beside s)) s u b.0 (subst (λ (r : Float). HasValue r s (b.0 + 4503599627370496) 1) (sym (shifted s)) v) f b.2 in
      (right-value s m e y.0 b.0 (add binary64 (add binary64 (fin s m e) (beside s)) (beside u)) y.2 g).0

-- ---- both ways together

same_float : (s : Bool) (m : ℕ) (e : ℤ) (q : ℕ) → m * up e ≡ q * down e → (y : Float) → Same s q y → eq y (fin s m e) ≡ true
same_float s m e q h y w = value-eq s m e w.0 q w.1 y w.2 ∙ eq-eqb (q * down e) (m * up e) (sym h)

refuted : (s : Bool) (m : ℕ) (e : ℤ) (t : Bool) → (t ≡ true → whole (fin s m e) ≡ true) → whole (fin s m e) ≡ false → t ≡ false
refuted s m e true f h = absurd (true≢false (sym (f refl) ∙ h))
refuted s m e false f h = refl

pub there_and_back : (x : Float) → Inside 4503599627370496 x
    → (eq (sub binary64 (add binary64 x (beside false)) (beside false)) x && eq (add binary64 (sub binary64 x (beside false)) (beside false)) x) ≡ whole x
unfolding sub neg whole
there_and_back nan i = absurd i
there_and_back (inf s) i = absurd i
there_and_back (fin s m e) i = go (whole (fin s m e)) refl
  where
    both : (s : Bool) → m * up e % down e ≡ 0
        → (eq (add binary64 (add binary64 (fin s m e) (beside false)) (beside true)) (fin s m e) ≡ true)
        × (eq (add binary64 (add binary64 (fin s m e) (beside true)) (beside false)) (fin s m e) ≡ true)
    both false z =
        let v : HasValue (fin false m e) false (m * up e / down e) 1 = (refl, mul-one (m * up e) ∙ all-of-it m e z) in
        let b = quotient-bound (m * up e) (down e) 4503599627370496 (down_pos e) i in (
          same_float false m e (m * up e / down e) (all-of-it m e z) _ (own-side (fin false m e) (m * up e / down e) false true v b refl refl),
          same_float false m e (m * up e / down e) (all-of-it m e z) _ (other-side (fin false m e) (m * up e / down e) false true v b refl refl refl),
        )
    both true z =
        let v : HasValue (fin true m e) true (m * up e / down e) 1 = (refl, mul-one (m * up e) ∙ all-of-it m e z) in
        let b = quotient-bound (m * up e) (down e) 4503599627370496 (down_pos e) i in (
          same_float true m e (m * up e / down e) (all-of-it m e z) _ (other-side (fin true m e) (m * up e / down e) true false v b refl refl refl),
          same_float true m e (m * up e / down e) (all-of-it m e z) _ (own-side (fin true m e) (m * up e / down e) true false v b refl refl),
        )

    none : (s : Bool) → whole (fin s m e) ≡ false
        → (eq (add binary64 (add binary64 (fin s m e) (beside false)) (beside true)) (fin s m e)
        && eq (add binary64 (add binary64 (fin s m e) (beside true)) (beside false)) (fin s m e)) ≡ false
    none false h =
        ap (λ (t : Bool). t && eq (add binary64 (add binary64 (fin false m e) (beside true)) (beside false)) (fin false m e))
        (refuted false m e _ (only-whole m e i false true refl) h)
    none true h =
        ap (λ (t : Bool). eq (add binary64 (add binary64 (fin true m e) (beside false)) (beside true)) (fin true m e) && t)
        (refuted true m e _ (only-whole m e i true false refl) h)
        ∙ and-false (eq (add binary64 (add binary64 (fin true m e) (beside false)) (beside true)) (fin true m e))

    go : (w : Bool) → whole (fin s m e) ≡ w
        → (eq (add binary64 (add binary64 (fin s m e) (beside false)) (beside true)) (fin s m e)
        && eq (add binary64 (add binary64 (fin s m e) (beside true)) (beside false)) (fin s m e)) ≡ w
    go true h =
        let b = both s (eqb-true (m * up e % down e) 0 h) in
        λ j. b.0 j && b.1 j
    go false h = none s h
