-- Where a float lies against ±K: what the tests of the code say of m * 2 ^ e, and what the cast to an integer gives.
-- Assumes nothing.
use mathlib.Core.Path.{◌≡◌, refl, sym, ap, ap₂, ◌∙◌, subst}
use mathlib.Core.Bool.{Bool, true, false, not, ◌&&◌, ◌||◌, and-true, true≢false}
use Prim.Native.Nat.{ℕ, ◌+◌, ◌*◌, ◌-◌, ◌/◌, ◌^◌, ◌≤◌, ◌<◌, min}
use native.Mathlib.Nat.{mul-one, div-add-mod', le_of_mul-le-mul_right, mul-pos}
use native.Mathlib.Omega.{arith}
use lib.Dec.{leb, ltb, eqb, lit<}
use lib.IntN.{ℤ, pos, neg_ℤ, nat_abs}
use lib.Pow.{pow_pos}
use lib.Ieee.{Float, nan, inf, fin, up, down, le, to_signed}
use lib.Ieee.Fits.{down_pos}
use borrow.Author.Tests.{ltb-true, ltb-false, eqb-true, eqb-false, lt-ltb, le-leb, leb-true, lt-leb}
use mir.Syntax.{w64}
use mir.Val.{to_z, of_z}
use mir.Facts.{to_z-of_z}
use Rattle.whole.proofs.Magnitudes.{nat_abs-add, nat_abs-neg}
use Rattle.whole.proofs.Words.{fits-of}
use Rattle.limits.proofs.Laws.{not-leb, eqb-turned}
use Rattle.path.specs.Coordinate.{coordinate_beyond, millimetres, coordinate_limit}
use Rattle.path.specs.Between.{difference_limit}
use Rattle.path.specs.Path.{difference}

-- ---- tests against ±K

-- the magnitude is at most K, as a test and as a fact
abbrev pub in_range : ℕ → Float → Bool
in_range K nan = false
in_range K (inf s) = false
in_range K (fin s m e) = leb (m * up e) (K * down e)

abbrev pub Inside : ℕ → Float → Type 0
Inside K nan = ⊥
Inside K (inf s) = ⊥
Inside K (fin s m e) = m * up e ≤ K * down e

pub inside_of : (K : ℕ) (x : Float) → in_range K x ≡ true → Inside K x
inside_of K nan h = true≢false (sym h)
inside_of K (inf s) h = true≢false (sym h)
inside_of K (fin s m e) h = leb-true (m * up e) (K * down e) h

-- a ≤ b as the comparison of floats has it
le_is : (a b : ℕ) (q : Bool) → eqb a b ≡ q → (ltb a b || (q && true)) ≡ leb a b
le_is a b q f = go (ltb a b) q refl f
  where
    go : (p q : Bool) → ltb a b ≡ p → eqb a b ≡ q → (p || (q && true)) ≡ leb a b
    go true q e f = sym (le-leb a b (omega (arith, ltb-true a b e)))
    go false true e f = sym (le-leb a b (omega (arith, eqb-true a b f)))
    go false false e f = sym (lt-leb a b (omega (arith, ltb-false a b e, eqb-false a b f)))

leb-one : (m n : ℕ) → leb (m * 1) n ≡ leb m n
leb-one m n = ap (λ (x : ℕ). leb x n) (mul-one m)

-- x is at least -K, at most K, with K written M * 2 ^ k
module _ (M k : ℕ) where
  low-test : (m : ℕ) (e : ℤ) → le (fin true M (pos k)) (fin true m e) ≡ leb (m * up e) (M * 2 ^ k * down e)
  unfolding le
  low-test m e = le_is (m * up e * 1) (M * 2 ^ k * down e) _ (eqb-turned (m * up e * 1) (M * 2 ^ k * down e)) ∙ leb-one (m * up e) (M * 2 ^ k * down e)

  high-test : (m : ℕ) (e : ℤ) → le (fin false m e) (fin false M (pos k)) ≡ leb (m * up e) (M * 2 ^ k * down e)
  unfolding le
  high-test m e = le_is (m * up e * 1) (M * 2 ^ k * down e) _ refl ∙ leb-one (m * up e) (M * 2 ^ k * down e)

  positive : (e : ℤ) (n : ℕ) → 0 < M → 0 < M * 2 ^ k * down e + n
  positive e n h = omega (arith, mul-pos (mul-pos h (pow_pos k)) (down_pos e))

  -- a number without sign is above -K, and one below 0 is below K
  low-passed : 0 < M → (m : ℕ) (e : ℤ) → le (fin true M (pos k)) (fin false m e) ≡ true
  unfolding le
  low-passed h m e =
      ap (λ (t : Bool). t || (eqb (M * 2 ^ k * down e) (m * up e * 1) && (false || eqb (M * 2 ^ k * down e) 0)))
      (lt-ltb 0 (M * 2 ^ k * down e + m * up e * 1) (positive e (m * up e * 1) h))

  high-passed : 0 < M → (m : ℕ) (e : ℤ) → le (fin true m e) (fin false M (pos k)) ≡ true
  unfolding le
  high-passed h m e =
      ap (λ (t : Bool). t || (eqb (m * up e * 1) (M * 2 ^ k * down e) && (false || eqb (m * up e * 1) 0)))
      (lt-ltb 0 (m * up e * 1 + M * 2 ^ k * down e) (omega (arith, positive e (m * up e * 1) h)))

  range-nan : (le (fin true M (pos k)) nan && le nan (fin false M (pos k))) ≡ false
  unfolding le
  range-nan = refl

  range-inf : (s : Bool) → (le (fin true M (pos k)) (inf s) && le (inf s) (fin false M (pos k))) ≡ false
  unfolding le
  range-inf true = refl
  range-inf false = refl

  -- both tests together
  pub range-is : 0 < M → (x : Float) → (le (fin true M (pos k)) x && le x (fin false M (pos k))) ≡ in_range (M * 2 ^ k) x
  range-is h nan = range-nan
  range-is h (inf s) = range-inf s
  range-is h (fin false m e) = ap₂ ◌&&◌ (low-passed h m e) (high-test m e)
  range-is h (fin true m e) = ap₂ ◌&&◌ (low-test m e) (high-passed h m e) ∙ and-true (leb (m * up e) (M * 2 ^ k * down e))

-- ---- the limit

not-in-range : (x : Float) → not (in_range coordinate_limit x) ≡ coordinate_beyond x
unfolding coordinate_beyond
not-in-range nan = refl
not-in-range (inf s) = refl
not-in-range (fin s m e) = not-leb (m * up e) (coordinate_limit * down e)

pub outside-is : (x : Float) → not (le (fin true 48828125 (pos 10)) x && le x (fin false 48828125 (pos 10))) ≡ coordinate_beyond x
outside-is x = ap not (range-is 48828125 10 (omega arith) x) ∙ not-in-range x

pub within-limit : (x : Float) → coordinate_beyond x ≡ false → Inside coordinate_limit x
unfolding coordinate_beyond
within-limit nan h = true≢false h
within-limit (inf s) h = true≢false h
within-limit (fin s m e) h = ltb-false (coordinate_limit * down e) (m * up e) h

-- ---- the cast

pub quotient-bound : (a b K : ℕ) → 0 < b → a ≤ K * b → a / b ≤ K
quotient-bound a b K p h = le_of_mul-le-mul_right (omega (arith, div-add-mod' a b)) p

uncapped : (q K : ℕ) → K < 2 ^ 63 → q ≤ K → min q (2 ^ 63) ≡ q
uncapped q K h i = omega arith

uncapped-less : (q K : ℕ) → K < 2 ^ 63 → q ≤ K → min q (2 ^ 63 - 1) ≡ q
uncapped-less q K h i = omega arith

pub cast_is : (K : ℕ) → K < 2 ^ 63 → (x : Float) → Inside K x → (to_signed 63 x ≡ millimetres x) × (nat_abs (millimetres x) ≤ K)
unfolding to_signed millimetres
cast_is K h nan i = absurd i
cast_is K h (inf s) i = absurd i
cast_is K h (fin true m e) i =
    let q = quotient-bound (m * up e) (down e) K (down_pos e) i in
    (ap (λ (c : ℕ). neg_ℤ (pos c)) (uncapped (m * up e / down e) K h q), subst (λ (c : ℕ). c ≤ K) (sym (nat_abs-neg (pos (m * up e / down e)))) q)
cast_is K h (fin false m e) i =
    let q = quotient-bound (m * up e) (down e) K (down_pos e) i in
    (ap pos (uncapped-less (m * up e / down e) K h q), q)

-- ---- the difference of two coordinates within the limit

pub difference-bound : (x y : Float) → coordinate_beyond x ≡ false → coordinate_beyond y ≡ false → difference x y ≤ difference_limit
unfolding difference
difference-bound x y h k =
    let p = (cast_is coordinate_limit (lit< tt) x (within-limit x h)).1 in
    let q = (cast_is coordinate_limit (lit< tt) y (within-limit y k)).1 in
    omega (arith, nat_abs-add (millimetres x) (neg_ℤ (millimetres y)), nat_abs-neg (millimetres y))

-- a coordinate is what is read back of the bits of its millimetres
pub limited : (x : Float) → coordinate_beyond x ≡ false → {r : ℤ} → r ≡ millimetres x → to_z w64 (of_z w64 r) ≡ millimetres x
limited x h e =
    to_z-of_z (fits-of (subst (λ (z : ℤ). nat_abs z ≤ coordinate_limit) (sym e) (cast_is coordinate_limit (lit< tt) x (within-limit x h)).1) (lit< tt)) ∙ e
