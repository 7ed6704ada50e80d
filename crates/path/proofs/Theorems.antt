-- What Path's answer is, beyond its definition: the greatest length whose square is not above the sum, in a float without rounding; the same with
-- the points exchanged; and 0 exactly where they are the same.
-- Assumes nothing.
use mathlib.Core.Path.{◌≡◌, refl, sym, ap, ap₂, ◌∙◌, subst}
use mathlib.Core.Bool.{Bool, true, false, cond, or_comm, true≢false}
use Prim.Native.Nat.{ℕ, zero, suc, ◌+◌, ◌*◌, ◌/◌, ◌%◌, ◌≤◌, ◌<◌}
use native.Mathlib.Nat.{mul-one, div-add-mod'}
use native.Mathlib.Omega.{arith}
use lib.IntN.{ℤ, pos, negsuc, neg_ℤ, nat_abs, ◌+ℤ◌, ◌-ℤ◌, +ℤ_invr}
use lib.Ieee.{Float, nan, inf, fin, binary64, up, down, of_int}
use lib.Ieee.Exact.{HasValue}
use lib.Ieee.Back.{round_whole}
use borrow.Author.Tests.{eqb-true}
use Rattle.whole.specs.Square.{squared}
use Rattle.whole.proofs.Magnitudes.{nat_abs-neg, square-magnitude}
use Rattle.whole.proofs.Ring.{sub-turned, eq-of-sub}
use Rattle.limits.specs.Reply.{reply}
use Rattle.limits.specs.Refusal.{◌when◌, ◌then◌}
use Rattle.limits.proofs.Replies.{reply-accepted, reply-values}
use Rattle.path.specs.declared.Point.{Point}
use Rattle.path.specs.Coordinate.{whole, coordinate_beyond, millimetres}
use Rattle.path.specs.Root.{greatest, root}
use Rattle.path.specs.Between.{factor_limit}
use Rattle.path.specs.Path.{fractional, point_beyond, path_number, difference, sum_of_squares_lem, whole_length, length_of, plus_zero, path_rule}
use Rattle.path.proofs.Ranges.{difference-bound}
use Rattle.path.proofs.Roots.{FloorRoot, root_is, root-only, square-lt, square-bound}
use Rattle.path.proofs.Points.{within, accepted}

-- ---- a coordinate that is a whole number has the value of its millimetres

pub record IsWhole (x : Float) (z : ℤ) : Type 0 where
  pub sign : Bool
  pub size : ℕ
  pub value : HasValue x sign size 1
  pub is : z ≡ cond sign (neg_ℤ (pos size)) (pos size)

pub coordinate-whole : (x : Float) → whole x ≡ true → IsWhole x (millimetres x)
unfolding whole millimetres
coordinate-whole nan h = absurd (true≢false (sym h))
coordinate-whole (inf s) h = absurd (true≢false (sym h))
coordinate-whole (fin s m e) h =
    record { sign = s; size = m * up e / down e; value = (refl, mul-one (m * up e) ∙ exact (m * up e) (down e) (eqb-true (m * up e % down e) 0 h)); is = refl }
  where
    exact : (n d : ℕ) → n % d ≡ 0 → n ≡ n / d * d
    exact n d z = omega (arith, div-add-mod' n d)

-- ---- the sum is that of the squared differences

pub sum-exact : (s a : Point)
    → pos (sum_of_squares_lem s a)
    ≡ squared (millimetres s.x -ℤ millimetres a.x) +ℤ squared (millimetres s.y -ℤ millimetres a.y) +ℤ squared (millimetres s.z -ℤ millimetres a.z)
unfolding sum_of_squares_lem difference
sum-exact s a =
    ap₂ ◌+ℤ◌ (ap₂ ◌+ℤ◌ (square-magnitude (millimetres s.x -ℤ millimetres a.x)) (square-magnitude (millimetres s.y -ℤ millimetres a.y)))
    (square-magnitude (millimetres s.z -ℤ millimetres a.z))

-- ---- length² ≤ sum < (length + 1)², and the float is that length without rounding

-- what an answer without refusal tells
accepted-reply : (s a : Point) {l : Float} → path_rule s a ≡ record { number = 0; values = l } → (path_number s a ≡ 0) × (l ≡ length_of s a)
unfolding path_rule
accepted-reply s a h = reply-values plus_zero (length_of s a) (path_number s a) (sym h)

length-is : (s a : Point) → FloorRoot (sum_of_squares_lem s a) (whole_length s a)
unfolding whole_length
length-is s a = root_is (sum_of_squares_lem s a)

small : (s a : Point) → point_beyond s ≡ false → point_beyond a ≡ false → whole_length s a ≤ 9007199254740992
unfolding sum_of_squares_lem
small s a h k =
    let p = within s h in
    let q = within a k in
    let r : whole_length s a < factor_limit = square-lt (whole_length s a) factor_limit
    (omega (
      arith,
      (length-is s a).reached,
      square-bound (difference s.x a.x) (difference-bound s.x a.x p.0 q.0),
      square-bound (difference s.y a.y) (difference-bound s.y a.y p.1 q.1),
      square-bound (difference s.z a.z) (difference-bound s.z a.z p.2 q.2),
    )) in
    omega arith

pub without-rounding : (s a : Point) → path_number s a ≡ 0 → HasValue (length_of s a) false (whole_length s a) 1
unfolding length_of of_int
without-rounding s a h = let t = accepted s a h in round_whole binary64 false (whole_length s a) (small s a t.2 t.3)

pub length-floor : (s a : Point) (l : Float) → path_rule s a ≡ record { number = 0; values = l }
    → (L : ℕ) × HasValue l false L 1 × (L * L ≤ sum_of_squares_lem s a) × (sum_of_squares_lem s a < suc L * suc L)
length-floor s a l h =
    let t = accepted-reply s a h in (
      whole_length s a,
      subst (λ (x : Float). HasValue x false (whole_length s a) 1) (sym t.1) (without-rounding s a t.0),
      (length-is s a).reached,
      (length-is s a).next,
    )

-- ---- exchanging the points changes nothing

difference-turned : (x y : Float) → difference x y ≡ difference y x
unfolding difference
difference-turned x y = ap nat_abs (sub-turned (millimetres x) (millimetres y)) ∙ nat_abs-neg (millimetres y -ℤ millimetres x)

sum-turned : (s a : Point) → sum_of_squares_lem s a ≡ sum_of_squares_lem a s
unfolding sum_of_squares_lem
sum-turned s a =
    let x = difference-turned s.x a.x in
    let y = difference-turned s.y a.y in
    let z = difference-turned s.z a.z in
    λ i. x i * x i + y i * y i + z i * z i

pub points-exchanged : (s a : Point) → path_rule s a ≡ path_rule a s
unfolding path_rule path_number length_of whole_length
points-exchanged s a =
    let f = or_comm (fractional s) (fractional a) in
    let b = or_comm (point_beyond s) (point_beyond a) in
    let n = sum-turned s a in
    λ i. reply plus_zero (23 when f i then 24 when b i) (of_int binary64 (pos (root (n i))))

-- ---- 0 exactly where the points are the same

pub record Same (s a : Point) : Type 0 where
  pub x : millimetres s.x ≡ millimetres a.x
  pub y : millimetres s.y ≡ millimetres a.y
  pub z : millimetres s.z ≡ millimetres a.z

no-square : (n : ℕ) → n * n ≡ 0 → n ≡ 0
no-square zero e = refl
no-square (suc n) e = omega arith

equal_of : (x y : Float) → difference x y * difference x y ≡ 0 → millimetres x ≡ millimetres y
unfolding difference
equal_of x y e = eq-of-sub (millimetres x) (millimetres y) (none (millimetres x -ℤ millimetres y) (no-square (nat_abs (millimetres x -ℤ millimetres y)) e))
  where
    none : (z : ℤ) → nat_abs z ≡ 0 → z ≡ pos 0
    none (pos n) h = ap pos h
    none (negsuc n) h = absurd (omega arith)

no_difference : (x y : Float) → millimetres x ≡ millimetres y → difference x y ≡ 0
unfolding difference
no_difference x y e = ap (λ (z : ℤ). nat_abs (z -ℤ millimetres y)) e ∙ ap nat_abs (+ℤ_invr (millimetres y))

module _ (s a : Point) where
  same-of-zero : whole_length s a ≡ 0 → Same s a
  unfolding sum_of_squares_lem
  same-of-zero e =
      let n : sum_of_squares_lem s a < 1 = subst (λ (L : ℕ). sum_of_squares_lem s a < suc L * suc L) e (length-is s a).next in
      record {
        x = equal_of s.x a.x (omega (arith, n));
        y = equal_of s.y a.y (omega (arith, n));
        z = equal_of s.z a.z (omega (arith, n));
      }

  zero-of-same : Same s a → whole_length s a ≡ 0
  unfolding whole_length sum_of_squares_lem
  zero-of-same e =
      let x = no_difference s.x a.x e.x in
      let y = no_difference s.y a.y e.y in
      let z = no_difference s.z a.z e.z in
      ap root (λ i. x i * x i + y i * y i + z i * z i) ∙ sym (root-only 0 0 (record { reached = omega arith; next = omega arith }))

  zero-float : of_int binary64 (pos 0) ≡ plus_zero
  unfolding of_int
  zero-float = refl

  pub same-zero : path_number s a ≡ 0 → Same s a → path_rule s a ≡ record { number = 0; values = plus_zero }
  unfolding path_rule length_of
  same-zero h e =
      reply-accepted plus_zero (length_of s a) h
      ∙ ap (λ (n : ℕ). record { number = 0; values = of_int binary64 (pos n) }) (zero-of-same e)
      ∙ ap (λ (l : Float). record { number = 0; values = l }) zero-float

  pub zero_same : path_rule s a ≡ record { number = 0; values = plus_zero } → Same s a
  zero_same h =
      let t = accepted-reply s a h in
      let v : HasValue plus_zero false (whole_length s a) 1 = subst (λ (x : Float). HasValue x false (whole_length s a) 1) (sym t.1) (without-rounding s a t.0) in
      same-of-zero (omega (arith, v.1))

-- ---- worked examples

abbrev point : Float → Float → Float → Point
point x y z = record { x = x; y = y; z = z }

abbrev origin : Point
origin = point plus_zero plus_zero plus_zero

-- (3, -4, 12) is 13 from the origin; (1, 1, 1) is 1, the floor of 1.7; a half is 23; 2^996 is whole, so 24, and beside not-a-number 23; so is an infinity;
-- minus zero is 0 from zero
pub path-examples : (path_rule (point (fin false 3 (pos 0)) (fin true 1 (pos 2)) (fin false 3 (pos 2))) origin ≡ record { number = 0; values = fin false 13 (pos 0) })
    × (path_rule (point (fin false 1 (pos 0)) (fin false 1 (pos 0)) (fin false 1 (pos 0))) origin ≡ record { number = 0; values = fin false 1 (pos 0) })
    × (path_rule (point (fin false 1 (negsuc 0)) plus_zero plus_zero) origin ≡ record { number = 23; values = plus_zero })
    × (path_rule (point (fin false 1 (pos 996)) plus_zero plus_zero) origin ≡ record { number = 24; values = plus_zero })
    × (path_rule (point (fin false 1 (pos 996)) plus_zero plus_zero) (point plus_zero plus_zero nan) ≡ record { number = 23; values = plus_zero })
    × (path_rule (point (inf true) plus_zero plus_zero) origin ≡ record { number = 23; values = plus_zero })
    × (path_rule (point (fin true 0 (pos 0)) plus_zero plus_zero) origin ≡ record { number = 0; values = plus_zero })
unfolding path_rule path_number ◌when◌ ◌then◌ fractional point_beyond whole coordinate_beyond length_of whole_length sum_of_squares_lem difference millimetres root greatest of_int
path-examples = (refl, refl, refl, refl, refl, refl, refl)
