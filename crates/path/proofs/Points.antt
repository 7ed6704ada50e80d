-- What is said of two points, from what is said of their coordinates.
-- Assumes nothing.
use mathlib.Core.Path.{◌≡◌, ◌∙◌}
use mathlib.Core.Bool.{Bool, true, false, not, ◌||◌}
use Prim.Native.Nat.{ℕ, ◌+◌, ◌*◌}
use lib.Ieee.{Float}
use borrow.Author.Tests.{not-false}
use Rattle.limits.specs.Refusal.{◌when◌, ◌then◌}
use Rattle.limits.proofs.Laws.{or-false, then-zero, when-zero}
use Rattle.path.specs.declared.Point.{Point}
use Rattle.path.specs.Coordinate.{whole, coordinate_beyond}
use Rattle.path.specs.Path.{fractional, point_beyond, path_number, difference, sum_of_squares_lem}

-- the number from the two tests
pub number_is : (s a : Point) {f b : Bool} → f ≡ (fractional s || fractional a) → b ≡ (point_beyond s || point_beyond a)
    → 23 when f then 24 when b ≡ path_number s a
unfolding path_number
number_is s a e h = λ i. 23 when e i then 24 when h i

-- each coordinate of a point within the limit is
pub within : (p : Point) → point_beyond p ≡ false → (coordinate_beyond p.x ≡ false) × (coordinate_beyond p.y ≡ false) × (coordinate_beyond p.z ≡ false)
unfolding point_beyond
within p e =
    let xy = or-false (coordinate_beyond p.x || coordinate_beyond p.y) (coordinate_beyond p.z) e in
    let x = or-false (coordinate_beyond p.x) (coordinate_beyond p.y) xy.0 in
    (x.0, x.1, xy.1)

-- the points of an answer without refusal
pub accepted : (s a : Point) → path_number s a ≡ 0
    → (fractional s ≡ false) × (fractional a ≡ false) × (point_beyond s ≡ false) × (point_beyond a ≡ false)
unfolding path_number
accepted s a e =
    let z = then-zero _ _ e in
    let f = or-false (fractional s) (fractional a) (when-zero 22 _ z.0) in
    let b = or-false (point_beyond s) (point_beyond a) (when-zero 23 _ z.1) in
    (f.0, f.1, b.0, b.1)

-- each of their coordinates is a whole number within the limit
abbrev pub Usable : Float → Type 0
Usable x = (whole x ≡ true) × (coordinate_beyond x ≡ false)

pub usable : (p : Point) → fractional p ≡ false → point_beyond p ≡ false → Usable p.x × Usable p.y × Usable p.z
unfolding fractional
usable p f b =
    let xy = or-false (not (whole p.x) || not (whole p.y)) (not (whole p.z)) f in
    let x = or-false (not (whole p.x)) (not (whole p.y)) xy.0 in
    let w = within p b in
    ((not-false _ x.0, w.0), (not-false _ x.1, w.1), (not-false _ xy.1, w.2))

-- the sum of the three squares is the definition's
pub squares-are : (s a : Point) (x y z : ℕ) {n p q r : ℕ} → n ≡ p + q + r → p ≡ x * x → q ≡ y * y → r ≡ z * z
    → x ≡ difference s.x a.x → y ≡ difference s.y a.y → z ≡ difference s.z a.z → n ≡ sum_of_squares_lem s a
unfolding sum_of_squares_lem
squares-are s a x y z e p q r ex ey ez = e ∙ (λ i. p i + q i + r i) ∙ (λ i. ex i * ex i + ey i * ey i + ez i * ez i)
