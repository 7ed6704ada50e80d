-- `path::sum_of_squares` meets its contract: each difference is at most 10^11, the three squares have room in a word of 128 bits, and their sum is the
-- definition's.
-- Assumes nothing.
use mathlib.Core.Path.{◌≡◌, refl}
use Prim.Native.Nat.{ℕ, ◌+◌, ◌*◌, ◌≤◌}
use native.Mathlib.Omega.{arith}
use Rattle.path.specs.Between.{difference_limit}
use Rattle.path.proofs.Points.{Usable, usable, accepted, squares-are}
use Rattle.path.proofs.Products.{radix, product-bound}
use Rattle.path.proofs.Roots.{square-bound}
use Rattle.path.proofs.sum_of_squares.Goals.{Start}
use Rattle.path.proofs.sum_of_squares.Goals as goal

-- the coordinates of both points
module _ (c : Start) where
  satellite : Usable c.args.satellite.x × Usable c.args.satellite.y × Usable c.args.satellite.z
  satellite = let t = accepted c.args.satellite c.args.antenna c.requires in usable c.args.satellite t.0 t.2

  antenna : Usable c.args.antenna.x × Usable c.args.antenna.y × Usable c.args.antenna.z
  antenna = let t = accepted c.args.satellite c.args.antenna c.requires in usable c.args.antenna t.1 t.3

pub apart-dx-requires : goal.apart-dx-requires
apart-dx-requires c = ((satellite c).0.0, (satellite c).0.1, (antenna c).0.0, (antenna c).0.1)

pub apart-dy-requires : goal.apart-dy-requires
apart-dy-requires c =
    let s = (goal.at.apart-dy-requires c).Start in
    ((satellite s).1.0, (satellite s).1.1, (antenna s).1.0, (antenna s).1.1)

pub apart-dz-requires : goal.apart-dz-requires
apart-dz-requires c =
    let s = (goal.at.apart-dz-requires c).Start in
    ((satellite s).2.0, (satellite s).2.1, (antenna s).2.0, (antenna s).2.1)

-- a product of differences has the room of its parts
room : (a b : ℕ) {p : ℕ} → p ≡ a * b → a ≤ difference_limit → b ≤ difference_limit → p ≤ 72057594037927936 * radix + 288230376151711744
room a b e h i = omega (arith, e, product-bound a b (omega (arith, h)) (omega (arith, i)))

pub overflow_add-result : goal.overflow_add-result
overflow_add-result c =
    omega (arith, room _ _ c.product.ensures (omega arith) (omega arith), room _ _ c.product-2.ensures (omega arith) (omega arith))

pub overflow_add-result-2 : goal.overflow_add-result-2
overflow_add-result-2 c =
    omega (
      arith,
      room _ _ c.product.ensures (omega arith) (omega arith),
      room _ _ c.product-2.ensures (omega arith) (omega arith),
      room _ _ c.product-3.ensures (omega arith) (omega arith),
    )

pub returns : goal.returns
returns c = (
  squares-are c.args.satellite c.args.antenna c.apart-dx.result c.apart-dy.result c.apart-dz.result refl c.product.ensures c.product-2.ensures c.product-3.ensures c.apart-dx.ensures.0
      c.apart-dy.ensures.0 c.apart-dz.ensures.0,
  omega (
    arith,
    c.product.ensures,
    c.product-2.ensures,
    c.product-3.ensures,
    square-bound c.apart-dx.result c.apart-dx.ensures.1,
    square-bound c.apart-dy.result c.apart-dy.ensures.1,
    square-bound c.apart-dz.result c.apart-dz.ensures.1,
  ),
)
