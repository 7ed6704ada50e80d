-- The root by its definition (specs/Root.antt): its square is not above n, the next one is, and no other number has both.
-- Assumes nothing.
use mathlib.Core.Path.{◌≡◌, refl}
use mathlib.Core.Bool.{Bool, true, false, cond}
use Prim.Native.Nat.{ℕ, zero, suc, ◌*◌, ◌≤◌, ◌<◌}
use native.Mathlib.Nat.{mul-le-mul}
use native.Mathlib.Decide.{dec_le}
use native.Mathlib.Omega.{arith}
use lib.Dec.{leb}
use borrow.Author.Tests.{leb-true, leb-false}
use Rattle.path.specs.Root.{greatest, root}

-- L² ≤ n < (L + 1)²
pub record FloorRoot (n L : ℕ) : Type 0 where
  pub reached : L * L ≤ n
  pub next : n < suc L * suc L

module _ (n : ℕ) where
  greatest-is : (k : ℕ) → n < suc k * suc k → FloorRoot n (greatest k n)
  unfolding greatest
  greatest-is zero h = record { reached = omega arith; next = h }
  greatest-is (suc k) h = go (leb (suc k * suc k) n) refl (λ g. greatest-is k g)
    where
      go : (t : Bool) → leb (suc k * suc k) n ≡ t → (n < suc k * suc k → FloorRoot n (greatest k n)) → FloorRoot n (cond t (suc k) (greatest k n))
      go true e before = record { reached = leb-true (suc k * suc k) n e; next = h }
      go false e before = before (leb-false (suc k * suc k) n e)

pub root_is : (n : ℕ) → FloorRoot n (root n)
unfolding root
root_is n = greatest-is n n (omega arith)

pub square-lt : (a b : ℕ) → a * a < b * b → a < b
square-lt a b h = go (dec_le b a)
  where
    go : Dec (b ≤ a) → a < b
    go (yes k) = absurd (omega (arith, mul-le-mul k k))
    go (no k) = omega arith

pub root-only : (n L : ℕ) → FloorRoot n L → L ≡ root n
root-only n L f =
    let g = root_is n in
    let above : L < suc (root n) = square-lt L (suc (root n)) (omega (arith, f.reached, g.next)) in
    let below : root n < suc L = square-lt (root n) (suc L) (omega (arith, g.reached, f.next)) in
    omega arith

-- the square of a bounded number
pub square-bound : (d : ℕ) {b : ℕ} → d ≤ b → d * d ≤ b * b
square-bound d h = mul-le-mul h h
