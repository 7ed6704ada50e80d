-- The greatest whole number whose square is not above n (document 02, Job 11).
-- Assumes nothing.
use Rattle.std.specs.Prelude.{cond, ℕ, zero, suc, ◌*◌, leb}

-- The greatest of the numbers from 0 to k whose square is not above n. A greater number than n has a greater square than n.
unfoldable pub greatest : ℕ → ℕ → ℕ
greatest zero n = 0
greatest (suc k) n = cond (leb (suc k * suc k) n) (suc k) (greatest k n)

unfoldable pub root : ℕ → ℕ
root n = greatest n n
