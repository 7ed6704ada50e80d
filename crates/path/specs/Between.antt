-- Bounds on a root: what the functions between the points and the answer say of each other (document 02, Job 11: the exact sum, and its root).
-- Assumes nothing.
use Rattle.std.specs.Prelude.{ℕ, suc, ◌*◌, ◌^◌, ◌≤◌, ◌<◌}
use Rattle.path.specs.Coordinate.{coordinate_limit}
use Rattle.path.specs.declared.root.Bounds.{Bounds}

-- The limit on a root; and how much two coordinates within their limit differ at most.
abbrev pub factor_limit : ℕ
factor_limit = 2 ^ 38

abbrev pub difference_limit : ℕ
difference_limit = 2 * coordinate_limit

-- The root of n is from low to high.
pub record Between (n : ℕ) (b : Bounds) : Type 0 where
  pub reached : b.low * b.low ≤ n
  pub next : n < suc b.high * suc b.high
  pub near : b.high < factor_limit
