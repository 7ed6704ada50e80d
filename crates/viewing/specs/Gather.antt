-- What the functions that gather the report promise each other (document 02, Job 6): how one difference more changes it and how large its numbers are.
-- Assumes nothing.
use Rattle.std.specs.Prelude.{ℕ, ◌*◌, ◌≤◌, cond, ◌||◌, ℤ, pos, nat_abs, ◌+ℤ◌}
use Rattle.std.specs.Int.Signed.{lt_z}
use Rattle.viewing.specs.declared.Figures.{Figures}
use Rattle.viewing.specs.View.{most_lines}

-- One difference more. The first one is the smallest and the largest by itself.
unfoldable pub counted : Figures → ℤ → Figures
counted f d =
    record {
      pairs = f.pairs +ℤ pos 1;
      sum = f.sum +ℤ d;
      smallest = cond (lt_z f.pairs (pos 1) || lt_z d f.smallest) d f.smallest;
      largest = cond (lt_z f.pairs (pos 1) || lt_z f.largest d) d f.largest;
    }

-- The largest magnitude of a difference of two REFSYS.
abbrev pub widest : ℕ
widest = 2 * 9999999999

-- How many steps a walk over two files has at most: one for each line of either.
abbrev pub most_steps : ℕ
most_steps = 2 * most_lines

-- The report of so many pairs at most.
pub record Bounded (most : ℕ) (f : Figures) : Type 0 where
  pub pairs : nat_abs f.pairs ≤ most
  pub sum : nat_abs f.sum ≤ widest * most
