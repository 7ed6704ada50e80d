-- Items put into lent ones at an offset: what the writers of lines, of files, of stores and of rows leave.
-- Assumes nothing.
use Rattle.std.specs.Prelude.{ℕ, ◌+◌, cond, List, ◌++◌, leb, length, take, drop}

-- s in the place of as many items of d, from an offset on.
unfoldable pub placed : {A : Type 0} (d : List A) (at : ℕ) (s : List A) → List A
placed d at s = take at d ++ (s ++ drop (at + length s) d)

-- The same where it fits, and else the items as they were lent.
unfoldable pub placed_within : {A : Type 0} (d : List A) (at : ℕ) (s : List A) → List A
placed_within d at s = cond (leb (at + length s) (length d)) (placed d at s) d
