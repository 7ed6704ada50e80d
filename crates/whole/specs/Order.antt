-- The order of the whole numbers, as the laws write it.
-- Assumes nothing.
use Rattle.std.specs.Prelude.{ℤ, ◌≤ℤ◌, ◌<ℤ◌}

-- The library's orders bind tighter than sums; these two do not. They are used in laws alone.
infix 4 ◌⩽◌ ◌⋖◌
abbrev pub ◌⩽◌ : ℤ → ℤ → Type 0
x ⩽ y = x ≤ℤ y

abbrev pub ◌⋖◌ : ℤ → ℤ → Type 0
x ⋖ y = x <ℤ y
