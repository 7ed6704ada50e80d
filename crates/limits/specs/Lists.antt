-- The refusals 1 and 2 of a list of numbers, which Smooth, Fit and Scatter share (document 01, "Each operation and its refusals, in order").
-- Assumes nothing.
use Rattle.std.specs.Prelude.{ℕ, Bool, false, not, ◌||◌, List, [], ◌∷◌, ℤ, pos, neg_ℤ, eqb, length}
use Rattle.limits.specs.Limits.{outside}
use Rattle.limits.specs.Refusal.{◌when◌, ◌then◌}

-- The list has another length than n.
abbrev pub miscounted : ℕ → List ℤ → Bool
miscounted n l = not (eqb (length l) n)

-- Some number of the list is outside low to high.
unfoldable pub any_outside_lem : ℤ → ℤ → List ℤ → Bool
any_outside_lem low high [] = false
any_outside_lem low high (z ∷ l) = outside low high z || any_outside_lem low high l

-- Some number of the list is outside plus or minus limit.
abbrev pub any_beyond_lem : ℕ → List ℤ → Bool
any_beyond_lem limit l = any_outside_lem (neg_ℤ (pos limit)) (pos limit) l

-- 1: the count is wrong. 2: a number is outside low to high.
unfoldable pub range_number : (wrong : Bool) → ℤ → ℤ → List ℤ → ℕ
range_number wrong low high l = 1 when wrong then 2 when any_outside_lem low high l

-- The same, with plus or minus limit for low and high.
abbrev pub list_number : (wrong : Bool) → ℕ → List ℤ → ℕ
list_number wrong limit l = range_number wrong (neg_ℤ (pos limit)) (pos limit) l
