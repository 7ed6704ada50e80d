-- How far the limit test on a list reads (document 02, Job 4).
-- Assumes nothing.
use Rattle.std.specs.Prelude.{ℕ, suc, min, cond, List, [], ◌∷◌, ℤ, length, Result, Ok, Err}
use Rattle.limits.specs.Limits.{outside}
use Rattle.limits.specs.Lists.{any_outside_lem}

-- The index of the first number outside low to high; the length where none is outside. Law `first-outside` of proofs/Scans.antt says that it is the
-- first: that number is outside, and none before it is.
unfoldable pub first_outside : ℤ → ℤ → List ℤ → ℕ
first_outside low high [] = 0
first_outside low high (z ∷ l) = cond (outside low high z) 0 (suc (first_outside low high l))

-- How many numbers there are up to and with the first one outside, or in all. Laws `read_first` and `read_all` of proofs/Scans.antt say so.
unfoldable pub read_to : ℤ → ℤ → List ℤ → ℕ
read_to low high l = min (suc (first_outside low high l)) (length l)

-- How many numbers are read, as `Err` where some number is outside low to high and as `Ok` where none is.
unfoldable pub scan_rule : ℤ → ℤ → List ℤ → Result ℕ ℕ
scan_rule low high l = cond (any_outside_lem low high l) (Err (read_to low high l)) (Ok (read_to low high l))
