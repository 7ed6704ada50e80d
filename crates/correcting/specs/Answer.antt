-- What `correcting` answers to Track: the number of the refusal, how far the limit test on the measurements reads
-- (document 02, Job 4), and what the lent rows hold afterwards. Track's own rule does not name it.
-- Assumes nothing.
use Rattle.std.specs.Prelude.{ℕ, zero, suc, ◌/◌, Bool, cond, ◌||◌, List, ℤ, set, Result, Ok, Err}
use Rattle.limits.specs.Refusal.{◌when◌, ◌then◌}
use Rattle.limits.specs.Limits.{delays_beyond_lem, measurement_limit, measurement_least, measurement_most, delay_limit}
use Rattle.limits.specs.Lists.{any_beyond_lem}
use Rattle.limits.specs.Scan.{first_outside, read_to}
use Rattle.limits.specs.Numbers.{paper_number}
use Rattle.exact.specs.Corrected.{Given}
use Rattle.correcting.specs.declared.Stopped.{Stopped}
use Rattle.correcting.specs.Correct.{wrong_sizes, out_of_limits, geometry_limit}

-- 1 or 2, the first of them that holds, 0 where none does.
unfoldable pub correct_number : Given → ℕ
correct_number g = 1 when wrong_sizes g then 2 when out_of_limits g

-- The number of the refusal, 0 where there is none, and how many measurements are read.
abbrev pub correct_reply : Result ℕ Stopped → ℕ × ℕ
correct_reply (Ok read) = (0, read)
correct_reply (Err stopped) = (paper_number stopped.refusal, stopped.read)

-- A correction or a delay is outside its limits: what 2 says of all but the measurements.
unfoldable pub others_beyond : Given → Bool
others_beyond g =
    (any_beyond_lem geometry_limit g.geometry || any_beyond_lem delay_limit g.relativity || any_beyond_lem delay_limit g.ionosphere
    || any_beyond_lem delay_limit g.troposphere || any_beyond_lem delay_limit g.clock)
    || delays_beyond_lem g.int g.cab g.refdly g.gd

-- The sizes are wrong, or a correction or a delay is outside: refused before any measurement is read.
abbrev pub refused_before : Given → Bool
refused_before g = wrong_sizes g || others_beyond g

-- How many blocks of fifteen there are before the one with the first measurement beyond its limit, or in all.
unfoldable pub whole_blocks : List ℤ → ℕ
whole_blocks measurements = first_outside measurement_least measurement_most measurements / 15

-- The answer, as a number and a count, where the sizes are right and all but the measurements is inside its limits: the measurements are read up to
-- and with the first one outside, or all of them.
unfoldable pub measurements_rule : List ℤ → ℕ × ℕ
measurements_rule measurements =
    (2 when any_beyond_lem measurement_limit measurements, read_to measurement_least measurement_most measurements)

-- How many blocks have their values in the lent rows, and how many measurements are read: none where it is refused before.
unfoldable pub corrected_blocks : Given → ℕ
corrected_blocks g = cond (refused_before g) 0 (whole_blocks g.measurements)

unfoldable pub correct_rule : Given → ℕ × ℕ
correct_rule g =
    (correct_number g, cond (refused_before g) 0 (read_to measurement_least measurement_most g.measurements))

-- A row whose first n places are set, and whose others keep what they hold.
unfoldable pub filled : (n : ℕ) (value : ℕ → ℤ) (row : List ℤ) → List ℤ
filled zero value row = row
filled (suc n) value row = set (filled n value row) n (value n)
