-- The track schedule (document 01, "Start times", and refusals 7 and 8 of the start test; document 02, Job 2).
-- Assumes nothing.
use Rattle.std.specs.Prelude.{ℕ, zero, suc, ◌*◌, ◌-◌, Bool, false, not, ◌||◌, ltb, eqb, ℤ, pos, nat_abs, ◌+ℤ◌, ◌-ℤ◌, ◌*ℤ◌}
use Rattle.std.specs.Int.Signed.{shr_z}
use Rattle.limits.specs.Refusal.{◌when◌, ◌then◌}

-- The first and last Modified Julian Date of the schedule, and the number of tracks a day.
abbrev pub first_date : ℕ
first_date = 50722

abbrev pub last_date : ℕ
last_date = 99999

abbrev pub tracks : ℕ
tracks = 89

-- The minutes after which the tracks repeat, 23 h 56 min, and by which a start is brought into the day.
abbrev pub repeat_period : ℕ
repeat_period = 1436

-- A minute brought into 0 to 1435 by adding or taking 1436 minutes, as often as needed: z less the period times the floor of z / period.
unfoldable pub brought_in : ℤ → ℕ
brought_in z = nat_abs (z -ℤ pos repeat_period *ℤ shr_z z repeat_period)

-- The minute at which track i starts, n days after the first date.
unfoldable pub start_minute : (n i : ℕ) → ℕ
start_minute n i = brought_in (pos 2 +ℤ pos 16 *ℤ (pos i -ℤ pos 1) -ℤ pos 4 *ℤ pos n)

-- There is an i from 1 to the given number for which the test holds.
unfoldable pub some : ℕ → (ℕ → Bool) → Bool
some zero test = false
some (suc i) test = test (suc i) || some i test

-- A second of the day at which one of the day's tracks starts, n days after the first date.
unfoldable pub is_start_lem : (n second : ℕ) → Bool
is_start_lem n second = some tracks (λ i. eqb second (60 * start_minute n i))

-- 7: the date is out of range. 8: the second is no start of that day.
unfoldable pub start_number : (mjd second : ℕ) → ℕ
start_number mjd second =
    7 when (ltb mjd first_date || ltb last_date mjd)
    then 8 when not (is_start_lem (mjd - first_date) second)
