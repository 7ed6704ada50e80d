-- 10 is retired, and no answer changed (document 02, Job 14): Track's rule as it was, with the test for 10, and that it gives the same as the rule
-- without it, for every input.
-- Assumes nothing.
use mathlib.Core.Path.{◌≡◌, refl, ap}
use mathlib.Core.Bool.{Bool, true, false, ◌||◌}
use Prim.Native.Nat.{ℕ}
use Rattle.limits.specs.Refusal.{◌when◌, ◌then◌}
use Rattle.limits.specs.Lists.{any_beyond_lem}
use Rattle.exact.specs.Corrected.{Given}
use Rattle.series.specs.Fit.{value_limit}
use Rattle.correcting.specs.Correct.{blocks, wrong_sizes, out_of_limits}
use Rattle.correcting.proofs.Largest.{corrected-within}
use Rattle.fit.specs.declared.TrackRecord.{TrackRecord}
use Rattle.fit.specs.Track.{Tracked, record_of, results, record_number, track_number, tracked, track_rule}

-- 10 as it was: some corrected value exceeds 2 × 10^13 tenths in magnitude. It was tried behind 2.
unfoldable pub some_beyond : TrackRecord → Bool
some_beyond t =
    any_beyond_lem value_limit t.a || any_beyond_lem value_limit t.b
    || any_beyond_lem value_limit t.c || any_beyond_lem value_limit t.d

unfoldable pub track_number_with_10 : Given → ℕ
track_number_with_10 g =
    1 when wrong_sizes g then 2 when out_of_limits g then 10 when some_beyond (results g) then record_number (results g)

abbrev pub track_rule_with_10 : Given → Tracked
track_rule_with_10 g = tracked (track_number_with_10 g) (results g)

-- what 2 lets through, 10 never refused
never-beyond : (g : Given) → out_of_limits g ≡ false → some_beyond (results g) ≡ false
unfolding results record_of some_beyond
never-beyond g e = let i = corrected-within g e (blocks g) in rw (i.in-a, i.in_b, i.in_c, i.in-d)

-- The number is the same, and so is the answer with its record.
pub number-stays : (g : Given) → track_number_with_10 g ≡ track_number g
unfolding track_number_with_10 track_number ◌when◌ ◌then◌
number-stays g = ap (λ (k : ℕ). 1 when wrong_sizes g then k) (by (out_of_limits g) refl)
  where
    by : (b : Bool) → out_of_limits g ≡ b
        → 2 when out_of_limits g then 10 when some_beyond (results g) then record_number (results g) ≡ 2 when out_of_limits g then record_number (results g)
    by true e = rw e
    by false e = rw (e, never-beyond g e)

pub track-stays : (g : Given) → track_rule_with_10 g ≡ track_rule g
unfolding track_rule
track-stays g = ap (λ (k : ℕ). tracked k (results g)) (number-stays g)
