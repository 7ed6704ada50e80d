-- Track (document 01; document 02, Jobs 3, 8 and 14): the corrected values of each kind and the ten numbers of a track of n blocks.
-- Assumes nothing.
use Rattle.std.specs.Prelude.{ℕ, zero, suc, ◌*◌, List, ℤ, pos, replicate, Result, Ok, Err}
use Rattle.limits.specs.declared.Numbers.{Numbers}
use Rattle.limits.specs.Refusal.{◌when◌, ◌then◌}
use Rattle.limits.specs.Limits.{limits_number, dsg_number, no_numbers}
use Rattle.limits.specs.Numbers.{paper_number}
use Rattle.limits.specs.declared.refusal.Refusal.{Refusal}
use Rattle.fit.specs.declared.TrackRecord.{TrackRecord}
use Rattle.whole.specs.Table.{at}
use Rattle.exact.specs.Corrected.{steps, Given}
use Rattle.series.specs.Fit.{midpoint, slope}
use Rattle.series.specs.Scatter.{squares, dsg}
use Rattle.correcting.specs.Correct.{blocks, value_a, value_b, value_c, value_d, places, wrong_sizes, out_of_limits}

-- The ten numbers of the corrected values of n blocks, with a DSG. The track length is 15 s a block.
unfoldable pub numbers_with : (dsg : ℤ) (n : ℕ) (a b c d : List ℤ) → Numbers
numbers_with dsg n a b c d =
    record {
      refsv = midpoint steps n (at a);
      srsv = slope steps n (at a);
      refsys = midpoint steps n (at b);
      srsys = slope steps n (at b);
      mdtr = midpoint steps n (at c);
      smdt = slope steps n (at c);
      mdio = midpoint steps n (at d);
      smdi = slope steps n (at d);
      dsg = dsg;
      trkl = pos (15 * n);
    }

-- The record of the corrected values of n blocks: the places in use, the values themselves, and their ten numbers with the DSG of B.
unfoldable pub record_of : (n : ℕ) (a b c d : List ℤ) → TrackRecord
record_of n a b c d =
    record {
      blocks = n;
      a = a;
      b = b;
      c = c;
      d = d;
      numbers = numbers_with (pos (dsg steps n (squares n (at b)))) n a b c d;
    }

unfoldable pub results : Given → TrackRecord
results g =
    let n = blocks g in record_of n (places n (value_a g)) (places n (value_b g)) (places n (value_c g)) (places n (value_d g))

-- 3, 4, 5 and 6 on the numbers.
unfoldable pub record_number : TrackRecord → ℕ
record_number t = limits_number t.numbers then dsg_number t.numbers.dsg

-- The number of the first refusal in document 01's order, 0 where there is none. 10 is retired (document 02, Job 14): proofs/Retired.antt shows that
-- no answer changed.
unfoldable pub track_number : Given → ℕ
track_number g =
    1 when wrong_sizes g then 2 when out_of_limits g then record_number (results g)

-- A record of zeros.
unfoldable pub zeros : TrackRecord
zeros =
    record {
      blocks = 0;
      a = replicate 52 (pos 0);
      b = replicate 52 (pos 0);
      c = replicate 52 (pos 0);
      d = replicate 52 (pos 0);
      numbers = no_numbers;
    }

-- What Track answers: the number of the refusal, 0 where it accepts, and the record.
pub record Tracked : Type 0 where
  pub refusal : ℕ
  pub «record» : TrackRecord

-- The number with the record, which holds 0 throughout where the track is refused.
unfoldable pub tracked : ℕ → TrackRecord → Tracked
tracked zero t = record { refusal = 0; «record» = t }
tracked (suc number) t = record { refusal = suc number; «record» = zeros }

unfoldable pub track_rule : Given → Tracked
track_rule g = tracked (track_number g) (results g)

-- The number and the record of each case.
abbrev pub tracked_of : Result TrackRecord Refusal → Tracked
tracked_of (Ok t) = record { refusal = 0; «record» = t }
tracked_of (Err r) = record { refusal = paper_number r; «record» = zeros }
