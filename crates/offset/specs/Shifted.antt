-- A shared offset (document 02, Job 7): a track whose every measurement has the same whole multiple of 100 ps added, and how its ten numbers
-- move; hire blocks that are shifted alike, and days of them, of which `day` makes line files.
-- Assumes nothing.
use Rattle.std.specs.Prelude.{◌≡◌, List, map, ℤ, pos, ◌+ℤ◌, ◌*ℤ◌, ℕ, ◌<◌, length}
use Rattle.limits.specs.declared.Numbers.{Numbers}
use Rattle.hire.specs.Hire.{block_labels, block_given}
use Rattle.exact.specs.Corrected.{Given}
use Rattle.day.specs.Day.{blocks_of, day_verdict, block_at, AllBytes}

-- 0.1 ns, the unit of REFSV and REFSYS, in ps.
abbrev pub unit : ℤ
unit = pos 100

-- What a track is given, k × 100 ps added to every measurement and nothing else changed. k may be negative.
unfoldable pub shifted : ℤ → Given → Given
shifted k g =
    record {
      measurements = map (λ (z : ℤ). z +ℤ unit *ℤ k) g.measurements;
      int = g.int;
      cab = g.cab;
      refdly = g.refdly;
      gd = g.gd;
      geometry = g.geometry;
      relativity = g.relativity;
      ionosphere = g.ionosphere;
      troposphere = g.troposphere;
      clock = g.clock;
    }

-- REFSV and REFSYS have moved by k of their unit, 0.1 ns, and nothing else has moved.
pub record Moved (k : ℤ) (before after : Numbers) : Type 0 where
  pub refsv : after.refsv ≡ before.refsv +ℤ k
  pub srsv : after.srsv ≡ before.srsv
  pub refsys : after.refsys ≡ before.refsys +ℤ k
  pub srsys : after.srsys ≡ before.srsys
  pub mdtr : after.mdtr ≡ before.mdtr
  pub smdt : after.smdt ≡ before.smdt
  pub mdio : after.mdio ≡ before.mdio
  pub smdi : after.smdi ≡ before.smdi
  pub dsg : after.dsg ≡ before.dsg
  pub trkl : after.trkl ≡ before.trkl

-- A hire block that says what another says, but for the measurements, which are those of the other with k × 100 ps added. Where both are accepted,
-- their sizes and lengths are the same too.
pub record ShiftedBlock (k : ℤ) (before after : List ℕ) : Type 0 where
  pub labels : block_labels after ≡ block_labels before
  pub given : block_given after ≡ shifted k (block_given before)

-- Two days of hire blocks, back to back, that `day` accepts where there is room: block i of the second is block i of the first, shifted by k.
pub record ShiftedDay (k : ℤ) (before after : List ℕ) : Type 0 where
  pub before_bytes : AllBytes before
  pub after_bytes : AllBytes after
  pub before_accepted : (day_verdict before).refusal ≡ 0
  pub after_accepted : (day_verdict after).refusal ≡ 0
  pub count : length (blocks_of after) ≡ length (blocks_of before)
  pub moved : (i : ℕ) → i < length (blocks_of before) → ShiftedBlock k (block_at before i) (block_at after i)
