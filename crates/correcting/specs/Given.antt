-- What a track or one block of it is given, by the structs that the code passes.
-- Assumes nothing.
use Rattle.std.specs.Prelude.{ℕ, List, [], ◌∷◌, ℤ}
use Rattle.whole.specs.Table.{at}
use Rattle.exact.specs.Corrected.{Given}
use Rattle.limits.specs.declared.Delays.{Delays}
use Rattle.correcting.specs.declared.inputs.Corrections.{Corrections}
use Rattle.correcting.specs.declared.inputs.Group.{Group}
use Rattle.correcting.specs.Correct.{given}

abbrev pub given_of : List ℤ → Delays → Corrections → Given
given_of measurements delays corrections =
    given measurements delays.int delays.cab delays.refdly delays.gd corrections.geometry.now corrections.relativity.now
    corrections.ionosphere.now corrections.troposphere.now corrections.clock.now

-- the corrections of block j
abbrev pub group_at : Corrections → ℕ → Group
group_at corrections j =
    record {
      geometry = at corrections.geometry.now j;
      relativity = at corrections.relativity.now j;
      ionosphere = at corrections.ionosphere.now j;
      troposphere = at corrections.troposphere.now j;
      clock = at corrections.clock.now j;
    }

-- the delays and one block's corrections
abbrev pub alone : Delays → Group → Given
alone delays group =
    given [] delays.int delays.cab delays.refdly delays.gd (group.geometry ∷ []) (group.relativity ∷ []) (group.ionosphere ∷ [])
    (group.troposphere ∷ []) (group.clock ∷ [])
