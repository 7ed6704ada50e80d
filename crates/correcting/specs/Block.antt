-- The corrected values of one block (document 01, "Correcting"), from its smoothed value and its own five corrections, or the 2 of a number that is
-- outside its limits. Track's own rule does not name it.
-- Assumes nothing.
use Rattle.std.specs.Prelude.{Bool, ◌||◌, ℤ, pos, ◌*ℤ◌}
use Rattle.limits.specs.Refusal.{◌when◌}
use Rattle.limits.specs.Limits.{beyond, delays_beyond_lem, delay_limit}
use Rattle.limits.specs.Reply.{Reply, reply}
use Rattle.limits.specs.declared.Delays.{Delays}
use Rattle.series.specs.Fit.{value_limit}
use Rattle.exact.specs.Corrected.{steps, to_a, to_b}
use Rattle.correcting.specs.declared.correction.Values.{Values}
use Rattle.correcting.specs.declared.inputs.Group.{Group}
use Rattle.correcting.specs.Correct.{geometry_limit}
use Rattle.correcting.specs.Given.{alone}

-- Values that are 0 throughout: those of a refusal.
abbrev pub no_values : Values
no_values = record { a = pos 0; b = pos 0; c = pos 0; d = pos 0 }

-- One of a block's five corrections is outside its limits.
abbrev pub group_beyond : Group → Bool
group_beyond group =
    beyond geometry_limit group.geometry || beyond delay_limit group.relativity || beyond delay_limit group.ionosphere
    || beyond delay_limit group.troposphere || beyond delay_limit group.clock

-- A, B, C and D of a block from its smoothed value in tenths.
abbrev pub values_of : ℤ → Delays → Group → Values
values_of smoothed delays group =
    record {
      a = to_a (alone delays group) (pos steps) 0 smoothed;
      b = to_b (alone delays group) (pos steps) 0 smoothed;
      c = pos steps *ℤ group.troposphere;
      d = pos steps *ℤ group.ionosphere;
    }

-- The values, or 2: the smoothed value is outside Fit's limit, or a correction or a delay outside its own.
unfoldable pub block_values_rule : ℤ → Delays → Group → Reply Values
block_values_rule smoothed delays group =
    reply no_values
    (2 when (group_beyond group || (beyond value_limit smoothed || delays_beyond_lem delays.int delays.cab delays.refdly delays.gd)))
    (values_of smoothed delays group)
