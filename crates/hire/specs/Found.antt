-- What Track makes of the numbers of a hire block (document 01, "The hire block" and Block's 11; document 02, Job 3).
-- Assumes nothing.
use Rattle.std.specs.Prelude.{ℕ, cond, List, length, eqb}
use Rattle.limits.specs.Limits.{no_numbers}
use Rattle.limits.specs.Reply.{Reply}
use Rattle.limits.specs.declared.Numbers.{Numbers}
use Rattle.fit.specs.Found.{found_rule}
use Rattle.hire.specs.Hire.{blocks_in, block_length, block_given}

-- Track's answer to a block that is as long as its sizes make it, and 11 to any other.
unfoldable pub block_track_rule : List ℕ → Reply Numbers
block_track_rule b =
    cond (eqb (length b) (block_length (blocks_in b))) (found_rule (block_given b)) (record { number = 11; values = no_numbers })
