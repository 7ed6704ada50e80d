-- `schedule::start` meets its contract: a date that passes the first test is within the schedule, and the rest is the search.
-- Assumes nothing.
use Prim.Native.Nat.{◌≤◌}
use native.Mathlib.Omega.{arith}
use borrow.Author.Tests.{ltb-false}
use borrow.Author.Rules.{rules}
use Rattle.limits.specs.Refusal.{◌when◌, ◌then◌}
use Rattle.limits.proofs.Laws.{or-false}
use Rattle.schedule.specs.Schedule.{first_date, last_date, start_number}
use Rattle.schedule.proofs.start.Goals.{Else-mjd}
use Rattle.schedule.proofs.start.Goals as goal

-- a date that passed the first test
dated : (c : Else-mjd) → (first_date ≤ c.args.mjd) × (c.args.mjd ≤ last_date)
dated c =
    let f = or-false _ _ c.if-mjd.false in
    (ltb-false _ _ f.0, ltb-false _ _ f.1)

pub overflow_sub-mjd : goal.overflow_sub-mjd
overflow_sub-mjd c = (dated c).0

pub is_start-requires : goal.is_start-requires
is_start-requires c = omega (arith, dated c)

pub returns-then-mjd : goal.returns-then-mjd
unfolding start_number ◌when◌ ◌then◌
returns-then-mjd c = search rules

pub returns-then-not-is_start : goal.returns-then-not-is_start
unfolding start_number ◌when◌ ◌then◌
returns-then-not-is_start c = search rules

pub returns : goal.returns
unfolding start_number ◌when◌ ◌then◌
returns c = search rules
