-- `boundary::trackline_append` meets its contract: the answer tells whether the place is written.
-- Assumes nothing.
use mathlib.Core.Path.{◌≡◌, ◌∙◌}
use Prim.Native.Nat.{suc}
use lib.ListN.{length}
use mir.Facts.{to_z-of_z}
use Rattle.limits.specs.Numbers.{reply_of}
use Rattle.delays.specs.Append.{append_number, append_rule}
use Rattle.delays.specs.Store.{version, count, store_length_lem}
use Rattle.limits.proofs.Cases.{number_of_reply}
use Rattle.boundary.proofs.Rows.{accepted}
use Rattle.boundary.proofs.trackline_append.Goals.{After-append-answer}
use Rattle.boundary.proofs.trackline_append.Goals as goal

-- what append ensures, on the delays themselves
told : (c : After-append-answer)
    → reply_of 0 c.append-answer.result ≡ append_rule c.args.store.now c.args.mjd c.args.intdly c.args.cabdly c.args.refdly c.args.gd (length c.args.longer.now)
told c =
    c.append-answer.ensures.answer
    ∙ (λ i. append_rule c.args.store.now c.args.mjd (to_z-of_z c.ranges.intdly i) (to_z-of_z c.ranges.cabdly i) (to_z-of_z c.ranges.refdly i) (to_z-of_z c.ranges.gd i) (length c.args.longer.now))

pub returns-in_default-clause-answer : goal.returns-in_default-clause-answer
unfolding append_rule
returns-in_default-clause-answer c =
    c.reply_number.ensures
    ∙ number_of_reply 0 c.append-answer.result (append_number c.args.store.now c.args.mjd c.args.intdly c.args.cabdly c.args.refdly c.args.gd (length c.args.longer.now)) (store_length_lem (version c.args.store.now) (suc (count c.args.store.now))) (told (goal.at.returns-in_default-clause-answer c).After-append-answer)

pub returns-clause-answer : goal.returns-clause-answer
unfolding append_rule
returns-clause-answer c =
    (accepted 0 (store_length_lem (version c.args.store.now) (suc (count c.args.store.now))) (append_number c.args.store.now c.args.mjd c.args.intdly c.args.cabdly c.args.refdly c.args.gd (length c.args.longer.now)) c.in-Ok.is (told (goal.at.returns-clause-answer c).After-append-answer)).0

pub returns-clause-written : goal.returns-clause-written
unfolding append_rule
returns-clause-written c =
    (accepted 0 (store_length_lem (version c.args.store.now) (suc (count c.args.store.now))) (append_number c.args.store.now c.args.mjd c.args.intdly c.args.cabdly c.args.refdly c.args.gd (length c.args.longer.now)) c.in-Ok.is (told (goal.at.returns-clause-written c).After-append-answer)).1
