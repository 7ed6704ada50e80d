-- `boundary::trackline_path` meets its contract: the answer tells whether the length is put.
-- Assumes nothing.
use mathlib.Core.Path.{◌∙◌}
use Rattle.path.specs.declared.Point.{Point}
use Rattle.path.specs.Path.{length_of, path_number, plus_zero, path_rule}
use Rattle.limits.proofs.Cases.{number_of_reply}
use Rattle.boundary.proofs.Rows.{accepted}
use Rattle.boundary.proofs.trackline_path.Goals.{Start}
use Rattle.boundary.proofs.trackline_path.Goals as goal

-- the two points
abbrev satellite : Start → Point
satellite c = record { x = c.args.xs; y = c.args.ys; z = c.args.zs }

abbrev antenna : Start → Point
antenna c = record { x = c.args.xa; y = c.args.ya; z = c.args.za }

pub returns-in_default-clause-answer : goal.returns-in_default-clause-answer
unfolding path_rule
returns-in_default-clause-answer c =
    let s = (goal.at.returns-in_default-clause-answer c).Start in
    c.reply_number.ensures ∙ number_of_reply plus_zero c.path-answer.result (path_number (satellite s) (antenna s)) (length_of (satellite s) (antenna s)) c.path-answer.ensures.answer

pub returns-clause-answer : goal.returns-clause-answer
unfolding path_rule
returns-clause-answer c =
    let s = (goal.at.returns-clause-answer c).Start in
    (accepted plus_zero (length_of (satellite s) (antenna s)) (path_number (satellite s) (antenna s)) c.in-Ok.is c.path-answer.ensures.answer).0

pub returns-clause-written : goal.returns-clause-written
unfolding path_rule
returns-clause-written c =
    let s = (goal.at.returns-clause-written c).Start in
    (accepted plus_zero (length_of (satellite s) (antenna s)) (path_number (satellite s) (antenna s)) c.in-Ok.is c.path-answer.ensures.answer).1
