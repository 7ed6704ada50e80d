-- `boundary::trackline_merge` meets its contract: the answer tells whether the length is put.
-- Assumes nothing.
use mathlib.Core.Path.{◌∙◌}
use lib.ListN.{length}
use Rattle.merging.specs.Merge.{merged_file, merge_number, merge_rule}
use Rattle.limits.proofs.Cases.{number_of_reply}
use Rattle.boundary.proofs.Rows.{accepted}
use Rattle.boundary.proofs.trackline_merge.Goals as goal

pub returns-in_default-clause-answer : goal.returns-in_default-clause-answer
unfolding merge_rule
returns-in_default-clause-answer c =
    c.reply_number.ensures
    ∙ number_of_reply 0 c.merge-answer.result (merge_number c.args.first.now c.args.second.now (length c.args.file.now)) (length (merged_file c.args.first.now c.args.second.now)) c.merge-answer.ensures.answer

pub returns-clause-answer : goal.returns-clause-answer
unfolding merge_rule
returns-clause-answer c =
    (accepted 0 (length (merged_file c.args.first.now c.args.second.now)) (merge_number c.args.first.now c.args.second.now (length c.args.file.now)) c.in-Ok.is c.merge-answer.ensures.answer).0

pub returns-clause-written : goal.returns-clause-written
unfolding merge_rule
returns-clause-written c =
    (accepted 0 (length (merged_file c.args.first.now c.args.second.now)) (merge_number c.args.first.now c.args.second.now (length c.args.file.now)) c.in-Ok.is c.merge-answer.ensures.answer).1
