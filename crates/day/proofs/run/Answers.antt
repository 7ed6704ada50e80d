-- `day::run` meets its contract: each exit tells what is answered and whether anything is written.
-- Assumes nothing.
use mathlib.Core.Path.{◌∙◌}
use Rattle.std.proofs.lemmas.Result.{err_from_is_err_and}
use Rattle.day.proofs.Finishing.{Judged, rejected, no_room, accepted, written}
use Rattle.day.proofs.run.Goals.{In_ok-count}
use Rattle.day.proofs.run.Goals as goal

-- what is known when all blocks are accepted
known : (c : In_ok-count) → Judged c.args.blocks.now c.in_ok-begun.begun c.in_ok-count.count c.write.new.file
known c = record { cache = _; wrote = c.in_ok-begun.ensures.wrote; verdict = c.in_ok-count.ensures }

pub returns-in_err-begun-clause-answer : goal.returns-in_err-begun-clause-answer
returns-in_err-begun-clause-answer c =
    let p = err_from_is_err_and c.from_residual.result c.from_residual.ensures.1 in
    rw (p.1, p.2) (rejected c.args.blocks.now c.args.file.now c.in_err-begun.field-0.0 c.in_err-begun.ensures.rejected).0

pub returns-in_err-begun-clause-written : goal.returns-in_err-begun-clause-written
returns-in_err-begun-clause-written c =
    (rejected c.args.blocks.now c.args.file.now c.in_err-begun.field-0.0 c.in_err-begun.ensures.rejected).1

pub returns-in_err-count-clause-answer : goal.returns-in_err-count-clause-answer
returns-in_err-count-clause-answer c =
    let p = err_from_is_err_and c.from_residual-in_err-count.result c.from_residual-in_err-count.ensures.1 in
    rw (p.1, p.2)
    (rejected c.args.blocks.now c.args.file.now c.in_err-count.field-0.0 (c.in_ok-begun.ensures.wrote.walked.same ∙ c.in_err-count.ensures)).0

pub returns-in_err-count-clause-written : goal.returns-in_err-count-clause-written
returns-in_err-count-clause-written c =
    (rejected c.args.blocks.now c.args.file.now c.in_err-count.field-0.0 (c.in_ok-begun.ensures.wrote.walked.same ∙ c.in_err-count.ensures)).1

pub returns-then-file-count-clause-answer : goal.returns-then-file-count-clause-answer
returns-then-file-count-clause-answer c =
    (no_room (known (goal.at.returns-then-file-count-clause-answer c).In_ok-count) c.args.file.now c.if-file-count.true).0

pub returns-then-file-count-clause-written : goal.returns-then-file-count-clause-written
returns-then-file-count-clause-written c =
    (no_room (known (goal.at.returns-then-file-count-clause-written c).In_ok-count) c.args.file.now c.if-file-count.true).1

pub finish-requires-clause-room : goal.finish-requires-clause-room
finish-requires-clause-room c =
    (accepted (known (goal.at.finish-requires-clause-room c).In_ok-count) c.args.file.now c.if-file-count.false).1

pub returns-clause-answer : goal.returns-clause-answer
returns-clause-answer c =
    (written (known (goal.at.returns-clause-answer c).In_ok-count) c.args.file.now c.if-file-count.false c.finish.new.file c.finish.ensures).0

pub returns-clause-written : goal.returns-clause-written
returns-clause-written c =
    (written (known (goal.at.returns-clause-written c).In_ok-count) c.args.file.now c.if-file-count.false c.finish.new.file c.finish.ensures).1
