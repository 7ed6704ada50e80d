-- `boundary::trackline_day` meets its contract: the case of the answer tells which of the two places is set.
-- Assumes nothing.
use mathlib.Core.Path.{◌≡◌, refl, sym, ap, ◌∙◌}
use native.Mathlib.Omega.{arith}
use lib.ListN.{length}
use Rattle.day.specs.Answers.{written_of, written_number, written_bytes}
use Rattle.day.proofs.Answers.{answer-number, answer-bytes, refused-case}
use Rattle.boundary.specs.Values.{refused_after}
use Rattle.boundary.proofs.Rows.{place-named}
use Rattle.boundary.proofs.trackline_day.Goals as goal

pub returns-in-Ok-clause-answer : goal.returns-in-Ok-clause-answer
returns-in-Ok-clause-answer c =
    ap written_number (sym (ap written_of c.in-Ok.is) ∙ c.day.ensures.answer) ∙ answer-number c.args.blocks.now (length c.args.file.now)

pub returns-in-Ok-clause-written : goal.returns-in-Ok-clause-written
returns-in-Ok-clause-written c =
    let told = sym (ap written_of c.in-Ok.is) ∙ c.day.ensures.answer in
    ap written_bytes told ∙ answer-bytes c.args.blocks.now (length c.args.file.now) (sym (ap written_number told ∙ answer-number c.args.blocks.now (length c.args.file.now)))

pub returns-in-Ok-clause-block : goal.returns-in-Ok-clause-block
unfolding refused_after
returns-in-Ok-clause-block c = refl

pub returns-in-Err-clause-answer : goal.returns-in-Err-clause-answer
returns-in-Err-clause-answer c = c.from.ensures ∙ (refused-case c.args.blocks.now (length c.args.file.now) c.in-Err.ensures.answer).1

pub returns-in-Err-clause-block : goal.returns-in-Err-clause-block
returns-in-Err-clause-block c =
    let r = refused-case c.args.blocks.now (length c.args.file.now) c.in-Err.ensures.answer in
    place-named c.from.result c.args.block.now r.2 (omega (arith, c.from.ensures ∙ r.1, r.0))
