-- `day::day` meets its contract: its promises follow from the answer and the file.
-- Assumes nothing.
use native.Mathlib.Omega.{arith}
use Rattle.std.specs.Prelude.{IfOk}
use Rattle.std.proofs.lemmas.Result.{IfOk-weaker}
use Rattle.day.proofs.DayFile.{Promised, promised}
use Rattle.day.proofs.day.Goals.{After-run_sized}
use Rattle.day.proofs.day.Goals as goal

all : (c : After-run_sized) → IfOk c.run_sized.result (Promised c.args.blocks.now c.run_sized.new.file)
all c =
    promised c.args.blocks.now c.args.file.now c.run_sized.new.file c.run_sized.result (λ i. omega (arith, c.type_inv.blocks i)) c.run_sized.ensures.answer c.run_sized.ensures.written

pub returns-clause-lines : goal.returns-clause-lines
returns-clause-lines c = IfOk-weaker c.run_sized.result _ _ (λ n p. p.lines) (all (goal.at.returns-clause-lines c).After-run_sized)

pub returns-clause-accurate : goal.returns-clause-accurate
returns-clause-accurate c = IfOk-weaker c.run_sized.result _ _ (λ n p. p.accurate) (all (goal.at.returns-clause-accurate c).After-run_sized)

pub returns-clause-file : goal.returns-clause-file
returns-clause-file c = IfOk-weaker c.run_sized.result _ _ (λ n p. p.line_file) (all (goal.at.returns-clause-file c).After-run_sized)
