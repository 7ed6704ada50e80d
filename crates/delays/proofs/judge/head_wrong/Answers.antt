-- `delays::judge::head_wrong` meets its contract: the tests are those of the rule.
-- Assumes nothing.
use Rattle.delays.proofs.judge.head_wrong.Goals as goal

pub returns : goal.returns
returns c = simp c.store_length.ensures
