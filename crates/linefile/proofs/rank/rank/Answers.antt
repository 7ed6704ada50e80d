-- `linefile::rank::rank` meets its contract: each number in it is as small as its bytes make it.
-- Assumes nothing.
use Rattle.linefile.specs.Walk.{rank}
use borrow.Author.Rules.{rules}
use Rattle.linefile.proofs.rank.rank.Goals as goal

pub returns : goal.returns
unfolding rank
returns c = search rules
