-- `linefile::accepted` meets its contract: the chunks are the lines of the file.
-- Assumes nothing.
use mathlib.Core.Path.{sym, ap, ◌∙◌}
use mathlib.Core.List.{[]}
use native.Mathlib.Omega.{arith}
use Rattle.linefile.specs.Files.{file_number, lines_number}
use Rattle.linefile.proofs.Lines.{chunks-lines}
use Rattle.limits.proofs.Laws.{then-zero}
use Rattle.linefile.proofs.accepted.Goals as goal

pub invariant_of-result : goal.invariant_of-result
unfolding file_number
invariant_of-result c =
    record {
      accepted = ap (lines_number []) (chunks-lines c.args.file.now c.as_chunks.ensures.front) ∙ (then-zero _ _ (sym c.in_ok-refusal.ensures)).0;
      counted = omega (arith, c.as_chunks.ensures.front_len, c.well_formed);
    }

pub returns-clause-lines : goal.returns-clause-lines
returns-clause-lines c = chunks-lines c.args.file.now c.as_chunks.ensures.front
