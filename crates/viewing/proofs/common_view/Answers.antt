-- `viewing::common_view` meets its contract: each test tells what is answered.
-- Assumes nothing.
use mathlib.Core.Path.{◌≡◌, sym, ap, ◌∙◌}
use native.Mathlib.Omega.{arith}
use lib.IntN.{ℤ, pos}
use lib.Signed.{lt_z}
use lib.ListN.{length}
use mir.Syntax.{w64}
use mir.Val.{to_z, of_z}
use mir.Facts.{to_z-of_z}
use borrow.Author.Rules.{rules}
use Rattle.std.proofs.lemmas.Result.{err_from_is_err_and}
use Rattle.limits.proofs.Cases.{paper_above_zero}
use Rattle.linefile.proofs.Lines.{length-lines}
use Rattle.viewing.proofs.Gathering.{Fits}
use Rattle.viewing.proofs.Reports.{gathered-is, long-refused, lengths, files-refused, no-pair, reported}
use Rattle.viewing.proofs.common_view.Goals.{After-gather-figures}
use Rattle.viewing.proofs.common_view.Goals as goal

pub returns-then-first-second : goal.returns-then-first-second
returns-then-first-second c = record { answer = long-refused c.args.first.now c.args.second.now c.if-first-second.true }

pub returns-in_err-lines : goal.returns-in_err-lines
returns-in_err-lines c =
    let p = err_from_is_err_and c.from_residual.result c.from_residual.ensures.1 in
    record {
      answer =
          rw (p.1, p.2) (files-refused c.args.first.now c.args.second.now c.if-first-second.false c.in_err-lines.ensures.number (paper_above_zero c.in_err-lines.field-0.0));
    }

pub gather-figures-requires : goal.gather-figures-requires
gather-figures-requires c =
    let l = lengths c.args.first.now c.args.second.now c.if-first-second.false in
    omega (arith, l.0, l.1, ap length c.in_ok-lines.ensures.lines.0, ap length c.in_ok-lines.ensures.lines.1, length-lines c.args.first.now, length-lines c.args.second.now)

-- what is gathered reads back from its bits
pairs-are : (c : After-gather-figures) → lt_z c.gather-figures.result.pairs (pos 1) ≡ lt_z (to_z w64 (of_z w64 c.gather-figures.result.pairs)) (pos 1)
pairs-are c = let f : Fits c.gather-figures.result = search rules in ap (λ (z : ℤ). lt_z z (pos 1)) (sym (to_z-of_z f.pairs))

pub returns-then-figures-lt1 : goal.returns-then-figures-lt1
returns-then-figures-lt1 c = record {
  answer =
      no-pair c.args.first.now c.args.second.now c.if-first-second.false (sym c.in_ok-lines.ensures.number) c.gather-figures.result
      (gathered-is c.args.first.now c.args.second.now c.in_ok-lines.ensures.lines c.gather-figures.ensures)
      (pairs-are (goal.at.returns-then-figures-lt1 c).After-gather-figures ∙ c.if-figures-lt1.true);
}

pub returns : goal.returns
returns c = record {
  answer =
      reported c.args.first.now c.args.second.now c.if-first-second.false (sym c.in_ok-lines.ensures.number) c.gather-figures.result
      (gathered-is c.args.first.now c.args.second.now c.in_ok-lines.ensures.lines c.gather-figures.ensures)
      (pairs-are (goal.at.returns c).After-gather-figures ∙ c.if-figures-lt1.false);
}
