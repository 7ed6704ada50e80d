-- `series::fit` meets its contract.
-- Assumes nothing.
use mathlib.Core.Path.{sym, ap, ◌∙◌}
use mathlib.Core.List.{List}
use lib.IntN.{ℤ}
use lib.ListN.{length}
use Rattle.std.proofs.lemmas.Result.{err_from_is_err_and}
use Rattle.whole.proofs.Words.{back-of}
use Rattle.whole.specs.Table.{at}
use Rattle.exact.specs.Corrected.{steps}
use Rattle.limits.proofs.Replies.{reply-accepted}
use Rattle.series.specs.Fit.{midpoint, slope, fit_rule}
use Rattle.series.proofs.Replies.{fit-refused}
use Rattle.series.proofs.fit.Goals as goal

pub returns-in_err-series : goal.returns-in_err-series
returns-in_err-series c =
    let p = err_from_is_err_and c.from_residual.result c.from_residual.ensures.1 in
    record { answer = rw (p.1, p.2) (fit-refused c.args.values.now c.in_err-series.field-0.0 c.in_err-series.ensures.number) }

pub returns : goal.returns
unfolding fit_rule
returns c =
    let e = c.in_ok-series.ensures.values in
    let m = back-of c.midpoint.type_inv ∙ c.midpoint.ensures ∙ ap (λ (l : List ℤ). midpoint steps (length l) (at l)) e in
    let s = back-of c.slope.type_inv ∙ c.slope.ensures ∙ ap (λ (l : List ℤ). slope steps (length l) (at l)) e in
    record { answer = rw (m, s) (sym (reply-accepted _ _ (sym c.in_ok-series.ensures.number))) }
