-- `series::scatter` meets its contract.
-- Assumes nothing.
use mathlib.Core.Path.{◌≡◌, sym, ap, ◌∙◌}
use Prim.Native.Nat.{◌≤◌, ◌<◌}
use native.Mathlib.Omega.{arith}
use lib.ListN.{length}
use Rattle.std.proofs.lemmas.Result.{err_from_is_err_and}
use Rattle.whole.proofs.Words.{count-read, fits, count, plain-is, bounds}
use Rattle.series.specs.Fit.{series_number}
use Rattle.series.specs.Scatter.{scatter_rule}
use Rattle.series.proofs.Replies.{scatter-refused, scatter-above, scatter-below, sigma-small}
use Rattle.series.proofs.scatter.Goals.{In_ok-series, After-dsg}
use Rattle.series.proofs.scatter.Goals as goal

pub returns-in_err-series : goal.returns-in_err-series
returns-in_err-series c =
    let p = err_from_is_err_and c.from_residual.result c.from_residual.ensures.1 in
    record { answer = rw (p.1, p.2) (scatter-refused c.args.values.now c.in_err-series.field-0.0 c.in_err-series.ensures.number) }

-- the list is not refused
accepted : (c : In_ok-series) → series_number c.in_ok-series.series.values.now ≡ 0
accepted c = ap series_number c.in_ok-series.ensures.values ∙ sym c.in_ok-series.ensures.number

some : (c : In_ok-series) → 0 < length c.in_ok-series.series.values.now
some c = omega (arith, c.in_ok-series.series.count)

pub returns-in_err-q : goal.returns-in_err-q
returns-in_err-q c =
    let p = err_from_is_err_and c.from_residual-in_err-q.result c.from_residual-in_err-q.ensures.1 in
    let s = (goal.at.returns-in_err-q c).In_ok-series in record {
      answer = rw (p.1, p.2)
          (scatter-above c.in_ok-series.series.values.now (some s) (accepted s) c.in_err-q.field-0.0 c.in_err-q.ensures.0 c.in_err-q.ensures.1
          ∙ ap scatter_rule c.in_ok-series.ensures.values);
    }

small : (c : After-dsg) → c.dsg.result ≤ 9999
small c =
    let s = (goal.at.After-dsg c).In_ok-series in
    sigma-small c.in_ok-series.series.values.now (some s) (accepted s) c.in_ok-q.q c.dsg.result c.in_ok-q.ensures.0 c.dsg.ensures c.in_ok-q.ensures.1

pub overflow_cast-result : goal.overflow_cast-result
overflow_cast-result c = let d = count {b = 9999} (small c) in fits (search bounds depth 9) tt

pub returns : goal.returns
returns c =
    let s = (goal.at.returns c).In_ok-series in record {
      answer = rw (plain-is (count-read {b = 9999} (small (goal.at.returns c).After-dsg)) tt)
          (scatter-below c.in_ok-series.series.values.now (some s) (accepted s) c.in_ok-q.q c.dsg.result c.in_ok-q.ensures.0 c.dsg.ensures c.in_ok-q.ensures.1
          ∙ ap scatter_rule c.in_ok-series.ensures.values);
    }
