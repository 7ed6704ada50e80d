-- `path::path` meets its contract: the number of the first refusal, and the length where there is none.
-- Assumes nothing.
use mathlib.Core.Path.{sym, ap, subst, ◌∙◌}
use Prim.Native.Nat.{ℕ, ◌<◌}
use lib.Ieee.{Float}
use Rattle.std.proofs.lemmas.Result.{err_from_is_err_and}
use Rattle.limits.proofs.Cases.{paper_above_zero}
use Rattle.limits.proofs.Replies.{reply-accepted, reply-refused}
use Rattle.path.specs.Path.{length_of, plus_zero, path_rule}
use Rattle.path.proofs.path.Goals as goal

pub returns-in_err-refusal : goal.returns-in_err-refusal
unfolding path_rule
returns-in_err-refusal c =
    let p = err_from_is_err_and c.from_residual.result c.from_residual.ensures.1 in
    let n = c.in_err-refusal.ensures in
    record {
      answer = rw (p.1, p.2) (ap (λ (n : ℕ). record { number = n; values = plus_zero }) n
          ∙ sym (reply-refused plus_zero (length_of c.args.satellite c.args.antenna) (subst (λ (n : ℕ). 0 < n) n (paper_above_zero _))));
    }

pub length-requires : goal.length-requires
length-requires c = sym c.in_ok-refusal.ensures

pub returns : goal.returns
unfolding path_rule
returns c = record {
  answer = ap (λ (l : Float). record { number = 0; values = l }) c.length.ensures
      ∙ sym (reply-accepted plus_zero (length_of c.args.satellite c.args.antenna) (sym c.in_ok-refusal.ensures));
}
