-- `version01::down` meets its contract: refused, it touches nothing; accepted, the line has all columns and there is room.
-- Assumes nothing.
use mathlib.Core.Path.{◌≡◌, refl, sym, ap, subst, ◌∙◌}
use mathlib.Core.Bool.{Bool, true, false, not}
use mathlib.Core.List.{List}
use Prim.Native.Nat.{ℕ, ◌<◌}
use native.Mathlib.Omega.{arith}
use lib.Dec.{eqb, ltb, lit<}
use lib.ListN.{length}
use borrow.Author.Tests.{eq-eqb, ne_eqb, lt-ltb, le-ltb}
use Rattle.std.specs.Prelude.{Result, Ok}
use Rattle.std.proofs.lemmas.Result.{err_from_is_err_and}
use Rattle.limits.specs.Numbers.{paper_number, number_of}
use Rattle.limits.specs.Refusal.{◌when◌, ◌then◌}
use Rattle.limits.specs.declared.refusal.Refusal.{Refusal}
use Rattle.limits.proofs.Laws.{after-accepted, lent-kept}
use Rattle.limits.proofs.Cases.{paper_above_zero, refused_here}
use Rattle.labels.specs.declared.Labels.{Labels}
use Rattle.columns.specs.Columns.{labels_with_lem, read_labels}
use Rattle.reading.specs.declared.Reading.{Reading}
use Rattle.reading.specs.Answers.{read_reply}
use Rattle.reading.specs.Read.{read_rule}
use Rattle.reading.proofs.Readings.{accepted-case, accepted-values, refused-number}
use Rattle.reading.proofs.Refusals.{accepted}
use Rattle.version01.specs.Convert.{down_answer, down_after, old_length}
use Rattle.version01.proofs.down.Goals as goal

-- the lent line is kept at a refusal
kept : {number : ℕ} (line lent : List ℕ) → 0 < number → number ≡ down_answer line (length lent) → lent ≡ down_after line lent
unfolding down_after
kept line lent h e = lent-kept _ _ lent (subst (λ (n : ℕ). 0 < n) e h)

-- the row by the answers of the tests, of a line that is read
row_is : {reading : Reading} {r : Result Reading Refusal} {other short : Bool} (line : List ℕ) (room : ℕ) → r ≡ Ok reading → read_reply r ≡ read_rule line
    → other ≡ not (eqb reading.labels.constellation 71) → short ≡ ltb room old_length → 25 when other then 9 when short ≡ down_answer line room
unfolding down_answer read_labels labels_with_lem ◌then◌
row_is line room is a e f =
    let z = sym (accepted-case line is a) in
    let o = e ∙ ap (λ (l : Labels). not (eqb l.constellation 71)) (accepted-values line is a).0 in
    λ i. z i then 25 when o i then 9 when f i

pub returns-in_err-reading : goal.returns-in_err-reading
unfolding down_answer
returns-in_err-reading c =
    let p = err_from_is_err_and c.from_residual.result c.from_residual.ensures.1 in
    let e = refused_here c.in_err-reading.field-0.0 _ (refused-number c.args.line.now c.in_err-reading.was c.read.ensures.answer) in record {
      answer = ap number_of p.1 ∙ ap paper_number p.2 ∙ e;
      written = kept c.args.line.now c.args.old.now (paper_above_zero c.in_err-reading.field-0.0) e;
    }

pub returns-then-reading-ne71 : goal.returns-then-reading-ne71
unfolding ◌when◌ ◌then◌
returns-then-reading-ne71 c =
    let e = row_is {other = true} c.args.line.now (length c.args.old.now) c.in_ok-reading.was c.read.ensures.answer (sym (ap not (ne_eqb _ 71 c.if-reading-ne71.true))) refl in record {
      answer = e;
      written = kept c.args.line.now c.args.old.now (lit< tt) e;
    }

pub returns-then-old-lt-OLD_LENGTH : goal.returns-then-old-lt-OLD_LENGTH
unfolding ◌when◌ ◌then◌
returns-then-old-lt-OLD_LENGTH c =
    let e = row_is {other = false} {short = true} c.args.line.now (length c.args.old.now) c.in_ok-reading.was c.read.ensures.answer (sym (ap not (eq-eqb _ 71 c.if-reading-ne71.false))) (sym (lt-ltb _ 103 c.if-old-lt-OLD_LENGTH.true)) in record {
      answer = e;
      written = kept c.args.line.now c.args.old.now (lit< tt) e;
    }

pub write-requires-clause-in_bounds : goal.write-requires-clause-in_bounds
write-requires-clause-in_bounds c =
    omega (arith, (accepted c.args.line.now (accepted-case c.args.line.now c.in_ok-reading.was c.read.ensures.answer)).0.least)

pub returns : goal.returns
unfolding down_after ◌when◌ ◌then◌
returns c =
    let e = row_is {other = false} {short = false} c.args.line.now (length c.args.old.now) c.in_ok-reading.was c.read.ensures.answer (sym (ap not (eq-eqb _ 71 c.if-reading-ne71.false))) (sym (le-ltb _ 103 c.if-old-lt-OLD_LENGTH.false)) in record {
      answer = e;
      written = c.write.ensures ∙ sym (after-accepted _ _ (sym e));
    }
