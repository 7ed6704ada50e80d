-- `version01::up` meets its contract: refused, it touches nothing; accepted, the old line has all columns and there is room.
-- Assumes nothing.
use mathlib.Core.Path.{◌≡◌, sym, ap, subst, ◌∙◌}
use mathlib.Core.Bool.{Bool}
use mathlib.Core.List.{List, [], ◌∷◌, ◌++◌}
use Prim.Native.Nat.{ℕ, ◌+◌, ◌≤◌, ◌<◌}
use native.Mathlib.Omega.{arith}
use lib.Dec.{lit<}
use lib.ListN.{length, drop}
use borrow.Author.Tests.{lt-ltb, le-ltb}
use Rattle.std.proofs.lemmas.Result.{err_from_is_err_and}
use Rattle.limits.specs.Numbers.{paper_number, number_of}
use Rattle.limits.specs.Refusal.{◌when◌}
use Rattle.limits.proofs.Laws.{then-zero, after-accepted, lent-kept}
use Rattle.limits.proofs.Cases.{paper_above_zero, refused_here, passed_here}
use Rattle.fields.specs.Text.{decimal}
use Rattle.columns.specs.Text.{spaced}
use Rattle.characters.proofs.Spelled.{spelled}
use Rattle.labels.specs.declared.Supplied.{Supplied}
use Rattle.reading.specs.Old.{old_number}
use Rattle.version01.specs.Convert.{form_text, supplied, up_text, up_answer, up_after, old_length}
use Rattle.version01.proofs.Characters.{supplied-length}
use Rattle.version01.proofs.up.Goals as goal

-- the rule, the lent line afterwards and the columns behind the shared ones, with what is supplied
abbrev answer_of : Supplied → List ℕ → ℕ → ℕ
answer_of s old room = up_answer s.hc s.frc1 s.frc2 s.frc3 old room

-- the lent line is kept at a refusal
kept : {number : ℕ} (s : Supplied) (old lent : List ℕ) → 0 < number → number ≡ answer_of s old (length lent)
    → lent ≡ up_after s.hc s.frc1 s.frc2 s.frc3 old lent
unfolding up_after
kept s old lent h e = lent-kept _ _ lent (subst (λ (n : ℕ). 0 < n) e h)

-- with the digits of HC put among them, the columns behind the shared ones are those supplied
behind-is : {digits : List ℕ} (hc frc1 frc2 frc3 : ℕ) → digits ≡ decimal 2 hc → 48 ∷ 48 ∷ 32 ∷ (digits ++ (32 ∷ frc1 ∷ frc2 ∷ frc3 ∷ 32 ∷ [])) ≡ supplied hc frc1 frc2 frc3
unfolding supplied spaced decimal
behind-is hc frc1 frc2 frc3 e = ap (λ (t : List ℕ). 48 ∷ 48 ∷ 32 ∷ (t ++ (32 ∷ frc1 ∷ frc2 ∷ frc3 ∷ 32 ∷ []))) e

-- a line that is not refused has all columns
long : (hc frc1 frc2 frc3 : ℕ) (old : List ℕ) → 0 ≡ old_number hc frc1 frc2 frc3 old → 101 ≤ length old
unfolding old_number
long hc frc1 frc2 frc3 old e = omega (arith, (spelled old (then-zero _ _ (sym e)).0).least)

pub returns-in_err-old_refusal : goal.returns-in_err-old_refusal
unfolding up_answer
returns-in_err-old_refusal c =
    let p = err_from_is_err_and c.from_residual.result c.from_residual.ensures.1 in
    let e = refused_here c.in_err-old_refusal.field-0.0 _ c.in_err-old_refusal.ensures in record {
      answer = ap number_of p.1 ∙ ap paper_number p.2 ∙ e;
      written = kept c.args.supplied c.args.old.now c.args.line.now (paper_above_zero c.in_err-old_refusal.field-0.0) e;
    }

pub returns-then-line-lt-LINE_LENGTH : goal.returns-then-line-lt-LINE_LENGTH
unfolding up_answer ◌when◌
returns-then-line-lt-LINE_LENGTH c =
    let e = passed_here c.in_ok-old_refusal.ensures (sym (ap (λ (t : Bool). 9 when t) (lt-ltb (length c.args.line.now) 113 c.if-line-lt-LINE_LENGTH.true))) in record {
      answer = e;
      written = kept c.args.supplied c.args.old.now c.args.line.now (lit< tt) e;
    }

pub write-requires-clause-in_bounds : goal.write-requires-clause-in_bounds
write-requires-clause-in_bounds c = long _ _ _ _ _ c.in_ok-old_refusal.ensures

pub returns : goal.returns
unfolding up_answer up_after ◌when◌
returns c =
    let s = c.args.supplied in
    let e = passed_here c.in_ok-old_refusal.ensures (sym (ap (λ (t : Bool). 9 when t) (le-ltb (length c.args.line.now) 113 c.if-line-lt-LINE_LENGTH.false))) in record {
      answer = e;
      written = c.write.ensures
          ∙ ap (λ (b : List ℕ). form_text 71 c.args.old.now b ++ drop (old_length + length b) c.args.line.now) (behind-is s.hc s.frc1 s.frc2 s.frc3 c.decimal.ensures)
          ∙ ap (λ (n : ℕ). up_text s.hc s.frc1 s.frc2 s.frc3 c.args.old.now ++ drop (old_length + n) c.args.line.now) (supplied-length s.hc s.frc1 s.frc2 s.frc3)
          ∙ sym (after-accepted _ _ (sym e));
    }
