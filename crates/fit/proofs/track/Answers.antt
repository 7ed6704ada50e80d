-- `fit::track` meets its contract: its answer is the rule's, and so accurate where it is accepted.
-- Assumes nothing.
use mathlib.Core.Path.{◌≡◌, refl, ap, ◌∙◌}
use mathlib.Core.List.{List}
use Prim.Native.Nat.{ℕ}
use lib.IntN.{ℤ, pos}
use lib.ListN.{replicate}
use Rattle.std.specs.Prelude.{Ok}
use Rattle.std.proofs.lemmas.Result.{err_from_is_err_and}
use Rattle.exact.specs.Corrected.{Given}
use Rattle.correcting.specs.Correct.{blocks, places, value_a, value_b, value_c, value_d}
use Rattle.correcting.specs.Given.{given_of}
use Rattle.correcting.specs.Answer.{correct_number, corrected_blocks, filled}
use Rattle.correcting.proofs.Arrays.{filled-places}
use Rattle.correcting.proofs.Refusals.{sized, corrected-refused, corrected-values, sizes-passed, limits-passed, all-corrected}
use Rattle.fit.specs.declared.TrackRecord.{TrackRecord}
use Rattle.fit.specs.Track.{tracked_of}
use Rattle.fit.specs.Found.{judged_rule}
use Rattle.fit.proofs.Accuracy.{tracked-accurate}
use Rattle.fit.proofs.Tracks.{track-refused, judged-refused, track-ten}
use Rattle.fit.proofs.Held.{AreHeld, held-inside, held-record, held-whole}
use Rattle.fit.proofs.track.Goals.{In_ok-correct, Start}
use Rattle.fit.proofs.track.Goals as goal

-- what the track is given
abbrev g : Start → Given
g c = given_of c.args.measurements.now c.args.delays c.args.corrections

-- nothing of it is refused
number : (c : In_ok-correct) → correct_number (g (goal.at.In_ok-correct c).Start) ≡ 0
number c = corrected-values (g (goal.at.In_ok-correct c).Start) c.in_ok-correct.ensures.answer

-- so the rows hold the corrected values of its blocks
row : (t : Given) (f : ℕ → ℤ) {l : List ℤ} → correct_number t ≡ 0 → l ≡ filled (corrected_blocks t) f (replicate 52 (pos 0)) → l ≡ places (blocks t) f
row t f e h =
    h ∙ ap (λ (k : ℕ). filled k f (replicate 52 (pos 0))) (all-corrected t e) ∙ filled-places (blocks t) f (sized t (sizes-passed t e)).size-blocks.1

held : (c : In_ok-correct) → AreHeld (g (goal.at.In_ok-correct c).Start) (blocks (g (goal.at.In_ok-correct c).Start)) c.correct.new.rows
held c =
    let t = g (goal.at.In_ok-correct c).Start in
    record {
      a_is = row t (value_a t) (number c) c.in_ok-correct.ensures.a_after;
      b_is = row t (value_b t) (number c) c.in_ok-correct.ensures.b_after;
      c_is = row t (value_c t) (number c) c.in_ok-correct.ensures.c_after;
      d_is = row t (value_d t) (number c) c.in_ok-correct.ensures.d_after;
    }

pub returns-in_err-correct-clause-answer : goal.returns-in_err-correct-clause-answer
returns-in_err-correct-clause-answer c =
    let p = err_from_is_err_and c.from_residual.result c.from_residual.ensures.1 in
    let t = g (goal.at.returns-in_err-correct-clause-answer c).Start in
    rw (p.1, p.2) (track-refused t _ (corrected-refused t _ c.in_err-correct.ensures.answer))

pub ten_numbers-requires : goal.ten_numbers-requires
ten_numbers-requires c =
    let p = (goal.at.ten_numbers-requires c).In_ok-correct in
    let t = g (goal.at.ten_numbers-requires c).Start in record {
      few_blocks = (sized t (sizes-passed t (number p))).size-blocks;
      inside = held-inside t (limits-passed t (number p)) (held p);
    }

pub returns-in_err-numbers-clause-answer : goal.returns-in_err-numbers-clause-answer
returns-in_err-numbers-clause-answer c =
    let p = err_from_is_err_and c.from_residual-in_err-numbers.result c.from_residual-in_err-numbers.ensures.1 in
    let d = (goal.at.returns-in_err-numbers-clause-answer c).In_ok-correct in
    let t = g (goal.at.returns-in_err-numbers-clause-answer c).Start in
    rw (p.1, p.2) (judged-refused t (number d) _ (c.in_err-numbers.ensures ∙ ap judged_rule (held-record t (held d))))

pub returns : goal.returns
returns c =
    let d = (goal.at.returns c).In_ok-correct in
    let t = g (goal.at.returns c).Start in
    let v = track-ten t (number d) (c.in_ok-numbers.ensures ∙ ap judged_rule (held-record t (held d))) in
    let e = ap (λ (r : TrackRecord). tracked_of (Ok r)) (held-whole t (held d) v.0) ∙ v.1 in
    record { answer = e; accurate = tracked-accurate t _ e refl }
