-- `fit::results::ten_numbers` meets its contract: Fit refuses none of the four rows, and the numbers are those of the record.
-- Assumes nothing.
use Rattle.std.proofs.Common.{rules, arith, sym, ap, ◌∙◌, ◌≡◌, ℕ, ◌≤◌, ◌*◌, ℤ, pos, w64, SFits, to_z, of_z, to_z-of_z}
use Rattle.std.proofs.lemmas.Result.{err_from_is_err_and}
use Rattle.std.specs.Prelude.{Result, Ok, Err, take}
use Rattle.whole.proofs.Words.{count-read, plain-is}
use Rattle.limits.specs.declared.Numbers.{Numbers}
use Rattle.limits.specs.Limits.{no_numbers, limits_number, dsg_number}
use Rattle.limits.specs.Numbers.{paper_number, reply_of}
use Rattle.limits.specs.Refusal.{◌then◌}
use Rattle.limits.specs.Reply.{reply}
use Rattle.limits.specs.declared.refusal.Refusal.{Refusal}
use Rattle.limits.proofs.Cases.{paper_above_zero, value_of_reply, refused_here, passed_here}
use Rattle.limits.proofs.Replies.{reply-accepted, reply-refused}
use Rattle.series.specs.Scatter.{scatter_rule}
use Rattle.series.proofs.Thresholds.{scatter-part}
use Rattle.fit.specs.declared.TrackRecord.{TrackRecord}
use Rattle.fit.specs.Track.{record_of, numbers_with, record_number}
use Rattle.fit.specs.Found.{judged_rule}
use Rattle.fit.proofs.Tracks.{fit-never, fit-line}
use Rattle.fit.proofs.results.ten_numbers.Goals.{Start, In_ok-d, In_ok-limits, In_ok-numbers}
use Rattle.fit.proofs.results.ten_numbers.Goals as goal

-- the record of the values
abbrev t : Start → TrackRecord
t c = record_of c.args.n c.args.rows.now.a c.args.rows.now.b c.args.rows.now.c c.args.rows.now.d

read : {z w : ℤ} → SFits w64 z → z ≡ w → to_z w64 (of_z w64 z) ≡ w
read f e = to_z-of_z f ∙ e

-- the numbers as they are put together, and what they are
abbrev put : (c : In_ok-d) (dsg : ℤ) → Numbers
put c dsg =
    record {
      refsv = to_z w64 (of_z w64 c.in_ok-a.a.midpoint);
      srsv = to_z w64 (of_z w64 c.in_ok-a.a.slope);
      refsys = to_z w64 (of_z w64 c.in_ok-b.b.midpoint);
      srsys = to_z w64 (of_z w64 c.in_ok-b.b.slope);
      mdtr = to_z w64 (of_z w64 c.in_ok-c.c.midpoint);
      smdt = to_z w64 (of_z w64 c.in_ok-c.c.slope);
      mdio = to_z w64 (of_z w64 c.in_ok-d.d.midpoint);
      smdi = to_z w64 (of_z w64 c.in_ok-d.d.slope);
      dsg = dsg;
      trkl = to_z w64 (15 * c.args.n);
    }

numbers-are : (c : In_ok-d) (dsg : ℤ) → put c dsg ≡ numbers_with dsg c.args.n c.args.rows.now.a c.args.rows.now.b c.args.rows.now.c c.args.rows.now.d
unfolding numbers_with
numbers-are c dsg =
    let A = fit-line c.args.n c.requires.few_blocks c.args.rows.now.a (search rules) c.requires.inside.0 _ c.in_ok-a.ensures.answer in
    let B = fit-line c.args.n c.requires.few_blocks c.args.rows.now.b (search rules) c.requires.inside.1 _ c.in_ok-b.ensures.answer in
    let C = fit-line c.args.n c.requires.few_blocks c.args.rows.now.c (search rules) c.requires.inside.2 _ c.in_ok-c.ensures.answer in
    let D = fit-line c.args.n c.requires.few_blocks c.args.rows.now.d (search rules) c.requires.inside.3 _ c.in_ok-d.ensures.answer in
    let n : 15 * c.args.n ≤ 780 = omega (arith, c.requires.few_blocks.1) in
    λ z. record {
      refsv = read (search rules) A.0 z;
      srsv = read (search rules) A.1 z;
      refsys = read (search rules) B.0 z;
      srsys = read (search rules) B.1 z;
      mdtr = read (search rules) C.0 z;
      smdt = read (search rules) C.1 z;
      mdio = read (search rules) D.0 z;
      smdi = read (search rules) D.1 z;
      dsg = dsg;
      trkl = plain-is (count-read n) tt z;
    }

-- the limits do not ask for DSG
limits-are : (c : In_ok-d) → limits_number (put c (pos 0)) ≡ limits_number (t (goal.at.In_ok-d c).Start).numbers
unfolding limits_number record_of numbers_with
limits-are c = ap limits_number (numbers-are c (pos 0))

limits-left : (c : In_ok-limits) → 0 ≡ limits_number (t (goal.at.In_ok-limits c).Start).numbers
limits-left c = c.in_ok-limits.ensures ∙ limits-are (goal.at.In_ok-limits c).In_ok-d

-- what Scatter replies
sigma : (s : Start) (r : Result ℤ Refusal) → reply_of (pos 0) r ≡ scatter_rule (take s.args.n s.args.rows.now.b)
    → let d = (t s).numbers.dsg in reply_of (pos 0) r ≡ reply (pos 0) (dsg_number d) d
unfolding record_of numbers_with
sigma s r e = e ∙ scatter-part s.args.n s.args.rows.now.b s.requires.few_blocks.0 s.requires.few_blocks.1 (search rules) s.requires.inside.1

-- the reply by the number of the record
refuse : (t : TrackRecord) (r : Refusal) → paper_number r ≡ limits_number t.numbers then dsg_number t.numbers.dsg
    → reply_of no_numbers (Err r) ≡ judged_rule t
unfolding judged_rule record_number
refuse t r e = sym (ap (λ (k : ℕ). reply no_numbers k t.numbers) (sym e) ∙ reply-refused no_numbers t.numbers (paper_above_zero r))

accept : (t : TrackRecord) → 0 ≡ limits_number t.numbers then dsg_number t.numbers.dsg → reply_of no_numbers (Ok t.numbers) ≡ judged_rule t
unfolding judged_rule record_number
accept t e = sym (reply-accepted no_numbers t.numbers (sym e))

pub returns-in_err-a : goal.returns-in_err-a
returns-in_err-a c = absurd (fit-never c.args.n c.requires.few_blocks c.args.rows.now.a (search rules) c.requires.inside.0 _ c.in_err-a.ensures.answer)

pub returns-in_err-b : goal.returns-in_err-b
returns-in_err-b c = absurd (fit-never c.args.n c.requires.few_blocks c.args.rows.now.b (search rules) c.requires.inside.1 _ c.in_err-b.ensures.answer)

pub returns-in_err-c : goal.returns-in_err-c
returns-in_err-c c = absurd (fit-never c.args.n c.requires.few_blocks c.args.rows.now.c (search rules) c.requires.inside.2 _ c.in_err-c.ensures.answer)

pub returns-in_err-d : goal.returns-in_err-d
returns-in_err-d c = absurd (fit-never c.args.n c.requires.few_blocks c.args.rows.now.d (search rules) c.requires.inside.3 _ c.in_err-d.ensures.answer)

pub returns-in_err-limits : goal.returns-in_err-limits
returns-in_err-limits c =
    let p = err_from_is_err_and c.from_residual-in_err-limits.result c.from_residual-in_err-limits.ensures.1 in
    rw (p.1, p.2) (refuse (t (goal.at.returns-in_err-limits c).Start) _
    (refused_here _ _ (c.in_err-limits.ensures ∙ limits-are (goal.at.returns-in_err-limits c).In_ok-d)))

pub returns-in_err-numbers : goal.returns-in_err-numbers
returns-in_err-numbers c =
    let p = err_from_is_err_and c.from_residual-in_err-numbers.result c.from_residual-in_err-numbers.ensures.1 in
    let s = (goal.at.returns-in_err-numbers c).Start in
    rw (p.1, p.2) (refuse (t s) _
    (passed_here (limits-left (goal.at.returns-in_err-numbers c).In_ok-limits) (sym (value_of_reply (pos 0) (Err _) _ _ (sigma s (Err _) c.in_err-numbers.ensures.answer)))))

pub returns : goal.returns
unfolding record_of numbers_with
returns c =
    let s = (goal.at.returns c).Start in
    let v = value_of_reply (pos 0) (Ok _) _ _ (sigma s (Ok _) c.in_ok-numbers.ensures.answer) in
    ap (λ (n : Numbers). reply_of no_numbers (Ok n)) (numbers-are (goal.at.returns c).In_ok-d _ ∙ ap (λ (d : ℤ). numbers_with d c.args.n c.args.rows.now.a c.args.rows.now.b c.args.rows.now.c c.args.rows.now.d) (read (search rules) v.1))
    ∙ accept (t s) (passed_here (limits-left (goal.at.returns c).In_ok-limits) (sym v.0))
