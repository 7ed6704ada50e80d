-- Laws of a track's answer (specs/Track.antt): what is known of corrected values that are inside their limit, what a number with its
-- record comes to, and how the answer follows from the corrected values.
-- Assumes nothing.
use mathlib.Core.Path.{◌≡◌, refl, sym, ap, ◌∙◌}
use mathlib.Core.Bool.{false}
use mathlib.Core.List.{List}
use Prim.Native.Nat.{ℕ, zero, suc, ◌≤◌, ◌<◌}
use native.Mathlib.Nat.{ne_of_gt, not-suc-le-zero}
use lib.IntN.{ℤ}
use lib.ListN.{length, take}
use Rattle.std.specs.Prelude.{Result, Ok, Err}
use Rattle.std.specs.Result.{MatchResult}
use Rattle.limits.specs.Refusal.{◌when◌, ◌then◌}
use Rattle.limits.proofs.Laws.{then-zero, then-passed, then-assoc}
use Rattle.limits.specs.Limits.{no_numbers}
use Rattle.limits.specs.Numbers.{paper_number, number_of, reply_of}
use Rattle.limits.specs.declared.refusal.Refusal.{Refusal}
use Rattle.limits.proofs.Cases.{paper_above_zero, refused_here, number_of_reply, value_of_reply}
use Rattle.fit.specs.declared.TrackRecord.{TrackRecord}
use Rattle.whole.specs.Table.{at}
use Rattle.exact.specs.Corrected.{Given, steps}
use Rattle.limits.specs.Lists.{any_beyond_lem}
use Rattle.limits.specs.Reply.{Reply}
use Rattle.series.specs.declared.Fitted.{Fitted}
use Rattle.series.specs.Answers.{fit_reply}
use Rattle.series.specs.Fit.{midpoint, slope, fit_rule, value_limit}
use Rattle.series.proofs.Fitting.{fit-part}
use Rattle.limits.specs.declared.Numbers.{Numbers}
use Rattle.fit.specs.Found.{judged_rule, found_rule}
use Rattle.correcting.specs.Correct.{wrong_sizes, out_of_limits}
use Rattle.correcting.specs.Answer.{correct_number}
use Rattle.correcting.proofs.Refusals.{Sized, sized, sizes-passed}
use Rattle.fit.specs.Track.{Tracked, results, record_number, track_number, zeros, tracked, tracked_of, track_rule}

pub tracked-refused : (number : ℕ) (t : TrackRecord) → 0 < number → tracked number t ≡ record { refusal = number; «record» = zeros }
unfolding tracked
tracked-refused zero t h = absurd (not-suc-le-zero h)
tracked-refused (suc number) t h = refl

-- the refusal is the number, and the record of an accepted track is that of its results
refusal-of : (number : ℕ) (g : Given) → (tracked number (results g)).refusal ≡ number
unfolding tracked
refusal-of zero g = refl
refusal-of (suc number) g = refl

pub track-number : (g : Given) (t : Tracked) → t ≡ track_rule g → t.refusal ≡ track_number g
unfolding track_rule
track-number g t e = ap (λ (t : Tracked). t.refusal) e ∙ refusal-of (track_number g) g

pub track-record : (g : Given) (t : Tracked) → t ≡ track_rule g → t.refusal ≡ 0 → t.«record» ≡ results g
unfolding track_rule tracked
track-record g t e h =
    ap (λ (t : Tracked). t.«record») e ∙ ap (λ (n : ℕ). (tracked n (results g)).«record») (sym (track-number g t e) ∙ h)

-- what a refusal and its number come to
refused-of : (r : Refusal) {number : ℕ} (t : TrackRecord) → number ≡ paper_number r → tracked_of (Err r) ≡ tracked number t
refused-of r t e = sym (ap (λ (k : ℕ). tracked k t) e ∙ tracked-refused (paper_number r) t (paper_above_zero r))

accepted-of : (t : TrackRecord) {number : ℕ} → number ≡ 0 → tracked_of (Ok t) ≡ tracked number t
unfolding tracked
accepted-of t e = sym (ap (λ (k : ℕ). tracked k t) e)

-- Fit's answer to the first n places where all are inside their limit: it refuses none, and its line is theirs
abbrev pub line_through : ℕ → List ℤ → Fitted
line_through n l = record { midpoint = midpoint steps n (at l); slope = slope steps n (at l) }

pub fit-value : (n : ℕ) (l : List ℤ) → 4 ≤ n → n ≤ 52 → n ≤ length l → any_beyond_lem value_limit l ≡ false
    → (r : Result Fitted Refusal) → fit_reply r ≡ fit_rule (take n l) → r ≡ Ok (line_through n l)
fit-value n l h k m e (Ok line) a =
    ap (λ (r : Reply (ℤ × ℤ)). Ok (record { midpoint = r.values.0; slope = r.values.1 })) (a ∙ fit-part n l h k m e)
fit-value n l h k m e (Err r) a =
    absurd (ne_of_gt (paper_above_zero r) (ap (λ (r : Reply (ℤ × ℤ)). r.number) (a ∙ fit-part n l h k m e)))

-- of 52 places
module _ (n : ℕ) (few : (4 ≤ n) × (n ≤ 52)) (l : List ℤ) (all : length l ≡ 52) (inside : any_beyond_lem value_limit l ≡ false) where
  fit-is : (r : Result Fitted Refusal) → fit_reply r ≡ fit_rule (take n l) → r ≡ Ok (line_through n l)
  fit-is r a = fit-value n l few.0 few.1 (rw all few.1) inside r a

  pub fit-never : (r : Refusal) → fit_reply (Err r) ≡ fit_rule (take n l) → ⊥
  fit-never r a = ne_of_gt (paper_above_zero r) (ap number_of (fit-is (Err r) a))

  pub fit-line : (line : Fitted) → fit_reply (Ok line) ≡ fit_rule (take n l)
      → (line.midpoint ≡ midpoint steps n (at l)) × (line.slope ≡ slope steps n (at l))
  fit-line line a =
      let e = ap fit_reply (fit-is (Ok line) a) in (ap (λ (r : Reply (ℤ × ℤ)). r.values.0) e, ap (λ (r : Reply (ℤ × ℤ)). r.values.1) e)

-- ---- by the corrected values

-- the number is that of what is given, then that of the numbers
number-parts : (g : Given) → track_number g ≡ correct_number g then record_number (results g)
unfolding track_number correct_number
number-parts g = sym (then-assoc (1 when wrong_sizes g) (2 when out_of_limits g) (record_number (results g)))

-- 0: its sizes are right
pub track-sized : (g : Given) → track_number g ≡ 0 → Sized g
track-sized g e = sized g (sizes-passed g (then-zero (correct_number g) _ (sym (number-parts g) ∙ e)).0)

-- a track that is refused as it is given
pub track-refused : (g : Given) (r : Refusal) → paper_number r ≡ correct_number g → tracked_of (Err r) ≡ track_rule g
unfolding track_rule
track-refused g r e = refused-of r (results g) (number-parts g ∙ sym (refused_here r (record_number (results g)) e))

-- any other by what is found of its corrected values
module _ (g : Given) (e : correct_number g ≡ 0) where
  judged : track_number g ≡ record_number (results g)
  judged = number-parts g ∙ then-passed _ _ e

  pub track-judged : tracked (record_number (results g)) (results g) ≡ track_rule g
  unfolding track_rule
  track-judged = ap (λ (k : ℕ). tracked k (results g)) (sym judged)

  pub judged-refused : (r : Refusal) → reply_of no_numbers (Err r) ≡ judged_rule (results g) → tracked_of (Err r) ≡ track_rule g
  unfolding track_rule judged_rule
  judged-refused r a = refused-of r (results g) (judged ∙ value_of_reply no_numbers (Err r) _ _ a)

  pub track-ten : {n : Numbers} → reply_of no_numbers (Ok n) ≡ judged_rule (results g)
      → (n ≡ (results g).numbers) × (tracked_of (Ok (results g)) ≡ track_rule g)
  unfolding track_rule judged_rule
  track-ten {n} a =
      let v = value_of_reply no_numbers (Ok n) _ _ a in (v.1, accepted-of (results g) (judged ∙ v.0))

-- ---- the numbers alone

-- what an answer with them tells
module _ (g : Given) (x : Result Numbers Refusal) (e : reply_of no_numbers x ≡ found_rule g) where
  pub found_number : number_of x ≡ track_number g
  unfolding found_rule
  found_number = number_of_reply no_numbers x _ _ e

  pub found-values : MatchResult x (λ n. (track_number g ≡ 0) × (n ≡ (results g).numbers)) (λ r. track_number g ≡ paper_number r)
  unfolding found_rule
  found-values = value_of_reply no_numbers x _ _ e
