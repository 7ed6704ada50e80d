-- Laws of Block (specs/Block.antt): which number comes first, and that the numbers in the columns of an accepted line are accurate.
-- Assumes nothing.
use mathlib.Core.Path.{◌≡◌, refl, sym, ap, ◌∙◌, subst}
use mathlib.Core.Bool.{not}
use mathlib.Core.List.{List, ◌++◌}
use Prim.Native.Nat.{ℕ, ◌<◌}
use native.Mathlib.Nat.{ne_of_gt}
use lib.ListN.{length, drop}
use lib.Dec.{ltb, eqb}
use borrow.Author.Tests.{eqb-true, not-false}
use Rattle.std.specs.Prelude.{Result, Ok, Err}
use Rattle.std.specs.Result.{OnOk}
use Rattle.limits.specs.Refusal.{◌when◌, ◌then◌, after}
use Rattle.limits.specs.Reply.{Reply}
use Rattle.limits.specs.Limits.{no_numbers}
use Rattle.limits.specs.Numbers.{paper_number, number_of}
use Rattle.limits.specs.declared.Numbers.{Numbers}
use Rattle.limits.specs.declared.refusal.Refusal.{Refusal}
use Rattle.limits.proofs.Laws.{then-zero, when-zero, then-refused, then-passed, after-refused}
use Rattle.limits.proofs.Replies.{reply-number, reply-values}
use Rattle.limits.proofs.Cases.{paper_above_zero}
use Rattle.exact.specs.Corrected.{steps}
use Rattle.exact.specs.Accurate.{AccurateTrack}
use Rattle.fit.specs.Track.{track_number, results}
use Rattle.fit.specs.Found.{found_rule}
use Rattle.columns.specs.Text.{line_length}
use Rattle.columns.specs.Columns.{read_numbers}
use Rattle.line.specs.Line.{line_answer, line_after}
use Rattle.hire.specs.Hire.{blocks_in, sizes_fit_lem, block_length, block_labels, block_given}
use Rattle.hire.specs.Found.{block_track_rule}
use Rattle.hire.proofs.Lists.{whole-found}
use Rattle.line.specs.Block.{block_numbers, block_line, sizes_number, block_answer, block_after}
use Rattle.line.proofs.ReadBack.{numbers-read}

-- a block whose sizes and length pass is given to Track
pub sizes-found : (b : List ℕ) → sizes_number b ≡ 0 → block_track_rule b ≡ found_rule (block_given b)
unfolding sizes_number
sizes-found b e =
    let sizes = (then-zero (11 when ltb (length b) 4) _ e).1 in
    let other = when-zero 10 (not (eqb (length b) (block_length (blocks_in b)))) (then-zero (1 when not (sizes_fit_lem b)) _ sizes).1 in
    sym (whole-found b (eqb-true (length b) (block_length (blocks_in b)) (not-false _ other)))

-- ---- the answer, test by test

module _ (b : List ℕ) (room : ℕ) where
  pub sizes-refuse : (n : ℕ) → n ≡ sizes_number b → 0 < n → n ≡ block_answer b room
  unfolding block_answer
  sizes-refuse n e h = sym (then-refused n _ h) ∙ ap (λ (m : ℕ). m then track_number (block_given b) then line_answer (block_labels b) (block_numbers b) room) e

  passed : sizes_number b ≡ 0 → block_answer b room ≡ track_number (block_given b) then line_answer (block_labels b) (block_numbers b) room
  unfolding block_answer
  passed e = then-passed (sizes_number b) _ e

  pub track-refuses : sizes_number b ≡ 0 → (n : ℕ) → n ≡ track_number (block_given b) → 0 < n → n ≡ block_answer b room
  track-refuses e n t k =
      let next = line_answer (block_labels b) (block_numbers b) room in
      sym (then-refused n next k) ∙ ap (λ (m : ℕ). m then next) t ∙ sym (passed e)

  -- a refusal of Track's is one of its numbers
  pub track-refused : sizes_number b ≡ 0 → (r : Refusal) → record { number = paper_number r; values = no_numbers } ≡ block_track_rule b
      → paper_number r ≡ block_answer b room
  unfolding found_rule
  track-refused e r t =
      track-refuses e (paper_number r) (ap (λ (x : Reply Numbers). x.number) (t ∙ sizes-found b e) ∙ reply-number no_numbers (results (block_given b)).numbers (track_number (block_given b))) (paper_above_zero r)

  -- where Track accepts, Line answers
  pub line-answers : sizes_number b ≡ 0 → track_number (block_given b) ≡ 0
      → line_answer (block_labels b) (block_numbers b) room ≡ block_answer b room
  line-answers e t = sym (then-passed (track_number (block_given b)) _ t) ∙ sym (passed e)

  -- and the numbers are the block's
  pub track-accepts : sizes_number b ≡ 0 → (x : Numbers) → record { number = 0; values = x } ≡ block_track_rule b
      → (x ≡ block_numbers b) × (line_answer (block_labels b) (block_numbers b) room ≡ block_answer b room)
  unfolding found_rule
  track-accepts e x t =
      let v = reply-values no_numbers (results (block_given b)).numbers (track_number (block_given b)) (t ∙ sizes-found b e) in
      (v.1, line-answers e v.0)

-- ---- the three clauses

module _ (b lent : List ℕ) where
  abbrev pub Promised : Result (Unit {0}) Refusal → List ℕ → Type 0
  Promised told line =
      record {
        answer : number_of told ≡ block_answer b (length lent);
        written : line ≡ block_after b lent;
        accurate : OnOk told (AccurateTrack steps (blocks_in b) (block_given b) (read_numbers line));
      }

  kept : (block_answer b (length lent) ≡ 0 → ⊥) → lent ≡ block_after b lent
  unfolding block_after
  kept h = sym (after-refused (block_line b ++ drop line_length lent) lent h)

  -- a refusal leaves the lent line as it was
  pub refused : (r : Refusal) → paper_number r ≡ block_answer b (length lent) → Promised (Err r) lent
  refused r e = record { answer = e; written = kept (λ z. ne_of_gt (paper_above_zero r) (e ∙ z)); accurate = tt }

  -- where Track accepts, the lent line is Line's
  same_after : line_answer (block_labels b) (block_numbers b) (length lent) ≡ block_answer b (length lent)
      → line_after (block_labels b) (block_numbers b) lent ≡ block_after b lent
  unfolding line_after block_after
  same_after e = ap (λ (k : ℕ). after k (block_line b ++ drop line_length lent) lent) e

  on_ok : {P : Type 0} (answer : Result (Unit {0}) Refusal) → (number_of answer ≡ 0 → P) → OnOk answer P
  on_ok (Ok x) f = f refl
  on_ok (Err r) f = tt

  pub written : sizes_number b ≡ 0 → (x : Numbers) → record { number = 0; values = x } ≡ block_track_rule b
      → AccurateTrack steps (blocks_in b) (block_given b) x
      → (told : Result (Unit {0}) Refusal) (line : List ℕ) → number_of told ≡ line_answer (block_labels b) x (length lent)
      → line ≡ line_after (block_labels b) x lent → Promised told line
  written s x e accurate told line number is =
      let t = track-accepts b (length lent) s x e in
      record {
        answer = number ∙ ap (λ (n : Numbers). line_answer (block_labels b) n (length lent)) t.0 ∙ t.1;
        written = is ∙ ap (λ (n : Numbers). line_after (block_labels b) n lent) t.0 ∙ same_after t.1;
        accurate = on_ok told (λ k. subst (AccurateTrack steps (blocks_in b) (block_given b)) (sym (ap read_numbers is ∙ numbers-read (block_labels b) x lent (sym number ∙ k))) accurate);
      }
