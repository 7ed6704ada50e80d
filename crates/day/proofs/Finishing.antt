-- What is answered and what is written when all blocks are judged (specs/Day.antt).
-- Assumes nothing.
use mathlib.Core.Path.{◌≡◌, refl, sym, ap, ap₂, ◌∙◌}
use mathlib.Core.Bool.{Bool, true, false, ◌&&◌}
use mathlib.Core.List.{List, [], ◌∷◌, ◌++◌, append-nil}
use Prim.Native.Nat.{ℕ, ◌+◌, ◌*◌, ◌/◌, ◌≤◌, ◌<◌, zero-le}
use native.Mathlib.Nat.{zero-add, ne_of_gt}
use native.Mathlib.Omega.{arith}
use lib.Dec.{ltb}
use lib.ListN.{length, take, length-append}
use borrow.Author.Tests.{ltb-false, lt-ltb, le-ltb}
use Rattle.std.specs.Prelude.{None, Result, Ok, Err, IfOk, IfErr}
use Rattle.limits.specs.Refusal.{◌when◌}
use Rattle.limits.specs.Numbers.{paper_number}
use Rattle.limits.proofs.Laws.{then-passed, after-accepted, after-refused}
use Rattle.limits.proofs.Cases.{paper_above_zero, refused_here}
use Rattle.lent.specs.Placed.{placed}
use Rattle.lent.proofs.Placing.{placed-onto, placed-front, placed_first}
use Rattle.columns.specs.Text.{ended_length}
use Rattle.day.specs.Day.{Bytes, Refused, blocks_of, Verdict, day_verdict, file_of, day_file, day_number, day_rule, day_after}
use Rattle.day.specs.Answers.{written_of, rejects}
use Rattle.day.specs.Walk.{left, verdict, goes_on, Wrote}
use Rattle.day.specs.declared.walk.State.{State}
use Rattle.day.specs.declared.Rejected.{Rejected}
use Rattle.day.proofs.Verdicts.{judged-count}
use Rattle.day.proofs.Lines.{length-of, file-append}
use Rattle.day.proofs.Walking.{none-left}
use Rattle.day.proofs.Answers.{rule-written, rule-refused}

-- ---- the walk that writes all that is left

nil : (l : List (List ℕ)) → length l ≡ 0 → l ≡ []
nil [] e = refl
nil (a ∷ l) e = absurd (omega arith)

-- it has come to the end: of the bytes, or of a room that is large enough
none_left : (bytes : List ℕ) (r : State) (room : ℕ) → goes_on bytes r && ltb r.count (room / ended_length) ≡ false
    → ended_length * (r.count + length (left bytes r)) ≤ room → left bytes r ≡ []
none_left bytes r room e h = by-test (goes_on bytes r) refl
  where
    full : {k n : ℕ} → room / ended_length ≤ k → ended_length * (k + n) ≤ room → n ≡ 0
    full p q = omega arith

    by-test : (t : Bool) → goes_on bytes r ≡ t → left bytes r ≡ []
    by-test true f = nil (left bytes r) (full (ltb-false _ _ (rw f at e)) h)
    by-test false f = none-left bytes r f

all-written : (bytes : List ℕ) (s r : State) (lent file : List ℕ) → Wrote bytes s r lent file
    → goes_on bytes r && ltb r.count (length lent / ended_length) ≡ false
    → ended_length * (s.count + length (left bytes s)) ≤ length lent
    → file ≡ placed lent (ended_length * s.count) (file_of (left bytes s))
all-written bytes s r lent file w e h =
    w.text ∙ ap (λ (l : List (List ℕ)). placed lent (ended_length * s.count) (file_of l)) (sym all)
  where
    count : ended_length * (r.count + length (left bytes r)) ≤ length lent
    count = omega (arith, w.walked.counted, ap length w.walked.cut, length-append w.seen (left bytes r))

    all : left bytes s ≡ w.seen
    all = w.walked.cut ∙ ap (λ (l : List (List ℕ)). w.seen ++ l) (none_left bytes r (length lent) e count) ∙ append-nil w.seen

-- so does a walk of whose blocks none is refused
pub all_accepted_written : (bytes : List ℕ) (s : State) (lent file : List ℕ) (answer : Result State Rejected)
    → IfOk answer (λ r. Wrote bytes s r lent file)
    → IfOk answer (λ r. goes_on bytes r && ltb r.count (length lent / ended_length) ≡ false)
    → IfErr answer (λ r. verdict bytes s ≡ rejects r)
    → (verdict bytes s).refusal ≡ 0 → ended_length * (s.count + length (left bytes s)) ≤ length lent
    → file ≡ placed lent (ended_length * s.count) (file_of (left bytes s))
all_accepted_written bytes s lent file (Ok r) w e v z h = all-written bytes s r lent file w e h
all_accepted_written bytes s lent file (Err r) w e v z h =
    absurd (ne_of_gt (paper_above_zero r.refusal) (ap (λ (v : Verdict). v.refusal) (sym v) ∙ z))

-- ---- a block that is refused

pub rejected : (bytes file : List ℕ) (r : Rejected) → day_verdict bytes ≡ rejects r
    → (written_of (Err r) ≡ day_rule bytes (length file)) × (file ≡ day_after bytes file)
unfolding day_after day_number
rejected bytes file r v =
    let n : paper_number r.refusal ≡ day_number bytes (length file) = refused_here r.refusal _ (ap (λ (v : Verdict). v.refusal) (sym v)) in
    let some : day_number bytes (length file) ≡ 0 → ⊥ = λ z. ne_of_gt (paper_above_zero r.refusal) (n ∙ z) in (
      (λ i. Refused (n i) (sym v i).block) ∙ sym (rule-refused bytes (length file) some),
      sym (after-refused _ file some),
    )

-- ---- all blocks accepted

-- where a walk begins
abbrev pub begin : State
begin = record { at = 0; count = 0; last = None }

-- what is known then: the walk came to b where no more lines are kept, and ended behind so many blocks
pub record Judged (bytes : List ℕ) (b : State) (count : ℕ) (kept : List ℕ) : Type 0 where
  pub cache : List ℕ
  pub wrote : Wrote bytes begin b cache kept
  pub verdict : verdict bytes b ≡ record { refusal = 0; block = count }

module _ {bytes : List ℕ} {b : State} {count : ℕ} {kept : List ℕ} (k : Judged bytes b count kept) where
  verdict-is : day_verdict bytes ≡ record { refusal = 0; block = count }
  verdict-is = k.wrote.walked.same ∙ k.verdict

  -- how long the result is
  long-is : length (day_file bytes) ≡ ended_length * count
  long-is =
      length-of (blocks_of bytes)
      ∙ ap (λ (n : ℕ). ended_length * n)
      (sym (sym (ap (λ (v : Verdict). v.block) verdict-is)
      ∙ judged-count [] 0 (blocks_of bytes) (ap (λ (v : Verdict). v.refusal) verdict-is)
      ∙ zero-add _))

  number_is : (room : ℕ) → day_number bytes room ≡ 9 when ltb room (length (day_file bytes))
  unfolding day_number
  number_is room = then-passed _ _ (ap (λ (v : Verdict). v.refusal) verdict-is)

  -- too little room
  pub no_room : (file : List ℕ) → length file / ended_length < count
      → (Refused 9 count ≡ day_rule bytes (length file)) × (file ≡ day_after bytes file)
  unfolding day_after ◌when◌
  no_room file h =
      let n : 9 ≡ day_number bytes (length file) = sym (number_is (length file) ∙ ap (λ (t : Bool). 9 when t) (lt-ltb _ _ (more long-is))) in
      let some = λ (z : day_number bytes (length file) ≡ 0). nine (n ∙ z) in (
        (λ i. Refused (n i) (sym verdict-is i).block) ∙ sym (rule-refused bytes (length file) some),
        sym (after-refused _ file some),
      )
    where
      more : {m : ℕ} → m ≡ ended_length * count → length file < m
      more e = omega arith

      nine : ◌≡◌ {A = ℕ} 9 0 → ⊥
      nine e = omega arith

  -- the blocks are those whose lines are kept and those behind them
  blocks-are : blocks_of bytes ≡ k.wrote.seen ++ left bytes b
  blocks-are = k.wrote.walked.cut

  counted : b.count ≡ length k.wrote.seen
  counted = omega (arith, k.wrote.walked.counted)

  -- room for all
  module _ (file : List ℕ) (h : count ≤ length file / ended_length) where
    long-enough : length (day_file bytes) ≤ length file
    long-enough = omega (arith, long-is)

    number-zero : day_number bytes (length file) ≡ 0
    unfolding ◌when◌
    number-zero = number_is (length file) ∙ ap (λ (t : Bool). 9 when t) (le-ltb _ _ long-enough)

    pub fits : ended_length * count ≤ length file
    fits = omega (arith, long-is, long-enough)

    pub accepted : ((verdict bytes b).refusal ≡ 0) × (ended_length * (b.count + length (left bytes b)) ≤ length file)
    accepted = (
      ap (λ (v : Verdict). v.refusal) k.verdict,
      omega (arith, long-enough, length-of (blocks_of bytes), counted, ap length blocks-are, length-append k.wrote.seen (left bytes b)),
    )

    kept-is : take (ended_length * b.count) kept ≡ file_of k.wrote.seen
    kept-is =
        let text = file_of k.wrote.seen in
        ap (take (ended_length * b.count)) k.wrote.text
        ∙ placed-front k.cache text (ended_length * b.count) (length-of k.wrote.seen ∙ ap (λ (n : ℕ). ended_length * n) (sym counted))

    text-is : file_of k.wrote.seen ++ file_of (left bytes b) ≡ day_file bytes
    text-is = sym (file-append k.wrote.seen (left bytes b)) ∙ ap file_of (sym blocks-are)

    pub written : (after : List ℕ)
        → after ≡ placed (placed file 0 (take (ended_length * b.count) kept)) (ended_length * b.count) (file_of (left bytes b))
        → (Bytes (ended_length * count) ≡ day_rule bytes (length file)) × (after ≡ day_after bytes file)
    unfolding day_after
    written after e = (
      ap Bytes (sym long-is) ∙ sym (rule-written bytes (length file) number-zero),
      e
          ∙ ap₂ (λ (t : List ℕ) (n : ℕ). placed (placed file 0 t) n (file_of (left bytes b))) kept-is behind
          ∙ placed-onto file 0 (file_of k.wrote.seen) (file_of (left bytes b)) zero-le
          ∙ ap (placed file 0) text-is
          ∙ placed_first file (day_file bytes) refl
          ∙ sym (after-accepted _ file number-zero),
    )
      where
        behind : ended_length * b.count ≡ 0 + length (file_of k.wrote.seen)
        behind = omega (arith, counted, length-of k.wrote.seen)
