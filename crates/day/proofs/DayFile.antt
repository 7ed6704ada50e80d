-- What is promised of one block holds of the whole set (document 02, Job 10): an accepted day is a line file with a line for each block, and the
-- numbers in each line's columns are accurate.
-- Assumes nothing.
use mathlib.Core.Path.{◌≡◌, refl, sym, ap, ap₂, subst, ◌∙◌}
use mathlib.Core.List.{List, [], ◌∷◌, ◌++◌, map}
use Prim.Native.Nat.{ℕ, zero, suc, ◌+◌, ◌*◌, ◌/◌, ◌<◌, zero-le}
use native.Mathlib.Omega.{arith}
use lib.Dec.{lit<}
use lib.ListN.{length, take, drop, length-append, length-map}
use lib.Seq.{take_at, get_or-drop}
use borrow.Author.Tests.{le-ltb}
use Rattle.std.specs.Prelude.{Result, Ok, Err, IfOk}
use Rattle.limits.specs.Refusal.{◌when◌, ◌then◌}
use Rattle.limits.proofs.Laws.{then-zero, after-accepted}
use Rattle.limits.proofs.Parts.{map_at}
use Rattle.exact.specs.Corrected.{steps}
use Rattle.exact.specs.Accurate.{AccurateTrack}
use Rattle.columns.specs.Text.{line_length, ended_length, line_end}
use Rattle.columns.specs.Columns.{read_numbers}
use Rattle.hire.specs.Hire.{blocks_in, block_labels, block_given}
use Rattle.line.proofs.AcceptedBlocks.{block-accurate, numbers-in}
use Rattle.linefile.specs.Files.{lines, before, file_number, joined, line_at}
use Rattle.linefile.proofs.Ascending.{All, Ascending, Accepted, all_map, all-at}
use Rattle.linefile.proofs.Lines.{line-file-zero, line-at, whole-lines}
use Rattle.linefile.proofs.Joined.{line_of}
use Rattle.day.specs.Day.{Bytes, own_length_lem, blocks_from, blocks_of, block_keys, judged, day_verdict, ended_line, file_of, day_file, day_number, day_rule, day_after, block_at, LinesOfDay, AccurateDay, AllBytes}
use Rattle.day.specs.Answers.{written_of, written_number, written_bytes}
use Rattle.day.specs.declared.Rejected.{Rejected}
use Rattle.day.proofs.Lines.{keys-are, line-accepted, all-long, lines-of, length-of}
use Rattle.day.proofs.Verdicts.{AcceptedBlock, Ascends, all-accepted}
use Rattle.day.proofs.Answers.{answer-number, answer-bytes}

-- ---- bytes are below 256

small-drop : (n : ℕ) (l : List ℕ) → AllBytes l → AllBytes (drop n l)
small-drop n l s i = subst (λ (k : ℕ). k < 256) (sym (get_or-drop n l i 0)) (s (n + i))

small-take : (n : ℕ) (l : List ℕ) → AllBytes l → AllBytes (take n l)
small-take zero l s i = lit< tt
small-take (suc n) [] s i = lit< tt
small-take (suc n) (a ∷ l) s zero = s 0
small-take (suc n) (a ∷ l) s (suc i) = small-take n l (λ j. s (suc j)) i

small-blocks : (most : ℕ) (bytes : List ℕ) → AllBytes bytes → All AllBytes (blocks_from most bytes)
unfolding blocks_from
small-blocks zero bytes s = tt
small-blocks (suc most) [] s = tt
small-blocks (suc most) (b ∷ bytes) s = (
  small-take (own_length_lem (b ∷ bytes)) (b ∷ bytes) s,
  small-blocks most (drop (own_length_lem (b ∷ bytes)) (b ∷ bytes)) (small-drop (own_length_lem (b ∷ bytes)) (b ∷ bytes) s),
)

-- A block whose CL is a byte.
abbrev pub Classed : List ℕ → Type 0
Classed b = (block_labels b).cl < 256

small-class : (b : List ℕ) → AllBytes b → Classed b
unfolding block_labels
small-class b s = s 6

pub all-classed : (bytes : List ℕ) → AllBytes bytes → All Classed (blocks_of bytes)
unfolding blocks_of
all-classed bytes s =
    all_map AllBytes Classed small-class (blocks_from (length bytes) bytes) (small-blocks (length bytes) bytes s)

-- ---- all blocks

lines-ascend : (last : List ℕ) (bs : List (List ℕ)) → All AcceptedBlock bs → All Classed bs → Ascends last bs
    → Ascending last (map ended_line bs) × All Accepted (map ended_line bs)
lines-ascend last [] a s h = (tt, tt)
lines-ascend last (b ∷ bs) a s h =
    let k = keys-are b a.0 s.0 in
    let r = lines-ascend (block_keys b) bs a.1 s.1 h.1 in (
      (ap (before last) k ∙ h.0, subst (λ (t : List ℕ). Ascending t (map ended_line bs)) (sym k) r.0),
      (line-accepted b a.0 s.0, r.1),
    )

-- ---- the file

-- no blocks are accepted, whatever the room, and nothing is written
pub empty-day : (room : ℕ) → day_rule [] room ≡ Bytes 0
unfolding day_rule day_number judged blocks_of blocks_from file_of joined ◌when◌ ◌then◌
empty-day room = rw (le-ltb room 0 zero-le)

-- it has as many lines as there are blocks
pub day-lines : (bytes : List ℕ) → length (lines (day_file bytes)) ≡ length (blocks_of bytes)
day-lines bytes = ap length (lines-of (blocks_of bytes)) ∙ length-map (blocks_of bytes) ended_line

-- an accepted day is a line file: neither merge nor common view has a refusal of the file itself
pub day-file : (bytes : List ℕ) → AllBytes bytes → (day_verdict bytes).refusal ≡ 0 → file_number (day_file bytes) ≡ 0
day-file bytes s e =
    let a = all-accepted [] 0 (blocks_of bytes) e in
    let l = lines-ascend [] (blocks_of bytes) a.0 (all-classed bytes s) a.1 in
    line-file-zero (day_file bytes)
    (record {
      whole = whole-lines (length (blocks_of bytes)) (length-of (blocks_of bytes));
      ascends = subst (Ascending []) (sym (lines-of (blocks_of bytes))) l.0;
      accepted = subst (All Accepted) (sym (lines-of (blocks_of bytes))) l.1;
    })

-- ---- its lines within a longer file

module _ (bytes lent : List ℕ) (e : day_number bytes (length lent) ≡ 0) where
  after_is : day_after bytes lent ≡ day_file bytes ++ drop (length (day_file bytes)) lent
  unfolding day_after
  after_is = after-accepted _ lent e

  judged-zero : (day_verdict bytes).refusal ≡ 0
  unfolding day_number
  judged-zero = (then-zero _ _ e).0

  -- line i of the lent file is that of block i
  pub line-is : LinesOfDay bytes (day_after bytes lent)
  unfolding file_of
  line-is i h =
      ap (λ (f : List ℕ). line_at f i) after_is
      ∙ line-at (day_file bytes ++ rest) i (enough (length (blocks_of bytes)) (length rest) h (length-append (day_file bytes) rest) (length-of (blocks_of bytes)))
      ∙ line_of (map ended_line (blocks_of bytes)) (all-long (blocks_of bytes)) rest i (rw (length-map (blocks_of bytes) ended_line) h)
      ∙ map_at ended_line (blocks_of bytes) i [] [] h
    where
      rest : List ℕ
      rest = drop (length (day_file bytes)) lent

      enough : (k r : ℕ) {n m : ℕ} → i < k → n ≡ m + r → m ≡ ended_length * k → i < n / ended_length
      enough k r h e f = omega arith

  -- every line is accurate
  pub day-accurate : AccurateDay bytes (day_after bytes lent)
  day-accurate i h =
      let a = all-at AcceptedBlock (blocks_of bytes) (all-accepted [] 0 (blocks_of bytes) judged-zero).0 i h in
      subst (AccurateTrack steps (blocks_in (block_at bytes i)) (block_given (block_at bytes i)))
      (sym (ap read_numbers (line-is i h) ∙ numbers-in (block_at bytes i) line_length a line_end))
      (block-accurate (block_at bytes i) line_length a)

  -- what is written is a line file
  pub written-file : AllBytes bytes → file_number (take (length (day_file bytes)) (day_after bytes lent)) ≡ 0
  written-file s =
      ap file_number (ap (take (length (day_file bytes))) after_is ∙ take_at (day_file bytes) _ (length (day_file bytes)) refl)
      ∙ day-file bytes s judged-zero

-- ---- by the answer

-- What is promised where an answer has no refusal.
pub record Promised (bytes after : List ℕ) (written : ℕ) : Type 0 where
  pub lines : LinesOfDay bytes after
  pub accurate : AccurateDay bytes after
  pub line_file : file_number (take written after) ≡ 0

pub promised : (bytes lent after : List ℕ) (answer : Result ℕ Rejected) → AllBytes bytes → written_of answer ≡ day_rule bytes (length lent)
    → after ≡ day_after bytes lent → IfOk answer (Promised bytes after)
promised bytes lent after (Err r) s e f = tt
promised bytes lent after (Ok written) s e f =
    let n = sym (answer-number bytes (length lent)) ∙ ap written_number (sym e) in
    record {
      lines = subst (LinesOfDay bytes) (sym f) (line-is bytes lent n);
      accurate = subst (AccurateDay bytes) (sym f) (day-accurate bytes lent n);
      line_file = ap₂ (λ (k : ℕ) (t : List ℕ). file_number (take k t)) (ap written_bytes e ∙ answer-bytes bytes (length lent) n) f ∙ written-file bytes lent n s;
    }
