-- A file judged line by line, by ranks in the place of keys.
-- Assumes nothing.
use mathlib.Core.Path.{◌≡◌, refl, sym, ap, ap₂, ◌∙◌}
use mathlib.Core.Bool.{Bool, true, false, not, ◌&&◌, ◌||◌, and-true}
use mathlib.Core.List.{List, [], ◌∷◌}
use Prim.Native.Nat.{ℕ, zero, suc, ◌+◌, ◌%◌, ◌≤◌, ◌<◌}
use native.Mathlib.Numerals.{add-one}
use native.Mathlib.Omega.{arith}
use lib.Dec.{ltb, leb, eqb}
use lib.ListN.{length, drop, get_or, drop_of_length-le}
use lib.Seq.{drop-cons}
use borrow.Author.Tests.{lt-ltb, le-leb, lt-leb}
use Rattle.limits.specs.Refusal.{◌when◌, ◌then◌}
use Rattle.limits.proofs.Laws.{then-refused, then-passed, not-ltb}
use Rattle.linefile.specs.Files.{columns_of, same, has_line_end, keys, before, lines, ended_number, lines_number, file_number}
use Rattle.limits.specs.Reply.{Reply}
use Rattle.limits.proofs.Replies.{reply-number}
use Rattle.limits.specs.declared.Numbers.{Numbers}
use Rattle.labels.specs.declared.Labels.{Labels}
use Rattle.reading.specs.Read.{read_number, read_rule}
use Rattle.linefile.specs.Walk.{rank}
use Rattle.linefile.proofs.Ascending.{Accepted, before-none}
use Rattle.linefile.proofs.Ranks.{rank-before, rank-some}
use Rattle.columns.specs.Text.{line_length, ended_length}

-- Lines behind one of the rank `last`.
unfoldable pub ranked_number : (last : ℕ) → List (List ℕ) → ℕ
ranked_number last [] = 0
ranked_number last (line ∷ rest) =
    ended_number line then 16 when leb (rank line) last then ranked_number (rank line) rest

-- A rank stands for keys where every accepted line is as far behind the one as it is behind the other.
Stands : (last : List ℕ) → ℕ → Type 0
Stands last r = (line : List ℕ) → Accepted line → before last (keys line) ≡ ltb r (rank line)

ranked : (ls : List (List ℕ)) (last : List ℕ) (r : ℕ) → Stands last r → lines_number last ls ≡ ranked_number r ls
unfolding lines_number ranked_number Stands
ranked [] last r s = refl
ranked (l ∷ ls) last r s = by_number (ended_number l) refl (λ e. ranked ls (keys l) (rank l) (λ line f. rank-before l line e f))
  where
    by_number : (n : ℕ) → ended_number l ≡ n → (Accepted l → lines_number (keys l) ls ≡ ranked_number (rank l) ls)
        → ended_number l then 16 when not (before last (keys l)) then lines_number (keys l) ls
        ≡ ended_number l then 16 when leb (rank l) r then ranked_number (rank l) ls
    by_number zero e h =
        ap₂ (λ (b : Bool) (n : ℕ). ended_number l then 16 when b then n) (ap not (s l e) ∙ not-ltb r (rank l)) (h e)
    by_number (suc n) e h =
        then-refused (ended_number l) _ (some e) ∙ sym (then-refused (ended_number l) _ (some e))
      where
        some : ended_number l ≡ suc n → 0 < ended_number l
        some e = omega arith

pub ranked-none : (ls : List (List ℕ)) → lines_number [] ls ≡ ranked_number 0 ls
unfolding Stands
ranked-none ls = ranked ls [] 0 (λ line e. before-none line ∙ sym (lt-ltb 0 (rank line) (rank-some line e)))

-- ---- one line

pub read-is : (line : List ℕ) {number : ℕ} {values : Labels × Numbers} → record { number = number; values = values } ≡ read_rule (columns_of line)
    → number ≡ read_number (columns_of line)
unfolding read_rule
read-is line e = ap (λ (t : Reply (Labels × Numbers)). t.number) e ∙ reply-number _ _ (read_number (columns_of line))

pub refused-line : (line : List ℕ) {number : ℕ} → number ≡ read_number (columns_of line) → 0 < number → number ≡ ended_number line
unfolding ended_number
refused-line line {number} e h = sym (then-refused number _ h) ∙ ap (λ (n : ℕ). n then 13 when not (has_line_end line)) e

line-end-is : (line : List ℕ) → length line ≡ ended_length → has_line_end line ≡ eqb (get_or line line_length 0) 13 && eqb (get_or line (line_length + 1) 0) 10
unfolding has_line_end same
line-end-is line h =
    rw (drop-cons line line_length 0 (omega arith), drop-cons line (line_length + 1) 0 (omega arith), drop_of_length-le line (most h))
    (ap (λ (b : Bool). eqb (get_or line line_length 0) 13 && b) (and-true _))
  where
    most : length line ≡ ended_length → length line ≤ ended_length
    most h = omega arith

either-not : (a b : Bool) → not a || not b ≡ not (a && b)
either-not true b = refl
either-not false b = refl

pub read-line : (line : List ℕ) {number : ℕ} → length line ≡ ended_length → read_number (columns_of line) ≡ 0
    → number ≡ 13 when (not (eqb (get_or line line_length 0) 13) || not (eqb (get_or line (line_length + 1) 0) 10)) → number ≡ ended_number line
unfolding ended_number
read-line line h z e =
    e ∙ ap (λ (b : Bool). 13 when b) (either-not (eqb (get_or line line_length 0) 13) (eqb (get_or line (line_length + 1) 0) 10) ∙ ap not (sym (line-end-is line h))) ∙ sym (then-passed _ _ z)

-- ---- a turn

module _ (ls : List (List ℕ)) (i last : ℕ) (h : i < length ls) where
  pub judged : ranked_number last (drop i ls)
      ≡ ended_number (get_or ls i []) then 16 when leb (rank (get_or ls i [])) last then ranked_number (rank (get_or ls i [])) (drop (i + 1) ls)
  unfolding ranked_number
  judged =
      ap (ranked_number last) (drop-cons ls i [] h)
      ∙ ap (λ (k : ℕ). ended_number (get_or ls i []) then 16 when leb (rank (get_or ls i [])) last then ranked_number (rank (get_or ls i [])) (drop k ls)) (sym (add-one i))

  pub line-refused : {own : ℕ} → own ≡ ended_number (get_or ls i []) → 0 < own → ranked_number last (drop i ls) ≡ own
  line-refused {own} e k = judged ∙ ap (λ (n : ℕ). n then 16 when leb (rank (get_or ls i [])) last then ranked_number (rank (get_or ls i [])) (drop (i + 1) ls)) (sym e) ∙ then-refused own _ k

  module _ {place : ℕ} (own : 0 ≡ ended_number (get_or ls i [])) (p : place ≡ rank (get_or ls i [])) where
    judged-place : ranked_number last (drop i ls) ≡ 16 when leb place last then ranked_number place (drop (i + 1) ls)
    judged-place =
        judged ∙ then-passed _ _ (sym own)
        ∙ ap (λ (n : ℕ). 16 when leb n last then ranked_number n (drop (i + 1) ls)) (sym p)

    pub order-refused : place ≤ last → ranked_number last (drop i ls) ≡ 16
    unfolding ◌when◌ ◌then◌
    order-refused k = judged-place ∙ ap (λ (b : Bool). 16 when b then ranked_number place (drop (i + 1) ls)) (le-leb place last k)

    pub line-passed : last < place → ranked_number last (drop i ls) ≡ ranked_number place (drop (i + 1) ls)
    unfolding ◌when◌ ◌then◌
    line-passed k = judged-place ∙ ap (λ (b : Bool). 16 when b then ranked_number place (drop (i + 1) ls)) (lt-leb place last k)

-- ---- a file

module _ (file : List ℕ) {ls : List (List ℕ)} (l : ls ≡ lines file) where
  pub file-refused : {number : ℕ} → ranked_number 0 ls ≡ number → 0 < number → number ≡ file_number file
  unfolding file_number
  file-refused {number} e h =
      sym (then-refused number _ h)
      ∙ ap (λ (n : ℕ). n then 12 when not (eqb (length file % ended_length) 0)) (sym e ∙ ap (ranked_number 0) l ∙ sym (ranked-none (lines file)))

  -- all lines are judged
  pub file-judged : (i last : ℕ) → length ls ≤ i → ranked_number 0 ls ≡ ranked_number last (drop i ls)
      → file_number file ≡ 12 when not (eqb (length file % ended_length) 0)
  unfolding file_number ranked_number
  file-judged i last h e =
      then-passed _ _
      (ranked-none (lines file) ∙ ap (ranked_number 0) (sym l) ∙ e ∙ ap (ranked_number last) (drop_of_length-le ls h))
