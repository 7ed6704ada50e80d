-- The lines of a file and its bytes (specs/Files.antt).
-- Assumes nothing.
use mathlib.Core.Path.{◌≡◌, refl, sym, ap, ◌∙◌}
use mathlib.Core.Bool.{true, ◌&&◌}
use mathlib.Core.List.{List, [], ◌∷◌}
use Prim.Native.Nat.{ℕ, zero, suc, ◌+◌, ◌-◌, ◌*◌, ◌/◌, ◌%◌, ◌≤◌, ◌<◌}
use native.Mathlib.Nat.{not-suc-le-zero, le_of_suc-le-suc}
use native.Mathlib.Omega.{arith}
use lib.Dec.{ltb}
use lib.ListN.{length, take, drop, get_or, length-drop}
use lib.Seq.{length-take-le, drop-drop}
use borrow.Author.Tests.{ltb-true, eqb-true, eq-eqb, not-false}
use Rattle.std.specs.Simd.{first_chunks}
use Rattle.limits.specs.Refusal.{◌when◌, ◌then◌}
use Rattle.limits.proofs.Laws.{then-zero, when-zero, both}
use Rattle.columns.specs.Text.{line_length, line_end, ended_length}
use Rattle.linefile.specs.Files.{lines_in, lines, has_line_end, ended_number, lines_number, file_number}
use Rattle.linefile.proofs.Keys.{same-eq}
use Rattle.linefile.proofs.Ascending.{Ascending, All, Accepted, all-at, lines-accepted, accepted-lines}

-- A line with its end.
abbrev pub Long : List ℕ → Type 0
Long line = length line ≡ ended_length

-- ---- lines out of bytes

length-in : (n : ℕ) (bytes : List ℕ) → length (lines_in n bytes) ≡ n
unfolding lines_in
length-in zero bytes = refl
length-in (suc n) bytes = ap suc (length-in n (drop ended_length bytes))

pub length-lines : (file : List ℕ) → length (lines file) ≡ length file / ended_length
unfolding lines
length-lines file = length-in (length file / ended_length) file

line-in : (n : ℕ) (bytes : List ℕ) (i : ℕ) → i < n → get_or (lines_in n bytes) i [] ≡ take ended_length (drop (ended_length * i) bytes)
unfolding lines_in
line-in zero bytes i h = absurd (not-suc-le-zero h)
line-in (suc n) bytes zero h = refl
line-in (suc n) bytes (suc i) h =
    line-in n (drop ended_length bytes) i (le_of_suc-le-suc h)
    ∙ ap (take ended_length) (drop-drop (ended_length * i) ended_length bytes ∙ ap (λ (k : ℕ). drop k bytes) (next i))
  where
    next : (i : ℕ) → ended_length + ended_length * i ≡ ended_length * suc i
    next i = omega arith

pub line-at : (file : List ℕ) (i : ℕ) → i < length file / ended_length → get_or (lines file) i [] ≡ take ended_length (drop (ended_length * i) file)
unfolding lines
line-at file i h = line-in (length file / ended_length) file i h

-- the same as the part of the file that is lent
pub line-part : (file : List ℕ) (i : ℕ) → i < length file / ended_length
    → take (ended_length * i + ended_length - ended_length * i) (drop (ended_length * i) file) ≡ get_or (lines file) i []
line-part file i h = ap (λ (n : ℕ). take n (drop (ended_length * i) file)) (width i) ∙ sym (line-at file i h)
  where
    width : (i : ℕ) → ended_length * i + ended_length - ended_length * i ≡ ended_length
    width i = omega arith

-- the same as the file's chunks
chunks-in : (n : ℕ) (bytes : List ℕ) → first_chunks ended_length n bytes ≡ lines_in n bytes
unfolding lines_in
chunks-in zero bytes = refl
chunks-in (suc n) bytes = ap (λ (t : List (List ℕ)). take ended_length bytes ∷ t) (chunks-in n (drop ended_length bytes))

pub chunks-lines : {ls : List (List ℕ)} (file : List ℕ) → ls ≡ first_chunks ended_length (length file / ended_length) file → ls ≡ lines file
unfolding lines
chunks-lines file e = e ∙ chunks-in (length file / ended_length) file

long-in : (n : ℕ) (bytes : List ℕ) → ended_length * n ≤ length bytes → All Long (lines_in n bytes)
unfolding lines_in
long-in zero bytes h = tt
long-in (suc n) bytes h = (
  length-take-le ended_length bytes (omega arith),
  long-in n (drop ended_length bytes) (rw length-drop (omega arith)),
)

pub lines_long : (file : List ℕ) → All Long (lines file)
unfolding lines
lines_long file = long-in (length file / ended_length) file (omega arith)

-- both files have a line left
pub lines_left : (m n a b : ℕ) → ltb m a && ltb n b ≡ true → (m < a) × (n < b)
lines_left m n a b e = let t = both (ltb m a) (ltb n b) e in (ltb-true m a t.0, ltb-true n b t.1)

-- ---- a line file

pub record LineFile (file : List ℕ) : Type 0 where
  pub whole : length file ≡ ended_length * (length file / ended_length)
  pub ascends : Ascending [] (lines file)
  pub accepted : All Accepted (lines file)

-- so many lines are whole lines
pub whole-lines : {n : ℕ} (k : ℕ) → n ≡ ended_length * k → n ≡ ended_length * (n / ended_length)
whole-lines k e = omega arith

pub line-file : (file : List ℕ) → file_number file ≡ 0 → LineFile file
unfolding file_number
line-file file e =
    let z = then-zero _ _ e in
    let l = lines-accepted [] (lines file) z.0 in
    record {
      whole = no-tail (eqb-true _ 0 (not-false _ (when-zero 11 _ z.1)));
      ascends = l.0;
      accepted = l.1;
    }
  where
    no-tail : length file % ended_length ≡ 0 → length file ≡ ended_length * (length file / ended_length)
    no-tail h = omega arith

pub line-file-zero : (file : List ℕ) → LineFile file → file_number file ≡ 0
unfolding file_number ◌when◌ ◌then◌
line-file-zero file f =
    simp (accepted-lines [] (lines file) f.ascends f.accepted, eq-eqb (length file % ended_length) 0 (no-tail f.whole))
  where
    no-tail : length file ≡ ended_length * (length file / ended_length) → length file % ended_length ≡ 0
    no-tail h = omega arith

-- an empty file has no lines and is one
pub no_lines : lines [] ≡ []
unfolding lines lines_in
no_lines = refl

pub empty-file : file_number [] ≡ 0
unfolding file_number lines lines_in lines_number ◌when◌ ◌then◌
empty-file = refl

-- each of its lines is accepted
pub line-accepted : (file : List ℕ) → LineFile file → (i : ℕ) → i < length file / ended_length → Accepted (get_or (lines file) i [])
line-accepted file f i h = all-at Accepted (lines file) f.accepted i (rw (length-lines file) h)

-- and is 115 bytes long
pub accepted-long : (line : List ℕ) → Accepted line → Long line
unfolding ended_number has_line_end
accepted-long line e =
    let s = same-eq (drop line_length line) line_end (not-false _ (when-zero 12 _ (then-zero _ _ e).1)) in
    omega (arith, sym (length-drop line_length line) ∙ ap length s)
