-- Lines one behind the other, and the file that they are (specs/Files.antt).
-- Assumes nothing.
use mathlib.Core.Path.{◌≡◌, refl, sym, ap, ap₂, ◌∙◌}
use mathlib.Core.List.{List, [], ◌∷◌, ◌++◌, append_assoc}
use Prim.Native.Nat.{ℕ, zero, suc, ◌+◌, ◌*◌, ◌/◌, ◌<◌}
use native.Mathlib.Nat.{not-suc-le-zero, le_of_suc-le-suc, mul-div_cancel_left}
use native.Mathlib.Omega.{arith}
use lib.Dec.{lit<}
use lib.ListN.{length, take, drop, get_or, length-append, length-drop, take-append-drop}
use lib.Seq.{take_at, drop_at, drop-nil, drop-append-add}
use Rattle.columns.specs.Text.{ended_length}
use Rattle.linefile.specs.Files.{lines_in, lines, joined}
use Rattle.linefile.proofs.Ascending.{All}
use Rattle.linefile.proofs.Lines.{Long, LineFile, lines_long}

pub length-joined : (ls : List (List ℕ)) → All Long ls → length (joined ls) ≡ ended_length * length ls
unfolding joined
length-joined [] a = refl
length-joined (l ∷ ls) a =
    length-append l (joined ls) ∙ longer (length l) (length (joined ls)) (length ls) a.0 (length-joined ls a.1)
  where
    longer : (m n k : ℕ) → m ≡ ended_length → n ≡ ended_length * k → m + n ≡ ended_length * suc k
    longer m n k e f = omega arith

pub joined-drop : (m : ℕ) (ls : List (List ℕ)) → All Long ls → joined (drop m ls) ≡ drop (ended_length * m) (joined ls)
unfolding joined
joined-drop zero ls a = refl
joined-drop (suc m) [] a = sym (drop-nil (ended_length * suc m))
joined-drop (suc m) (l ∷ ls) a =
    joined-drop m ls a.1
    ∙ sym (ap (λ (k : ℕ). drop k (l ++ joined ls)) (further (length l) a.0) ∙ drop-append-add l (joined ls) (ended_length * m))
  where
    further : (n : ℕ) → n ≡ ended_length → ended_length * suc m ≡ n + ended_length * m
    further n e = omega arith

joined_in : (n : ℕ) (bytes : List ℕ) → length bytes ≡ ended_length * n → joined (lines_in n bytes) ≡ bytes
unfolding lines_in joined
joined_in zero [] e = refl
joined_in zero (b ∷ bytes) e = absurd (none (length bytes) e)
  where
    none : (n : ℕ) → suc n ≡ ended_length * 0 → ⊥
    none n e = omega arith
joined_in (suc n) bytes e =
    ap (λ (t : List ℕ). take ended_length bytes ++ t) (joined_in n (drop ended_length bytes) (rw length-drop (omega arith)))
    ∙ take-append-drop ended_length bytes

in-joined : (ls : List (List ℕ)) → All Long ls → lines_in (length ls) (joined ls) ≡ ls
unfolding lines_in joined
in-joined [] a = refl
in-joined (l ∷ ls) a =
    ap₂ (λ (t u : List ℕ). t ∷ lines_in (length ls) u) (take_at l (joined ls) ended_length a.0) (drop_at l (joined ls) ended_length a.0)
    ∙ ap (λ (t : List (List ℕ)). l ∷ t) (in-joined ls a.1)

pub lines-joined : (ls : List (List ℕ)) → All Long ls → lines (joined ls) ≡ ls
unfolding lines
lines-joined ls a =
    ap (λ (n : ℕ). lines_in n (joined ls)) (ap (λ (n : ℕ). n / ended_length) (length-joined ls a) ∙ mul-div_cancel_left (length ls) (lit< tt)) ∙ in-joined ls a

pub joined-append : (xs ys : List (List ℕ)) → joined (xs ++ ys) ≡ joined xs ++ joined ys
unfolding joined
joined-append [] ys = refl
joined-append (x ∷ xs) ys = ap (λ (t : List ℕ). x ++ t) (joined-append xs ys) ∙ sym (append_assoc x (joined xs) (joined ys))

-- one of the lines, with whatever stands behind all of them
pub line_of : (ls : List (List ℕ)) → All Long ls → (rest : List ℕ) (i : ℕ) → i < length ls → take ended_length (drop (ended_length * i) (joined ls ++ rest)) ≡ get_or ls i []
unfolding joined
line_of [] a rest i h = absurd (not-suc-le-zero h)
line_of (l ∷ ls) a rest zero h = ap (take ended_length) (append_assoc l (joined ls) rest) ∙ take_at l (joined ls ++ rest) ended_length a.0
line_of (l ∷ ls) a rest (suc i) h =
    ap (take ended_length)
    (ap₂ drop (further (length l) a.0) (append_assoc l (joined ls) rest) ∙ drop-append-add l (joined ls ++ rest) (ended_length * i))
    ∙ line_of ls a.1 rest i (le_of_suc-le-suc h)
  where
    further : (n : ℕ) → n ≡ ended_length → ended_length * suc i ≡ n + ended_length * i
    further n e = omega arith

-- ---- a line file

-- a file is its lines one behind the other
pub joined-lines : (file : List ℕ) → LineFile file → joined (lines file) ≡ file
unfolding lines
joined-lines file f = joined_in (length file / ended_length) file f.whole

-- the bytes from a line on
pub rest_lines : (file : List ℕ) → LineFile file → (m : ℕ) → joined (drop m (lines file)) ≡ drop (ended_length * m) file
rest_lines file f m =
    joined-drop m (lines file) (lines_long file) ∙ ap (drop (ended_length * m)) (joined-lines file f)
