-- Lines that ascend strictly, and what holds of all lines of a list.
-- Assumes nothing.
use mathlib.Core.Path.{◌≡◌, refl}
use mathlib.Core.Bool.{true}
use mathlib.Core.List.{List, [], ◌∷◌}
use Prim.Native.Nat.{ℕ, zero, suc, ◌<◌}
use native.Mathlib.Nat.{not-suc-le-zero, le_of_suc-le-suc}
use lib.ListN.{length, drop, get_or}
use Rattle.limits.specs.Refusal.{◌when◌, ◌then◌}
use Rattle.limits.proofs.Laws.{then-zero, when-zero}
use borrow.Author.Tests.{not-false}
use Rattle.linefile.specs.Files.{keys_of, keys, before, ended_number, lines_number}
use Rattle.linefile.proofs.Keys.{before-trans}

-- Each line has keys behind those of the line before it; the first, behind `last`.
abbrev pub Ascending : (last : List ℕ) → List (List ℕ) → Type 0
Ascending last [] = Unit {0}
Ascending last (line ∷ rest) = (before last (keys line) ≡ true) × Ascending (keys line) rest

-- What holds of each member of a list.
abbrev pub All : {A : Type 0} (P : A → Type 0) → List A → Type 0
All P [] = Unit {0}
All P (a ∷ rest) = P a × All P rest

-- A line that is not refused by itself.
abbrev pub Accepted : List ℕ → Type 0
Accepted line = ended_number line ≡ 0

-- A line with keys behind these.
abbrev pub Behind : (last line : List ℕ) → Type 0
Behind last line = before last (keys line) ≡ true

pub all_map : (P Q : List ℕ → Type 0) → ((l : List ℕ) → P l → Q l) → (ls : List (List ℕ)) → All P ls → All Q ls
all_map P Q f [] a = tt
all_map P Q f (l ∷ ls) a = (f l a.0, all_map P Q f ls a.1)

pub all-at : (P : List ℕ → Type 0) (ls : List (List ℕ)) → All P ls → (i : ℕ) → i < length ls → P (get_or ls i [])
all-at P [] a i h = absurd (not-suc-le-zero h)
all-at P (l ∷ ls) a zero h = a.0
all-at P (l ∷ ls) a (suc i) h = all-at P ls a.1 i (le_of_suc-le-suc h)

-- no keys stand before the keys of any line
pub before-none : (line : List ℕ) → before [] (keys line) ≡ true
unfolding before keys keys_of
before-none line = refl

pub ascending-from : (k last : List ℕ) (ls : List (List ℕ)) → before k last ≡ true → Ascending last ls → Ascending k ls
ascending-from k last [] h a = tt
ascending-from k last (l ∷ ls) h a = (before-trans k last (keys l) h a.0, a.1)

pub ascending-any : (last : List ℕ) (ls : List (List ℕ)) → Ascending last ls → Ascending [] ls
ascending-any last [] a = tt
ascending-any last (l ∷ ls) a = (before-none l, a.1)

pub ascending-drop : (n : ℕ) (last : List ℕ) (ls : List (List ℕ)) → Ascending last ls → Ascending [] (drop n ls)
ascending-drop zero last ls a = ascending-any last ls a
ascending-drop (suc n) last [] a = tt
ascending-drop (suc n) last (l ∷ ls) a = ascending-drop n (keys l) ls a.1

-- all lines are behind what the first is behind
pub all-behind : (last : List ℕ) (ls : List (List ℕ)) → Ascending last ls → All (Behind last) ls
all-behind last [] a = tt
all-behind last (l ∷ ls) a = (
  a.0,
  all_map (Behind (keys l)) (Behind last) (λ o h. before-trans last (keys l) (keys o) a.0 h) ls (all-behind (keys l) ls a.1),
)

-- ---- lines that are not refused

pub lines-accepted : (last : List ℕ) (ls : List (List ℕ)) → lines_number last ls ≡ 0 → Ascending last ls × All Accepted ls
unfolding lines_number
lines-accepted last [] e = (tt, tt)
lines-accepted last (l ∷ ls) e =
    let own = then-zero _ _ e in
    let order = then-zero _ _ own.1 in
    let rest = lines-accepted (keys l) ls order.1 in
    ((not-false _ (when-zero 15 _ order.0), rest.0), (own.0, rest.1))

pub accepted-lines : (last : List ℕ) (ls : List (List ℕ)) → Ascending last ls → All Accepted ls → lines_number last ls ≡ 0
unfolding lines_number ◌when◌ ◌then◌
accepted-lines last [] a p = refl
accepted-lines last (l ∷ ls) a p = simp (p.0, a.0, accepted-lines (keys l) ls a.1 p.1)
