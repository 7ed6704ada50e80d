-- The places of a record (specs/Correct.antt): their length and their values, and an array of 52 that starts with 0 throughout and that a loop
-- fills from the front with f 0, f 1, ..: after j turns it is the places of j blocks.
-- Assumes nothing.
use mathlib.Core.Path.{◌≡◌, refl, sym, ap, ap₂, ◌∙◌, subst}
use mathlib.Core.List.{List, ◌++◌}
use Prim.Native.Nat.{ℕ, zero, suc, ◌+◌, ◌-◌, ◌≤◌, ◌<◌, zero-le}
use native.Mathlib.Nat.{add-sub_of_le}
use native.Mathlib.Omega.{arith}
use native.Mathlib.Decide.{dec_lt}
use native.Mathlib.Numerals.{add-one}
use lib.IntN.{ℤ, pos, nat_abs}
use lib.ListN.{length, get_or, set, replicate, length-append, length-replicate, get_or-append}
use lib.Seq.{append_snoc, get_or-append-add, set_at}
use Rattle.whole.specs.Table.{tabulate}
use Rattle.whole.proofs.Tables.{tabulate-suc, tabulate-length, tabulate-get_or}
use Rattle.correcting.specs.Correct.{places}
use Rattle.correcting.specs.Answer.{filled}

pub places-length : (n : ℕ) (f : ℕ → ℤ) → n ≤ 52 → length (places n f) ≡ 52
unfolding places
places-length n f h =
    length-append (tabulate f n) (replicate (52 - n) (pos 0))
    ∙ ap₂ ◌+◌ (tabulate-length f n) (length-replicate (52 - n) (pos 0))
    ∙ add-sub_of_le h

-- the n values,
pub places-at : (n : ℕ) (f : ℕ → ℤ) (j : ℕ) → j < n → get_or (places n f) j (pos 0) ≡ f j
unfolding places
places-at n f j h =
    get_or-append (tabulate f n) (replicate (52 - n) (pos 0)) (pos 0) j (subst (λ (k : ℕ). j < k) (sym (tabulate-length f n)) h)
    ∙ tabulate-get_or f n j (pos 0) h

-- and 0 past them
pub places-past : (n : ℕ) (f : ℕ → ℤ) (j : ℕ) → n ≤ j → get_or (places n f) j (pos 0) ≡ pos 0
unfolding places
places-past n f j h =
    ap (λ (k : ℕ). get_or (tabulate f n ++ replicate (52 - n) (pos 0)) k (pos 0)) (sym (ap (λ (m : ℕ). m + (j - n)) (tabulate-length f n) ∙ add-sub_of_le h))
    ∙ get_or-append-add (tabulate f n) (replicate (52 - n) (pos 0)) (j - n) (pos 0)
    ∙ none (52 - n) (j - n)
  where
    none : (k m : ℕ) → get_or (replicate k (pos 0)) m (pos 0) ≡ pos 0
    none zero m = refl
    none (suc k) zero = refl
    none (suc k) (suc m) = none k m

fill_none : (f : ℕ → ℤ) → replicate 52 (pos 0) ≡ places 0 f
unfolding places tabulate
fill_none f = refl

fill_more : (f : ℕ → ℤ) (l : List ℤ) (j : ℕ) {z : ℤ} → j < 52 → l ≡ places j f → z ≡ f j → set l j z ≡ places (j + 1) f
unfolding places
fill_more f l j h so_far e =
    ap₂ (λ (k : List ℤ) (x : ℤ). set k j x) so_far e
    ∙ ap (λ (k : ℕ). set (tabulate f j ++ replicate k (pos 0)) j (f j)) one_left
    ∙ set_at (tabulate f j) (pos 0) rest (f j) j (tabulate-length f j)
    ∙ sym (append_snoc (tabulate f j) (f j) rest)
    ∙ ap (λ (k : List ℤ). k ++ rest) (sym (tabulate-suc f j) ∙ ap (tabulate f) (sym (add-one j)))
  where
    rest : List ℤ
    rest = replicate (52 - (j + 1)) (pos 0)

    one_left : 52 - j ≡ suc (52 - (j + 1))
    one_left = omega arith

-- ---- a row whose first places are set (specs/Answer.antt)

pub filled_none : (f : ℕ → ℤ) (row : List ℤ) → row ≡ filled 0 f row
unfolding filled
filled_none f row = refl

pub filled_more : (f : ℕ → ℤ) (row l : List ℤ) (j : ℕ) {z : ℤ} → l ≡ filled j f row → z ≡ f j → set l j z ≡ filled (j + 1) f row
unfolding filled
filled_more f row l j so_far e = ap₂ (λ (k : List ℤ) (x : ℤ). set k j x) so_far e ∙ ap (λ (k : ℕ). filled k f row) (sym (add-one j))

-- two rows that are filled alike
pub filled-alike : (n : ℕ) (f f' : ℕ → ℤ) (row : List ℤ) → ((j : ℕ) → j < n → f j ≡ f' j) → filled n f row ≡ filled n f' row
unfolding filled
filled-alike zero f f' row h = refl
filled-alike (suc n) f f' row h =
    ap₂ (λ (k : List ℤ) (z : ℤ). set k n z) (filled-alike n f f' row (λ j k. h j (omega arith))) (h n (omega arith))

-- a row of 52 that held 0 throughout has the places of a record
pub filled-places : (n : ℕ) (f : ℕ → ℤ) → n ≤ 52 → filled n f (replicate 52 (pos 0)) ≡ places n f
unfolding filled
filled-places zero f h = fill_none f
filled-places (suc n) f h =
    fill_more f (filled n f (replicate 52 (pos 0))) n h (filled-places n f (omega arith)) refl ∙ ap (λ (k : ℕ). places k f) (add-one n)

-- a bound on every value of f is one on every place
pub places-bound : (f : ℕ → ℤ) (n b : ℕ) → ((j : ℕ) → nat_abs (f j) ≤ b) → (j : ℕ) → nat_abs (get_or (places n f) j (pos 0)) ≤ b
places-bound f n b h j = elim (dec_lt j n) [ yes k ↦ inside k | no k ↦ outside (omega arith) ]
  where
    inside : j < n → nat_abs (get_or (places n f) j (pos 0)) ≤ b
    inside k = rw (places-at n f j k) (h j)

    outside : n ≤ j → nat_abs (get_or (places n f) j (pos 0)) ≤ b
    outside k = rw (places-past n f j k) zero-le
