-- Digits as they stand: bytes taken for digits, with 0 for no byte but 0, give a number that is greater than theirs by as much for every row of so
-- many digits.
-- Assumes nothing.
use mathlib.Core.Path.{◌≡◌, refl, sym, ap, ap₂, ◌∙◌}
use mathlib.Core.Bool.{true, false≢true}
use mathlib.Core.List.{List, [], ◌∷◌}
use Prim.Native.Nat.{ℕ, zero, suc, ◌+◌, ◌*◌, ◌-◌, ◌≤◌}
use native.Mathlib.Nat.{le_trans}
use native.Mathlib.Numerals.{add-one}
use native.Mathlib.Omega.{arith}
use lib.ListN.{length, take, drop, get_or}
use lib.Seq.{drop-cons, get_or-take}
use Rattle.fields.specs.Read.{digits_from, read_decimal}
use Rattle.columns.specs.Text.{line_length}
use Rattle.characters.specs.Kinds.{allows, allowed}
use Rattle.reading.specs.Fields.{digits, Holds}
use Rattle.reading.specs.Read.{read_number}
use Rattle.characters.proofs.Allowed.{digit-range}
use Rattle.reading.proofs.Columns.{Columns, columns_of_lem, own-columns, shared}
use Rattle.reading.proofs.Refusals.{accepted}
use Rattle.limits.proofs.Laws.{then-zero, both}
use Rattle.linefile.specs.Files.{columns_of, ended_number}
use Rattle.linefile.proofs.Ascending.{Accepted}

unfoldable pub raw_from : ℕ → List ℕ → ℕ
raw_from before [] = before
raw_from before (b ∷ bs) = raw_from (10 * before + b) bs

-- By how much so many more digits make it greater, where it is `more` greater before them.
unfoldable pub excess : (digits more : ℕ) → ℕ
excess zero more = more
excess (suc n) more = excess n (10 * more + 48)

raw-is : (n before more : ℕ) (text : List ℕ) → allowed (digits n) text ≡ true
    → raw_from (before + more) (take n text) ≡ digits_from before (take n text) + excess n more
unfolding raw_from excess allowed digits_from
raw-is zero before more text e = refl
raw-is (suc n) before more [] e = absurd (false≢true e)
raw-is (suc n) before more (b ∷ text) e =
    let p = both (allows 57 b) (allowed (digits n) text) e in
    ap (λ (k : ℕ). raw_from k (take n text)) (next (digit-range b p.0))
    ∙ raw-is n (10 * before + (b - 48)) (10 * more + 48) text p.1
  where
    next : (48 ≤ b) × (b ≤ 57) → 10 * (before + more) + b ≡ 10 * before + (b - 48) + (10 * more + 48)
    next r = omega arith

-- So many bytes from an offset on, each by itself.
unfoldable pub row : (n at : ℕ) → List ℕ → List ℕ
row zero at line = []
row (suc n) at line = get_or line at 0 ∷ row n (at + 1) line

row_is : (n at : ℕ) (line : List ℕ) → at + n ≤ length line → take n (drop at line) ≡ row n at line
unfolding row
row_is zero at line h = refl
row_is (suc n) at line h =
    ap (take (suc n)) (drop-cons line at 0 (omega arith))
    ∙ ap (λ (t : List ℕ). get_or line at 0 ∷ t) (ap (λ (k : ℕ). take n (drop k line)) (sym (add-one at)) ∙ row_is n (at + 1) line (omega arith))

row-take : (n at k : ℕ) (line : List ℕ) → at + n ≤ k → row n at (take k line) ≡ row n at line
unfolding row
row-take zero at k line h = refl
row-take (suc n) at k line h =
    ap₂ (λ (b : ℕ) (t : List ℕ). b ∷ t) (get_or-take k line at 0 (omega arith)) (row-take n (at + 1) k line (omega arith))

-- ---- an accepted line

module _ (line : List ℕ) (e : Accepted line) where
  read-zero : read_number (columns_of line) ≡ 0
  unfolding ended_number
  read-zero = (then-zero _ _ e).0

  pub columns : Columns (columns_of line)
  columns = columns_of_lem (columns_of line) (shared (columns_of line) (accepted (columns_of line) read-zero).0.columns)

  pub letter-holds : Holds 1 (76 ∷ []) (columns_of line)
  letter-holds = (own-columns (columns_of line) (accepted (columns_of line) read-zero).0.columns).letter

  pub columns-long : line_length ≤ length (columns_of line)
  columns-long = (accepted (columns_of line) read-zero).0.least

  -- the digits in its columns from an offset on
  pub digits-raw : (n at : ℕ) → at + n ≤ line_length → allowed (digits n) (drop at (columns_of line)) ≡ true
      → raw_from 0 (row n at line) ≡ read_decimal (take n (drop at (columns_of line))) + excess n 0
  unfolding read_decimal
  digits-raw n at h a =
      ap (raw_from 0) (sym (row_is n at (columns_of line) (le_trans h columns-long) ∙ row-take n at line_length line h))
      ∙ raw-is n 0 0 (drop at (columns_of line)) a
