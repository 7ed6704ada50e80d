-- TRKL and REFSYS of an accepted line, as its digits stand (specs/View.antt).
-- Assumes nothing.
use mathlib.Core.Path.{◌≡◌, refl, ap, ◌∙◌}
use mathlib.Core.Bool.{true, false}
use mathlib.Core.List.{List, ◌∷◌}
use Prim.Native.Nat.{ℕ, ◌+◌, ◌*◌, ◌≤◌}
use native.Mathlib.Omega.{arith}
use lib.Dec.{eqb, lit<, lit≤}
use lib.IntN.{pos, neg_ℤ, nat_abs}
use lib.ListN.{get_or}
use lib.Seq.{get_or-take}
use borrow.Author.Tests.{eq-eqb, ne_eqb}
use Rattle.fields.specs.Read.{read_decimal, read_signed}
use Rattle.fields.specs.Raw.{two_digits_lem}
use Rattle.fields.proofs.Signs.{minus-read, plus-read, read-magnitude}
use Rattle.columns.specs.Text.{line_length}
use Rattle.columns.specs.Columns.{field, read_numbers}
use Rattle.reading.proofs.Columns.{field-most, signed-field}
use Rattle.linefile.specs.Files.{columns_of}
use Rattle.viewing.specs.View.{trkl_of, refsys_of}
use Rattle.linefile.proofs.Ascending.{Accepted}
use Rattle.linefile.proofs.Digits.{raw_from, excess, row, columns, digits-raw}

module _ (line : List ℕ) (e : Accepted line) where
  pub trkl-raw : 100 * two_digits_lem 20 line + two_digits_lem 22 line ≡ trkl_of line + 53328
  unfolding trkl_of read_numbers field raw_from excess row
  trkl-raw = omega (arith, digits-raw line e 4 20 (lit≤ tt) (columns line e).trkl.holds)

  pub refsys-raw : {p q r s t : ℕ} → p ≡ two_digits_lem 54 line → q ≡ two_digits_lem 56 line → r ≡ two_digits_lem 58 line → s ≡ two_digits_lem 60 line → t ≡ two_digits_lem 62 line
      → 100 * (1000000 * p + 10000 * q + 100 * r + s) + t ≡ read_decimal (field 55 64 (columns_of line)) + 53333333328
  unfolding field raw_from excess row
  refsys-raw ep eq er es et = omega (arith, digits-raw line e 10 54 (lit≤ tt) (columns line e).refsys.digits.holds)

  pub size-bound : read_decimal (field 55 64 (columns_of line)) ≤ 9999999999
  size-bound = field-most 9999999999 (columns line e).refsys.digits refl

  -- the sign stands before the digits
  refsys-text : refsys_of line ≡ read_signed (get_or line 53 0 ∷ field 55 64 (columns_of line))
  unfolding refsys_of read_numbers
  refsys-text =
      ap read_signed (signed-field (columns line e).refsys)
      ∙ ap (λ (b : ℕ). read_signed (b ∷ field 55 64 (columns_of line))) (get_or-take line_length line 53 0 (lit< tt))

  pub refsys-minus : get_or line 53 0 ≡ 45 → refsys_of line ≡ neg_ℤ (pos (read_decimal (field 55 64 (columns_of line))))
  refsys-minus m = refsys-text ∙ minus-read _ _ m

  pub refsys-plus : (get_or line 53 0 ≡ 45 → ⊥) → refsys_of line ≡ pos (read_decimal (field 55 64 (columns_of line)))
  refsys-plus p = refsys-text ∙ plus-read _ _ p

  pub refsys-bound : nat_abs (refsys_of line) ≤ 9999999999
  refsys-bound = omega (arith, ap nat_abs refsys-text ∙ read-magnitude _ _, size-bound)

-- TRKL is compared as its digits stand
pub trkl-same : (line other : List ℕ) {m n : ℕ} → m ≡ trkl_of line + 53328 → n ≡ trkl_of other + 53328 → m ≡ n → eqb (trkl_of line) (trkl_of other) ≡ true
trkl-same line other p q e = eq-eqb (trkl_of line) (trkl_of other) (omega arith)

pub trkl-other : (line other : List ℕ) {m n : ℕ} → m ≡ trkl_of line + 53328 → n ≡ trkl_of other + 53328 → (m ≡ n → ⊥) → eqb (trkl_of line) (trkl_of other) ≡ false
trkl-other line other {m} {n} p q d = ne_eqb (trkl_of line) (trkl_of other) (λ e. d (up e))
  where
    up : trkl_of line ≡ trkl_of other → m ≡ n
    up e = omega arith
