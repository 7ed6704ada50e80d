-- Signed fields as numbers.
-- Assumes nothing.
use mathlib.Core.Path.{◌≡◌, refl, ap, ◌∙◌}
use mathlib.Core.Bool.{true, false}
use mathlib.Core.List.{List, ◌∷◌}
use Prim.Native.Nat.{ℕ}
use lib.Dec.{eqb}
use lib.IntN.{pos, neg_ℤ, nat_abs}
use borrow.Author.Tests.{eqb-true, eqb-false, eq-eqb, ne_eqb}
use Rattle.whole.proofs.Magnitudes.{nat_abs-neg}
use Rattle.fields.specs.Read.{read_decimal, read_signed}

pub minus-read : (b : ℕ) (text : List ℕ) → b ≡ 45 → read_signed (b ∷ text) ≡ neg_ℤ (pos (read_decimal text))
unfolding read_signed
minus-read b text e = simp (eq-eqb b 45 e)

pub plus-read : (b : ℕ) (text : List ℕ) → (b ≡ 45 → ⊥) → read_signed (b ∷ text) ≡ pos (read_decimal text)
unfolding read_signed
plus-read b text h = simp (ne_eqb b 45 h)

-- whatever the sign, the magnitude is what the digits say
pub read-magnitude : (b : ℕ) (text : List ℕ) → nat_abs (read_signed (b ∷ text)) ≡ read_decimal text
unfolding read_signed
read-magnitude b text = elim (eqb b 45) as (λ t. eqb b 45 ≡ t → nat_abs (read_signed (b ∷ text)) ≡ read_decimal text) [
  | true ↦ λ e. ap nat_abs (minus-read b text (eqb-true b 45 e)) ∙ nat_abs-neg (pos (read_decimal text))
  | false ↦ λ e. ap nat_abs (plus-read b text (eqb-false b 45 e))
] refl
