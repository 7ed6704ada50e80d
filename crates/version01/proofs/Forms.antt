-- The columns of either form, written one behind the other, and what an answer leaves in a lent line (specs/Convert.antt).
-- Assumes nothing.
use mathlib.Core.Path.{◌≡◌, refl, ap, ◌∙◌}
use mathlib.Core.List.{List, [], ◌∷◌, ◌++◌}
use Prim.Native.Nat.{ℕ, suc, ◌+◌, ◌-◌, ◌≤◌}
use native.Mathlib.Omega.{arith}
use lib.ListN.{length, take, drop, length-append, length-drop}
use lib.Seq.{length-take-le}
use Rattle.lent.specs.Placed.{placed, placed_within}
use Rattle.lent.proofs.Placing.{within, put-behind, placed_first, placed-front}
use Rattle.fields.specs.Text.{hexadecimal, checksum}
use Rattle.fields.proofs.Laws.{length-hexadecimal}
use Rattle.columns.specs.Columns.{field}
use Rattle.version01.specs.Convert.{form_text, old_length}

pub shared-length : (line : List ℕ) → 101 ≤ length line → length (field 2 101 line) ≡ 100
unfolding field
shared-length line h = length-take-le 100 (drop 1 line) (rw length-drop (less (length line) h))
  where
    less : (n : ℕ) → 101 ≤ n → 100 ≤ n - 1
    less n h = omega arith

-- ---- the columns, one behind the other

module _ (first : ℕ) (line behind lent : List ℕ) (long : 101 ≤ length line) where
  abbrev pub form_columns : List ℕ
  form_columns = first ∷ (field 2 101 line ++ behind)

  pub columns-length : length form_columns ≡ 101 + length behind
  columns-length = count (length (field 2 101 line)) (length (field 2 101 line ++ behind)) (shared-length line long) (length-append (field 2 101 line) behind)
    where
      count : (n m : ℕ) → n ≡ 100 → m ≡ n + length behind → suc m ≡ 101 + length behind
      count n m e f = omega arith

  pub form-length : length (form_text first line behind) ≡ old_length + length behind
  unfolding form_text
  form-length =
      count (length form_columns) columns-length (length-append form_columns (hexadecimal (checksum form_columns)) ∙ ap (λ (n : ℕ). length form_columns + n) (length-hexadecimal (checksum form_columns)))
    where
      count : (n : ℕ) {m : ℕ} → n ≡ 101 + length behind → m ≡ n + 2 → m ≡ old_length + length behind
      count n e f = omega arith

  module _ (room : old_length + length behind ≤ length lent) where
    pub columns-put : {d₁ d₂ d₃ : List ℕ} → d₁ ≡ placed_within lent 0 (first ∷ []) → d₂ ≡ placed_within d₁ 1 (field 2 101 line) → d₃ ≡ placed_within d₂ 101 behind
        → d₃ ≡ placed lent 0 form_columns
    columns-put {d₁} {d₂} e f g =
        let n = shared-length line long in
        let one : d₁ ≡ placed lent 0 (first ∷ []) = e ∙ within lent 0 (first ∷ []) (omega arith) in
        let two : d₂ ≡ placed lent 0 (first ∷ field 2 101 line) = put-behind lent (first ∷ []) (field 2 101 line) refl (omega (arith, n)) one f in
        put-behind lent (first ∷ field 2 101 line) behind (ap suc n) (omega arith) two g

    pub all-put : {d₃ d₄ : List ℕ} {sum : ℕ} → d₃ ≡ placed lent 0 form_columns → sum ≡ checksum (take (101 + length behind) d₃)
        → d₄ ≡ placed_within d₃ (101 + length behind) (hexadecimal sum) → d₄ ≡ form_text first line behind ++ drop (old_length + length behind) lent
    unfolding form_text
    all-put {d₃} {d₄} {sum} e s f =
        put-behind lent form_columns (hexadecimal sum) columns-length (omega (arith, length-hexadecimal sum)) e f
        ∙ ap (λ (n : ℕ). placed lent 0 (form_columns ++ hexadecimal n)) (s ∙ ap checksum (ap (take (101 + length behind)) e ∙ placed-front lent form_columns (101 + length behind) columns-length))
        ∙ placed_first lent (form_text first line behind) form-length
