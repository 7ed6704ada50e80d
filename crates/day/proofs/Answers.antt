-- What the answer tells (specs/Answers.antt), by the rule of the day.
-- Assumes nothing.
use mathlib.Core.Path.{◌≡◌, refl, sym, ap, ◌∙◌}
use mathlib.Core.Bool.{Bool, true, false}
use mathlib.Core.List.{List}
use Prim.Native.Nat.{ℕ, ◌<◌}
use native.Mathlib.Nat.{pos_of_ne-zero}
use native.Mathlib.Omega.{arith}
use lib.Dec.{eqb}
use lib.ListN.{length}
use borrow.Author.Tests.{eq-eqb, ne_eqb, eqb-true, eqb-false}
use Rattle.day.specs.Day.{Written, Bytes, Refused, day_block, day_file, day_number, day_rule}
use Rattle.day.specs.Answers.{written_number, written_bytes, written_block}

module _ (bytes : List ℕ) (room : ℕ) where
  pub rule-written : day_number bytes room ≡ 0 → day_rule bytes room ≡ Bytes (length (day_file bytes))
  unfolding day_rule
  rule-written e = rw (eq-eqb (day_number bytes room) 0 e)

  pub rule-refused : (day_number bytes room ≡ 0 → ⊥) → day_rule bytes room ≡ Refused (day_number bytes room) (day_block bytes)
  unfolding day_rule
  rule-refused h = rw (ne_eqb (day_number bytes room) 0 h)

  pub answer-number : written_number (day_rule bytes room) ≡ day_number bytes room
  answer-number = by-test (eqb (day_number bytes room) 0) refl
    where
      by-test : (t : Bool) → eqb (day_number bytes room) 0 ≡ t → written_number (day_rule bytes room) ≡ day_number bytes room
      by-test true f = let z = eqb-true _ 0 f in ap written_number (rule-written z) ∙ sym z
      by-test false f = ap written_number (rule-refused (eqb-false _ 0 f))

  pub answer-bytes : day_number bytes room ≡ 0 → written_bytes (day_rule bytes room) ≡ length (day_file bytes)
  answer-bytes e = ap written_bytes (rule-written e)

  -- where the answer is a refusal, its number and its block are those that are named
  pub refused-case : {number block : ℕ} → Refused number block ≡ day_rule bytes room
      → (0 < day_number bytes room) × (number ≡ day_number bytes room) × (block ≡ day_block bytes)
  refused-case {number} {block} e = by-test (eqb (day_number bytes room) 0) refl
    where
      never : {k i m : ℕ} → ◌≡◌ {A = Written} (Refused k i) (Bytes m) → ⊥
      never h = let z : ◌≡◌ {A = ℕ} 0 1 = cc in omega arith

      by-test : (t : Bool) → eqb (day_number bytes room) 0 ≡ t → (0 < day_number bytes room) × (number ≡ day_number bytes room) × (block ≡ day_block bytes)
      by-test true g = absurd (never (e ∙ rule-written (eqb-true _ 0 g)))
      by-test false g = (
        pos_of_ne-zero (eqb-false _ 0 g),
        ap written_number e ∙ answer-number,
        ap written_block (e ∙ rule-refused (eqb-false _ 0 g)),
      )
