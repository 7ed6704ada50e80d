-- The rows of refusals (specs/Read.antt): what it takes for a row to be 0, and that the row of the values is that of Line's content.
-- Assumes nothing.
use mathlib.Core.Path.{◌≡◌, refl, sym, ap, ap₂, ◌∙◌}
use mathlib.Core.Bool.{Bool, true, false, not}
use mathlib.Core.List.{List}
use Prim.Native.Nat.{ℕ, suc, ◌^◌, ◌<◌, zero-le}
use native.Mathlib.Omega.{arith}
use lib.IntN.{pos, nat_abs}
use borrow.Author.Tests.{not-false}
use Rattle.limits.specs.Refusal.{◌when◌, ◌then◌}
use Rattle.limits.specs.Limits.{outside, beyond, limits_number, dsg_number, no_numbers}
use Rattle.limits.proofs.Laws.{then-zero, then-refused, then-passed, then-assoc, then-none, when-zero, when-either, within-magnitude, within-natural}
use Rattle.limits.specs.Reply.{reply}
use Rattle.limits.proofs.Replies.{reply-accepted, reply-refused}
use Rattle.schedule.specs.Schedule.{start_number}
use Rattle.fields.specs.Read.{read_decimal, read_signed}
use Rattle.fields.proofs.Signs.{read-magnitude}
use Rattle.labels.specs.declared.Labels.{Labels}
use Rattle.limits.specs.declared.Numbers.{Numbers}
use Rattle.labels.specs.Labels.{labels_fit_lem, track_length_fits_lem}
use Rattle.labels.specs.Content.{content_number}
use Rattle.columns.specs.Columns.{field, read_labels, read_numbers}
use Rattle.characters.specs.Characters.{our_characters_number}
use Rattle.characters.proofs.Spelled.{Spelled, spelled, spelled-zero}
use Rattle.reading.specs.Read.{signed_fields, minus_zero_lem, time_beyond_lem, values_number, read_number, no_labels, read_rule}
use Rattle.reading.specs.Fields.{Shared, Digits, Signed}
use Rattle.reading.proofs.Columns.{columns_of_lem, field-most, signed-field}

-- ---- what a row that is 0 tells, and what makes it 0

pub record ValuedAs (l : Labels) (n : Numbers) (line : List ℕ) : Type 0 where
  pub minus : minus_zero_lem signed_fields line ≡ false
  pub labels : labels_fit_lem l ≡ true
  pub trkl : track_length_fits_lem n.trkl ≡ true
  pub start : start_number l.mjd l.start ≡ 0
  pub time : time_beyond_lem line ≡ false

-- a line with the labels and numbers in its own columns
abbrev pub Valued : List ℕ → Type 0
Valued line = ValuedAs (read_labels line) (read_numbers line) line

pub valued : (l : Labels) (n : Numbers) (line : List ℕ) → values_number l n line ≡ 0 → ValuedAs l n line
unfolding values_number
valued l n line e =
    let minus = then-zero _ _ e in
    let seven = then-zero _ _ minus.1 in
    let trkl = then-zero _ _ seven.1 in
    let eight = then-zero _ _ trkl.1 in
    record {
      minus = when-zero 12 _ minus.0;
      labels = not-false _ (when-zero _ _ seven.0);
      trkl = not-false _ (when-zero _ _ trkl.0);
      start = eight.0;
      time = when-zero 7 _ eight.1;
    }

pub valued-zero : (l : Labels) (n : Numbers) (line : List ℕ) → ValuedAs l n line → values_number l n line ≡ 0
unfolding values_number ◌when◌ ◌then◌
valued-zero l n line v = simp (v.minus, v.labels, v.trkl, v.start, v.time)

pub accepted : (line : List ℕ) → read_number line ≡ 0 → Spelled line × Valued line
unfolding read_number
accepted line e = let z = then-zero _ _ e in (spelled line z.0, valued (read_labels line) (read_numbers line) line z.1)

pub accepted-zero : (line : List ℕ) → Spelled line → Valued line → read_number line ≡ 0
unfolding read_number ◌then◌
accepted-zero line s v = simp (spelled-zero line s, valued-zero (read_labels line) (read_numbers line) line v)

-- ---- the numbers of a line are within their limits

signed-inside : (limit : ℕ) {most first last : ℕ} {line : List ℕ} → Signed most first last line → 10 ^ most ≡ suc limit
    → beyond limit (read_signed (field first last line)) ≡ false
signed-inside limit {most} {first} {last} {line} s e =
    within-magnitude limit (read_signed (field first last line))
    (omega (arith, ap (λ (t : List ℕ). nat_abs (read_signed t)) (signed-field s) ∙ read-magnitude _ _, field-most limit s.digits e))

decimal-inside : (limit : ℕ) {most first last : ℕ} {line : List ℕ} → Digits most first last line → 10 ^ most ≡ suc limit
    → outside (pos 0) (pos limit) (pos (read_decimal (field first last line))) ≡ false
decimal-inside limit {most} {first} {last} {line} d e =
    within-natural 0 limit (read_decimal (field first last line)) zero-le (field-most limit d e)

module _ (line : List ℕ) (e : Shared line) where
  pub limits-zero : limits_number (read_numbers line) ≡ 0
  unfolding limits_number read_numbers ◌when◌ ◌then◌
  limits-zero =
      let c = columns_of_lem line e in
      simp (
        signed-inside 9999999999 c.refsv refl,
        signed-inside 9999999999 c.refsys refl,
        signed-inside 99999 c.srsv refl,
        signed-inside 99999 c.srsys refl,
        signed-inside 999 c.smdt refl,
        signed-inside 999 c.smdi refl,
        decimal-inside 9999 c.mdtr refl,
        decimal-inside 9999 c.mdio refl,
      )

  pub dsg-zero : dsg_number (read_numbers line).dsg ≡ 0
  unfolding dsg_number read_numbers ◌when◌
  dsg-zero = simp (decimal-inside 9999 (columns_of_lem line e).dsg refl)

  -- ---- what is left of Line's refusals of the content

  pub content-is : (l : Labels) → content_number l (read_numbers line)
      ≡ 7 when not (labels_fit_lem l)
      then 7 when not (track_length_fits_lem (read_numbers line).trkl)
      then start_number l.mjd l.start
  unfolding content_number
  content-is l = simp (limits-zero, dsg-zero, then-none, when-either, then-assoc)

  -- the row that the code goes by
  pub values-row : (l : Labels) → 13 when minus_zero_lem signed_fields line then content_number l (read_numbers line) then 8 when time_beyond_lem line
      ≡ values_number l (read_numbers line) line
  unfolding values_number
  values-row l = simp (content-is, then-assoc)

  -- the same by the answers of the tests
  pub values_are : {minus time : Bool} {content : ℕ} (l : Labels) (n : Numbers) → n ≡ read_numbers line → minus ≡ minus_zero_lem signed_fields line
      → content ≡ content_number l n → time ≡ time_beyond_lem line → 13 when minus then content then 8 when time ≡ values_number l n line
  values_are l n q m k t =
      (λ i. 13 when m i then (k ∙ ap (content_number l) q) i then 8 when t i)
      ∙ values-row l
      ∙ ap (λ (x : Numbers). values_number l x line) (sym q)

-- ---- the reply

module _ (line : List ℕ) where
  abbrev own_values : ℕ
  own_values = values_number (read_labels line) (read_numbers line) line

  pub reply-characters : {number : ℕ} → number ≡ our_characters_number line → 0 < number
      → record { number = number; values = (no_labels, no_numbers) } ≡ read_rule line
  unfolding read_rule read_number
  reply-characters {number} e h =
      sym (ap (λ (n : ℕ). reply (no_labels, no_numbers) n (read_labels line, read_numbers line)) (ap (λ (n : ℕ). n then own_values) (sym e) ∙ then-refused number own_values h)
      ∙ reply-refused _ _ h)

  pub reply-values : {number : ℕ} → our_characters_number line ≡ 0 → number ≡ own_values → 0 < number
      → record { number = number; values = (no_labels, no_numbers) } ≡ read_rule line
  unfolding read_rule read_number
  reply-values {number} z e h =
      sym (ap (λ (n : ℕ). reply (no_labels, no_numbers) n (read_labels line, read_numbers line)) (then-passed _ own_values z ∙ sym e)
      ∙ reply-refused _ _ h)

  pub reply-line : {labels : Labels} {numbers : Numbers} → read_number line ≡ 0 → labels ≡ read_labels line → numbers ≡ read_numbers line
      → record { number = 0; values = (labels, numbers) } ≡ read_rule line
  unfolding read_rule
  reply-line z l n =
      ap₂ (λ (x : Labels) (y : Numbers). record { number = 0; values = (x, y) }) l n ∙ sym (reply-accepted _ _ z)
