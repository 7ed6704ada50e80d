-- The text of a line is read back whole (document 02, Job 1), whatever comment may stand behind it.
-- Assumes nothing.
use mathlib.Core.Path.{◌≡◌, refl, sym, ap, ap₂, ◌∙◌}
use mathlib.Core.Bool.{true, false}
use mathlib.Core.List.{List, ◌++◌, append_assoc}
use Prim.Native.Nat.{ℕ, suc, ◌+◌, ◌-◌, ◌/◌, ◌%◌, ◌≤◌, ◌<◌}
use native.Mathlib.Omega.{arith}
use lib.Dec.{eqb-suc-zero, lit<}
use lib.IntN.{ℤ, pos, negsuc}
use lib.ListN.{length, take, drop, length-append, length-drop}
use lib.Seq.{drop_at}
use borrow.Author.Tests.{le-ltb}
use Rattle.schedule.specs.Schedule.{start_number}
use Rattle.schedule.proofs.Minutes as schedule
use Rattle.fields.specs.Text.{decimal, sign, signed, hexadecimal, checksum}
use Rattle.fields.specs.Read.{read_decimal, read_signed}
use Rattle.fields.proofs.Lists.{first_byte, parted}
use Rattle.fields.proofs.Laws.{length-decimal, read-decimal}
use Rattle.labels.specs.declared.Labels.{Labels}
use Rattle.limits.specs.declared.Numbers.{Numbers}
use Rattle.labels.specs.Labels.{labels_fit_lem, track_length_fits_lem}
use Rattle.labels.specs.Content.{content_number}
use Rattle.labels.proofs.Accepted.{Accepted, accepted}
use Rattle.columns.specs.Text.{line_length, time_of_day, track_columns, clock_columns, delay_columns, columns, spaced, line_text}
use Rattle.columns.specs.Columns.{byte_in, field, read_labels, read_numbers}
use Rattle.columns.proofs.Widths.{columns-sized, columns-width, line-width, column-at}
use Rattle.columns.proofs.ReadBack.{numbers-back, labels-back}
use Rattle.characters.specs.Kinds.{printable}
use Rattle.characters.proofs.Spelled.{Spelled}
use Rattle.characters.proofs.Check.{check-closes}
use Rattle.reading.specs.Read.{signed_fields, is_minus_zero_lem, minus_zero_lem, time_beyond_lem, read_rule}
use Rattle.reading.proofs.Columns.{columns_of_lem, shared, field-length}
use Rattle.reading.proofs.Refusals.{Valued, accepted-zero, reply-line}
use Rattle.reading.proofs.AcceptedLine.{time-joined}
use Rattle.reading.proofs.Writing.{columns-allowed}

-- a sign that is written is no minus before a zero
sign_fits : (z : ℤ) → is_minus_zero_lem (sign z) z ≡ false
unfolding is_minus_zero_lem sign
sign_fits (pos n) = refl
sign_fits (negsuc n) = eqb-suc-zero n

module _ (l : Labels) (n : Numbers) (comment : List ℕ) (e : content_number l n ≡ 0) (cl : l.cl < 256) (p : printable comment ≡ true) (few : length comment ≤ 27) where
  a : Accepted l n
  a = accepted l n e

  abbrev sum : ℕ
  sum = checksum (spaced (columns l n))

  abbrev behind : List ℕ
  behind = hexadecimal sum ++ comment

  abbrev line : List ℕ
  line = spaced (columns l n) ++ behind

  line-is : line_text l n ++ comment ≡ line
  unfolding line_text
  line-is = append_assoc (spaced (columns l n)) (hexadecimal sum) comment

  labels-are : read_labels line ≡ l
  labels-are = ap read_labels (sym line-is) ∙ labels-back l n comment e cl

  numbers-are : read_numbers line ≡ n
  numbers-are = ap read_numbers (sym line-is) ∙ numbers-back l n comment e

  -- ---- the characters

  length-is : length line ≡ line_length + length comment
  length-is = ap length (sym line-is) ∙ length-append (line_text l n) comment ∙ ap (λ (k : ℕ). k + length comment) (line-width l n)

  comment-is : drop line_length line ≡ comment
  comment-is = ap (drop line_length) (sym line-is) ∙ drop_at (line_text l n) comment line_length (line-width l n)

  spelled : Spelled line
  spelled =
      record {
        least = omega (arith, length-is);
        most = omega (arith, length-is);
        check = check-closes 111 (spaced (columns l n)) comment (columns-width l n);
        columns = columns-allowed l n behind a.labels;
        comment = ap printable comment-is ∙ p;
      }

  -- ---- the values

  sign-fits-in : (first width : ℕ) (z : ℤ) → take (suc width) (drop (first - 1) line) ≡ signed (suc width) z → read_signed (field first (first + width) line) ≡ z
      → is_minus_zero_lem (byte_in first line) (read_signed (field first (first + width) line)) ≡ false
  unfolding byte_in signed
  sign-fits-in first width z e r = ap₂ is_minus_zero_lem (first_byte width (first - 1) line _ e) r ∙ sign_fits z

  no_minus : minus_zero_lem signed_fields line ≡ false
  unfolding minus_zero_lem read_numbers columns track_columns clock_columns delay_columns
  no_minus =
      simp (
        sign-fits-in 35 10 n.refsv (column-at (columns-sized l n) 7 (lit< tt) behind) (ap (λ (m : Numbers). m.refsv) numbers-are),
        sign-fits-in 47 5 n.srsv (column-at (columns-sized l n) 8 (lit< tt) behind) (ap (λ (m : Numbers). m.srsv) numbers-are),
        sign-fits-in 54 10 n.refsys (column-at (columns-sized l n) 9 (lit< tt) behind) (ap (λ (m : Numbers). m.refsys) numbers-are),
        sign-fits-in 66 5 n.srsys (column-at (columns-sized l n) 10 (lit< tt) behind) (ap (λ (m : Numbers). m.srsys) numbers-are),
        sign-fits-in 87 3 n.smdt (column-at (columns-sized l n) 14 (lit< tt) behind) (ap (λ (m : Numbers). m.smdt) numbers-are),
        sign-fits-in 97 3 n.smdi (column-at (columns-sized l n) 16 (lit< tt) behind) (ap (λ (m : Numbers). m.smdi) numbers-are),
      )

  -- the parts of the time
  time : (field 14 15 line ≡ decimal 2 (l.start / 3600))
      × (field 16 17 line ≡ decimal 2 (l.start / 60 % 60))
      × (field 18 19 line ≡ decimal 2 (l.start % 60))
  unfolding time_of_day columns track_columns
  time =
      let whole = time-joined line ∙ column-at (columns-sized l n) 3 (lit< tt) behind in
      let c = columns_of_lem line (shared line spelled.columns) in
      let hour = parted (field-length c.hour) (length-decimal 2 _) whole in
      let rest = parted (field-length c.minute) (length-decimal 2 _) hour.1 in
      (hour.0, rest.0, rest.1)

  time-fits : time_beyond_lem line ≡ false
  unfolding time_beyond_lem
  time-fits =
      let s = schedule.accepted l.mjd l.start a.start in
      let hour = ap read_decimal time.0 ∙ read-decimal 2 (l.start / 3600) (omega (arith, s)) in
      let minute = ap read_decimal time.1 ∙ read-decimal 2 (l.start / 60 % 60) (omega arith) in
      let second = ap read_decimal time.2 ∙ read-decimal 2 (l.start % 60) (omega arith) in
      simp (hour, minute, second, le-ltb 23 (l.start / 3600) (omega (arith, s)), le-ltb 59 (l.start / 60 % 60) (omega arith), le-ltb 59 (l.start % 60) (omega arith))

  valued : Valued line
  valued =
      record {
        minus = no_minus;
        labels = ap labels_fit_lem labels-are ∙ a.labels;
        trkl = ap (λ (m : Numbers). track_length_fits_lem m.trkl) numbers-are ∙ a.trkl;
        start = ap (λ (m : Labels). start_number m.mjd m.start) labels-are ∙ a.start;
        time = time-fits;
      }

  reply-is : read_rule (line_text l n ++ comment) ≡ record { number = 0; values = (l, n) }
  reply-is = ap read_rule line-is ∙ sym (reply-line line (accepted-zero line spelled valued) (sym labels-are) (sym numbers-are))

-- ---- the theorems

-- The text of content that Line accepts reads to that content, with a comment of up to 27 printable bytes behind it. CL is a byte.
pub text-reads-back : (l : Labels) (n : Numbers) (comment : List ℕ) → content_number l n ≡ 0 → l.cl < 256 → printable comment ≡ true → length comment ≤ 27
    → read_rule (line_text l n ++ comment) ≡ record { number = 0; values = (l, n) }
text-reads-back l n comment e cl p few = reply-is l n comment e cl p few

-- what stands behind the columns of a line of up to 140 bytes is that short
pub comment-length : (line : List ℕ) → length line ≤ 140 → length (drop line_length line) ≤ 27
comment-length line most = rw length-drop (omega (arith, most))
