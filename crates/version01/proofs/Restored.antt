-- Down and then up restores a line, and up and then down an old one (document 02, Job 12); what goes up is read as what it was.
-- Assumes nothing.
use mathlib.Core.Path.{◌≡◌, refl, sym, ap, ap₂, ◌∙◌}
use mathlib.Core.Bool.{true, ◌&&◌, or-false}
use mathlib.Core.List.{List, [], ◌∷◌, ◌++◌, append_assoc, append-nil}
use Prim.Native.Nat.{ℕ, ◌+◌, ◌≤◌}
use native.Mathlib.Nat.{le_of_eq}
use native.Mathlib.Omega.{arith}
use lib.Dec.{leb, eqb, lit<, lit≤}
use lib.ListN.{length, take, drop, get_or}
use lib.Seq.{take_all, take_at, drop_at, drop-drop, drop-cons, get_or-drop}
use borrow.Author.Tests.{le-ltb, eqb-true, not-false}
use Rattle.limits.specs.Refusal.{◌when◌, ◌then◌}
use Rattle.limits.proofs.Laws.{then-zero, then-passed, when-zero, both, after-accepted}
use Rattle.limits.specs.declared.Numbers.{Numbers}
use Rattle.fields.proofs.Lists.{piece_of}
use Rattle.fields.specs.Text.{bytes_of, decimal, signed, hexadecimal, checksum}
use Rattle.fields.specs.Read.{read_decimal, digits_from}
use Rattle.fields.proofs.Laws.{read-decimal}
use Rattle.labels.specs.declared.Labels.{Labels}
use Rattle.labels.specs.Labels.{constellation_fits_lem, labels_fit_lem}
use Rattle.labels.proofs.Digits.{ranged, few}
use Rattle.columns.specs.Text.{line_length, time_of_day, track_columns, clock_columns, delay_columns, columns, spaced, with_check, line_text}
use Rattle.columns.specs.Columns.{byte_in, field, labels_with_lem, read_labels, read_numbers}
use Rattle.characters.specs.Kinds.{kinds, old_kinds}
use Rattle.characters.proofs.Allowed.{space-is, allowed_at}
use Rattle.characters.proofs.Spelled.{SpelledAs, Spelled, spelled, spelled-zero}
use Rattle.characters.proofs.Check.{closed-by-check}
use Rattle.reading.specs.Read.{values_number, read_number, read_rule}
use Rattle.reading.specs.Old.{old_labels, old_number}
use Rattle.reading.proofs.Refusals.{Valued, valued, accepted, reply-line}
use Rattle.reading.proofs.AcceptedLine.{accepted-columns}
use Rattle.version01.specs.Convert.{old_length, form_text, down_text, supplied, up_text, down_answer, down_after, up_answer, up_after}
use Rattle.version01.proofs.Forms.{shared-length, form-length}
use Rattle.version01.proofs.Alike.{same_numbers, same-labels, same-values}
use Rattle.version01.proofs.Characters.{old-spelled, supplied-length, our-spelled}

-- the text of a line, as columns 2 to 101 and what stands around them
text-form : (l : Labels) (n : Numbers)
    → line_text l n ≡ with_check (l.constellation ∷ (field 2 101 (line_text l n) ++ spaced (decimal 2 l.fr ∷ decimal 2 l.hc ∷ (l.frc1 ∷ l.frc2 ∷ l.frc3 ∷ []) ∷ [])))
unfolding line_text columns track_columns clock_columns delay_columns spaced time_of_day decimal signed hexadecimal field
text-form l n = refl

-- columns 2 to 101 stay
form-alike : (first : ℕ) (line behind : List ℕ) → 101 ≤ length line → field 2 101 (form_text first line behind) ≡ field 2 101 line
unfolding form_text field
form-alike first line behind long =
    ap (take 100) (append_assoc (take 100 (drop 1 line)) behind _) ∙ take_at (take 100 (drop 1 line)) _ 100 (shared-length line long)

labels-own : (line : List ℕ) → let l = read_labels line in labels_with_lem l.constellation l.fr l.hc l.frc1 l.frc2 l.frc3 line ≡ l
unfolding labels_with_lem read_labels
labels-own line = refl

shared-first : (line : List ℕ) → field 2 101 (take line_length line) ≡ field 2 101 line
unfolding field
shared-first line = piece_of 1 100 line_length line (lit≤ tt)

gps-fits : (ioe fr : ℕ) → constellation_fits_lem 71 ioe fr ≡ leb ioe 255 && eqb fr 0
unfolding constellation_fits_lem
gps-fits ioe fr = simp or-false

-- ---- what the labels of a line with letter G tell

fr-zero : (ioe fr : ℕ) → constellation_fits_lem 71 ioe fr ≡ true → fr ≡ 0
fr-zero ioe fr e = eqb-true fr 0 (both (leb ioe 255) (eqb fr 0) (sym (gps-fits ioe fr) ∙ e)).1

-- ---- down and then up

module _ (line : List ℕ) (e : read_number line ≡ 0) (g : byte_in 1 line ≡ 71) where
  abbrev l : Labels
  l = read_labels line

  spelled-so : Spelled line
  spelled-so = (accepted line e).0

  valued-so : Valued line
  valued-so = (accepted line e).1

  long : 101 ≤ length line
  long = omega (arith, spelled-so.least)

  alike : field 2 101 (down_text line) ≡ field 2 101 line
  alike = form-alike 32 line [] long

  constellation-is : l.constellation ≡ 71
  unfolding read_labels labels_with_lem
  constellation-is = g

  fr-is : l.fr ≡ 0
  fr-is = fr-zero l.ioe l.fr (ap (λ (c : ℕ). constellation_fits_lem c l.ioe l.fr) (sym constellation-is) ∙ (ranged l valued-so.labels).letter)

  labels-kept : old_labels l.hc l.frc1 l.frc2 l.frc3 (down_text line) ≡ l
  labels-kept = same-labels (down_text line) line alike 71 0 l.hc l.frc1 l.frc2 l.frc3 ∙ own
    where
      own : labels_with_lem 71 0 l.hc l.frc1 l.frc2 l.frc3 line ≡ l
      own = ap₂ (λ (c fr : ℕ). labels_with_lem c fr l.hc l.frc1 l.frc2 l.frc3 line) (sym constellation-is) (sym fr-is) ∙ labels-own line

  goes-up : old_number l.hc l.frc1 l.frc2 l.frc3 (down_text line) ≡ 0
  unfolding old_number read_number
  goes-up =
      then-passed _ _ (spelled-zero (down_text line) (old-spelled line spelled-so))
      ∙ ap (λ (x : Labels). values_number x (read_numbers (down_text line)) (down_text line)) labels-kept
      ∙ same-values (down_text line) line alike l
      ∙ (then-zero _ _ e).1

  text-restored : up_text l.hc l.frc1 l.frc2 l.frc3 (down_text line) ≡ take line_length line
  unfolding form_text supplied
  text-restored =
      ap (λ (t : List ℕ). with_check (71 ∷ (t ++ supplied l.hc l.frc1 l.frc2 l.frc3))) (alike ∙ sym first ∙ ap (field 2 101) (accepted-columns line e))
      ∙ ap₂ (λ (c fr : ℕ). with_check (c ∷ (field 2 101 (line_text l (read_numbers line)) ++ spaced (decimal 2 fr ∷ decimal 2 l.hc ∷ (l.frc1 ∷ l.frc2 ∷ l.frc3 ∷ []) ∷ [])))) (sym constellation-is) (sym fr-is)
      ∙ sym (text-form l (read_numbers line))
      ∙ sym (accepted-columns line e)
    where
      first : field 2 101 (take line_length line) ≡ field 2 101 line
      first = shared-first line

-- ---- up and then down

module _ (hc frc1 frc2 frc3 : ℕ) (old : List ℕ) (e : old_number hc frc1 frc2 frc3 old ≡ 0) where
  abbrev our : List ℕ
  our = up_text hc frc1 frc2 frc3 old

  rows : SpelledAs 101 128 old_kinds old × (values_number (old_labels hc frc1 frc2 frc3 old) (read_numbers old) old ≡ 0)
  unfolding old_number
  rows = let z = then-zero _ _ e in (spelled old z.0, z.1)

  fit : labels_fit_lem (old_labels hc frc1 frc2 frc3 old) ≡ true
  fit = (valued (old_labels hc frc1 frc2 frc3 old) (read_numbers old) old rows.1).labels

  old-long : 101 ≤ length old
  old-long = omega (arith, rows.0.least)

  our-alike : field 2 101 our ≡ field 2 101 old
  our-alike = form-alike 71 old (supplied hc frc1 frc2 frc3) old-long

  our-columns : Spelled our
  unfolding labels_with_lem
  our-columns = let c = (ranged (old_labels hc frc1 frc2 frc3 old) fit).codes in our-spelled hc frc1 frc2 frc3 old rows.0 c.0 c.1 c.2

  abbrev check : List ℕ
  check = hexadecimal (checksum (71 ∷ (field 2 101 old ++ supplied hc frc1 frc2 frc3)))

  behind : drop 101 our ≡ supplied hc frc1 frc2 frc3 ++ check
  unfolding form_text
  behind =
      ap (drop 100) (append_assoc (field 2 101 old) (supplied hc frc1 frc2 frc3) check)
      ∙ drop_at (field 2 101 old) (supplied hc frc1 frc2 frc3 ++ check) 100 (shared-length old old-long)

  -- a byte, and two, behind columns 2 to 101
  byte-behind : (i : ℕ) → get_or our (101 + i) 0 ≡ get_or (supplied hc frc1 frc2 frc3 ++ check) i 0
  byte-behind i = sym (get_or-drop 101 our i 0) ∙ ap (λ (t : List ℕ). get_or t i 0) behind

  two-behind : (i : ℕ) → take 2 (drop (101 + i) our) ≡ take 2 (drop i (supplied hc frc1 frc2 frc3 ++ check))
  two-behind i = ap (take 2) (sym (drop-drop i 101 our) ∙ ap (drop i) behind)

  fr-there : read_decimal (field 102 103 our) ≡ 0
  unfolding field supplied spaced decimal read_decimal digits_from
  fr-there = ap read_decimal (two-behind 0)

  hc-there : read_decimal (field 105 106 our) ≡ hc
  unfolding field supplied spaced decimal labels_with_lem
  hc-there = ap read_decimal (two-behind 3) ∙ read-decimal 2 hc (few (old_labels hc frc1 frc2 frc3 old) fit).hc

  letter-there : byte_in 1 our ≡ 71
  unfolding byte_in form_text
  letter-there = refl

  frc1-there : byte_in 108 our ≡ frc1
  unfolding byte_in supplied spaced decimal
  frc1-there = byte-behind 6

  frc2-there : byte_in 109 our ≡ frc2
  unfolding byte_in supplied spaced decimal
  frc2-there = byte-behind 7

  frc3-there : byte_in 110 our ≡ frc3
  unfolding byte_in supplied spaced decimal
  frc3-there = byte-behind 8

  labels-there : read_labels our ≡ old_labels hc frc1 frc2 frc3 old
  unfolding read_labels
  labels-there =
      (λ i. labels_with_lem (letter-there i) (fr-there i) (hc-there i) (frc1-there i) (frc2-there i) (frc3-there i) our)
      ∙ same-labels our old our-alike 71 0 hc frc1 frc2 frc3

  numbers-there : read_numbers our ≡ read_numbers old
  numbers-there = same_numbers our old our-alike

  is_read : read_number our ≡ 0
  unfolding read_number
  is_read =
      then-passed _ _ (spelled-zero our our-columns)
      ∙ ap (λ (x : Labels). values_number x (read_numbers our) our) labels-there
      ∙ same-values our old our-alike (old_labels hc frc1 frc2 frc3 old)
      ∙ rows.1

  reads-alike : read_rule our ≡ record { number = 0; values = (old_labels hc frc1 frc2 frc3 old, read_numbers old) }
  reads-alike = sym (reply-line our is_read (sym labels-there) (sym numbers-there))

  -- column 1 is blank
  columns-old : take 101 old ≡ 32 ∷ (field 2 101 old ++ [])
  unfolding field old_kinds kinds bytes_of
  columns-old =
      ap (take 101) (drop-cons old 0 0 (omega (arith, old-long)))
      ∙ ap₂ ◌∷◌ (eqb-true _ _ (sym (space-is (get_or old 0 0)) ∙ allowed_at old_kinds old rows.0.columns 0 (lit< tt))) (sym (append-nil (take 100 (drop 1 old))))

  old-restored : down_text our ≡ take old_length old
  unfolding form_text
  old-restored =
      ap (λ (t : List ℕ). with_check (32 ∷ (t ++ []))) our-alike
      ∙ ap with_check (sym columns-old)
      ∙ sym (closed-by-check 101 old rows.0.check rows.0.least)

-- ---- the theorems

-- Whatever was lent, the first bytes are what was written.
down-written : (line lent : List ℕ) → down_answer line (length lent) ≡ 0 → 101 ≤ length line → take old_length (down_after line lent) ≡ down_text line
unfolding down_after
down-written line lent e long =
    ap (take old_length) (after-accepted (down_text line ++ drop old_length lent) lent e)
    ∙ take_at (down_text line) (drop old_length lent) old_length (form-length 32 line [] [] long)

up-written : (hc frc1 frc2 frc3 : ℕ) (old lent : List ℕ) → up_answer hc frc1 frc2 frc3 old (length lent) ≡ 0 → 101 ≤ length old
    → take line_length (up_after hc frc1 frc2 frc3 old lent) ≡ up_text hc frc1 frc2 frc3 old
unfolding up_after supplied spaced decimal
up-written hc frc1 frc2 frc3 old lent e long =
    ap (take line_length) (after-accepted (up_text hc frc1 frc2 frc3 old ++ drop line_length lent) lent e)
    ∙ take_at (up_text hc frc1 frc2 frc3 old) (drop line_length lent) line_length (form-length 71 old (supplied hc frc1 frc2 frc3) [] long)

-- what an accepted line tells
down-tells : (line : List ℕ) (room : ℕ) → down_answer line room ≡ 0 → (read_number line ≡ 0) × (byte_in 1 line ≡ 71)
unfolding down_answer
down-tells line room e =
    let z = then-zero _ _ e in
    (z.0, eqb-true _ _ (not-false _ (when-zero 24 _ (then-zero _ _ z.1).0)))

up-tells : (hc frc1 frc2 frc3 : ℕ) (old : List ℕ) (room : ℕ) → up_answer hc frc1 frc2 frc3 old room ≡ 0 → old_number hc frc1 frc2 frc3 old ≡ 0
unfolding up_answer
up-tells hc frc1 frc2 frc3 old room e = (then-zero _ _ e).0

-- what is accepted where there is room
up-goes : (hc frc1 frc2 frc3 : ℕ) (old room : List ℕ) → old_number hc frc1 frc2 frc3 old ≡ 0 → line_length ≤ length room
    → (up_answer hc frc1 frc2 frc3 old (length room) ≡ 0) × (up_after hc frc1 frc2 frc3 old room ≡ up_text hc frc1 frc2 frc3 old ++ drop line_length room)
unfolding up_after up_answer ◌when◌ ◌then◌
up-goes hc frc1 frc2 frc3 old room e h =
    let z : up_answer hc frc1 frc2 frc3 old (length room) ≡ 0 = simp (e, le-ltb (length room) line_length h) in
    (z, after-accepted _ room z)

down-goes : (line room : List ℕ) → read_number line ≡ 0 → byte_in 1 line ≡ 71 → old_length ≤ length room
    → (down_answer line (length room) ≡ 0) × (down_after line room ≡ down_text line ++ drop old_length room)
unfolding down_after down_answer ◌when◌ ◌then◌
down-goes line room e g h =
    let z : down_answer line (length room) ≡ 0 = simp (e, g, le-ltb (length room) old_length h) in
    (z, after-accepted _ room z)

-- Down, and then up with the HC and FRC that were dropped, restores the 113 columns.
pub down-then-up : (line lent room : List ℕ) → down_answer line (length lent) ≡ 0 → line_length ≤ length room
    → let l = read_labels line in
    let old = take old_length (down_after line lent) in
    (up_answer l.hc l.frc1 l.frc2 l.frc3 old (length room) ≡ 0)
    × (up_after l.hc l.frc1 l.frc2 l.frc3 old room ≡ take line_length line ++ drop line_length room)
down-then-up line lent room e h =
    let t = down-tells line (length lent) e in
    let l = read_labels line in
    let w = down-written line lent e (long line t.0 t.1) in
    let r = up-goes l.hc l.frc1 l.frc2 l.frc3 (down_text line) room (goes-up line t.0 t.1) h in (
      ap (λ (x : List ℕ). up_answer l.hc l.frc1 l.frc2 l.frc3 x (length room)) w ∙ r.0,
      ap (λ (x : List ℕ). up_after l.hc l.frc1 l.frc2 l.frc3 x room) w ∙ r.1 ∙ ap (λ (x : List ℕ). x ++ drop line_length room) (text-restored line t.0 t.1),
    )

-- An old line that goes up gives a line that the reader accepts, with its labels and numbers.
pub up-reads : (hc frc1 frc2 frc3 : ℕ) (old lent : List ℕ) → up_answer hc frc1 frc2 frc3 old (length lent) ≡ 0
    → read_rule (take line_length (up_after hc frc1 frc2 frc3 old lent)) ≡ record { number = 0; values = (old_labels hc frc1 frc2 frc3 old, read_numbers old) }
up-reads hc frc1 frc2 frc3 old lent e =
    let z = up-tells hc frc1 frc2 frc3 old (length lent) e in
    ap read_rule (up-written hc frc1 frc2 frc3 old lent e (old-long hc frc1 frc2 frc3 old z)) ∙ reads-alike hc frc1 frc2 frc3 old z

-- It is the text that Line writes for these labels and numbers. That Line accepts them is `accepted-written-again` of crate reading, as the line is read.
pub up-line : (hc frc1 frc2 frc3 : ℕ) (old lent : List ℕ) → up_answer hc frc1 frc2 frc3 old (length lent) ≡ 0
    → take line_length (up_after hc frc1 frc2 frc3 old lent) ≡ line_text (old_labels hc frc1 frc2 frc3 old) (read_numbers old)
up-line hc frc1 frc2 frc3 old lent e =
    let z = up-tells hc frc1 frc2 frc3 old (length lent) e in
    let w = up-written hc frc1 frc2 frc3 old lent e (old-long hc frc1 frc2 frc3 old z) in
    let n = form-length 71 old (supplied hc frc1 frc2 frc3) [] (old-long hc frc1 frc2 frc3 old z) in
    w
    ∙ sym (take_all line_length (our hc frc1 frc2 frc3 old z) (le_of_eq (n ∙ ap (λ (k : ℕ). old_length + k) (supplied-length hc frc1 frc2 frc3))))
    ∙ accepted-columns (our hc frc1 frc2 frc3 old z) (is_read hc frc1 frc2 frc3 old z)
    ∙ ap₂ line_text (labels-there hc frc1 frc2 frc3 old z) (numbers-there hc frc1 frc2 frc3 old z)

-- Up and then down restores the 103 columns.
pub up-then-down : (hc frc1 frc2 frc3 : ℕ) (old lent room : List ℕ) → up_answer hc frc1 frc2 frc3 old (length lent) ≡ 0 → old_length ≤ length room
    → let line = take line_length (up_after hc frc1 frc2 frc3 old lent) in
    (down_answer line (length room) ≡ 0) × (down_after line room ≡ take old_length old ++ drop old_length room)
up-then-down hc frc1 frc2 frc3 old lent room e h =
    let z = up-tells hc frc1 frc2 frc3 old (length lent) e in
    let w = up-written hc frc1 frc2 frc3 old lent e (old-long hc frc1 frc2 frc3 old z) in
    let r = down-goes (our hc frc1 frc2 frc3 old z) room (is_read hc frc1 frc2 frc3 old z) (letter-there hc frc1 frc2 frc3 old z) h in (
      ap (λ (x : List ℕ). down_answer x (length room)) w ∙ r.0,
      ap (λ (x : List ℕ). down_after x room) w ∙ r.1 ∙ ap (λ (x : List ℕ). x ++ drop old_length room) (old-restored hc frc1 frc2 frc3 old z),
    )
