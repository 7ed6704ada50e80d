-- The fields of a line whose characters are those of its columns: what each is made of.
-- Assumes nothing.
use mathlib.Core.Path.{◌≡◌, refl, sym, ap, ap₂, ◌∙◌}
use mathlib.Core.Bool.{true}
use mathlib.Core.List.{List, [], ◌∷◌}
use Prim.Native.Nat.{ℕ, suc, ◌+◌, ◌-◌, ◌^◌, ◌≤◌, ◌<◌}
use native.Mathlib.Nat.{pow-le-pow_right, lt_of_lt_of_le, le_refl, le_trans}
use native.Mathlib.Omega.{arith}
use lib.Dec.{T, leb, le→leb, lit<, lit≤}
use lib.ListN.{length, take, drop, get_or, get_or-replicate, length-replicate, length-drop}
use lib.Seq.{length-take-le, drop-cons, drop-drop, get_or-drop}
use Rattle.fields.specs.Read.{read_decimal}
use Rattle.columns.specs.Columns.{field}
use Rattle.fields.specs.Text.{bytes_of}
use Rattle.fields.proofs.Decimals.{Figures, read-bound}
use Rattle.characters.specs.Kinds.{allows, kinds, shared_kinds, old_kinds, allowed}
use Rattle.reading.specs.Fields.{digits, hex_digits, Holds, Shared, Digits, Signed}
use Rattle.characters.proofs.Allowed.{digit-range, allowed-length, allowed_at, allowed-drop, allowed-take, allowed-cut}

-- ---- columns of some kinds

pub holds_at : (column : ℕ) (kinds line : List ℕ) → Holds column kinds line → (i : ℕ) → i < length kinds → allows (get_or kinds i 0) (get_or line (column - 1 + i) 0) ≡ true
holds_at column kinds line h i l =
    ap (allows (get_or kinds i 0)) (sym (get_or-drop (column - 1) line i 0)) ∙ allowed_at kinds (drop (column - 1) line) h i l

pub holds-length : (column : ℕ) (kinds line : List ℕ) → Holds column kinds line → length kinds ≤ length line - (column - 1)
holds-length column kinds line h = rw length-drop at (allowed-length kinds (drop (column - 1) line) h)

-- ---- a field of digits

-- columns of digits hold them
pub digit_at : (n : ℕ) (text : List ℕ) → allowed (digits n) text ≡ true → Figures n text
digit_at n text e i h =
    digit-range (get_or text i 0)
    (ap (λ (k : ℕ). allows k (get_or text i 0)) (sym (get_or-replicate n i 57 0 h)) ∙ allowed_at (digits n) text e i (rw length-replicate h))

-- a field of them lies within the line
pub within-line : {most first last : ℕ} {line : List ℕ} → Digits most first last line → last ≤ length line
within-line {most} {first} {last} {line} d =
    reach (rw length-replicate at (allowed-length (digits (last + 1 - first)) (drop (first - 1) line) d.holds))
    (length-drop (first - 1) line)
  where
    reach : last + 1 - first ≤ length (drop (first - 1) line) → length (drop (first - 1) line) ≡ length line - (first - 1) → last ≤ length line
    reach h e = omega (arith, d.counted, d.ordered)

pub field-length : {most first last : ℕ} {line : List ℕ} → Digits most first last line → length (field first last line) ≡ last + 1 - first
unfolding field
field-length {most} {first} {last} {line} d =
    length-take-le (last + 1 - first) (drop (first - 1) line)
    (rw length-replicate at (allowed-length (digits (last + 1 - first)) (drop (first - 1) line) d.holds))

pub field-digits : {most first last : ℕ} {line : List ℕ} → Digits most first last line → allowed (digits (length (field first last line))) (field first last line) ≡ true
unfolding field
field-digits {most} {first} {last} {line} d =
    ap (λ (n : ℕ). allowed (digits n) (field first last line)) (field-length d) ∙ cut
  where
    cut : allowed (digits (last + 1 - first)) (field first last line) ≡ true
    cut = allowed-cut (digits (last + 1 - first)) (drop (first - 1) line) d.holds (last + 1 - first) (rw length-replicate (le_refl (last + 1 - first)))

-- its number is below the power of ten of its columns
pub field_bound : {most first last : ℕ} {line : List ℕ} → Digits most first last line → read_decimal (field first last line) < 10 ^ most
unfolding field
field_bound {most} {first} {last} {line} d =
    lt_of_lt_of_le (read-bound (last + 1 - first) (drop (first - 1) line) (digit_at _ _ d.holds)) (pow-le-pow_right (lit< tt) d.few)

-- so it is at most the greatest number of so many digits
pub field-most : (limit : ℕ) {most first last : ℕ} {line : List ℕ} → Digits most first last line → 10 ^ most ≡ suc limit
    → read_decimal (field first last line) ≤ limit
field-most limit {most} d e = below (field_bound d)
  where
    below : {n : ℕ} → n < 10 ^ most → n ≤ limit
    below h = omega (arith, e)

-- a field of few digits is one of more
pub at_most : (more : ℕ) {most first last : ℕ} {line : List ℕ} → most ≤ more → Digits most first last line → Digits more first last line
at_most more h d = record { counted = d.counted; ordered = d.ordered; few = le_trans d.few h; holds = d.holds }

-- and one of just as many as it has columns
pub exactly : {most first last : ℕ} {line : List ℕ} → Digits most first last line → Digits (last + 1 - first) first last line
exactly {most} {first} {last} d =
    record { counted = d.counted; ordered = d.ordered; few = le_refl (last + 1 - first); holds = d.holds }

pub at-most-signed : (more : ℕ) {most first last : ℕ} {line : List ℕ} → most ≤ more → Signed most first last line → Signed more first last line
at-most-signed more h s = record { counted = s.counted; sign = s.sign; digits = at_most more h s.digits }

-- a sign stands before its digits
pub signed-field : {most first last : ℕ} {line : List ℕ} → Signed most first last line
    → field first last line ≡ get_or line (first - 1) 0 ∷ field (first + 1) last line
unfolding field
signed-field {most} {first} {last} {line} s =
    ap₂ take (width first last s.digits.ordered) (drop-cons line (first - 1) 0 (inside first last (length line) s.digits.ordered (within-line s.digits) s.counted))
    ∙ ap₂ (λ (m n : ℕ). get_or line (first - 1) 0 ∷ take m (drop n line)) (less first last s.digits.ordered) (next first s.counted)
  where
    width : (first last : ℕ) → first + 1 ≤ last → last + 1 - first ≡ suc (last - first)
    width first last h = omega arith

    inside : (first last n : ℕ) → first + 1 ≤ last → last ≤ n → 1 ≤ first → first - 1 < n
    inside first last n h k l = omega arith

    less : (first last : ℕ) → first + 1 ≤ last → last - first ≡ last + 1 - (first + 1)
    less first last h = omega arith

    next : (first : ℕ) → 1 ≤ first → suc (first - 1) ≡ first + 1 - 1
    next first h = omega arith

-- ---- the fields of columns of known kinds

module _ (from : ℕ) (ks line : List ℕ) (e : Holds from ks line) where
  -- columns of these kinds
  holds-in : (column width : ℕ) (these : List ℕ) → T (leb 1 from) → T (leb from column) → take width (drop (column - from) ks) ≡ these
      → Holds column these line
  holds-in column width these f l k =
      ap₂ allowed (sym k) (ap (λ (n : ℕ). drop n line) (sym (place from column (lit≤ f) (lit≤ l))) ∙ sym (drop-drop (column - from) (from - 1) line))
      ∙ allowed-take (drop (column - from) ks) _ (allowed-drop ks (drop (from - 1) line) e (column - from)) width
    where
      place : (from column : ℕ) → 1 ≤ from → from ≤ column → from - 1 + (column - from) ≡ column - 1
      place from column h k = omega arith

  digits_in : (most first last : ℕ) → T (leb 1 from) → T (leb from first) → T (leb first last) → T (leb (last + 1 - first) most)
      → take (last + 1 - first) (drop (first - from) ks) ≡ digits (last + 1 - first) → Digits most first last line
  digits_in most first last b c o f k =
      record {
        counted = le_trans (lit≤ b) (lit≤ c);
        ordered = lit≤ o;
        few = lit≤ f;
        holds = holds-in first (last + 1 - first) (digits (last + 1 - first)) b c k;
      }

  signed-in : (most first last : ℕ) → T (leb 1 from) → T (leb from first) → T (leb (first + 1) last) → T (leb (last + 1 - (first + 1)) most)
      → take 1 (drop (first - from) ks) ≡ 43 ∷ [] → take (last + 1 - (first + 1)) (drop (first + 1 - from) ks) ≡ digits (last + 1 - (first + 1))
      → Signed most first last line
  signed-in most first last b c o f s k =
      record {
        counted = le_trans (lit≤ b) (lit≤ c);
        sign = holds-in first 1 (43 ∷ []) b c s;
        digits = digits_in most (first + 1) last b (le→leb from (first + 1) (later from first (lit≤ c))) o f k;
      }
    where
      later : (from first : ℕ) → from ≤ first → from ≤ first + 1
      later from first h = omega arith

-- ---- columns 2 to 101, which both forms share

pub shared-count : (line : List ℕ) → Shared line → 101 ≤ length line
unfolding kinds bytes_of
shared-count line e = reach (length line) (holds-length 2 shared_kinds line e)
  where
    reach : (n : ℕ) → 100 ≤ n - 1 → 101 ≤ n
    reach n h = omega arith

-- What these columns are made of.
pub record Columns (line : List ℕ) : Type 0 where
  pub satellite : Digits 2 2 3 line
  pub class : Holds 5 (hex_digits 2) line
  pub mjd : Digits 5 8 12 line
  pub hour : Digits 2 14 15 line
  pub minute : Digits 2 16 17 line
  pub second : Digits 2 18 19 line
  pub trkl : Digits 4 21 24 line
  pub elv : Digits 3 26 28 line
  pub azth : Digits 4 30 33 line
  pub refsv : Signed 10 35 45 line
  pub srsv : Signed 5 47 52 line
  pub refsys : Signed 10 54 64 line
  pub srsys : Signed 5 66 71 line
  pub dsg : Digits 4 73 76 line
  pub ioe : Digits 3 78 80 line
  pub mdtr : Digits 4 82 85 line
  pub smdt : Signed 3 87 90 line
  pub mdio : Digits 4 92 95 line
  pub smdi : Signed 3 97 100 line

pub columns_of_lem : (line : List ℕ) → Shared line → Columns line
unfolding kinds bytes_of
columns_of_lem line e =
    let these = shared_kinds in
    record {
      satellite = digits_in 2 these line e 2 2 3 tt tt tt tt refl;
      class = holds-in 2 these line e 5 2 _ tt tt refl;
      mjd = digits_in 2 these line e 5 8 12 tt tt tt tt refl;
      hour = digits_in 2 these line e 2 14 15 tt tt tt tt refl;
      minute = digits_in 2 these line e 2 16 17 tt tt tt tt refl;
      second = digits_in 2 these line e 2 18 19 tt tt tt tt refl;
      trkl = digits_in 2 these line e 4 21 24 tt tt tt tt refl;
      elv = digits_in 2 these line e 3 26 28 tt tt tt tt refl;
      azth = digits_in 2 these line e 4 30 33 tt tt tt tt refl;
      refsv = signed-in 2 these line e 10 35 45 tt tt tt tt refl refl;
      srsv = signed-in 2 these line e 5 47 52 tt tt tt tt refl refl;
      refsys = signed-in 2 these line e 10 54 64 tt tt tt tt refl refl;
      srsys = signed-in 2 these line e 5 66 71 tt tt tt tt refl refl;
      dsg = digits_in 2 these line e 4 73 76 tt tt tt tt refl;
      ioe = digits_in 2 these line e 3 78 80 tt tt tt tt refl;
      mdtr = digits_in 2 these line e 4 82 85 tt tt tt tt refl;
      smdt = signed-in 2 these line e 3 87 90 tt tt tt tt refl refl;
      mdio = digits_in 2 these line e 4 92 95 tt tt tt tt refl;
      smdi = signed-in 2 these line e 3 97 100 tt tt tt tt refl refl;
    }

-- ---- the other columns of a line of ours

pub record OwnColumns (line : List ℕ) : Type 0 where
  pub letter : Holds 1 (76 ∷ []) line
  pub fr : Digits 2 102 103 line
  pub hc : Digits 2 105 106 line
  pub frc : Holds 108 (90 ∷ 90 ∷ 90 ∷ []) line

pub own-columns : (line : List ℕ) → allowed kinds line ≡ true → OwnColumns line
unfolding kinds bytes_of
own-columns line e =
    record {
      letter = holds-in 1 kinds line e 1 1 _ tt tt refl;
      fr = digits_in 1 kinds line e 2 102 103 tt tt tt tt refl;
      hc = digits_in 1 kinds line e 2 105 106 tt tt tt tt refl;
      frc = holds-in 1 kinds line e 108 3 _ tt tt refl;
    }

pub shared : (line : List ℕ) → allowed kinds line ≡ true → Shared line
shared line e = allowed-take (drop 1 kinds) (drop 1 line) (allowed-drop kinds line e 1) 100

pub old-shared : (old : List ℕ) → allowed old_kinds old ≡ true → Shared old
unfolding old_kinds
old-shared old e = allowed-drop old_kinds old e 1

-- the parts of the time have two digits each
pub time-bounds : (line : List ℕ) → Shared line
    → (read_decimal (field 14 15 line) < 100) × (read_decimal (field 16 17 line) < 100) × (read_decimal (field 18 19 line) < 100)
time-bounds line e = let c = columns_of_lem line e in (field_bound c.hour, field_bound c.minute, field_bound c.second)
