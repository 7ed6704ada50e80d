-- Two lines with the same columns 2 to 101 read alike, but for the labels in the other columns.
-- Assumes nothing.
use mathlib.Core.Path.{◌≡◌, sym, ap, ap₂, ◌∙◌}
use mathlib.Core.Bool.{◌||◌}
use mathlib.Core.List.{List}
use Prim.Native.Nat.{ℕ, ◌+◌, ◌-◌, ◌*◌, ◌≤◌, ◌<◌}
use native.Mathlib.Omega.{arith}
use lib.Dec.{T, leb, ltb, lit≤}
use lib.IntN.{pos}
use lib.ListN.{take, drop, get_or}
use lib.Seq.{drop-drop, get_or-take, get_or-drop}
use Rattle.fields.proofs.Lists.{piece_of}
use Rattle.fields.specs.Read.{read_decimal, read_signed, read_hexadecimal}
use Rattle.labels.specs.declared.Labels.{Labels}
use Rattle.columns.specs.Columns.{byte_in, field, labels_with_lem, read_numbers}
use Rattle.reading.specs.Read.{signed_fields, is_minus_zero_lem, minus_zero_lem, time_beyond_lem, values_number}

module _ (a b : List ℕ) (alike : field 2 101 a ≡ field 2 101 b) where
  pub same-field : (first last : ℕ) → T (leb 2 first) → T (leb first last) → T (leb last 101) → field first last a ≡ field first last b
  unfolding field
  same-field first last f o l = sym (inside a) ∙ ap (λ (t : List ℕ). take (last + 1 - first) (drop (first - 2) t)) alike ∙ inside b
    where
      place : (first : ℕ) → 2 ≤ first → 1 + (first - 2) ≡ first - 1
      place first h = omega arith

      fits : (first last : ℕ) → 2 ≤ first → first ≤ last → last ≤ 101 → first - 2 + (last + 1 - first) ≤ 100
      fits first last h o k = omega arith

      inside : (t : List ℕ) → take (last + 1 - first) (drop (first - 2) (take 100 (drop 1 t))) ≡ take (last + 1 - first) (drop (first - 1) t)
      inside t =
          piece_of (first - 2) (last + 1 - first) 100 (drop 1 t) (fits first last (lit≤ f) (lit≤ o) (lit≤ l))
          ∙ ap (take (last + 1 - first)) (drop-drop (first - 2) 1 t ∙ ap (λ (n : ℕ). drop n t) (place first (lit≤ f)))

  pub same_byte : (column : ℕ) → T (leb 2 column) → T (leb column 101) → byte_in column a ≡ byte_in column b
  unfolding byte_in field
  same_byte column f l = sym (inside a) ∙ ap (λ (t : List ℕ). get_or t (column - 2) 0) alike ∙ inside b
    where
      place : (column : ℕ) → 2 ≤ column → 1 + (column - 2) ≡ column - 1
      place column h = omega arith

      fits : (column : ℕ) → 2 ≤ column → column ≤ 101 → column - 2 < 100
      fits column h k = omega arith

      inside : (t : List ℕ) → get_or (take 100 (drop 1 t)) (column - 2) 0 ≡ get_or t (column - 1) 0
      inside t =
          get_or-take 100 (drop 1 t) (column - 2) 0 (fits column (lit≤ f) (lit≤ l))
          ∙ get_or-drop 1 t (column - 2) 0
          ∙ ap (λ (n : ℕ). get_or t n 0) (place column (lit≤ f))

  pub same_numbers : read_numbers a ≡ read_numbers b
  unfolding read_numbers
  same_numbers =
      λ i. record {
        refsv = read_signed (same-field 35 45 tt tt tt i);
        srsv = read_signed (same-field 47 52 tt tt tt i);
        refsys = read_signed (same-field 54 64 tt tt tt i);
        srsys = read_signed (same-field 66 71 tt tt tt i);
        mdtr = pos (read_decimal (same-field 82 85 tt tt tt i));
        smdt = read_signed (same-field 87 90 tt tt tt i);
        mdio = pos (read_decimal (same-field 92 95 tt tt tt i));
        smdi = read_signed (same-field 97 100 tt tt tt i);
        dsg = pos (read_decimal (same-field 73 76 tt tt tt i));
        trkl = pos (read_decimal (same-field 21 24 tt tt tt i));
      }

  pub same-labels : (constellation fr hc frc1 frc2 frc3 : ℕ) → labels_with_lem constellation fr hc frc1 frc2 frc3 a ≡ labels_with_lem constellation fr hc frc1 frc2 frc3 b
  unfolding labels_with_lem
  same-labels constellation fr hc frc1 frc2 frc3 =
      λ i. record {
        constellation = constellation;
        satellite = read_decimal (same-field 2 3 tt tt tt i);
        cl = read_hexadecimal (same-field 5 6 tt tt tt i);
        fr = fr;
        hc = hc;
        frc1 = frc1;
        frc2 = frc2;
        frc3 = frc3;
        mjd = read_decimal (same-field 8 12 tt tt tt i);
        start = 3600 * read_decimal (same-field 14 15 tt tt tt i) + 60 * read_decimal (same-field 16 17 tt tt tt i) + read_decimal (same-field 18 19 tt tt tt i);
        elv = read_decimal (same-field 26 28 tt tt tt i);
        azth = read_decimal (same-field 30 33 tt tt tt i);
        ioe = read_decimal (same-field 78 80 tt tt tt i);
      }

  same_sign : (first last : ℕ) → T (leb 2 first) → T (leb first last) → T (leb first 101) → T (leb last 101)
      → is_minus_zero_lem (byte_in first a) (read_signed (field first last a)) ≡ is_minus_zero_lem (byte_in first b) (read_signed (field first last b))
  same_sign first last f o h l = ap₂ is_minus_zero_lem (same_byte first f h) (ap read_signed (same-field first last f o l))

  same-minus : minus_zero_lem signed_fields a ≡ minus_zero_lem signed_fields b
  unfolding minus_zero_lem
  same-minus =
      simp (
        same_sign 35 45 tt tt tt tt,
        same_sign 47 52 tt tt tt tt,
        same_sign 54 64 tt tt tt tt,
        same_sign 66 71 tt tt tt tt,
        same_sign 87 90 tt tt tt tt,
        same_sign 97 100 tt tt tt tt,
      )

  same-time : time_beyond_lem a ≡ time_beyond_lem b
  unfolding time_beyond_lem
  same-time =
      λ i. ltb 23 (read_decimal (same-field 14 15 tt tt tt i))
      || ltb 59 (read_decimal (same-field 16 17 tt tt tt i))
      || ltb 59 (read_decimal (same-field 18 19 tt tt tt i))

  pub same-values : (l : Labels) → values_number l (read_numbers a) a ≡ values_number l (read_numbers b) b
  unfolding values_number
  same-values l = simp (same-minus, same_numbers, same-time)
