-- What a reader takes from the columns of a line (document 01, "The line's columns"). Nothing here comes from the writer's definitions.
-- Assumes nothing.
use Rattle.std.specs.Prelude.{ℕ, ◌+◌, ◌-◌, ◌*◌, List, [], ◌∷◌, take, drop, get_or, pos}
use Rattle.fields.specs.Read.{read_decimal, read_signed, read_hexadecimal}
use Rattle.labels.specs.declared.Labels.{Labels}
use Rattle.limits.specs.declared.Numbers.{Numbers}

-- A column, and columns from a first to a last one, counted from 1.
unfoldable pub byte_in : (column : ℕ) → List ℕ → ℕ
byte_in column line = get_or line (column - 1) 0

unfoldable pub field : (first last : ℕ) → List ℕ → List ℕ
field first last line = take (last + 1 - first) (drop (first - 1) line)

-- The columns of the single spaces. Law `spaces-pictured` of crate characters: they are those that `kinds` has.
unfoldable pub space_columns : List ℕ
space_columns = 4 ∷ 7 ∷ 13 ∷ 20 ∷ 25 ∷ 29 ∷ 34 ∷ 46 ∷ 53 ∷ 65 ∷ 72 ∷ 77 ∷ 81 ∷ 86 ∷ 91 ∷ 96 ∷ 101 ∷ 104 ∷ 107 ∷ 111 ∷ []

-- The ten numbers.
unfoldable pub read_numbers : List ℕ → Numbers
read_numbers line =
    record {
      refsv = read_signed (field 35 45 line);
      srsv = read_signed (field 47 52 line);
      refsys = read_signed (field 54 64 line);
      srsys = read_signed (field 66 71 line);
      mdtr = pos (read_decimal (field 82 85 line));
      smdt = read_signed (field 87 90 line);
      mdio = pos (read_decimal (field 92 95 line));
      smdi = read_signed (field 97 100 line);
      dsg = pos (read_decimal (field 73 76 line));
      trkl = pos (read_decimal (field 21 24 line));
    }

-- The labels in columns 2 to 101, the start in seconds of the day, with the letter, FR, HC and FRC given.
unfoldable pub labels_with_lem : (constellation fr hc frc1 frc2 frc3 : ℕ) → List ℕ → Labels
labels_with_lem constellation fr hc frc1 frc2 frc3 line =
    record {
      constellation = constellation;
      satellite = read_decimal (field 2 3 line);
      cl = read_hexadecimal (field 5 6 line);
      fr = fr;
      hc = hc;
      frc1 = frc1;
      frc2 = frc2;
      frc3 = frc3;
      mjd = read_decimal (field 8 12 line);
      start = 3600 * read_decimal (field 14 15 line) + 60 * read_decimal (field 16 17 line) + read_decimal (field 18 19 line);
      elv = read_decimal (field 26 28 line);
      azth = read_decimal (field 30 33 line);
      ioe = read_decimal (field 78 80 line);
    }

-- All labels.
unfoldable pub read_labels : List ℕ → Labels
read_labels line =
    labels_with_lem (byte_in 1 line) (read_decimal (field 102 103 line)) (read_decimal (field 105 106 line)) (byte_in 108 line) (byte_in 109 line) (byte_in 110 line) line
