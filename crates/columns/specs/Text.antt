-- The text of a line (document 01, "The line's columns"): the columns one after the other, each ended by a single space, and the checksum
-- of all that in the last two. It is a line only where labels and numbers are accepted.
-- Assumes nothing.
use Rattle.std.specs.Prelude.{ℕ, ◌+◌, ◌/◌, ◌%◌, List, [], ◌∷◌, ◌++◌, ℤ, nat_abs}
use Prim.Native.Char.{code}
use Rattle.fields.specs.Text.{decimal, signed, hexadecimal, checksum}
use Rattle.labels.specs.declared.Labels.{Labels}
use Rattle.limits.specs.declared.Numbers.{Numbers}

-- A line's length in bytes.
abbrev pub line_length : ℕ
line_length = 113

-- What ends a line in a file and in print: carriage return and line feed.
abbrev pub line_end : List ℕ
line_end = 13 ∷ 10 ∷ []

-- A line's length with that: 115 bytes (document 02, Job 5).
abbrev pub ended_length : ℕ
ended_length = line_length + 2

-- A second of the day as hhmmss.
unfoldable pub time_of_day : ℕ → List ℕ
time_of_day second = decimal 2 (second / 3600) ++ (decimal 2 (second / 60 % 60) ++ decimal 2 (second % 60))

-- Columns 1 to 33: the constellation and the satellite, the class, the date, the start, the track length, and the satellite's direction.
unfoldable pub track_columns : Labels → (trkl : ℤ) → List (List ℕ)
track_columns l trkl =
    (l.constellation ∷ decimal 2 l.satellite)  -- 1, 2-3
    ∷ hexadecimal l.cl  -- 5-6 CL
    ∷ decimal 5 l.mjd  -- 8-12 MJD
    ∷ time_of_day l.start  -- 14-19 start
    ∷ decimal 4 (nat_abs trkl)  -- 21-24 TRKL
    ∷ decimal 3 l.elv  -- 26-28 ELV
    ∷ decimal 4 l.azth  -- 30-33 AZTH
    ∷ []

-- Columns 35 to 76: the two clocks, their slopes, and the scatter.
unfoldable pub clock_columns : Numbers → List (List ℕ)
clock_columns n =
    signed 11 n.refsv  -- 35-45 REFSV
    ∷ signed 6 n.srsv  -- 47-52 SRSV
    ∷ signed 11 n.refsys  -- 54-64 REFSYS
    ∷ signed 6 n.srsys  -- 66-71 SRSYS
    ∷ decimal 4 (nat_abs n.dsg)  -- 73-76 DSG
    ∷ []

-- Columns 78 to 110: the ephemeris, the delays of the air, their slopes, the channels, and the observation code.
unfoldable pub delay_columns : Labels → Numbers → List (List ℕ)
delay_columns l n =
    decimal 3 l.ioe  -- 78-80 IOE
    ∷ decimal 4 (nat_abs n.mdtr)  -- 82-85 MDTR
    ∷ signed 4 n.smdt  -- 87-90 SMDT
    ∷ decimal 4 (nat_abs n.mdio)  -- 92-95 MDIO
    ∷ signed 4 n.smdi  -- 97-100 SMDI
    ∷ decimal 2 l.fr  -- 102-103 FR
    ∷ decimal 2 l.hc  -- 105-106 HC
    ∷ (l.frc1 ∷ l.frc2 ∷ l.frc3 ∷ [])  -- 108-110 FRC
    ∷ []

-- All columns but the last two.
unfoldable pub columns : Labels → Numbers → List (List ℕ)
columns l n = track_columns l n.trkl ++ (clock_columns n ++ delay_columns l n)

-- Columns with a space behind each.
unfoldable pub spaced : List (List ℕ) → List ℕ
spaced [] = []
spaced (c ∷ cs) = c ++ code " " ∷ spaced cs

-- Columns with CK, their checksum, behind them.
abbrev pub with_check : List ℕ → List ℕ
with_check columns = columns ++ hexadecimal (checksum columns)

-- All 113 columns, 112-113 being CK.
unfoldable pub line_text : Labels → Numbers → List ℕ
line_text l n = with_check (spaced (columns l n))
