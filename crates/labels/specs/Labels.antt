-- The labels' ranges and the track length (document 01, "The line's columns"; document 02, Job 3).
-- Assumes nothing.
use Rattle.std.specs.Prelude.{ℕ, ◌/◌, ◌%◌, Bool, false, ◌&&◌, ◌||◌, leb, eqb, ℤ, pos, negsuc}
use Prim.Native.Char.{code}
use Rattle.limits.specs.Blocks.{blocks_fit_lem}
use Rattle.labels.specs.declared.Labels.{Labels}

-- The constellation letters G, R, E, C and J, and each one's ranges of IOE and FR.
unfoldable pub constellation_fits_lem : (letter ioe fr : ℕ) → Bool
constellation_fits_lem letter ioe fr =
    eqb letter (code "G") && leb ioe 255 && eqb fr 0
    || eqb letter (code "R") && leb 1 ioe && leb ioe 96 && leb 1 fr && leb fr 24
    || eqb letter (code "E") && leb ioe 999 && eqb fr 0
    || eqb letter (code "C") && leb ioe 23 && eqb fr 0
    || eqb letter (code "J") && leb ioe 255 && eqb fr 0

-- A character of FRC: A to Z or 0 to 9.
unfoldable pub code_fits_lem : ℕ → Bool
code_fits_lem c = leb (code "A") c && leb c (code "Z") || leb (code "0") c && leb c (code "9")

-- All labels but the date and the start, which the start test judges. CL is any byte.
unfoldable pub labels_fit_lem : Labels → Bool
labels_fit_lem l =
    constellation_fits_lem l.constellation l.ioe l.fr
    && leb 1 l.satellite
    && leb l.satellite 99
    && leb l.hc 99
    && (code_fits_lem l.frc1 && code_fits_lem l.frc2 && code_fits_lem l.frc3)
    && leb l.elv 900
    && leb l.azth 3599

-- A track length in seconds: 15 for each block of a track that there may be.
unfoldable pub track_length_fits_lem : ℤ → Bool
track_length_fits_lem (pos s) = eqb (s % 15) 0 && blocks_fit_lem (s / 15)
track_length_fits_lem (negsuc s) = false
