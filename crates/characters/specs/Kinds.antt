-- What each column of a line may hold (document 02, Job 1, refusals 13 and 14; document 01, "The line's columns").
-- Assumes nothing.
use Rattle.std.specs.Prelude.{ℕ, ◌+◌, ◌/◌, Bool, true, false, ◌&&◌, ◌||◌, List, [], ◌∷◌, leb, eqb, take, drop}
use Prim.Native.Char.{code}
use Rattle.fields.specs.Text.{bytes_of, hex_digit_lem, checksum}
use Rattle.labels.specs.Labels.{code_fits_lem}
use Rattle.columns.specs.Columns.{byte_in}

-- A byte from low to high, both among them.
abbrev pub within : (low high byte : ℕ) → Bool
within low high byte = leb low byte && leb byte high

-- The letters of the constellations. Each has ranges by `constellation_fits_lem`, and no other letter has (laws `letter-has-ranges` and `letter-fits` of
-- proofs/Picture.antt).
unfoldable pub letter_fits_lem : ℕ → Bool
letter_fits_lem b =
    eqb b (code "G") || eqb b (code "R") || eqb b (code "E") || eqb b (code "C") || eqb b (code "J")

-- Whether a column of this kind may hold the byte. A character stands for each kind: L for a constellation letter, 9 for a digit, F for a
-- hexadecimal digit, + for a sign, Z for a character of FRC, and a space for itself.
unfoldable pub allows : (kind byte : ℕ) → Bool
allows kind b =
    eqb kind (code "L") && letter_fits_lem b
    || eqb kind (code "9") && within (code "0") (code "9") b
    || eqb kind (code "F") && (within (code "0") (code "9") b || within (code "A") (code "F") b)
    || eqb kind (code "+") && (eqb b (code "+") || eqb b (code "-"))
    || eqb kind (code "Z") && code_fits_lem b
    || eqb kind (code " ") && eqb b (code " ")

-- The kinds of columns 1 to 111, as a picture of the line. The sample line of document 01 has the same columns:
--               G05 FF 50722 000200 0780 450 1800 +0000000010 +00000 +0000000010 +00000 0000 007 0000 +000 0000 +000 00 00 L1C 26
unfoldable pub kinds : List ℕ
kinds = bytes_of "L99 FF 99999 999999 9999 999 9999 +9999999999 +99999 +9999999999 +99999 9999 999 9999 +999 9999 +999 99 99 ZZZ "

-- The kinds of columns 2 to 101, which a version 01 line has too (document 02, Job 12), and of its columns 1 to 101: the first is blank.
abbrev pub shared_kinds : List ℕ
shared_kinds = take 100 (drop 1 kinds)

unfoldable pub old_kinds : List ℕ
old_kinds = code " " ∷ shared_kinds

-- Each column of these kinds is there and holds what it may hold.
unfoldable pub allowed : (kinds line : List ℕ) → Bool
allowed [] line = true
allowed (kind ∷ kinds) [] = false
allowed (kind ∷ kinds) (b ∷ line) = allows kind b && allowed kinds line

-- The characters of a comment: bytes 20 to 7E, in hexadecimal.
unfoldable pub printable : List ℕ → Bool
printable [] = true
printable (b ∷ text) = within 32 126 b && printable text

-- CK stands behind so many columns, and is the two capital hexadecimal digits of their checksum.
unfoldable pub checked : (columns : ℕ) → List ℕ → Bool
checked columns line =
    eqb (byte_in (columns + 1) line) (hex_digit_lem (checksum (take columns line) / 16))
    && eqb (byte_in (columns + 2) line) (hex_digit_lem (checksum (take columns line)))
