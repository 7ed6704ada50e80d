-- The sample line of document 01 goes down, and up again.
-- Assumes nothing.
use mathlib.Core.Path.{◌≡◌, refl}
use mathlib.Core.List.{List}
use Prim.Native.Nat.{ℕ}
use Rattle.fields.specs.Text.{bytes_of, decimal, hex_digit_lem, hexadecimal, byte_sum, checksum}
use Rattle.columns.specs.Text.{spaced}
use Rattle.columns.specs.Columns.{field}
use Rattle.version01.specs.Convert.{form_text, down_text, supplied, up_text}

pub sample : List ℕ
unfolding bytes_of
sample = bytes_of "G05 FF 50722 000200 0780 450 1800 +0000000010 +00000 +0000000010 +00000 0000 007 0000 +000 0000 +000 00 00 L1C 26"

pub old-sample : List ℕ
unfolding bytes_of
old-sample = bytes_of " 05 FF 50722 000200 0780 450 1800 +0000000010 +00000 +0000000010 +00000 0000 007 0000 +000 0000 +000 1F"

pub sample-down : down_text sample ≡ old-sample
unfolding sample old-sample bytes_of form_text field hexadecimal hex_digit_lem checksum byte_sum
sample-down = refl

pub sample-up : up_text 0 76 49 67 old-sample ≡ sample
unfolding sample old-sample bytes_of form_text field supplied spaced decimal hexadecimal hex_digit_lem checksum byte_sum
sample-up = refl
