-- A minus before a zero (specs/Read.antt), in the signed fields each named by itself.
-- Assumes nothing.
use mathlib.Core.Path.{◌≡◌}
use mathlib.Core.Bool.{◌||◌, or_assoc, or-false}
use mathlib.Core.List.{List}
use Prim.Native.Nat.{ℕ}
use lib.ListN.{get_or}
use Rattle.limits.specs.declared.Numbers.{Numbers}
use Rattle.columns.specs.Columns.{byte_in, read_numbers}
use Rattle.reading.specs.Read.{signed_fields, is_minus_zero_lem, minus_zero_lem}

pub minus-zero-is : (line : List ℕ) (n : Numbers) → n ≡ read_numbers line
    → is_minus_zero_lem (get_or line 34 0) n.refsv
    || is_minus_zero_lem (get_or line 46 0) n.srsv
    || is_minus_zero_lem (get_or line 53 0) n.refsys
    || is_minus_zero_lem (get_or line 65 0) n.srsys
    || is_minus_zero_lem (get_or line 86 0) n.smdt
    || is_minus_zero_lem (get_or line 96 0) n.smdi
    ≡ minus_zero_lem signed_fields line
unfolding minus_zero_lem read_numbers byte_in
minus-zero-is line n e = rw e (simp (or_assoc, or-false))
