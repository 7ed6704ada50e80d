-- What the functions that read single fields ask of a line: that the columns hold what the field is made of.
-- Assumes nothing.
use Rattle.std.specs.Prelude.{◌≡◌, true, List, [], ◌∷◌, ℕ, ◌+◌, ◌-◌, ◌≤◌, drop, replicate}
use Prim.Native.Char.{code}
use Rattle.characters.specs.Kinds.{allows, shared_kinds, allowed}

-- So many columns of digits.
abbrev pub digits : ℕ → List ℕ
digits n = replicate n (code "9")

-- So many columns of hexadecimal digits, and one such digit.
abbrev pub hex_digits : ℕ → List ℕ
hex_digits n = replicate n (code "F")

abbrev pub IsHexDigit : ℕ → Type 0
IsHexDigit b = allows (code "F") b ≡ true

-- Columns of these kinds begin at this one, counted from 1, and hold what they may hold.
abbrev pub Holds : (column : ℕ) (kinds line : List ℕ) → Type 0
Holds column kinds line = allowed kinds (drop (column - 1) line) ≡ true

-- Columns 2 to 101, which an old line has too, hold what they may hold.
abbrev pub Shared : List ℕ → Type 0
Shared line = Holds 2 shared_kinds line

-- A field of digits, at most as many as `most`.
pub record Digits (most first last : ℕ) (line : List ℕ) : Type 0 where
  pub counted : 1 ≤ first
  pub ordered : first ≤ last
  pub few : last + 1 - first ≤ most
  pub holds : Holds first (digits (last + 1 - first)) line

-- A field whose first column holds a sign and whose others hold digits.
pub record Signed (most first last : ℕ) (line : List ℕ) : Type 0 where
  pub counted : 1 ≤ first
  pub sign : Holds first (code "+" ∷ []) line
  pub digits : Digits most (first + 1) last line
