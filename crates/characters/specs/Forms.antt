-- The two forms of a line: one of ours (document 02, Job 1), and an old one, of version 01 (Job 12).
-- Assumes nothing.
use Rattle.std.specs.Prelude.{ℕ, List}
use Prim.Native.Char.{code}
use Rattle.characters.specs.Kinds.{kinds, old_kinds}
use Rattle.characters.specs.Characters.{characters_number}
use Rattle.characters.specs.declared.Form.{Form}

-- The columns before CK, and the last that a comment may have.
abbrev pub columns_of : Form → ℕ
columns_of Form.Ours = 111
columns_of Form.Old = 101

abbrev pub longest_of : Form → ℕ
longest_of Form.Ours = 140
longest_of Form.Old = 128

-- The kind of column 1, and of all columns before CK.
abbrev pub first_kind_of : Form → ℕ
first_kind_of Form.Ours = code "L"
first_kind_of Form.Old = code " "

abbrev pub kinds_of : Form → List ℕ
kinds_of Form.Ours = kinds
kinds_of Form.Old = old_kinds

-- What the characters of a line are refused for.
abbrev pub form_number : Form → List ℕ → ℕ
form_number form line = characters_number (columns_of form) (longest_of form) (kinds_of form) line
