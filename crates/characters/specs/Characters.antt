-- What the characters of a line are refused for (document 02, Jobs 1 and 12, refusals 12, 14 and 13), in the order of the refusals.
-- Assumes nothing.
use Rattle.std.specs.Prelude.{ℕ, ◌+◌, not, ◌||◌, List, ltb, length, drop}
use Rattle.limits.specs.Refusal.{◌when◌, ◌then◌}
use Rattle.characters.specs.Kinds.{kinds, old_kinds, allowed, printable, checked}

-- What the characters are refused for, where so many columns of these kinds stand before CK. 12: the length. 14: CK. 13: a character that is
-- not allowed in its column, or in the comment behind CK.
unfoldable pub characters_number : (columns longest : ℕ) (kinds line : List ℕ) → ℕ
characters_number columns longest kinds line =
    12 when (ltb (length line) (columns + 2) || ltb longest (length line))
    then 14 when not (checked columns line)
    then 13 when not (allowed kinds line)
    then 13 when not (printable (drop (columns + 2) line))

-- The same of a line of ours, with 111 columns before CK and a comment up to column 140 (Job 1). Of an old one these are 101 and 128 (Job 12).
abbrev pub our_characters_number : List ℕ → ℕ
our_characters_number line = characters_number 111 140 kinds line

abbrev pub old_characters_number : List ℕ → ℕ
old_characters_number old = characters_number 101 128 old_kinds old
