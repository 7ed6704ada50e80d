-- Digits as they stand in a text, by which lines are compared: what the functions that do so promise each other.
-- Assumes nothing.
use Rattle.std.specs.Prelude.{ℕ, ◌+◌, ◌*◌, List, get_or}

-- Two bytes from an offset on that stand for the digits of a number: 48 · 11 more than it.
abbrev pub two_digits_lem : ℕ → List ℕ → ℕ
two_digits_lem at text = 10 * get_or text at 0 + get_or text (at + 1) 0
