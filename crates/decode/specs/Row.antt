-- The test of a row that is read without testing each number.
-- Assumes nothing.
use Rattle.std.specs.Prelude.{ℕ, zero, suc, ◌+◌, ◌*◌, Bool, true, leb}

-- So many numbers of eight bytes, the first at an offset and each a stride behind the one before, lie within so many bytes: there are none, or the
-- last of them lies there.
unfoldable pub row_lies_lem : (bytes at stride count : ℕ) → Bool
row_lies_lem bytes at stride zero = true
row_lies_lem bytes at stride (suc before) = leb (at + stride * before + 8) bytes
