-- Which part of a lent row of bytes a returned one is (document 02, Job 1: the comment is handed back as that part of the line).
-- Assumes nothing.
use Rattle.std.specs.Prelude.{◌≡◌, List, ℕ, ◌+◌, drop}
use Rattle.std.specs.Borrow.{Bor}

-- All of the bytes from an offset on: the part begins that many bytes behind the place where the whole begins, and holds its bytes from there.
pub record PartFrom (offset : ℕ) (whole part : Bor (List ℕ)) : Type 0 where
  pub place : part.ref_ptr ≡ (whole.ref_ptr.0, offset + whole.ref_ptr.1)
  pub bytes : part.now ≡ drop offset whole.now
