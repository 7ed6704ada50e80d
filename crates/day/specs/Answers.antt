-- What an answer means (document 02, Job 10): the bytes written, or the number of the refusal and the block that it names; and what is told of the
-- blocks alone.
-- Assumes nothing.
use Rattle.std.specs.Prelude.{ℕ, Result, Ok, Err}
use Rattle.limits.specs.Numbers.{paper_number}
use Rattle.day.specs.Day.{Verdict, Written, Bytes, Refused}
use Rattle.day.specs.declared.Rejected.{Rejected}

-- The answer in the paper's numbers.
abbrev pub written_of : Result ℕ Rejected → Written
written_of (Ok bytes) = Bytes bytes
written_of (Err r) = Refused (paper_number r.refusal) r.block

-- The number of the refusal, the bytes written and the block that a refusal names, each 0 where there is none.
abbrev pub written_number : Written → ℕ
written_number (Bytes bytes) = 0
written_number (Refused number block) = number

abbrev pub written_bytes : Written → ℕ
written_bytes (Bytes bytes) = bytes
written_bytes (Refused number block) = 0

abbrev pub written_block : Written → ℕ
written_block (Bytes bytes) = 0
written_block (Refused number block) = block

-- The verdict of a refusal, and of a walk that has counted the blocks or is refused.
abbrev pub rejects : Rejected → Verdict
rejects r = record { refusal = paper_number r.refusal; block = r.block }

abbrev pub verdict_of : Result ℕ Rejected → Verdict
verdict_of (Ok count) = record { refusal = 0; block = count }
verdict_of (Err r) = rejects r
