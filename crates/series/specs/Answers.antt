-- What Fit's answer means in document 01's terms: the number of the refusal, 0 where there is none, and the two numbers of the line, 0 throughout
-- where there is a refusal.
-- Assumes nothing.
use Rattle.std.specs.Prelude.{ℤ, pos, Result, Ok, Err}
use Rattle.limits.specs.Numbers.{paper_number}
use Rattle.limits.specs.Reply.{Reply}
use Rattle.limits.specs.declared.refusal.Refusal.{Refusal}
use Rattle.series.specs.declared.Fitted.{Fitted}

-- The number and the values of each case.
abbrev pub fit_reply : Result Fitted Refusal → Reply (ℤ × ℤ)
fit_reply (Ok line) = record { number = 0; values = (line.midpoint, line.slope) }
fit_reply (Err refusal) = record { number = paper_number refusal; values = (pos 0, pos 0) }
