-- The paper's number of each refusal, and what an answer stands for: the number of the refusal, 0 where there is none, and the values, 0 throughout
-- where there is a refusal (document 01, "Each operation and its refusals, in order"). 10 is retired (document 02, Job 14).
-- Assumes nothing.
use Rattle.std.specs.Prelude.{ℕ, Result, Ok, Err}
use Rattle.limits.specs.Reply.{Reply}
use Rattle.limits.specs.declared.refusal.Refusal.{Refusal}

abbrev pub paper_number : Refusal → ℕ
paper_number Refusal.Count = 1
paper_number Refusal.Limit = 2
paper_number Refusal.Midpoint = 3
paper_number Refusal.Slope = 4
paper_number Refusal.Delay = 5
paper_number Refusal.Scatter = 6
paper_number Refusal.Label = 7
paper_number Refusal.Start = 8
paper_number Refusal.Lent = 9
paper_number Refusal.Length = 11
paper_number Refusal.LineLength = 12
paper_number Refusal.Character = 13
paper_number Refusal.Checksum = 14
paper_number Refusal.Differ = 15
paper_number Refusal.Order = 16
paper_number Refusal.Room = 17
paper_number Refusal.NoPair = 18
paper_number Refusal.FileLength = 19
paper_number Refusal.Store = 20
paper_number Refusal.NotYet = 21
paper_number Refusal.NotLater = 22
paper_number Refusal.NotWhole = 23
paper_number Refusal.Coordinate = 24
paper_number Refusal.NotGps = 25

-- The number of each case, 0 where nothing is refused.
abbrev pub number_of : {A : Type 0} → Result A Refusal → ℕ
number_of (Ok x) = 0
number_of (Err r) = paper_number r

-- The number and the values of each case.
abbrev pub reply_of : {A : Type 0} → A → Result A Refusal → Reply A
reply_of zeros (Ok x) = record { number = 0; values = x }
reply_of zeros (Err r) = record { number = paper_number r; values = zeros }
