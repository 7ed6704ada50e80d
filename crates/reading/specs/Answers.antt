-- What the reader's answer means (document 02, Job 1): the number of the refusal, 0 where there is none, and the labels and numbers, 0 throughout
-- where there is a refusal.
-- Assumes nothing.
use Rattle.std.specs.Prelude.{Result, Ok, Err}
use Rattle.limits.specs.Limits.{no_numbers}
use Rattle.limits.specs.Numbers.{paper_number}
use Rattle.limits.specs.Reply.{Reply}
use Rattle.labels.specs.declared.Labels.{Labels}
use Rattle.limits.specs.declared.Numbers.{Numbers}
use Rattle.limits.specs.declared.refusal.Refusal.{Refusal}
use Rattle.reading.specs.Read.{no_labels}
use Rattle.reading.specs.declared.Reading.{Reading}

abbrev pub read_reply : Result Reading Refusal → Reply (Labels × Numbers)
read_reply (Ok reading) = record { number = 0; values = (reading.labels, reading.numbers) }
read_reply (Err refusal) = record { number = paper_number refusal; values = (no_labels, no_numbers) }
