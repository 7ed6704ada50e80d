-- What the answer of a lookup means (document 02, Job 9): the number of the refusal, 0 where there is none, and the four delays, 0 throughout where
-- there is a refusal.
-- Assumes nothing.
use Rattle.std.specs.Prelude.{List, [], ◌∷◌, ℤ, Result, Ok, Err}
use Rattle.limits.specs.Reply.{Reply}
use Rattle.limits.specs.Numbers.{paper_number}
use Rattle.limits.specs.declared.Delays.{Delays}
use Rattle.limits.specs.declared.refusal.Refusal.{Refusal}
use Rattle.delays.specs.Lookup.{no_set}

-- The four delays of a set, in the order of the store.
abbrev pub set_values : Delays → List ℤ
set_values d = d.int ∷ d.cab ∷ d.refdly ∷ d.gd ∷ []

abbrev pub delays_reply : Result Delays Refusal → Reply (List ℤ)
delays_reply (Ok d) = record { number = 0; values = set_values d }
delays_reply (Err r) = record { number = paper_number r; values = no_set }
