-- What the functions that walk the blocks promise each other (document 02, Job 10).
-- Assumes nothing.
use Rattle.std.specs.Prelude.{ℕ, ◌+◌, ◌*◌, ◌≤◌, ◌≡◌, Bool, List, [], ◌++◌, Option, None, Some, ltb, length, take, drop}
use Rattle.labels.specs.declared.Labels.{Labels}
use Rattle.lent.specs.Placed.{placed}
use Rattle.hire.specs.Hire.{block_labels}
use Rattle.columns.specs.Text.{ended_length}
use Rattle.linefile.specs.Files.{keys_of}
use Rattle.day.specs.Day.{own_length_lem, blocks_of, behind_number, Verdict, judged, file_of}
use Rattle.day.specs.declared.walk.State.{State}

-- The keys that the next block has to follow: none before the first.
abbrev pub last_keys : (last : Option Labels) → List ℕ
last_keys None = []
last_keys (Some last) = keys_of last

abbrev pub next_block : (bytes : List ℕ) → State → List ℕ
next_block bytes s = take (own_length_lem (drop s.at bytes)) (drop s.at bytes)

abbrev pub next_number : (bytes : List ℕ) → State → ℕ
next_number bytes s = behind_number (last_keys s.last) (next_block bytes s)

-- The walk behind the next block.
abbrev pub behind_next : (bytes : List ℕ) → State → State
behind_next bytes s =
    record { at = s.at + length (next_block bytes s); count = s.count + 1; last = Some (block_labels (next_block bytes s)) }

-- A walk is within the bytes, and has passed no more blocks than bytes.
pub record WithinBytes (bytes : List ℕ) (s : State) : Type 0 where
  pub inside : s.at ≤ length bytes
  pub few : s.count ≤ s.at

-- The blocks that are left, and the verdict as it is known from a walk.
abbrev pub left : (bytes : List ℕ) → State → List (List ℕ)
left bytes s = blocks_of (drop s.at bytes)

abbrev pub verdict : (bytes : List ℕ) → State → Verdict
verdict bytes s = judged (last_keys s.last) s.count (left bytes s)

-- From one state a walk has come to another: it has seen some blocks, all accepted, and the verdict is the same.
pub record Walked (bytes : List ℕ) (s r : State) (seen : List (List ℕ)) : Type 0 where
  pub within : WithinBytes bytes r
  pub counted : r.count ≡ s.count + length seen
  pub cut : left bytes s ≡ seen ++ left bytes r
  pub same : verdict bytes s ≡ verdict bytes r

-- It goes on where bytes are left.
abbrev pub goes_on : (bytes : List ℕ) → State → Bool
goes_on bytes s = ltb s.at (length bytes)

-- The same with the lines of the blocks written, each in its place, as far as there was room.
pub record Wrote (bytes : List ℕ) (s r : State) (lent file : List ℕ) : Type 0 where
  pub seen : List (List ℕ)
  pub walked : Walked bytes s r seen
  pub text : file ≡ placed lent (ended_length * s.count) (file_of seen)
  pub room : ended_length * r.count ≤ length lent
