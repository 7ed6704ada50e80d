-- What the functions that walk the files promise each other (document 02, Jobs 5 and 6): how lines are ranked by one number, and how a walk goes by it.
-- Assumes nothing.
use Rattle.std.specs.Prelude.{ℕ, ◌+◌, ◌*◌, cond, List, [], ◌∷◌, map, ltb, get_or}
use Rattle.fields.specs.Raw.{two_digits_lem}
use Rattle.linefile.specs.declared.step.Step.{Step}

-- One number for the four keys of an accepted line, each with a radix beyond what it reaches: so lines ascend by it as they do by their keys.
unfoldable pub rank : List ℕ → ℕ
rank line =
    (((1000 * two_digits_lem 7 line + 10 * two_digits_lem 9 line + get_or line 11 0) * 4000000
    + (3600 * two_digits_lem 13 line + 60 * two_digits_lem 15 line + two_digits_lem 17 line))
    * 256
    + get_or line 0 0)
    * 1000
    + two_digits_lem 1 line

-- The same step, with what `f` makes of each line.
abbrev pub step_map : {A B : Type 0} → (A → B) → Step A → Step B
step_map f (Step.First line) = Step.First (f line)
step_map f (Step.Second other) = Step.Second (f other)
step_map f (Step.Both line other) = Step.Both (f line) (f other)

-- The line that a step passes, that of the first list where there are two, and the two lines of one that passes both.
abbrev pub line_of : {A : Type 0} → Step A → A
line_of (Step.First line) = line
line_of (Step.Second other) = other
line_of (Step.Both line other) = line

abbrev pub pairs_in : {A : Type 0} → List (Step A) → List (A × A)
pairs_in [] = []
pairs_in (Step.First line ∷ rest) = pairs_in rest
pairs_in (Step.Second other ∷ rest) = pairs_in rest
pairs_in (Step.Both line other ∷ rest) = (line, other) ∷ pairs_in rest

-- The steps of a walk from this line of the first list on, `behind` it those that follow when it is passed: each passes the line of the lesser rank,
-- and both where the ranks are the same.
unfoldable pub steps_from : (line : List ℕ) (behind : List (List ℕ) → List (Step (List ℕ))) → List (List ℕ) → List (Step (List ℕ))
steps_from line behind [] = Step.First line ∷ behind []
steps_from line behind (other ∷ others) =
    cond (ltb (rank line) (rank other)) (Step.First line ∷ behind (other ∷ others))
    (cond (ltb (rank other) (rank line)) (Step.Second other ∷ steps_from line behind others) (Step.Both line other ∷ behind others))

-- The steps of a walk over two lists of lines.
unfoldable pub steps : (first second : List (List ℕ)) → List (Step (List ℕ))
steps [] second = map Step.Second second
steps (line ∷ first) second = steps_from line (steps first) second
