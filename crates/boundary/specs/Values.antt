-- The places that a C caller lends for numbers, and what stands in them afterwards (include/trackline.h). That 9 is answered where they are too few
-- is ours: the papers name no such row.
-- Assumes nothing.
use Rattle.std.specs.Prelude.{ℕ, cond, List, [], ◌∷◌, ◌++◌, ltb, eqb, ℤ, pos, length, drop}
use Rattle.limits.specs.Refusal.{◌when◌, ◌then◌, after}
use Rattle.labels.specs.declared.Labels.{Labels}
use Rattle.limits.specs.declared.Numbers.{Numbers}
use Rattle.columns.specs.Columns.{read_labels, read_numbers}
use Rattle.reading.specs.Read.{read_number}
use Rattle.viewing.specs.declared.Figures.{Figures}
use Rattle.viewing.specs.View.{figures, viewed, view_number_lem}
use Rattle.delays.specs.Lookup.{set_in_force, lookup_number}

-- A lent row afterwards: the values in its first places where the answer is 0, and else as it was lent.
unfoldable pub row_after : (answer : ℕ) (values lent : List ℤ) → List ℤ
row_after answer values lent = after answer (values ++ drop (length values) lent) lent

-- A lent place for what a refusal names, afterwards: the value where the answer is a refusal, and else what it held.
unfoldable pub refused_after : (answer value lent : ℕ) → ℕ
refused_after answer value lent = cond (eqb answer 0) lent value

-- The 23 values of a line: its labels, in the order of the hire block, and its ten numbers.
abbrev pub values_of : Labels → Numbers → List ℤ
values_of l n =
    pos l.constellation ∷ pos l.satellite ∷ pos l.cl ∷ pos l.fr ∷ pos l.hc ∷ pos l.frc1 ∷ pos l.frc2 ∷ pos l.frc3
    ∷ pos l.mjd ∷ pos l.start ∷ pos l.elv ∷ pos l.azth ∷ pos l.ioe
    ∷ n.refsv ∷ n.srsv ∷ n.refsys ∷ n.srsys ∷ n.mdtr ∷ n.smdt ∷ n.mdio ∷ n.smdi ∷ n.dsg ∷ n.trkl
    ∷ []

-- The reader's refusals, then 9 where fewer than 23 places are lent. `room` is their number.
unfoldable pub read_answer : (line : List ℕ) (room : ℕ) → ℕ
read_answer line room = read_number line then 9 when ltb room 23

-- The lent places afterwards.
unfoldable pub read_after : (line : List ℕ) (lent : List ℤ) → List ℤ
read_after line lent =
    row_after (read_answer line (length lent)) (values_of (read_labels line) (read_numbers line)) lent

-- The four values of a common view report.
abbrev pub report_of : Figures → List ℤ
report_of f = f.pairs ∷ f.sum ∷ f.smallest ∷ f.largest ∷ []

-- Common view's refusals, then 9 where fewer than 4 places are lent. `room` is their number.
unfoldable pub view_answer : (first second : List ℕ) (room : ℕ) → ℕ
view_answer first second room = view_number_lem first second then 9 when ltb room 4

-- The lent places afterwards.
unfoldable pub view_after : (first second : List ℕ) (lent : List ℤ) → List ℤ
view_after first second lent =
    row_after (view_answer first second (length lent)) (report_of (figures (viewed first second))) lent

-- A lookup's refusals, then 9 where fewer than 4 places are lent. `room` is their number.
unfoldable pub delays_answer : (store : List ℕ) (mjd room : ℕ) → ℕ
delays_answer store mjd room = lookup_number store mjd then 9 when ltb room 4

-- The lent places afterwards: INT, CAB, REF and GD in the first four.
unfoldable pub delays_after : (store : List ℕ) (mjd : ℕ) (lent : List ℤ) → List ℤ
delays_after store mjd lent = row_after (delays_answer store mjd (length lent)) (set_in_force store mjd) lent
