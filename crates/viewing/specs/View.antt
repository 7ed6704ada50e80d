-- The common view report (document 02, Job 6): which lines of two files are a pair, what is reported of the pairs, and what is refused, for every
-- input.
-- Assumes nothing.
use Rattle.std.specs.Prelude.{ℕ, ◌*◌, cond, ◌||◌, List, [], ◌∷◌, ◌++◌, ltb, eqb, ℤ, pos, nat_abs, ◌+ℤ◌, ◌-ℤ◌, length}
use Rattle.std.specs.Int.Signed.{lt_z}
use Rattle.limits.specs.Refusal.{◌when◌, ◌then◌}
use Rattle.limits.specs.Reply.{Reply, reply}
use Rattle.columns.specs.Columns.{read_numbers}
use Rattle.columns.specs.Text.{ended_length}
use Rattle.linefile.specs.Files.{columns_of, lines, file_number}
use Rattle.linefile.specs.Partners.{partners}
use Rattle.viewing.specs.declared.Figures.{Figures}

-- TRKL of a line in seconds, which has no sign, and its REFSYS in 0.1 ns.
unfoldable pub trkl_of : List ℕ → ℕ
trkl_of line = nat_abs (read_numbers (columns_of line)).trkl

unfoldable pub refsys_of : List ℕ → ℤ
refsys_of line = (read_numbers (columns_of line)).refsys

-- Of lines that share all four keys, those that have the same TRKL too.
unfoldable pub same_trkl : List (List ℕ × List ℕ) → List (List ℕ × List ℕ)
same_trkl [] = []
same_trkl ((line, other) ∷ rest) =
    cond (eqb (trkl_of line) (trkl_of other)) ((line, other) ∷ []) [] ++ same_trkl rest

-- The pairs of two files: each line of the first with each line of the second that has the same MJD, start, constellation letter, satellite and TRKL.
unfoldable pub pairs_of : (first second : List ℕ) → List (List ℕ × List ℕ)
pairs_of first second = same_trkl (partners (lines first) (lines second))

-- The difference of each pair: first REFSYS minus second REFSYS.
unfoldable pub differences : List (List ℕ × List ℕ) → List ℤ
differences [] = []
differences ((line, other) ∷ rest) = (refsys_of line -ℤ refsys_of other) ∷ differences rest

-- The differences of two files.
unfoldable pub viewed : (first second : List ℕ) → List ℤ
viewed first second = differences (pairs_of first second)

-- Their sum.
unfoldable pub sum_of : List ℤ → ℤ
sum_of [] = pos 0
sum_of (d ∷ rest) = d +ℤ sum_of rest

-- The smaller and the larger of two.
unfoldable pub smaller : ℤ → ℤ → ℤ
smaller d e = cond (lt_z e d) e d

unfoldable pub larger : ℤ → ℤ → ℤ
larger d e = cond (lt_z d e) e d

-- What is left of several when each is compared with the next; the smallest or the largest of them so, and 0 where there is none.
unfoldable pub chosen : (choose : ℤ → ℤ → ℤ) → ℤ → List ℤ → ℤ
chosen choose d [] = d
chosen choose d (e ∷ rest) = chosen choose (choose d e) rest

unfoldable pub extreme : (choose : ℤ → ℤ → ℤ) → List ℤ → ℤ
extreme choose [] = pos 0
extreme choose (d ∷ rest) = chosen choose d rest

-- What is reported of differences: how many there are, their sum, the smallest and the largest.
unfoldable pub figures : List ℤ → Figures
figures ds =
    record { pairs = pos (length ds); sum = sum_of ds; smallest = extreme smaller ds; largest = extreme larger ds }

-- How many lines a file has at most, and the bytes of so many.
abbrev pub most_lines : ℕ
most_lines = 10000

abbrev pub longest : ℕ
longest = most_lines * ended_length

-- 19: either file is longer than that. Then the first file's refusals, then the second's. 18: there is no pair, and so no difference.
unfoldable pub view_number_lem : (first second : List ℕ) → ℕ
view_number_lem first second =
    19 when (ltb longest (length first) || ltb longest (length second))
    then file_number first
    then file_number second
    then 18 when eqb (length (viewed first second)) 0

-- That number, and the report.
unfoldable pub view_rule : (first second : List ℕ) → Reply Figures
view_rule first second = reply (figures []) (view_number_lem first second) (figures (viewed first second))
