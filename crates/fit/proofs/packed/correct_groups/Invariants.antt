-- `fit::packed::correct_groups` meets its contract: after j turns the first j groups are inside, and their values stand in the rows.
-- Assumes nothing.
use mathlib.Core.Path.{◌≡◌}
use mathlib.Core.Bool.{Bool}
use mathlib.Core.List.{List, []}
use Prim.Native.Nat.{ℕ}
use lib.IntN.{ℤ, pos, ◌*ℤ◌}
use Rattle.whole.specs.Table.{at}
use Rattle.exact.specs.Corrected.{Given, steps, to_a, to_b}
use Rattle.correcting.specs.declared.correction.Rows.{Rows}
use Rattle.correcting.specs.Answer.{filled}
use Rattle.correcting.proofs.Columns.{From}
use Rattle.fit.specs.Packed.{grouped}
use Rattle.fit.proofs.packed.correct_groups.Given as goal

-- the rows after j blocks
abbrev pub AreFilled : Given → (y : List ℤ) (j : ℕ) (old new : Rows) → Type 0
AreFilled g y j old new =
    (new.a ≡ filled j (λ i. to_a g (pos steps) i (at y i)) old.a) × (new.b ≡ filled j (λ i. to_b g (pos steps) i (at y i)) old.b)
    × (new.c ≡ filled j (λ i. pos steps *ℤ at g.troposphere i) old.c) × (new.d ≡ filled j (λ i. pos steps *ℤ at g.ionosphere i) old.d)

-- whether a correction from group j on is beyond its limit
abbrev pub left : Given → ℕ → Bool
left g j = From g.geometry g.relativity g.ionosphere g.troposphere g.clock j

abbrev pub invariant-loop-j : goal.invariant-loop-j
invariant-loop-j l =
    let g = grouped l.n [] l.delays l.corrections in record {
      same : left g 0 ≡ left g l.j;
      rows : AreFilled g l.smoothed l.j l.initial.rows l.rows;
    }
