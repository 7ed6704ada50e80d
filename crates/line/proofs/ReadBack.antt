-- No digit is lost: what a reader takes from the columns of the lent line after an accepted call are the labels and the numbers given.
-- Assumes nothing.
use mathlib.Core.Path.{◌≡◌, ap, ◌∙◌}
use mathlib.Core.List.{List}
use Prim.Native.Nat.{ℕ, ◌<◌}
use lib.ListN.{length, drop}
use Rattle.labels.specs.declared.Labels.{Labels}
use Rattle.limits.specs.declared.Numbers.{Numbers}
use Rattle.columns.specs.Text.{line_length}
use Rattle.columns.specs.Columns.{read_numbers, read_labels}
use Rattle.columns.proofs.ReadBack.{numbers-back, labels-back}
use Rattle.line.specs.Line.{line_answer, line_after}
use Rattle.line.proofs.Accepted.{content-accepted, after_is}

pub numbers-read : (l : Labels) (n : Numbers) (lent : List ℕ) → line_answer l n (length lent) ≡ 0 → read_numbers (line_after l n lent) ≡ n
numbers-read l n lent e = ap read_numbers (after_is l n lent e) ∙ numbers-back l n (drop line_length lent) (content-accepted l n (length lent) e)

pub read_back : (l : Labels) (n : Numbers) (lent : List ℕ) → line_answer l n (length lent) ≡ 0 → l.cl < 256
    → (read_labels (line_after l n lent) ≡ l) × (read_numbers (line_after l n lent) ≡ n)
read_back l n lent e cl = (
  ap read_labels (after_is l n lent e) ∙ labels-back l n (drop line_length lent) (content-accepted l n (length lent) e) cl,
  numbers-read l n lent e,
)
