-- `columns::write` meets its contract: the first 113 bytes are lent on and come back as the line.
-- Assumes nothing.
use mathlib.Core.Path.{◌≡◌, sym, ap, ◌∙◌}
use mathlib.Core.List.{List, ◌++◌}
use Prim.Native.Nat.{ℕ, ◌≤◌}
use native.Mathlib.Nat.{zero-add}
use native.Mathlib.Omega.{arith}
use lib.ListN.{length, drop}
use Rattle.lent.specs.Placed.{placed, placed_within}
use Rattle.lent.proofs.Placing.{within, not_within}
use Rattle.columns.specs.Text.{line_length, line_text}
use Rattle.columns.proofs.Widths.{line-width}
use Rattle.columns.proofs.write.Goals as goal

-- a text of a line's length in the place of the first bytes
front : (d s : List ℕ) → length s ≡ line_length → line_length ≤ length d → s ++ drop line_length d ≡ placed_within d 0 s
unfolding placed
front d s l h = ap (λ (n : ℕ). s ++ drop n d) (sym l ∙ sym (zero-add (length s))) ∙ sym (within d 0 s (omega (arith, l, h)))

pub returns-in-Some : goal.returns-in-Some
returns-in-Some c =
    ap (λ (x : List ℕ). x ++ drop line_length c.args.lent.now) c.put_line.ensures
    ∙ front c.args.lent.now (line_text c.args.labels c.args.numbers) (line-width c.args.labels c.args.numbers) c.in-Some.ensures.cases.enough

pub returns-in_default : goal.returns-in_default
returns-in_default c =
    sym (not_within c.args.lent.now 0 (line_text c.args.labels c.args.numbers) (omega (arith, line-width c.args.labels c.args.numbers, c.in_default.ensures.cases)))
