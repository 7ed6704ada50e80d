-- `path::coordinate::apart` meets its contract: both coordinates are read back from their bits, and their difference is at most 10^11.
-- Assumes nothing.
use mathlib.Core.Path.{◌≡◌, sym, ap₂, ◌∙◌, subst}
use Prim.Native.Nat.{ℕ, ◌≤◌}
use lib.IntN.{ℤ, nat_abs, ◌-ℤ◌}
use Rattle.path.specs.Between.{difference_limit}
use Rattle.path.specs.Path.{difference}
use Rattle.path.proofs.Ranges.{limited, difference-bound}
use Rattle.path.proofs.coordinate.apart.Goals as goal

pub returns : goal.returns
unfolding difference
returns c =
    let e : c.abs_diff.result ≡ difference c.args.x c.args.y =
    c.abs_diff.ensures ∙ ap₂ (λ (m n : ℤ). nat_abs (m -ℤ n)) (limited c.args.x c.requires.1 c.millimetres.ensures) (limited c.args.y c.requires.3 c.millimetres-2.ensures) in
    (e, subst (λ (k : ℕ). k ≤ difference_limit) (sym e) (difference-bound c.args.x c.args.y c.requires.1 c.requires.3))
