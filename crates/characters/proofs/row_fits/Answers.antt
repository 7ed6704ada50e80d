-- `characters::row_fits` meets its contract: it is `columns_fit` of the columns behind those, which the kinds name.
-- Assumes nothing.
use mathlib.Core.Path.{◌≡◌, ap, ◌∙◌}
use Prim.Native.Nat.{ℕ, ◌+◌, ◌-◌}
use native.Mathlib.Omega.{arith}
use lib.ListN.{length, take, drop}
use Rattle.characters.specs.Kinds.{allowed}
use Rattle.characters.proofs.Allowed.{allowed-front}
use Rattle.characters.proofs.row_fits.Goals as goal

width : (before n : ℕ) → before + n - before ≡ n
width before n = omega arith

pub returns : goal.returns
returns c =
    let behind = drop c.args.before c.args.line.now in
    c.columns_fit.ensures
    ∙ ap (λ (n : ℕ). allowed c.args.kinds.now (take n behind)) (width c.args.before (length c.args.kinds.now))
    ∙ allowed-front c.args.kinds.now behind
