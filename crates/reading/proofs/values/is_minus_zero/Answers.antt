-- `reading::values::is_minus_zero` meets its contract: the number is 0 where its magnitude is.
-- Assumes nothing.
use mathlib.Core.Path.{◌≡◌, sym, ap, ◌∙◌}
use mathlib.Core.Bool.{Bool, ◌&&◌}
use native.Mathlib.Nat.{suc-ne-zero}
use lib.Dec.{eqb}
use lib.IntN.{ℤ, pos, negsuc, nat_abs}
use mir.Syntax.{w64}
use mir.Val.{of_z, to_z}
use mir.Facts.{to_z-of_z}
use Rattle.limits.proofs.Laws.{eqb_same}
use Rattle.reading.specs.Read.{is_minus_zero_lem}
use Rattle.reading.proofs.values.is_minus_zero.Goals as goal

zero_of : (z : ℤ) → nat_abs z ≡ 0 → z ≡ pos 0
zero_of (pos n) e = ap pos e
zero_of (negsuc n) e = absurd (suc-ne-zero n e)

pub returns : goal.returns
unfolding is_minus_zero_lem
returns c =
    ap (λ (t : Bool). eqb c.args.sign 45 && t)
    (eqb_same _ 0 (nat_abs c.args.value) 0 (λ e. ap nat_abs (sym (to_z-of_z c.ranges.value) ∙ ap (to_z w64) e)) (λ e. ap (of_z w64) (zero_of c.args.value e)))
