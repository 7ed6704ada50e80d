-- `series::number::nearest` meets its contract.
-- Assumes nothing.
use mathlib.Core.Path.{ap, ◌∙◌}
use Prim.Native.Nat.{◌/◌, ◌-◌, ◌≤◌, ◌^◌}
use native.Mathlib.Omega.{arith}
use lib.IntN.{ℤ}
use lib.Signed.{shr_z}
use mir.Syntax.{w64}
use mir.Val.{to_z}
use Rattle.whole.proofs.Words.{Word, known, count-read, plain-is, bounds, back-of}
use Rattle.whole.proofs.Rounding.{nearest-floor}
use Rattle.series.proofs.number.nearest.Goals as goal

pub returns : goal.returns
returns c =
    let half : c.args.d / 2 ≤ 2 ^ 31 - 1 = omega (arith, c.ranges.d.fits) in
    let n : Word c.args.n = known c.requires.0.within in
    let h : Word (to_z w64 (c.args.d / 2)) = count-read half in
    back-of c.floor.type_inv
    ∙ c.floor.ensures
    ∙ ap (λ (z : ℤ). shr_z z c.args.d) (plain-is (search bounds depth 12) tt)
    ∙ nearest-floor c.args.n c.args.d c.requires.1
