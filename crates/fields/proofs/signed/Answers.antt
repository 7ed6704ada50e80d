-- `fields::signed` meets its contract: the sign is stored, and the digits come back in the part behind it.
-- Assumes nothing.
use mathlib.Core.Path.{◌≡◌, sym, ap, ◌∙◌}
use mathlib.Core.List.{◌∷◌}
use Prim.Native.Nat.{ℕ, suc}
use native.Mathlib.Omega.{arith}
use lib.IntN.{nat_abs}
use lib.ListN.{length}
use mir.Facts.{to_z-of_z}
use Rattle.fields.specs.Text.{decimal, sign, signed}
use Rattle.fields.proofs.Laws.{empty-signed}
use Rattle.fields.proofs.signed.Goals as goal

pub returns-in-Some : goal.returns-in-Some
unfolding signed
returns-in-Some c =
    let n : length c.args.out.now ≡ suc (length c.in-Some.digits.now) = omega (arith, c.in-Some.ensures.cases.1) in
    let v = to_z-of_z c.ranges.value in
    let s = c.sign.ensures ∙ ap sign v in
    let d = c.decimal.ensures ∙ ap (decimal (length c.in-Some.digits.now)) (c.unsigned_abs.ensures.value ∙ ap nat_abs v) in
    (λ i. s i ∷ d i) ∙ sym (ap (λ (k : ℕ). signed k c.args.value) n)

pub returns-in_default : goal.returns-in_default
returns-in_default c = empty-signed c.args.out.now c.args.value (omega (arith, c.in_default.ensures.cases))
