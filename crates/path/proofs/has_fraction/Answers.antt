-- `path::has_fraction` meets its contract: the first coordinate that is no whole number decides, else the last one does.
-- Assumes nothing.
use mathlib.Core.Path.{sym, ap, ◌∙◌}
use mathlib.Core.Bool.{Bool, not, ◌||◌}
use Rattle.path.specs.Coordinate.{whole}
use Rattle.path.specs.Path.{fractional}
use Rattle.path.proofs.has_fraction.Goals as goal

pub returns-then-not-is_whole : goal.returns-then-not-is_whole
unfolding fractional
returns-then-not-is_whole c =
    sym (ap (λ (t : Bool). t || not (whole c.args.p.y) || not (whole c.args.p.z)) (ap not (sym c.is_whole.ensures ∙ c.if-not-is_whole.true)))

pub returns-then-not-is_whole-2 : goal.returns-then-not-is_whole-2
unfolding fractional
returns-then-not-is_whole-2 c =
    let xw = ap not (sym c.is_whole.ensures ∙ c.if-not-is_whole.false) in
    let yw = ap not (sym c.is_whole-2.ensures ∙ c.if-not-is_whole-2.true) in
    sym (λ i. xw i || yw i || not (whole c.args.p.z))

pub returns : goal.returns
unfolding fractional
returns c =
    let xw = ap not (sym c.is_whole.ensures ∙ c.if-not-is_whole.false) in
    let yw = ap not (sym c.is_whole-2.ensures ∙ c.if-not-is_whole-2.false) in
    let zw = sym (ap not c.is_whole-3.ensures) in
    sym (λ i. xw i || yw i || zw i)
