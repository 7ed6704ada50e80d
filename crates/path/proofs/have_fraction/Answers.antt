-- `path::have_fraction` meets its contract: by the tests of both points.
-- Assumes nothing.
use mathlib.Core.Path.{sym, ap, ◌∙◌}
use mathlib.Core.Bool.{Bool, ◌||◌}
use Rattle.path.specs.Path.{fractional}
use Rattle.path.proofs.have_fraction.Goals as goal

pub returns-then-has_fraction : goal.returns-then-has_fraction
returns-then-has_fraction c =
    sym (ap (λ (t : Bool). t || fractional c.args.antenna) (sym c.has_fraction.ensures ∙ c.if-has_fraction.true))

pub returns : goal.returns
returns c =
    let w = sym c.has_fraction.ensures ∙ c.if-has_fraction.false in
    let v = sym c.has_fraction-2.ensures in
    sym (λ i. w i || v i)
