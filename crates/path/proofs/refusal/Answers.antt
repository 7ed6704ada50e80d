-- `path::refusal` meets its contract: the tests of both points together, in order.
-- Assumes nothing.
use mathlib.Core.Path.{refl, sym, ap₂, ◌∙◌}
use mathlib.Core.Bool.{◌||◌}
use Rattle.limits.specs.Refusal.{◌when◌, ◌then◌}
use Rattle.path.proofs.Points.{number_is}
use Rattle.path.proofs.refusal.Goals as goal

pub returns-then-have_fraction : goal.returns-then-have_fraction
unfolding ◌when◌ ◌then◌
returns-then-have_fraction c =
    number_is c.args.satellite c.args.antenna (sym c.if-have_fraction.true ∙ c.have_fraction.ensures) refl

pub returns-then-is_beyond : goal.returns-then-is_beyond
unfolding ◌when◌ ◌then◌
returns-then-is_beyond c =
    number_is c.args.satellite c.args.antenna (sym c.if-have_fraction.false ∙ c.have_fraction.ensures)
    (sym c.if-is_beyond.true ∙ ap₂ ◌||◌ c.is_beyond.ensures c.is_beyond-2.ensures)

pub returns : goal.returns
unfolding ◌when◌ ◌then◌
returns c =
    number_is c.args.satellite c.args.antenna (sym c.if-have_fraction.false ∙ c.have_fraction.ensures)
    (sym c.if-is_beyond.false ∙ ap₂ ◌||◌ c.is_beyond.ensures c.is_beyond-2.ensures)
