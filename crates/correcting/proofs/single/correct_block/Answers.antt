-- `correcting::correct_block` meets its contract: each test tells what is answered.
-- Assumes nothing.
use mathlib.Core.Bool.{Bool, true, false, ◌||◌, or_assoc}
use mathlib.Core.Path.{◌≡◌, sym, ap, ap₂, ◌∙◌}
use lib.IntN.{ℤ}
use mir.Facts.{to_z-of_z}
use Rattle.limits.specs.Refusal.{◌when◌}
use Rattle.limits.specs.Limits.{beyond, delays_beyond_lem, delay_limit}
use Rattle.limits.specs.Reply.{reply}
use Rattle.limits.specs.declared.Delays.{Delays}
use Rattle.limits.proofs.Laws.{or-false, magnitude-within}
use Rattle.series.specs.Fit.{value_limit}
use Rattle.whole.specs.Words.{Within}
use Rattle.correcting.specs.declared.inputs.Group.{Group}
use Rattle.correcting.specs.declared.correction.Values.{Values}
use Rattle.correcting.specs.Correct.{geometry_limit}
use Rattle.correcting.specs.Block.{no_values, group_beyond, values_of, block_values_rule}
use Rattle.correcting.proofs.single.correct_block.Goals.{After-delays_beyond, Else-beyond-outside}
use Rattle.correcting.proofs.single.correct_block.Goals as goal

-- one of the tests holds
abbrev refused : ℤ → Delays → Group → Bool
refused y delays group = group_beyond group || (beyond value_limit y || delays_beyond_lem delays.int delays.cab delays.refdly delays.gd)

-- what the tests say
tests-are : (c : After-delays_beyond)
    → (c.beyond.result || c.outside.result) || c.delays_beyond.result ≡ refused c.args.smoothed c.args.delays c.args.group
tests-are c =
    or_assoc c.beyond.result c.outside.result c.delays_beyond.result
    ∙ ap₂ ◌||◌ c.beyond.ensures (ap₂ ◌||◌ (simp (to_z-of_z c.ranges.smoothed) at c.outside.ensures) c.delays_beyond.ensures)

passed : (c : Else-beyond-outside) → refused c.args.smoothed c.args.delays c.args.group ≡ false
passed c = sym (tests-are (goal.at.Else-beyond-outside c).After-delays_beyond) ∙ c.if-beyond-outside.false

-- the rule by the outcome of its tests
refused-is : (y : ℤ) (delays : Delays) (group : Group) → refused y delays group ≡ true
    → record { number = 2; values = no_values } ≡ block_values_rule y delays group
unfolding block_values_rule ◌when◌
refused-is y delays group e = ap (λ (b : Bool). reply no_values (2 when b) (values_of y delays group)) (sym e)

accepted-is : (y : ℤ) (delays : Delays) (group : Group) → refused y delays group ≡ false
    → record { number = 0; values = values_of y delays group } ≡ block_values_rule y delays group
unfolding block_values_rule ◌when◌
accepted-is y delays group e = ap (λ (b : Bool). reply no_values (2 when b) (values_of y delays group)) (sym e)

-- what is known of the numbers
record Inside (y : ℤ) (delays : Delays) (group : Group) : Type 0 where
  group_inside : Within geometry_limit group.geometry × Within delay_limit group.relativity × Within delay_limit group.ionosphere
      × Within delay_limit group.troposphere × Within delay_limit group.clock
  others_inside : Within value_limit y × Within delay_limit delays.int × Within delay_limit delays.cab × Within delay_limit delays.refdly
      × Within delay_limit delays.gd

within : (limit : _) (z : ℤ) → beyond limit z ≡ false → Within limit z
within limit z e = record { within = magnitude-within limit z e }

inside : (y : ℤ) (delays : Delays) (group : Group) → refused y delays group ≡ false → Inside y delays group
inside y delays group e =
    let g = or-false (group_beyond group) _ e in
    let g-four = or-false _ (beyond delay_limit group.clock) g.0 in
    let g-three = or-false _ (beyond delay_limit group.troposphere) g-four.0 in
    let g-two = or-false _ (beyond delay_limit group.ionosphere) g-three.0 in
    let g-one = or-false _ (beyond delay_limit group.relativity) g-two.0 in
    let o = or-false (beyond value_limit y) _ g.1 in
    let d-three = or-false _ (beyond delay_limit delays.gd) o.1 in
    let d-two = or-false _ (beyond delay_limit delays.refdly) d-three.0 in
    let d-one = or-false _ (beyond delay_limit delays.cab) d-two.0 in record {
      group_inside = (
        within geometry_limit _ g-one.0,
        within delay_limit _ g-one.1,
        within delay_limit _ g-two.1,
        within delay_limit _ g-three.1,
        within delay_limit _ g-four.1,
      );
      others_inside = (
        within value_limit _ o.0,
        within delay_limit _ d-one.0,
        within delay_limit _ d-one.1,
        within delay_limit _ d-two.1,
        within delay_limit _ d-three.1,
      );
    }

pub returns-then-beyond-outside : goal.returns-then-beyond-outside
returns-then-beyond-outside c =
    refused-is _ _ _ (sym (tests-are (goal.at.returns-then-beyond-outside c).After-delays_beyond) ∙ c.if-beyond-outside.true)

pub corrected-values-requires : goal.corrected-values-requires
corrected-values-requires c =
    let i = inside _ _ _ (passed (goal.at.corrected-values-requires c).Else-beyond-outside) in
    simp (to_z-of_z c.ranges.smoothed) (record { smoothed_and_delays = i.others_inside; corrections = i.group_inside })

pub returns : goal.returns
returns c =
    let v : c.corrected-values.result ≡ values_of c.args.smoothed c.args.delays c.args.group = simp (to_z-of_z c.ranges.smoothed) at c.corrected-values.ensures in
    ap (λ (x : Values). record { number = 0; values = x }) v
    ∙ accepted-is _ _ _ (passed (goal.at.returns c).Else-beyond-outside)
