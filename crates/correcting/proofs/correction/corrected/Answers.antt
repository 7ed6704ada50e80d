-- `correcting::correction::corrected` meets its contract.
-- Assumes nothing.
use mathlib.Core.Path.{refl, ◌∙◌}
use mathlib.Core.List.{[], ◌∷◌}
use lib.IntN.{ℤ, ◌+ℤ◌}
use mir.Syntax.{w64}
use mir.Val.{to_z, of_z}
use Rattle.whole.proofs.Identity.{identity, quote}
use Rattle.whole.proofs.Words.{Word, known, literal, read, sum_of, product-of, negation-of, fits, plain-is, bounds}
use Rattle.exact.specs.Corrected.{to_a, to_b, steps}
use Rattle.correcting.proofs.correction.corrected.Goals.{Start}
use Rattle.correcting.proofs.correction.corrected.Goals as goal

-- what is known of the numbers
abbrev words : (c : Start)
    → Word c.args.smoothed × Word c.args.delays.int × Word c.args.delays.cab × Word c.args.delays.refdly × Word c.args.delays.gd × Word c.args.group.geometry
    × Word c.args.group.relativity × Word c.args.group.ionosphere × Word c.args.group.troposphere × Word c.args.group.clock
words c = (
  known c.requires.smoothed_and_delays.0.within,
  known c.requires.smoothed_and_delays.1.within,
  known c.requires.smoothed_and_delays.2.within,
  known c.requires.smoothed_and_delays.3.within,
  known c.requires.smoothed_and_delays.4.within,
  known c.requires.corrections.0.within,
  known c.requires.corrections.1.within,
  known c.requires.corrections.2.within,
  known c.requires.corrections.3.within,
  known c.requires.corrections.4.within,
)

pub overflow_add-off-3 : goal.overflow_add-off-3
overflow_add-off-3 c = let w = words (goal.at.overflow_add-off-3 c).Start in fits (search bounds depth 24) tt

pub overflow_sub-off-2 : goal.overflow_sub-off-2
overflow_sub-off-2 c = let w = words (goal.at.overflow_sub-off-2 c).Start in fits (search bounds depth 24) tt

pub overflow_add-off-4 : goal.overflow_add-off-4
overflow_add-off-4 c = let w = words (goal.at.overflow_add-off-4 c).Start in fits (search bounds depth 24) tt

pub overflow_add-off-5 : goal.overflow_add-off-5
overflow_add-off-5 c = let w = words (goal.at.overflow_add-off-5 c).Start in fits (search bounds depth 24) tt

pub overflow_mul-a : goal.overflow_mul-a
overflow_mul-a c = let w = words (goal.at.overflow_mul-a c).Start in fits (search bounds depth 24) tt

pub overflow_sub-a : goal.overflow_sub-a
overflow_sub-a c = let w = words (goal.at.overflow_sub-a c).Start in fits (search bounds depth 24) tt

pub overflow_add-result : goal.overflow_add-result
overflow_add-result c = let w = words (goal.at.overflow_add-result c).Start in fits (search bounds depth 26) tt

-- a term added to what was added before
abbrev added : {x y : ℤ} → Word x → Word y → Word (to_z w64 (of_z w64 x) +ℤ y)
added s w = sum_of (read s) w

-- A and B as the machine adds them up; written out, as a search for both takes four seconds
pub returns : goal.returns
unfolding to_a to_b
returns c =
    let w = words (goal.at.returns c).Start in
    let delays = added (added (sum_of (read w.1) (read w.2)) (negation-of (read w.3))) (read w.4) in
    let off = added (added (added (added delays (read w.5)) (negation-of (read w.6))) (read w.7)) (read w.8) in
    let A = sum_of (read w.0) (negation-of (read (product-of (literal steps refl) (read off)))) in
    let B = added A (read (product-of (literal steps refl) (read w.9))) in
    let a = plain-is (read A) tt
    ∙ identity (c.args.smoothed ∷ c.args.delays.int ∷ c.args.delays.cab ∷ c.args.delays.refdly ∷ c.args.delays.gd ∷ c.args.group.geometry ∷ c.args.group.relativity ∷ c.args.group.ionosphere ∷ c.args.group.troposphere ∷ []) (search quote depth 24 fits 4000) tt in
    let b = plain-is (read B) tt
    ∙ identity (c.args.smoothed ∷ c.args.delays.int ∷ c.args.delays.cab ∷ c.args.delays.refdly ∷ c.args.delays.gd ∷ c.args.group.geometry ∷ c.args.group.relativity ∷ c.args.group.ionosphere ∷ c.args.group.troposphere ∷ c.args.group.clock ∷ []) (search quote depth 26 fits 4000) tt in
    let t = plain-is (read (product-of (literal steps refl) (read w.8))) tt in
    let i = plain-is (read (product-of (literal steps refl) (read w.7))) tt in
    λ z. record { a = a z; b = b z; c = t z; d = i z }
