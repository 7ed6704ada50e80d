-- The refusals 1 and 2 (specs/Correct.antt): what it tells that a track's lists and numbers are not refused, and what the rule gives where they are
-- and where they are not.
-- Assumes nothing.
use mathlib.Core.Path.{◌≡◌, sym, ap, ◌∙◌}
use mathlib.Core.Bool.{true, false, not, ◌||◌, or-true, or_assoc, or-false as or-none}
use mathlib.Core.List.{List}
use Prim.Native.Nat.{ℕ, ◌*◌, ◌≤◌}
use native.Mathlib.Nat.{ne_of_gt}
use Rattle.std.specs.Prelude.{Ok, Err}
use lib.IntN.{ℤ, nat_abs}
use lib.ListN.{length}
use Rattle.limits.specs.Blocks.{blocks_fit_lem}
use Rattle.limits.specs.Limits.{beyond, measurement_limit, delay_limit}
use Rattle.limits.specs.Lists.{miscounted, any_beyond_lem}
use Rattle.limits.specs.Refusal.{◌when◌, ◌then◌}
use Rattle.limits.specs.Numbers.{paper_number}
use Rattle.limits.proofs.Blocks.{blocks-within}
use Rattle.limits.proofs.Cases.{paper_above_zero}
use Rattle.limits.proofs.Laws.{then-zero, when-zero, when-some, or-false, magnitude-within}
use Rattle.limits.proofs.Lists.{counted}
use Rattle.exact.specs.Corrected.{Given}
use Rattle.correcting.specs.Correct.{blocks, wrong_sizes, out_of_limits, geometry_limit}
use Rattle.correcting.specs.declared.Stopped.{Stopped}
use Rattle.correcting.specs.Answer.{correct_number, correct_reply, others_beyond, whole_blocks, measurements_rule, corrected_blocks, correct_rule}
use Rattle.correcting.proofs.Parts.{whole-blocks}

-- ---- what it tells that a track's lists and numbers are not refused

pub record Sized (g : Given) : Type 0 where
  pub size-blocks : (4 ≤ blocks g) × (blocks g ≤ 52)
  pub size-measurements : length g.measurements ≡ 15 * blocks g
  pub size-relativity : length g.relativity ≡ blocks g
  pub size-ionosphere : length g.ionosphere ≡ blocks g
  pub size-troposphere : length g.troposphere ≡ blocks g
  pub size-clock : length g.clock ≡ blocks g

pub sized : (g : Given) → wrong_sizes g ≡ false → Sized g
unfolding wrong_sizes
sized g e =
    let n = blocks g in
    let M = miscounted (15 * n) g.measurements in
    let R = miscounted n g.relativity in
    let I = miscounted n g.ionosphere in
    let T = miscounted n g.troposphere in
    let C = miscounted n g.clock in
    let all = or-false (not (blocks_fit_lem n)) (M || R || I || T || C) e in
    let four = or-false (M || R || I || T) C all.1 in
    let three = or-false (M || R || I) T four.0 in
    let two = or-false (M || R) I three.0 in
    let one = or-false M R two.0 in
    record {
      size-blocks = blocks-within n all.0;
      size-measurements = counted (15 * n) g.measurements one.0;
      size-relativity = counted n g.relativity one.1;
      size-ionosphere = counted n g.ionosphere two.1;
      size-troposphere = counted n g.troposphere three.1;
      size-clock = counted n g.clock four.1;
    }

-- all but the measurements
pub record Others (g : Given) : Type 0 where
  pub in-geometry : any_beyond_lem geometry_limit g.geometry ≡ false
  pub in-relativity : any_beyond_lem delay_limit g.relativity ≡ false
  pub in-ionosphere : any_beyond_lem delay_limit g.ionosphere ≡ false
  pub in-troposphere : any_beyond_lem delay_limit g.troposphere ≡ false
  pub in-clock : any_beyond_lem delay_limit g.clock ≡ false
  pub in-int : nat_abs g.int ≤ delay_limit
  pub in-cab : nat_abs g.cab ≤ delay_limit
  pub in-refdly : nat_abs g.refdly ≤ delay_limit
  pub in-gd : nat_abs g.gd ≤ delay_limit

pub others : (g : Given) → others_beyond g ≡ false → Others g
unfolding others_beyond
others g e =
    let G = any_beyond_lem geometry_limit g.geometry in
    let R = any_beyond_lem delay_limit g.relativity in
    let I = any_beyond_lem delay_limit g.ionosphere in
    let T = any_beyond_lem delay_limit g.troposphere in
    let C = any_beyond_lem delay_limit g.clock in
    let A = beyond delay_limit g.int in
    let B = beyond delay_limit g.cab in
    let D = beyond delay_limit g.refdly in
    let E = beyond delay_limit g.gd in
    let all = or-false (G || R || I || T || C) (A || B || D || E) e in
    let four = or-false (G || R || I || T) C all.0 in
    let three = or-false (G || R || I) T four.0 in
    let two = or-false (G || R) I three.0 in
    let one = or-false G R two.0 in
    let delays = or-false (A || B || D) E all.1 in
    let pair = or-false (A || B) D delays.0 in
    let both = or-false A B pair.0 in
    record {
      in-geometry = one.0;
      in-relativity = one.1;
      in-ionosphere = two.1;
      in-troposphere = three.1;
      in-clock = four.1;
      in-int = magnitude-within delay_limit g.int both.0;
      in-cab = magnitude-within delay_limit g.cab both.1;
      in-refdly = magnitude-within delay_limit g.refdly pair.1;
      in-gd = magnitude-within delay_limit g.gd delays.1;
    }

-- 2 is told by the measurements and by all else
pub limits-parts : (g : Given) → out_of_limits g ≡ any_beyond_lem measurement_limit g.measurements || others_beyond g
unfolding out_of_limits others_beyond
limits-parts g =
    or_assoc (any_beyond_lem measurement_limit g.measurements)
    (any_beyond_lem geometry_limit g.geometry || any_beyond_lem delay_limit g.relativity || any_beyond_lem delay_limit g.ionosphere
    || any_beyond_lem delay_limit g.troposphere || any_beyond_lem delay_limit g.clock)
    (beyond delay_limit g.int || beyond delay_limit g.cab || beyond delay_limit g.refdly || beyond delay_limit g.gd)

pub record Limited (g : Given) : Type 0 where
  pub in-measurements : any_beyond_lem measurement_limit g.measurements ≡ false
  pub in-others : others_beyond g ≡ false

pub limited : (g : Given) → out_of_limits g ≡ false → Limited g
limited g e =
    let both = or-false (any_beyond_lem measurement_limit g.measurements) (others_beyond g) (sym (limits-parts g) ∙ e) in
    record { in-measurements = both.0; in-others = both.1 }

-- ---- the rule where one of them is refused

-- what is answered, and how many blocks have their values in the rows
abbrev pub Answered : Given → ℕ × ℕ → ℕ → Type 0
Answered g r k = (r ≡ correct_rule g) × (corrected_blocks g ≡ k)

pub sizes-refused : (g : Given) → wrong_sizes g ≡ true → Answered g (1, 0) 0
unfolding correct_rule correct_number corrected_blocks ◌when◌ ◌then◌
sizes-refused g e = (rw e, rw e)

pub others-refused : (g : Given) → wrong_sizes g ≡ false → others_beyond g ≡ true → Answered g (2, 0) 0
unfolding correct_rule correct_number corrected_blocks ◌when◌ ◌then◌
others-refused g e h = (rw (limits-parts g, e, h, or-true (any_beyond_lem measurement_limit g.measurements)), rw (e, h))

-- and where all but the measurements has passed
pub by-measurements : (g : Given) → wrong_sizes g ≡ false → others_beyond g ≡ false → Answered g (measurements_rule g.measurements) (whole_blocks g.measurements)
unfolding correct_rule correct_number corrected_blocks measurements_rule ◌when◌ ◌then◌
by-measurements g e h = (rw (limits-parts g, e, h, or-none (any_beyond_lem measurement_limit g.measurements)), rw (e, h))

-- ---- what the case of an answer tells

-- the answer to what a track is given
module _ (g : Given) where
  pub corrected-refused : (stopped : Stopped) → correct_reply (Err stopped) ≡ correct_rule g → paper_number stopped.refusal ≡ correct_number g
  unfolding correct_rule
  corrected-refused stopped e = ap (λ (p : ℕ × ℕ). p.0) e

  pub corrected-values : {read : ℕ} → correct_reply (Ok read) ≡ correct_rule g → correct_number g ≡ 0
  unfolding correct_rule
  corrected-values e = sym (ap (λ (p : ℕ × ℕ). p.0) e)

-- the answer to the measurements of a list
module _ (l : List ℤ) where
  pub measurements-refused : (stopped : Stopped) → correct_reply (Err stopped) ≡ measurements_rule l
      → (paper_number stopped.refusal ≡ 2) × (any_beyond_lem measurement_limit l ≡ true)
  unfolding measurements_rule
  measurements-refused stopped e =
      when-some 2 (any_beyond_lem measurement_limit l) (ap (λ (p : ℕ × ℕ). p.0) e) (λ z. ne_of_gt (paper_above_zero stopped.refusal) z)

  pub measurements-values : {read : ℕ} → correct_reply (Ok read) ≡ measurements_rule l → any_beyond_lem measurement_limit l ≡ false
  unfolding measurements_rule
  measurements-values e = when-zero 1 (any_beyond_lem measurement_limit l) (sym (ap (λ (p : ℕ × ℕ). p.0) e))

-- ---- what the number of an answer tells

-- 0: the sizes are right, the numbers are inside, and every block has its values in the rows
pub sizes-passed : (g : Given) → correct_number g ≡ 0 → wrong_sizes g ≡ false
unfolding correct_number
sizes-passed g e = when-zero 0 (wrong_sizes g) (then-zero (1 when wrong_sizes g) _ e).0

pub limits-passed : (g : Given) → correct_number g ≡ 0 → out_of_limits g ≡ false
unfolding correct_number
limits-passed g e = when-zero 1 (out_of_limits g) (then-zero (1 when wrong_sizes g) _ e).1

pub all-corrected : (g : Given) → correct_number g ≡ 0 → corrected_blocks g ≡ blocks g
unfolding corrected_blocks
all-corrected g e =
    let s = sizes-passed g e in
    let l = limited g (limits-passed g e) in
    rw (s, l.in-others) (whole-blocks g.measurements (blocks g) (sized g s).size-measurements l.in-measurements)
