-- Laws of numbers that are still packed in bytes (specs/Packed.antt): a block of measurements is the row of its own piece, a correction stands
-- in its group, and what is found of them.
-- Assumes nothing.
use mathlib.Core.Path.{◌≡◌, sym, ap, ◌∙◌, subst}
use mathlib.Core.Bool.{true, false, not, ◌||◌}
use mathlib.Core.List.{List, []}
use Prim.Native.Nat.{ℕ, ◌+◌, ◌*◌, ◌/◌, ◌≤◌, ◌<◌}
use native.Mathlib.Nat.{le_trans}
use native.Mathlib.Omega.{arith}
use lib.Dec.{eqb, lit≤}
use lib.IntN.{ℤ, pos, nat_abs, ◌*ℤ◌}
use lib.ListN.{length, take, drop, replicate}
use Rattle.std.specs.Prelude.{Result, Ok, Err}
use Rattle.std.specs.Result.{MatchResult, IfOk}
use Rattle.limits.specs.Limits.{measurement_limit, no_numbers}
use Rattle.limits.specs.Numbers.{paper_number, reply_of}
use Rattle.limits.specs.declared.Delays.{Delays}
use Rattle.limits.specs.declared.Numbers.{Numbers}
use Rattle.limits.specs.declared.refusal.Refusal.{Refusal}
use Rattle.limits.specs.Blocks.{blocks_fit_lem}
use Rattle.limits.specs.Lists.{any_beyond_lem}
use Rattle.limits.specs.Refusal.{◌when◌, ◌then◌}
use Rattle.limits.proofs.Blocks.{blocks-within}
use Rattle.limits.proofs.Lists.{counts, within-limit, limit-within}
use Rattle.series.specs.Fit.{value_limit}
use Rattle.series.specs.Smooth.{smoothed}
use Rattle.series.proofs.Weights.{smoothed-bound}
use Rattle.decode.specs.Number.{signed_at_lem, signeds_at}
use Rattle.decode.proofs.Signeds.{length-signeds, signeds-at}
use Rattle.decode.proofs.Pieces.{signed-piece, signeds-part}
use Rattle.exact.specs.Accurate.{AccurateTrack}
use Rattle.whole.specs.Table.{at}
use Rattle.exact.specs.Corrected.{Given, steps, block, to_a, to_b}
use Rattle.correcting.specs.Correct.{blocks, smoothed_at, value_a, value_b, value_c, value_d, places, wrong_sizes, out_of_limits}
use Rattle.correcting.specs.Answer.{filled, whole_blocks, others_beyond}
use Rattle.correcting.proofs.Arrays.{places-at, places-bound, filled-alike, filled-places}
use Rattle.correcting.proofs.Parts.{whole-blocks}
use Rattle.correcting.proofs.Refusals.{limits-parts}
use Rattle.fit.specs.Track.{record_of, results, track_number}
use Rattle.fit.specs.Found.{judged_rule, found_rule}
use Rattle.fit.specs.Packed.{grouped, packed, smoothed_of}
use Rattle.fit.proofs.Accuracy.{results-accurate, enough}
use Rattle.fit.proofs.Tracks.{found-values}

-- a number of one group of n, each of forty bytes
pub unpacked-group : (k : List ℕ) (n j from : ℕ) → 40 * n ≤ length k → j < n → from + 8 ≤ 40
    → signed_at_lem (take 40 (drop (40 * j) k)) from ≡ at (signeds_at k from 40 n) j
unpacked-group k n j from fits h g =
    let room : 40 * j + 40 ≤ length k = omega arith in
    signed-piece k (40 * j) 40 room from g ∙ ap (signed_at_lem k) (omega arith) ∙ sym (signeds-at k from 40 n j h)

-- the measurements of n blocks
module _ (m : List ℕ) (n : ℕ) (fits : 120 * n ≤ length m) where
  abbrev pub unpacked : List ℤ
  unpacked = signeds_at m 0 8 (15 * n)

  pub unpacked-length : length unpacked ≡ 15 * n
  unpacked-length = length-signeds m 0 8 (15 * n)

  -- those of one block
  pub unpacked-part : (j : ℕ) → j < n → signeds_at (take 120 (drop (120 * j) m)) 0 8 15 ≡ take 15 (drop (15 * j) unpacked)
  unpacked-part j h =
      let e : 120 * j ≡ 8 * (15 * j) = omega arith in
      let room : 15 * j + 15 ≤ 15 * n = omega arith in
      let all : 8 * (15 * n) ≤ length m = omega arith in
      ap (λ (k : ℕ). signeds_at (take 120 (drop k m)) 0 8 15) e ∙ signeds-part m (15 * j) 15 (15 * n) room all

-- ---- what is found of packed numbers

-- where nothing is outside, every block is whole, and the row holds its smoothed values
module _ (l : List ℤ) (n : ℕ) (all : length l ≡ 15 * n) (most : n ≤ 52) (inside : any_beyond_lem measurement_limit l ≡ false) {y : List ℤ}
    (e : y ≡ filled (whole_blocks l) (smoothed_of l) (replicate 52 (pos 0))) where
  smoothed-row : y ≡ places n (smoothed_of l)
  smoothed-row = e ∙ ap (λ (m : ℕ). filled m (smoothed_of l) (replicate 52 (pos 0))) (whole-blocks l n all inside) ∙ filled-places n (smoothed_of l) most

  pub smoothed-at : (j : ℕ) → j < n → at y j ≡ smoothed_of l j
  smoothed-at j h = ap (λ (k : List ℤ). at k j) smoothed-row ∙ places-at n (smoothed_of l) j h

  smoothed-most : (j : ℕ) → nat_abs (smoothed_of l j) ≤ value_limit
  unfolding smoothed_of
  smoothed-most j = le_trans (smoothed-bound (λ i. at l (15 * j + i)) (λ i. within-limit measurement_limit l inside (15 * j + i))) (lit≤ tt)

  pub smoothed-inside : any_beyond_lem value_limit y ≡ false
  smoothed-inside =
      limit-within value_limit y
      (λ i. subst (λ (k : List ℤ). nat_abs (at k i) ≤ value_limit) (sym smoothed-row) (places-bound (smoothed_of l) n value_limit smoothed-most i))

-- an accepted answer is accurate
pub found-accurate : (g : Given) (x : Result Numbers Refusal) → reply_of no_numbers x ≡ found_rule g → IfOk x (AccurateTrack steps (blocks g) g)
found-accurate g x e = by x (found-values g x e)
  where
    by : (x : Result Numbers Refusal) → MatchResult x (λ n. (track_number g ≡ 0) × (n ≡ (results g).numbers)) (λ r. track_number g ≡ paper_number r)
        → IfOk x (AccurateTrack steps (blocks g) g)
    by (Ok n) v = subst (AccurateTrack steps (blocks g) g) (sym v.1) (results-accurate g (enough g v.0))
    by (Err r) v = tt

-- the cases of a track's answer
module _ (g : Given) where
  pub sizes-found : wrong_sizes g ≡ true → reply_of no_numbers (Err Refusal.Count) ≡ found_rule g
  unfolding found_rule track_number ◌when◌ ◌then◌
  sizes-found e = rw e

  module _ (e : wrong_sizes g ≡ false) where
    pub limits-found : out_of_limits g ≡ true → (r : Refusal) → paper_number r ≡ 2 → reply_of no_numbers (Err r) ≡ found_rule g
    unfolding found_rule track_number ◌when◌ ◌then◌
    limits-found f r h = rw (e, f, h)

    pub judged-found : out_of_limits g ≡ false → judged_rule (results g) ≡ found_rule g
    unfolding found_rule judged_rule track_number ◌when◌ ◌then◌
    judged-found f = rw (e, f)

module _ (m k : List ℕ) (delays : Delays) where
  abbrev pub given-packed : Given
  given-packed = packed m delays k

  abbrev pub groups : ℕ
  groups = length k / 40

  pub packed-blocks : blocks given-packed ≡ groups
  unfolding packed
  packed-blocks = length-signeds k 0 40 groups

  -- too few or too many blocks, or another number of measurements
  pub unfit-sizes : not (blocks_fit_lem groups) ≡ true → wrong_sizes given-packed ≡ true
  unfolding wrong_sizes packed
  unfit-sizes e = simp (length-signeds k 0 40 groups, e)

  pub miscounted-sizes : not (blocks_fit_lem groups) ≡ false → eqb (length m / 8) (15 * groups) ≡ false → wrong_sizes given-packed ≡ true
  unfolding wrong_sizes packed
  miscounted-sizes e f = simp (length-signeds k 0 40 groups, length-signeds m 0 8 (length m / 8), e, f)

  module _ (fit : not (blocks_fit_lem groups) ≡ false) (count : length m / 8 ≡ 15 * groups) where
    pub few-blocks : (4 ≤ groups) × (groups ≤ 52)
    few-blocks = blocks-within groups fit

    pub sizes-right : wrong_sizes given-packed ≡ false
    unfolding wrong_sizes packed
    sizes-right =
        rw (
          length-signeds k 0 40 groups,
          fit,
          counts (15 * groups) (signeds_at m 0 8 (length m / 8)) (length-signeds m 0 8 (length m / 8) ∙ count),
          counts groups (signeds_at k 8 40 groups) (length-signeds k 8 40 groups),
          counts groups (signeds_at k 16 40 groups) (length-signeds k 16 40 groups),
          counts groups (signeds_at k 24 40 groups) (length-signeds k 24 40 groups),
          counts groups (signeds_at k 32 40 groups) (length-signeds k 32 40 groups),
        )

    abbrev pub measured : List ℤ
    measured = signeds_at m 0 8 (15 * groups)

    measured-is : given-packed.measurements ≡ measured
    unfolding packed
    measured-is = ap (signeds_at m 0 8) count

    pub measured-length : length measured ≡ 15 * groups
    measured-length = length-signeds m 0 8 (15 * groups)

    pub limits-are : out_of_limits given-packed ≡ any_beyond_lem measurement_limit measured || others_beyond (grouped groups [] delays k)
    unfolding others_beyond packed
    limits-are = limits-parts given-packed ∙ ap (λ (l : List ℤ). any_beyond_lem measurement_limit l || others_beyond (grouped groups [] delays k)) measured-is

    smoothed-is : (j : ℕ) → smoothed_of measured j ≡ smoothed_at given-packed j
    unfolding smoothed_at smoothed_of block packed
    smoothed-is j = ap (λ (l : List ℤ). smoothed (λ i. at l (15 * j + i))) (sym measured-is)

    -- the rows of the corrected values are those of the record
    module _ (y : List ℤ) (is : (j : ℕ) → j < groups → at y j ≡ smoothed_of measured j) where
      pub a-row : filled groups (λ j. to_a (grouped groups [] delays k) (pos steps) j (at y j)) (replicate 52 (pos 0)) ≡ places groups (value_a given-packed)
      unfolding value_a to_a packed
      a-row = filled-alike groups _ (value_a given-packed) (replicate 52 (pos 0)) (λ j h. ap (to_a (grouped groups [] delays k) (pos steps) j) (is j h ∙ smoothed-is j)) ∙ filled-places groups _ few-blocks.1

      pub b-row : filled groups (λ j. to_b (grouped groups [] delays k) (pos steps) j (at y j)) (replicate 52 (pos 0)) ≡ places groups (value_b given-packed)
      unfolding value_b to_a to_b packed
      b-row = filled-alike groups _ (value_b given-packed) (replicate 52 (pos 0)) (λ j h. ap (to_b (grouped groups [] delays k) (pos steps) j) (is j h ∙ smoothed-is j)) ∙ filled-places groups _ few-blocks.1

    pub c-row : filled groups (λ j. pos steps *ℤ at (signeds_at k 24 40 groups) j) (replicate 52 (pos 0)) ≡ places groups (value_c given-packed)
    unfolding value_c packed
    c-row = filled-places groups _ few-blocks.1

    pub d-row : filled groups (λ j. pos steps *ℤ at (signeds_at k 16 40 groups) j) (replicate 52 (pos 0)) ≡ places groups (value_d given-packed)
    unfolding value_d packed
    d-row = filled-places groups _ few-blocks.1

    -- and so their record is the track's
    pub packed-results : {a b c d : List ℤ} → a ≡ places groups (value_a given-packed) → b ≡ places groups (value_b given-packed)
        → c ≡ places groups (value_c given-packed) → d ≡ places groups (value_d given-packed) → record_of groups a b c d ≡ results given-packed
    unfolding results
    packed-results A B C D =
        (λ z. record_of groups (A z) (B z) (C z) (D z))
        ∙ ap (λ (n : ℕ). record_of n (places n (value_a given-packed)) (places n (value_b given-packed)) (places n (value_c given-packed)) (places n (value_d given-packed))) (sym packed-blocks)
