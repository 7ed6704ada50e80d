-- Demand 3 for Track: the figures of its record are accurate for what was given, whatever that is. What was promised before Job 8 follows.
-- Assumes nothing.
use mathlib.Core.Path.{◌≡◌, refl, sym, ap, ◌∙◌, subst}
use mathlib.Core.List.{[], ◌∷◌}
use Prim.Native.Nat.{ℕ, zero, suc, ◌+◌, ◌*◌, ◌≤◌, ◌<◌}
use native.Mathlib.Omega.{arith}
use lib.Dec.{lit<}
use lib.IntN.{ℤ, pos, ◌+ℤ◌, ◌-ℤ◌, ◌*ℤ◌}
use Rattle.whole.specs.Square.{squared}
use Rattle.whole.specs.Sum.{sum}
use Rattle.whole.proofs.Identity.{identity, quote}
use Rattle.whole.specs.Order.{◌⩽◌, ◌⋖◌}
use Rattle.whole.proofs.Order.{le_of_lt, zero-le-pos, pos-le-is}
use Rattle.whole.proofs.Rounding.{nearest-within}
use Rattle.whole.specs.Table.{at}
use Rattle.exact.specs.Corrected.{Given, block, to_a, to_b, steps}
use Rattle.exact.specs.Accurate.{AccurateTrack}
use Rattle.exact.specs.Accuracy.{EarlierTrack}
use Rattle.exact.proofs.Accuracy.{RoundedFit, RoundedScatter, accurate-track}
use Rattle.exact.proofs.Tracks.{earlier-track}
use Rattle.exact.specs.Weights.{weights, place}
use Rattle.exact.proofs.Places.{span}
use Rattle.exact.proofs.Bounds.{Rounded}
use Rattle.exact.proofs.Scattering.{spread}
use Rattle.series.specs.Smooth.{smoothed}
use Rattle.series.specs.Fit.{total, moment, midpoint, slope}
use Rattle.series.specs.Scatter.{residual, squares, threshold, dsg}
use Rattle.correcting.specs.Correct.{blocks, places, smoothed_at, value_a, value_b, value_c, value_d}
use Rattle.fit.specs.Track.{Tracked, numbers_with, record_of, results, tracked, track_number, track_rule}
use Rattle.limits.specs.declared.Numbers.{Numbers}
use Rattle.series.proofs.Fitting.{span-some, midpoint-cong, slope-cong, midpoint-stepped, slope-stepped}
use Rattle.series.proofs.Thresholds.{dsg-greatest}
use Rattle.correcting.proofs.Arrays.{places-at}
use Rattle.fit.proofs.Tracks.{track-sized}

-- midpoint and slope are rounded to the nearest
fit-rounded : (n : ℕ) → 2 ≤ n → (v : ℕ → ℤ) → RoundedFit steps n v (midpoint steps n v) (slope steps n v)
unfolding midpoint slope total moment
fit-rounded n h v =
    record {
      midpoint_rounded = nearest-within (sum n v) (100 * steps * n) (omega arith);
      slope_rounded = nearest-within (pos 4 *ℤ sum n (λ j. place n j *ℤ v j)) (steps * span n) (omega (arith, span-some n h));
    }

-- a residual is rounded to the nearest, and DSG's thresholds hold the sum of their squares
residual-rounded : (n : ℕ) → 2 ≤ n → (v : ℕ → ℤ) (j : ℕ) → Rounded (residual n v j) (spread n v j) (pos (span n))
unfolding residual spread total moment
residual-rounded n h v j = nearest-within _ (span n) (span-some n h)

threshold-is : (n d : ℕ) → threshold steps n d ≡ pos n *ℤ squared (pos steps *ℤ (pos 100 *ℤ pos d -ℤ pos 50))
unfolding threshold
threshold-is n d = refl

next-threshold-is : (n d : ℕ) → threshold steps n (suc d) ≡ pos n *ℤ squared (pos steps *ℤ (pos 100 *ℤ pos d +ℤ pos 50))
next-threshold-is n d =
    threshold-is n (suc d)
    ∙ ap (λ (k : ℕ). pos n *ℤ squared (pos steps *ℤ (pos k -ℤ pos 50))) more
    ∙ ap (λ (z : ℤ). pos n *ℤ squared (pos steps *ℤ z)) (half (pos (100 * d)))
  where
    more : 100 * suc d ≡ 100 * d + 100
    more = omega arith

    half : (x : ℤ) → x +ℤ pos 100 -ℤ pos 50 ≡ x +ℤ pos 50
    half x = identity (x ∷ []) (search quote depth 20) tt

module _ (n : ℕ) (h : 2 ≤ n) (v : ℕ → ℤ) where
  abbrev sigma : ℕ
  sigma = dsg steps n (squares n v)

  some : 0 < n
  some = omega arith

  threshold-reached : 1 ≤ sigma → pos n *ℤ squared (pos steps *ℤ (pos 100 *ℤ pos sigma -ℤ pos 50)) ⩽ sum n (λ j. squared (residual n v j))
  unfolding squares
  threshold-reached k = subst (λ (z : ℤ). z ⩽ squares n v) (threshold-is n sigma) ((dsg-greatest steps n (lit< tt) some (squares n v)).reached k)

  next-threshold-missed : sum n (λ j. squared (residual n v j)) ⋖ pos n *ℤ squared (pos steps *ℤ (pos 100 *ℤ pos sigma +ℤ pos 50))
  unfolding squares
  next-threshold-missed = subst (λ (z : ℤ). squares n v ⋖ z) (next-threshold-is n sigma) (dsg-greatest steps n (lit< tt) some (squares n v)).next

  scatter-rounded : RoundedScatter steps n v (pos sigma)
  scatter-rounded =
      record {
        residual = residual n v;
        rounded = λ j k. residual-rounded n h v j;
        not_negative = zero-le-pos sigma;
        threshold = λ k. threshold-reached (pos-le-is k);
        next_threshold = le_of_lt next-threshold-missed;
      }

-- the smoothed values, and the corrected ones by the paper's equations
smoothed-rounded : (g : Given) (j : ℕ) → Rounded (smoothed_at g j) (pos steps *ℤ sum 15 (λ i. at weights i *ℤ block g j i)) (pos 1105)
unfolding smoothed_at smoothed
smoothed-rounded g j = nearest-within _ 1105 (lit< tt)

is-a : (g : Given) (j : ℕ) → value_a g j ≡ to_a g (pos steps) j (smoothed_at g j)
unfolding value_a
is-a g j = refl

is-b : (g : Given) (j : ℕ) → value_b g j ≡ to_b g (pos steps) j (smoothed_at g j)
unfolding value_b
is-b g j = refl

is-c : (g : Given) (j : ℕ) → value_c g j ≡ pos steps *ℤ at g.troposphere j
unfolding value_c
is-c g j = refl

is-d : (g : Given) (j : ℕ) → value_d g j ≡ pos steps *ℤ at g.ionosphere j
unfolding value_d
is-d g j = refl

-- the four kinds, and the scatter of B, of any number of blocks from 2 up
pub results-accurate : (g : Given) → 2 ≤ blocks g → AccurateTrack steps (blocks g) g (results g).numbers
unfolding results record_of numbers_with
results-accurate g h =
    let n = blocks g in
    accurate-track steps n (lit< tt) h g (smoothed_at g) (at (places n (value_a g))) (at (places n (value_b g))) (at (places n (value_c g)))
    (at (places n (value_d g))) (results g).numbers
    (record {
      smoothed = λ j k. smoothed-rounded g j;
      is_a = λ j k. places-at n (value_a g) j k ∙ is-a g j;
      is_b = λ j k. places-at n (value_b g) j k ∙ is-b g j;
      is_c = λ j k. places-at n (value_c g) j k ∙ is-c g j;
      is_d = λ j k. places-at n (value_d g) j k ∙ is-d g j;
      fit_a = fit-rounded n h (at (places n (value_a g)));
      fit_b = fit-rounded n h (at (places n (value_b g)));
      fit_c = fit-rounded n h (at (places n (value_c g)));
      fit_d = fit-rounded n h (at (places n (value_d g)));
      scatter_b = scatter-rounded n h (at (places n (value_b g)));
    })

-- a track of too few blocks is refused
pub enough : (g : Given) → track_number g ≡ 0 → 2 ≤ blocks g
enough g e = let s = (track-sized g e).size-blocks in omega (arith, s.0)

-- so what holds of the numbers of every track of 2 blocks or more holds of those of an accepted answer
accepted-has : (P : Numbers → Type 0) (g : Given) (number : ℕ) → (number ≡ 0 → P (results g).numbers) → (tracked number (results g)).refusal ≡ 0
    → P (tracked number (results g)).«record».numbers
unfolding tracked
accepted-has P g zero h e = h refl
accepted-has P g (suc number) h e = absurd (omega arith)

tracked-has : (P : Numbers → Type 0) (g : Given) (t : Tracked) → t ≡ track_rule g → (2 ≤ blocks g → P (results g).numbers) → t.refusal ≡ 0
    → P t.«record».numbers
unfolding track_rule
tracked-has P g t e h =
    subst (λ (t : Tracked). t.refusal ≡ 0 → P t.«record».numbers) (sym e) (accepted-has P g (track_number g) (λ z. h (enough g z)))

pub tracked-accurate : (g : Given) (t : Tracked) → t ≡ track_rule g → t.refusal ≡ 0 → AccurateTrack steps (blocks g) g t.«record».numbers
tracked-accurate g t e = tracked-has (AccurateTrack steps (blocks g) g) g t e (results-accurate g)

-- ---- what was promised of an accepted track before tenths were carried holds still (`EarlierTrack`), and MDTR, SMDT, MDIO and SMDI are the same

results-earlier : (g : Given) → 2 ≤ blocks g → EarlierTrack (blocks g) g (results g).numbers
unfolding results record_of numbers_with
results-earlier g h = earlier-track steps (blocks g) (lit< tt) (zero-le-pos _) (results-accurate g h)

pub tracked-earlier : (g : Given) (t : Tracked) → t ≡ track_rule g → t.refusal ≡ 0 → EarlierTrack (blocks g) g t.«record».numbers
tracked-earlier g t e = tracked-has (EarlierTrack (blocks g) g) g t e (results-earlier g)

-- The numbers of the two columns, fitted in whole picoseconds.
pub record ColumnsFitted (g : Given) (f : Numbers) : Type 0 where
  pub mdtr : f.mdtr ≡ midpoint 1 (blocks g) (at g.troposphere)
  pub smdt : f.smdt ≡ slope 1 (blocks g) (at g.troposphere)
  pub mdio : f.mdio ≡ midpoint 1 (blocks g) (at g.ionosphere)
  pub smdi : f.smdi ≡ slope 1 (blocks g) (at g.ionosphere)

-- one column, as the record keeps it
module _ (n : ℕ) (h : 2 ≤ n) (column : ℕ → ℤ) (value : ℕ → ℤ) (is : (j : ℕ) → value j ≡ pos steps *ℤ column j) where
  kept : (j : ℕ) → j < n → at (places n value) j ≡ pos steps *ℤ column j
  kept j k = places-at n value j k ∙ is j

  column-midpoint : midpoint steps n (at (places n value)) ≡ midpoint 1 n column
  column-midpoint = midpoint-cong n kept ∙ midpoint-stepped steps n (lit< tt) column (omega arith)

  column-slope : slope steps n (at (places n value)) ≡ slope 1 n column
  column-slope = slope-cong n kept ∙ slope-stepped steps n (lit< tt) column h

results-columns : (g : Given) → 2 ≤ blocks g → ColumnsFitted g (results g).numbers
unfolding results record_of numbers_with
results-columns g h =
    let n = blocks g in
    record {
      mdtr = column-midpoint n h (at g.troposphere) (value_c g) (is-c g);
      smdt = column-slope n h (at g.troposphere) (value_c g) (is-c g);
      mdio = column-midpoint n h (at g.ionosphere) (value_d g) (is-d g);
      smdi = column-slope n h (at g.ionosphere) (value_d g) (is-d g);
    }

pub tracked-columns : (g : Given) (t : Tracked) → t ≡ track_rule g → t.refusal ≡ 0 → ColumnsFitted g t.«record».numbers
tracked-columns g t e = tracked-has (ColumnsFitted g) g t e (results-columns g)
