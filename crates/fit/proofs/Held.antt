-- Laws of four rows that hold the corrected values of a track: they are inside Fit's limit, and their record is the track's.
-- Assumes nothing.
use mathlib.Core.Path.{◌≡◌, ap, ◌∙◌}
use mathlib.Core.Bool.{false}
use Prim.Native.Nat.{ℕ}
use Rattle.limits.specs.declared.Numbers.{Numbers}
use Rattle.limits.specs.Lists.{any_beyond_lem}
use Rattle.series.specs.Fit.{value_limit}
use Rattle.exact.specs.Corrected.{Given}
use Rattle.correcting.specs.declared.correction.Rows.{Rows}
use Rattle.correcting.specs.Correct.{blocks, places, value_a, value_b, value_c, value_d, out_of_limits}
use Rattle.correcting.proofs.Largest.{corrected-within}
use Rattle.fit.specs.declared.TrackRecord.{TrackRecord}
use Rattle.fit.specs.Track.{record_of, results}

-- the values of n blocks, and 0 in the other places
pub record AreHeld (g : Given) (n : ℕ) (rows : Rows) : Type 0 where
  pub a_is : rows.a ≡ places n (value_a g)
  pub b_is : rows.b ≡ places n (value_b g)
  pub c_is : rows.c ≡ places n (value_c g)
  pub d_is : rows.d ≡ places n (value_d g)

module _ (g : Given) {n : ℕ} {rows : Rows} where
  pub held-inside : out_of_limits g ≡ false → AreHeld g n rows
      → (any_beyond_lem value_limit rows.a ≡ false) × (any_beyond_lem value_limit rows.b ≡ false) × (any_beyond_lem value_limit rows.c ≡ false)
      × (any_beyond_lem value_limit rows.d ≡ false)
  held-inside e h =
      let i = corrected-within g e n in (
        ap (any_beyond_lem value_limit) h.a_is ∙ i.in-a,
        ap (any_beyond_lem value_limit) h.b_is ∙ i.in_b,
        ap (any_beyond_lem value_limit) h.c_is ∙ i.in_c,
        ap (any_beyond_lem value_limit) h.d_is ∙ i.in-d,
      )

module _ (g : Given) {rows : Rows} (h : AreHeld g (blocks g) rows) where
  pub held-record : record_of (blocks g) rows.a rows.b rows.c rows.d ≡ results g
  unfolding results
  held-record = λ z. record_of (blocks g) (h.a_is z) (h.b_is z) (h.c_is z) (h.d_is z)

  -- put together with its numbers
  pub held-whole : {numbers : Numbers} → numbers ≡ (results g).numbers
      → ◌≡◌ {A = TrackRecord} (record { blocks = blocks g; a = rows.a; b = rows.b; c = rows.c; d = rows.d; numbers = numbers }) (results g)
  unfolding results record_of
  held-whole e = λ z. record { blocks = blocks g; a = h.a_is z; b = h.b_is z; c = h.c_is z; d = h.d_is z; numbers = e z }
