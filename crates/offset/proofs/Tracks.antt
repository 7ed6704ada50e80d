-- A shared offset drops out (document 02, Job 7): the theorems of specs/Shifted.antt's definitions, for a track of any number of blocks.
-- Assumes nothing.
use mathlib.Core.Path.{◌≡◌, refl, sym, ap, ap₂, ◌∙◌, subst₂}
use mathlib.Core.List.{[], ◌∷◌}
use Prim.Native.Nat.{ℕ, ◌+◌, ◌*◌, ◌≤◌, ◌<◌}
use native.Mathlib.Omega.{arith}
use lib.IntN.{ℤ, pos, ◌+ℤ◌, ◌-ℤ◌, ◌*ℤ◌}
use lib.ListN.{length}
use Rattle.whole.proofs.Identity.{identity, quote}
use Rattle.whole.specs.Table.{at}
use Rattle.limits.proofs.Parts.{map_at}
use Rattle.exact.specs.Corrected.{Given, block, to_a, to_b, steps}
use Rattle.series.specs.Scatter.{dsg}
use Rattle.fit.specs.declared.TrackRecord.{TrackRecord}
use Rattle.correcting.specs.Correct.{blocks, smoothed_at, value_a, value_b, value_c, value_d, places}
use Rattle.fit.specs.Track.{numbers_with, record_of, results, track_number, track_rule}
use Rattle.correcting.proofs.Arrays.{places-at}
use Rattle.fit.proofs.Tracks.{track-number, track-record, track-sized}
use Rattle.offset.specs.Shifted.{unit, shifted, Moved}
use Rattle.offset.proofs.Series.{smoothed-moves, midpoint-moves, slope-stays, squares-stay}

-- ---- the corrected values

module _ (k : ℤ) (g : Given) (sized : length g.measurements ≡ 15 * blocks g) where
  seconds-move : (j i : ℕ) → j < blocks g → i < 15 → block (shifted k g) j i ≡ block g j i +ℤ unit *ℤ k
  unfolding block shifted
  seconds-move j i h p = map_at (λ (z : ℤ). z +ℤ unit *ℤ k) g.measurements (15 * j + i) (pos 0) (pos 0) (omega (arith, sized))

  a-moves : (j : ℕ) → j < blocks g → value_a (shifted k g) j ≡ value_a g j +ℤ pos steps *ℤ (unit *ℤ k)
  unfolding value_a smoothed_at to_a shifted
  a-moves j h =
      ap (λ (y : ℤ). to_a g (pos steps) j y) (smoothed-moves (unit *ℤ k) (block g j) (block (shifted k g) j) (λ i p. seconds-move j i h p))
      ∙ last (smoothed_at g j) (pos steps *ℤ (unit *ℤ k)) (pos steps *ℤ (g.int +ℤ g.cab -ℤ g.refdly)) (pos steps *ℤ at g.geometry j)
      (pos steps *ℤ at g.relativity j) (pos steps *ℤ at g.ionosphere j) (pos steps *ℤ at g.troposphere j) (pos steps *ℤ g.gd)
    where
      last : (y c u v w x z t : ℤ) → y +ℤ c -ℤ u -ℤ v +ℤ w -ℤ x -ℤ z -ℤ t ≡ y -ℤ u -ℤ v +ℤ w -ℤ x -ℤ z -ℤ t +ℤ c
      last y c u v w x z t = identity (y ∷ c ∷ u ∷ v ∷ w ∷ x ∷ z ∷ t ∷ []) (search quote depth 20 fits 4000) tt

  b-moves : (j : ℕ) → j < blocks g → value_b (shifted k g) j ≡ value_b g j +ℤ pos steps *ℤ (unit *ℤ k)
  unfolding value_a value_b to_b shifted
  b-moves j h = ap (λ (y : ℤ). y +ℤ pos steps *ℤ at g.clock j) (a-moves j h) ∙ last (value_a g j) (pos steps *ℤ (unit *ℤ k)) (pos steps *ℤ at g.clock j)
    where
      last : (y c u : ℤ) → y +ℤ c +ℤ u ≡ y +ℤ u +ℤ c
      last y c u = identity (y ∷ c ∷ u ∷ []) (search quote depth 20) tt

  -- at the places in use, too
  moved-places : (before after : ℕ → ℤ) → ((j : ℕ) → j < blocks g → after j ≡ before j +ℤ pos steps *ℤ (unit *ℤ k))
      → (j : ℕ) → j < blocks g → at (places (blocks g) after) j ≡ at (places (blocks g) before) j +ℤ pos steps *ℤ (unit *ℤ k)
  moved-places before after e j h =
      places-at (blocks g) after j h ∙ e j h ∙ ap (λ (z : ℤ). z +ℤ pos steps *ℤ (unit *ℤ k)) (sym (places-at (blocks g) before j h))

  -- the ten numbers
  numbers-move : 1 ≤ blocks g → Moved k (results g).numbers (results (shifted k g)).numbers
  unfolding results record_of numbers_with shifted value_c value_d
  numbers-move h =
      let n = blocks g in
      let a = moved-places (value_a g) (value_a (shifted k g)) a-moves in
      let b = moved-places (value_b g) (value_b (shifted k g)) b-moves in
      record {
        refsv = midpoint-moves n h k _ _ a;
        srsv = slope-stays n h (pos steps *ℤ (unit *ℤ k)) _ _ a;
        refsys = midpoint-moves n h k _ _ b;
        srsys = slope-stays n h (pos steps *ℤ (unit *ℤ k)) _ _ b;
        mdtr = refl;
        smdt = refl;
        mdio = refl;
        smdi = refl;
        dsg = ap (λ (q : ℤ). pos (dsg steps n q)) (squares-stay n h (pos steps *ℤ (unit *ℤ k)) _ _ b);
        trkl = refl;
      }

-- ---- the theorems

-- what acceptance before the shift is enough for
pub results-move : (k : ℤ) (g : Given) → track_number g ≡ 0 → Moved k (results g).numbers (results (shifted k g)).numbers
results-move k g e =
    let s = track-sized g e in numbers-move k g s.size-measurements (omega (arith, s.size-blocks.0))

-- One track: k × 100 ps more in every measurement, accepted before and after. REFSV and REFSYS move by k, nothing else does.
pub offset-moves : (k : ℤ) (g : Given) → (track_rule g).refusal ≡ 0 → (track_rule (shifted k g)).refusal ≡ 0
    → Moved k (track_rule g).«record».numbers (track_rule (shifted k g)).«record».numbers
unfolding track_rule
offset-moves k g before after =
    subst₂ (λ (t u : TrackRecord). Moved k t.numbers u.numbers) (sym (track-record g _ refl before))
    (sym (track-record (shifted k g) _ refl after)) (results-move k g (sym (track-number g _ refl) ∙ before))

pub drops : (x y k : ℤ) → x +ℤ k -ℤ (y +ℤ k) ≡ x -ℤ y
drops x y k = identity (x ∷ y ∷ k ∷ []) (search quote depth 20) tt

-- Two tracks shifted alike: the difference of their REFSYS stays.
pub difference-stays : (k : ℤ) (g h : Given)
    → (track_rule g).refusal ≡ 0 → (track_rule (shifted k g)).refusal ≡ 0 → (track_rule h).refusal ≡ 0 → (track_rule (shifted k h)).refusal ≡ 0
    → (track_rule (shifted k g)).«record».numbers.refsys -ℤ (track_rule (shifted k h)).«record».numbers.refsys
    ≡ (track_rule g).«record».numbers.refsys -ℤ (track_rule h).«record».numbers.refsys
difference-stays k g h g-before g-after h-before h-after =
    let p = offset-moves k g g-before g-after in
    let q = offset-moves k h h-before h-after in
    ap₂ (λ (x y : ℤ). x -ℤ y) p.refsys q.refsys
    ∙ drops (track_rule g).«record».numbers.refsys (track_rule h).«record».numbers.refsys k
