-- What follows for a whole track from the bounds of one fit and one scatter (proofs/Accuracy.antt).
-- Assumes nothing.
use Rattle.std.specs.Prelude.{ℕ, ◌<◌, ℤ, pos}
use Rattle.std.proofs.Common.{arith}
use Rattle.whole.specs.Order.{◌⩽◌}
use Rattle.limits.specs.declared.Numbers.{Numbers}
use Rattle.exact.specs.Parabola.{ExactSmoothed}
use Rattle.whole.specs.Table.{at}
use Rattle.exact.specs.Corrected.{Given, block, to_a, to_b, steps}
use Rattle.exact.specs.Accurate.{AccurateTrack}
use Rattle.exact.specs.Accuracy.{EarlierTrack, SlopeWithin502}
use Rattle.exact.proofs.Accuracy.{earlier-line, earlier-scatter, coarser, slope-thousandths}

pub earlier-track : (s n : ℕ) → 0 < s → {g : Given} {f : Numbers} → pos 0 ⩽ f.dsg → AccurateTrack s n g f → EarlierTrack n g f
earlier-track s n s-pos {g} {f} dsg-pos t =
    let u : AccurateTrack 1 n g f = coarser s n s-pos dsg-pos t in
    record {
      a = λ Y e x. earlier-line n (u.a Y e x);
      b = λ Y e x. earlier-line n (u.b Y e x);
      scatter = λ Y e x. earlier-scatter n (u.scatter Y e x);
      c = earlier-line n u.c;
      d = earlier-line n u.d;
    }

-- The four slopes of a full track.
pub full-track-slopes : (g : Given) (f : Numbers) → AccurateTrack steps 52 g f
    → ((Y : ℕ → ℤ) (e : ℤ) → ExactSmoothed 52 (block g) Y e
    → SlopeWithin502 52 (λ j. to_a g e j (Y j)) e f.srsv × SlopeWithin502 52 (λ j. to_b g e j (Y j)) e f.srsys)
    × SlopeWithin502 52 (at g.troposphere) (pos 1) f.smdt
    × SlopeWithin502 52 (at g.ionosphere) (pos 1) f.smdi
full-track-slopes g f t = (
  λ Y e x. (slope-thousandths 52 (omega arith) (t.a Y e x), slope-thousandths 52 (omega arith) (t.b Y e x)),
  slope-thousandths 52 (omega arith) t.c,
  slope-thousandths 52 (omega arith) t.d,
)
