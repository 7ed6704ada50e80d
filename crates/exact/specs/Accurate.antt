-- What is promised of a track's figures (document 01, "Exact figures"; document 02, Jobs 3 and 8): each is near the exact one, for every choice of
-- least curves and of denominators. The bound itself is taken in. The contracts have s = `steps`, tenths. What was promised of whole picoseconds
-- follows (`EarlierTrack` of the module Accuracy and law `earlier-track` of proofs/Tracks.antt).
-- Assumes nothing.
use Rattle.std.specs.Prelude.{ℕ, ℤ, pos, ◌+ℤ◌, ◌-ℤ◌, ◌*ℤ◌, ◌≤ℤ◌}
use Rattle.whole.specs.Square.{squared, magnitude}
use Rattle.limits.specs.declared.Numbers.{Numbers}
use Rattle.exact.specs.Parabola.{ExactSmoothed}
use Rattle.exact.specs.Line.{LeastLine, line_misfit}
use Rattle.whole.specs.Table.{at}
use Rattle.exact.specs.Corrected.{Given, block, to_a, to_b}

-- A picosecond has s steps, and (P + Qt) / d is the least line through the n values Y j / e, in picoseconds.
-- A midpoint in 0.1 ns is within 0.5 + 1 / 200s of its unit of P / 100d: both sides are multiplied by 200sd. In tenths that is 0.5005.
-- A slope in 0.1 ps/s is within 0.5 + n / (s (n² - 1)) of its unit of 10Q / d: both sides are multiplied by 2s (n² - 1) d. In tenths that is
-- 0.5 + n / (10 (n² - 1)).
pub record AccurateLine (s n : ℕ) (Y : ℕ → ℤ) (e midpoint slope : ℤ) : Type 0 where
  pub midpoint_near : (P Q d : ℤ) → LeastLine n Y e P Q d
      → (pos 2 *ℤ pos s *ℤ magnitude (pos 100 *ℤ d *ℤ midpoint -ℤ P)) ≤ℤ ((pos 100 *ℤ pos s +ℤ pos 1) *ℤ d)
  pub slope_near : (P Q d : ℤ) → LeastLine n Y e P Q d
      → (pos 2 *ℤ pos s *ℤ (squared (pos n) -ℤ pos 1) *ℤ magnitude (d *ℤ slope -ℤ pos 10 *ℤ Q))
      ≤ℤ ((pos s *ℤ (squared (pos n) -ℤ pos 1) +ℤ pos 2 *ℤ pos n) *ℤ d)

-- M is the least sum divided by n, line_misfit / (n (2de)²). A DSG is within 50 + 1 / s ps of its root, in tenths 50.1 ps or 0.501 of its unit: M is at
-- most (100 DSG + 50 + 1 / s)² and, for a DSG from 1 up, at least (100 DSG - 50 - 1 / s)². Both sides are multiplied by s² n (2de)².
pub record AccurateScatter (s n : ℕ) (Y : ℕ → ℤ) (e dsg : ℤ) : Type 0 where
  pub at_most : (P Q d : ℤ) → LeastLine n Y e P Q d
      → (squared (pos s) *ℤ line_misfit n Y e P Q d)
      ≤ℤ (pos n *ℤ squared (pos s *ℤ (pos 100 *ℤ dsg +ℤ pos 50) +ℤ pos 1) *ℤ squared (pos 2 *ℤ d *ℤ e))
  pub at_least : (P Q d : ℤ) → LeastLine n Y e P Q d → pos 1 ≤ℤ dsg
      → (pos n *ℤ squared (pos s *ℤ (pos 100 *ℤ dsg -ℤ pos 50) -ℤ pos 1) *ℤ squared (pos 2 *ℤ d *ℤ e))
      ≤ℤ (squared (pos s) *ℤ line_misfit n Y e P Q d)

-- The midpoints and slopes of A, B, C and D of a track of n blocks, and its DSG, are accurate for what was given: A and B with the exact
-- smoothed values, C and D as the columns stand.
pub record AccurateTrack (s n : ℕ) (g : Given) (f : Numbers) : Type 0 where
  pub a : (Y : ℕ → ℤ) (e : ℤ) → ExactSmoothed n (block g) Y e
      → AccurateLine s n (λ j. to_a g e j (Y j)) e f.refsv f.srsv
  pub b : (Y : ℕ → ℤ) (e : ℤ) → ExactSmoothed n (block g) Y e
      → AccurateLine s n (λ j. to_b g e j (Y j)) e f.refsys f.srsys
  pub scatter : (Y : ℕ → ℤ) (e : ℤ) → ExactSmoothed n (block g) Y e
      → AccurateScatter s n (λ j. to_b g e j (Y j)) e f.dsg
  pub c : AccurateLine s n (at g.troposphere) (pos 1) f.mdtr f.smdt
  pub d : AccurateLine s n (at g.ionosphere) (pos 1) f.mdio f.smdi
