-- What theorems say of a track's figures beyond the contracts' promise (specs/Accurate.antt): what was promised before tenths were carried holds still,
-- and a full track's slopes. The theorems are those of proofs/Accuracy.antt and proofs/Tracks.antt.
-- Assumes nothing.
use Rattle.std.specs.Prelude.{ℕ, ℤ, pos, ◌+ℤ◌, ◌-ℤ◌, ◌*ℤ◌}
use Rattle.whole.specs.Order.{◌⩽◌}
use Rattle.whole.specs.Square.{squared, magnitude}
use Rattle.limits.specs.declared.Numbers.{Numbers}
use Rattle.exact.specs.Parabola.{ExactSmoothed}
use Rattle.exact.specs.Line.{LeastLine, line_misfit}
use Rattle.whole.specs.Table.{at}
use Rattle.exact.specs.Corrected.{Given, block, to_a, to_b}

-- The promise of document 01 and of document 02, Job 3, in their words: a midpoint within 0.51 of its unit, a slope within 0.5 + n / (n² - 1).
pub record EarlierLine (n : ℕ) (Y : ℕ → ℤ) (e midpoint slope : ℤ) : Type 0 where
  pub midpoint_near : (P Q d : ℤ) → LeastLine n Y e P Q d → magnitude (pos 100 *ℤ d *ℤ midpoint -ℤ P) ⩽ pos 51 *ℤ d
  pub slope_near : (P Q d : ℤ) → LeastLine n Y e P Q d
      → pos 2 *ℤ (squared (pos n) -ℤ pos 1) *ℤ magnitude (d *ℤ slope -ℤ pos 10 *ℤ Q)
      ⩽ (squared (pos n) -ℤ pos 1 +ℤ pos 2 *ℤ pos n) *ℤ d

-- A DSG within 51 ps of the root of M: M is at most (100 DSG + 51)² and, for a DSG from 1 up, at least (100 DSG - 51)².
pub record EarlierScatter (n : ℕ) (Y : ℕ → ℤ) (e dsg : ℤ) : Type 0 where
  pub at_most : (P Q d : ℤ) → LeastLine n Y e P Q d
      → line_misfit n Y e P Q d ⩽ pos n *ℤ squared (pos 100 *ℤ dsg +ℤ pos 51) *ℤ squared (pos 2 *ℤ d *ℤ e)
  pub at_least : (P Q d : ℤ) → LeastLine n Y e P Q d → pos 1 ⩽ dsg
      → pos n *ℤ squared (pos 100 *ℤ dsg -ℤ pos 51) *ℤ squared (pos 2 *ℤ d *ℤ e) ⩽ line_misfit n Y e P Q d

pub record EarlierTrack (n : ℕ) (g : Given) (f : Numbers) : Type 0 where
  pub a : (Y : ℕ → ℤ) (e : ℤ) → ExactSmoothed n (block g) Y e → EarlierLine n (λ j. to_a g e j (Y j)) e f.refsv f.srsv
  pub b : (Y : ℕ → ℤ) (e : ℤ) → ExactSmoothed n (block g) Y e → EarlierLine n (λ j. to_b g e j (Y j)) e f.refsys f.srsys
  pub scatter : (Y : ℕ → ℤ) (e : ℤ) → ExactSmoothed n (block g) Y e → EarlierScatter n (λ j. to_b g e j (Y j)) e f.dsg
  pub c : EarlierLine n (at g.troposphere) (pos 1) f.mdtr f.smdt
  pub d : EarlierLine n (at g.ionosphere) (pos 1) f.mdio f.smdi

-- A slope within 0.502 of its unit, which is less than the 0.52 of document 01.
abbrev pub SlopeWithin502 : (n : ℕ) (Y : ℕ → ℤ) (e slope : ℤ) → Type 0
SlopeWithin502 n Y e slope =
    (P Q d : ℤ) → LeastLine n Y e P Q d → (pos 1000 *ℤ magnitude (d *ℤ slope -ℤ pos 10 *ℤ Q)) ⩽ (pos 502 *ℤ d)
