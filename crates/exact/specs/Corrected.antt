-- What a track is made of, and its corrected values (document 01, "Correcting" and "Exact figures", second point; document 02, Job 8;
-- document 000, equations 1 and 2).
-- Assumes nothing.
use Rattle.std.specs.Prelude.{ℕ, ◌+◌, ◌*◌, List, ℤ, ◌+ℤ◌, ◌-ℤ◌, ◌*ℤ◌}
use Rattle.whole.specs.Table.{at}

-- How many steps a picosecond has. Smoothed and corrected values and residuals are whole steps: tenths of a picosecond. What a track is given
-- is in picoseconds.
abbrev pub steps : ℕ
steps = 10

-- The one-second measurements, the delays INT, CAB, REF and GD, and five columns of corrections.
pub record Given : Type 0 where
  pub measurements : List ℤ
  pub int : ℤ
  pub cab : ℤ
  pub refdly : ℤ
  pub gd : ℤ
  pub geometry : List ℤ
  pub relativity : List ℤ
  pub ionosphere : List ℤ
  pub troposphere : List ℤ
  pub clock : List ℤ

-- The measurements of block j are those of seconds 15j to 15j + 14.
unfoldable pub block : Given → ℕ → ℕ → ℤ
block g j i = at g.measurements (15 * j + i)

-- A of block j, times e, from its smoothed value y / e, in picoseconds. Values in tenths have e = steps; the exact ones, in Accurate, have other e.
unfoldable pub to_a : Given → ℤ → ℕ → ℤ → ℤ
to_a g e j y =
    y -ℤ e *ℤ (g.int +ℤ g.cab -ℤ g.refdly) -ℤ e *ℤ at g.geometry j +ℤ e *ℤ at g.relativity j
    -ℤ e *ℤ at g.ionosphere j -ℤ e *ℤ at g.troposphere j -ℤ e *ℤ g.gd

-- B of block j, likewise.
unfoldable pub to_b : Given → ℤ → ℕ → ℤ → ℤ
to_b g e j y = to_a g e j y +ℤ e *ℤ at g.clock j
