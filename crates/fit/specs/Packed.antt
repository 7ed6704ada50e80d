-- What Track is given, still packed in bytes (document 01, "The hire block"): eight bytes a number, the corrections in groups of five.
-- Assumes nothing.
use Rattle.std.specs.Prelude.{ℕ, ◌+◌, ◌*◌, ◌/◌, List, ℤ, length}
use Rattle.limits.specs.declared.Delays.{Delays}
use Rattle.decode.specs.Number.{signeds_at}
use Rattle.series.specs.Smooth.{smoothed}
use Rattle.whole.specs.Table.{at}
use Rattle.exact.specs.Corrected.{Given}
use Rattle.correcting.specs.Correct.{given}

-- So many measurements, the delays and n groups of corrections.
abbrev pub grouped : (n : ℕ) (measurements : List ℤ) (delays : Delays) (corrections : List ℕ) → Given
grouped n measurements delays corrections =
    given measurements delays.int delays.cab delays.refdly delays.gd (signeds_at corrections 0 40 n) (signeds_at corrections 8 40 n)
    (signeds_at corrections 16 40 n) (signeds_at corrections 24 40 n) (signeds_at corrections 32 40 n)

-- As many measurements and groups as the bytes hold whole.
unfoldable pub packed : (measurements : List ℕ) (delays : Delays) (corrections : List ℕ) → Given
packed measurements delays corrections =
    grouped (length corrections / 40) (signeds_at measurements 0 8 (length measurements / 8)) delays corrections

-- The smoothed value of block j of so many measurements, in tenths.
unfoldable pub smoothed_of : List ℤ → ℕ → ℤ
smoothed_of measurements j = smoothed (λ i. at measurements (15 * j + i))
