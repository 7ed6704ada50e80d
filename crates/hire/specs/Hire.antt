-- The hire block (document 01, "The hire block"; document 02, Job 3): what its bytes mean. An offset behind the last byte reads as 0.
-- Assumes nothing.
use Rattle.std.specs.Prelude.{ℕ, ◌+◌, ◌*◌, Bool, ◌&&◌, List, ℤ, get_or, eqb}
use Rattle.decode.specs.Number.{unsigned_at, signed_at_lem, signeds_at}
use Rattle.limits.specs.Blocks.{blocks_fit_lem}
use Rattle.exact.specs.Corrected.{Given}
use Rattle.correcting.specs.Correct.{given}
use Rattle.labels.specs.declared.Labels.{Labels}
use Rattle.labels.specs.Given.{labels_of}

-- Bytes 0 to 3: the two sizes, of the measurements and of the blocks.
unfoldable pub measurements_in : List ℕ → ℕ
measurements_in b = unsigned_at 2 b 0

unfoldable pub blocks_in : List ℕ → ℕ
blocks_in b = unsigned_at 2 b 2

-- They are 15n and n, n from 4 to 52.
unfoldable pub sizes_fit_lem : List ℕ → Bool
sizes_fit_lem b = blocks_fit_lem (blocks_in b) && eqb (measurements_in b) (15 * blocks_in b)

-- Where the corrections of n blocks begin: behind 15n measurements. How long the block is then: n groups of five corrections more.
abbrev pub corrections_from : ℕ → ℕ
corrections_from n = 58 + 120 * n

abbrev pub block_length : ℕ → ℕ
block_length n = 58 + 160 * n

-- The byte at an offset.
abbrev pub byte_at : List ℕ → ℕ → ℕ
byte_at bytes at = get_or bytes at 0

-- Bytes 4 to 25.
unfoldable pub block_labels : List ℕ → Labels
block_labels b =
    labels_of (byte_at b 4) (byte_at b 5) (byte_at b 6) (byte_at b 7) (byte_at b 8) (byte_at b 9) (byte_at b 10) (byte_at b 11)
    (unsigned_at 4 b 12) (unsigned_at 4 b 16) (unsigned_at 2 b 20) (unsigned_at 2 b 22) (unsigned_at 2 b 24)

-- Bytes 26 to 57: INT, CAB, REF and GD, beside measurements and corrections.
abbrev pub delayed_in : List ℕ → (measurements geometry relativity ionosphere troposphere clock : List ℤ) → Given
delayed_in b measurements geometry relativity ionosphere troposphere clock =
    given measurements (signed_at_lem b 26) (signed_at_lem b 34) (signed_at_lem b 42) (signed_at_lem b 50) geometry relativity ionosphere troposphere clock

-- From byte 58 on 15n measurements, then n groups of five corrections, 40 bytes each.
unfoldable pub given_in : (n : ℕ) → List ℕ → Given
given_in n b =
    let from = corrections_from n in
    delayed_in b (signeds_at b 58 8 (15 * n)) (signeds_at b from 40 n) (signeds_at b (from + 8) 40 n) (signeds_at b (from + 16) 40 n)
    (signeds_at b (from + 24) 40 n) (signeds_at b (from + 32) 40 n)

-- What Track is given: n is the second size. Where it is not from 4 to 52, Track refuses these lists with 1.
unfoldable pub block_given : List ℕ → Given
block_given b = given_in (blocks_in b) b
