-- How many blocks of 15 seconds a track may have (document 02, Job 3).
-- Assumes nothing.
use Rattle.std.specs.Prelude.{ℕ, Bool, ◌&&◌, leb}

-- n is from 4 to 52.
unfoldable pub blocks_fit_lem : ℕ → Bool
blocks_fit_lem n = leb 4 n && leb n 52
