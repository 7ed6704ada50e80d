-- `characters::comment_fits` meets its contract: what was found so far, and what is asked of the bytes left, is the answer for all.
-- Assumes nothing.
use mathlib.Core.Path.{◌≡◌}
use mathlib.Core.Bool.{◌&&◌}
use lib.ListN.{drop}
use Rattle.characters.specs.Kinds.{printable}
use Rattle.characters.proofs.comment_fits.Given as goal

abbrev pub invariant-loop-b : goal.invariant-loop-b
invariant-loop-b l = l.fit && printable (drop l.b-index l.text) ≡ printable l.text
