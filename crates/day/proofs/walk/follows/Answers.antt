-- `day::walk::follows` meets its contract: keys by the first in which they differ.
-- Assumes nothing.
use mathlib.Core.Path.{◌≡◌, refl, ◌∙◌}
use mathlib.Core.Bool.{Bool, true, false, cond, ◌&&◌, ◌||◌}
use Rattle.std.specs.Prelude.{Option, Some}
use Rattle.std.proofs.Common.{Ordering, Less, Equal, Greater}
use Rattle.std.specs.Ordering.{is_lt, is_some_and, partial_ordering_then}
use Rattle.linefile.specs.Files.{keys_of, before}
use Rattle.day.proofs.walk.follows.Goals as goal

-- what a comparison answers, by its two tests
abbrev by_tests : (less same : Bool) → Option Ordering
by_tests less same = Some (cond less Less (cond same Equal Greater))

-- four comparisons, each where those before it found no difference
by_first : (a a' b b' c c' d d' : Bool)
    → is_some_and is_lt (partial_ordering_then (partial_ordering_then (partial_ordering_then (by_tests a a') (by_tests b b')) (by_tests c c')) (by_tests d d'))
    ≡ a || a' && (b || b' && (c || c' && (d || d' && false)))
by_first true a' b b' c c' d d' = refl
by_first false false b b' c c' d d' = refl
by_first false true true b' c c' d d' = refl
by_first false true false false c c' d d' = refl
by_first false true false true true c' d d' = refl
by_first false true false true false false d d' = refl
by_first false true false true false true true d' = refl
by_first false true false true false true false true = refl
by_first false true false true false true false false = refl

pub returns : goal.returns
unfolding before keys_of
returns c = c.lt.ensures ∙ by_first _ _ _ _ _ _ _ _
