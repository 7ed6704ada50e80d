-- The limit test on the five columns of corrections, row by row (specs/Correct.antt): where the first j rows are inside, the rest tells.
-- Assumes nothing.
use mathlib.Core.Path.{◌≡◌, refl, ap₂, ◌∙◌}
use mathlib.Core.Bool.{Bool, true, false, ◌||◌}
use mathlib.Core.List.{List, []}
use Prim.Native.Nat.{ℕ, ◌+◌, ◌≤◌, ◌<◌}
use native.Mathlib.Omega.{arith}
use lib.IntN.{ℤ, pos}
use lib.ListN.{length, drop, get_or, drop_of_length-le}
use Rattle.correcting.specs.declared.inputs.Corrections.{Corrections}
use Rattle.correcting.specs.Correct.{geometry_limit}
use Rattle.correcting.specs.Block.{group_beyond}
use Rattle.limits.specs.Limits.{beyond, delay_limit}
use Rattle.limits.specs.Lists.{any_outside_lem, any_beyond_lem}
use Rattle.limits.proofs.Lists.{any-from}

-- whether a row from row j on has a correction beyond its limit
abbrev pub From : (g r i t k : List ℤ) → ℕ → Bool
From g r i t k j =
    any_beyond_lem geometry_limit (drop j g) || any_beyond_lem delay_limit (drop j r) || any_beyond_lem delay_limit (drop j i) || any_beyond_lem delay_limit (drop j t)
    || any_beyond_lem delay_limit (drop j k)

-- the same of the columns that the code passes
abbrev pub rest_from : Corrections → ℕ → Bool
rest_from corrections j =
    From corrections.geometry.now corrections.relativity.now corrections.ionosphere.now corrections.troposphere.now corrections.clock.now j

mix : (a x b y : Bool) → (a || x) || (b || y) ≡ (a || b) || (x || y)
mix true x b y = refl
mix false true true y = refl
mix false true false y = refl
mix false false b y = refl

all : (a b c d e u v w x y : Bool) → (a || u) || (b || v) || (c || w) || (d || x) || (e || y) ≡ (a || b || c || d || e) || (u || v || w || x || y)
all a b c d e u v w x y =
    ap₂ ◌||◌ (ap₂ ◌||◌ (ap₂ ◌||◌ (mix a u b v) refl ∙ mix (a || b) (u || v) c w) refl ∙ mix (a || b || c) (u || v || w) d x) refl
    ∙ mix (a || b || c || d) (u || v || w || x) e y

module _ (g r i t k : List ℤ) (same : (length r ≡ length g) × (length i ≡ length g) × (length t ≡ length g) × (length k ≡ length g)) (j : ℕ) where
  pub from_row : j < length g
      → From g r i t k j
      ≡ group_beyond (record {
        geometry = get_or g j (pos 0);
        relativity = get_or r j (pos 0);
        ionosphere = get_or i j (pos 0);
        troposphere = get_or t j (pos 0);
        clock = get_or k j (pos 0);
      })
      || From g r i t k (j + 1)
  from_row h =
      let r' : j < length r = omega (arith, same) in
      let i' : j < length i = omega (arith, same) in
      let t' : j < length t = omega (arith, same) in
      let k' : j < length k = omega (arith, same) in
      ap₂ ◌||◌
      (ap₂ ◌||◌ (ap₂ ◌||◌ (ap₂ ◌||◌ (any-from _ _ g j h) (any-from _ _ r j r')) (any-from _ _ i j i')) (any-from _ _ t j t')) (any-from _ _ k j k')
      ∙ all (beyond geometry_limit (get_or g j (pos 0))) (beyond delay_limit (get_or r j (pos 0))) (beyond delay_limit (get_or i j (pos 0)))
      (beyond delay_limit (get_or t j (pos 0))) (beyond delay_limit (get_or k j (pos 0))) (any_beyond_lem geometry_limit (drop (j + 1) g))
      (any_beyond_lem delay_limit (drop (j + 1) r)) (any_beyond_lem delay_limit (drop (j + 1) i)) (any_beyond_lem delay_limit (drop (j + 1) t))
      (any_beyond_lem delay_limit (drop (j + 1) k))

  pub from-none : length g ≤ j → From g r i t k j ≡ false
  unfolding any_outside_lem
  from-none h =
      let a : drop j g ≡ [] = drop_of_length-le g h in
      let b' : length r ≤ j = omega (arith, same) in
      let b : drop j r ≡ [] = drop_of_length-le r b' in
      let c' : length i ≤ j = omega (arith, same) in
      let c : drop j i ≡ [] = drop_of_length-le i c' in
      let d' : length t ≤ j = omega (arith, same) in
      let d : drop j t ≡ [] = drop_of_length-le t d' in
      let e' : length k ≤ j = omega (arith, same) in
      let e : drop j k ≡ [] = drop_of_length-le k e' in
      rw (a, b, c, d, e)
