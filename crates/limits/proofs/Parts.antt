-- A part of a row that is lent up to its end, and a place of a mapped list.
-- Assumes nothing.
use mathlib.Core.Path.{◌≡◌, refl}
use mathlib.Core.List.{List, [], ◌∷◌, map}
use Prim.Native.Nat.{ℕ, zero, suc, ◌-◌, ◌<◌}
use native.Mathlib.Nat.{not-suc-le-zero, le_of_suc-le-suc, le_of_eq}
use lib.ListN.{length, take, drop, get_or, length-drop}
use lib.Seq.{take_all}

-- the part from an offset on is all that is left there
pub rest_part : (d : List ℕ) (at : ℕ) → take (length d - at) (drop at d) ≡ drop at d
rest_part d at = take_all (length d - at) (drop at d) (le_of_eq (length-drop at d))

-- what stands at a place of a mapped list; the defaults do not matter there
pub map_at : {A B : Type 0} (f : A → B) (l : List A) (i : ℕ) (d : B) (d' : A) → i < length l → get_or (map f l) i d ≡ f (get_or l i d')
map_at f [] i d d' h = absurd (not-suc-le-zero h)
map_at f (a ∷ l) zero d d' h = refl
map_at f (a ∷ l) (suc i) d d' h = map_at f l i d d' (le_of_suc-le-suc h)
