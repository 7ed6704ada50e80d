-- Laws of the limit tests on lists (specs/Lists.antt).
-- Assumes nothing.
use mathlib.Core.Path.{◌≡◌, refl}
use mathlib.Core.Bool.{Bool, false, ◌||◌}
use mathlib.Core.List.{List, [], ◌∷◌}
use Prim.Native.Nat.{ℕ, zero, suc, ◌+◌, ◌≤◌, ◌<◌, zero-le}
use native.Mathlib.Numerals.{add-one}
use lib.IntN.{ℤ, pos, nat_abs}
use lib.ListN.{length, take, drop, get_or}
use lib.Seq.{drop-cons}
use Rattle.limits.specs.Limits.{outside, beyond}
use Rattle.limits.proofs.Laws.{or-false, magnitude-within, within-magnitude, then-zero, when-zero}
use Rattle.limits.specs.Refusal.{◌when◌, ◌then◌}
use borrow.Author.Tests.{eqb-true, eq-eqb, not-false}
use lib.Dec.{eqb}
use Rattle.limits.specs.Lists.{miscounted, any_outside_lem, any_beyond_lem, range_number}

-- a list that passed has no number beyond the limit
pub within-limit : (limit : ℕ) (l : List ℤ) → any_beyond_lem limit l ≡ false → (i : ℕ) → nat_abs (get_or l i (pos 0)) ≤ limit
unfolding any_outside_lem
within-limit limit [] e i = zero-le
within-limit limit (z ∷ l) e zero = magnitude-within limit z (or-false (beyond limit z) (any_beyond_lem limit l) e).0
within-limit limit (z ∷ l) e (suc i) = within-limit limit l (or-false (beyond limit z) (any_beyond_lem limit l) e).1 i

-- and a list that has none passes
pub limit-within : (limit : ℕ) (l : List ℤ) → ((i : ℕ) → nat_abs (get_or l i (pos 0)) ≤ limit) → any_beyond_lem limit l ≡ false
unfolding any_outside_lem
limit-within limit [] h = refl
limit-within limit (z ∷ l) h = rw (within-magnitude limit z (h 0), limit-within limit l (λ i. h (suc i)))

-- what it tells that a list is not refused
pub list-accepted : (wrong : Bool) (low high : ℤ) (l : List ℤ) → range_number wrong low high l ≡ 0
    → (wrong ≡ false) × (any_outside_lem low high l ≡ false)
unfolding range_number
list-accepted wrong low high l e =
    let z = then-zero (1 when wrong) (2 when any_outside_lem low high l) e in
    (when-zero 0 wrong z.0, when-zero 1 (any_outside_lem low high l) z.1)

pub list-passes : (wrong : Bool) (low high : ℤ) (l : List ℤ) → wrong ≡ false → any_outside_lem low high l ≡ false
    → range_number wrong low high l ≡ 0
unfolding range_number ◌when◌ ◌then◌
list-passes wrong low high l e p = rw (e, p)

-- a list that is not miscounted has its length, and the other way round
pub counted : (n : ℕ) (l : List ℤ) → miscounted n l ≡ false → length l ≡ n
counted n l e = eqb-true (length l) n (not-false (eqb (length l) n) e)

pub counts : (n : ℕ) (l : List ℤ) → length l ≡ n → miscounted n l ≡ false
counts n l e = rw (eq-eqb (length l) n e)

-- a list from a place on: the number there, and those behind it
pub any-from : (low high : ℤ) (l : List ℤ) (i : ℕ) → i < length l
    → any_outside_lem low high (drop i l) ≡ outside low high (get_or l i (pos 0)) || any_outside_lem low high (drop (i + 1) l)
unfolding any_outside_lem
any-from low high l i h = rw (add-one, drop-cons l i (pos 0) h)

-- a part of a list that passed has passed
pub any-drop : (low high : ℤ) (m : ℕ) (l : List ℤ) → any_outside_lem low high l ≡ false → any_outside_lem low high (drop m l) ≡ false
unfolding any_outside_lem
any-drop low high zero l e = e
any-drop low high (suc m) [] e = refl
any-drop low high (suc m) (z ∷ l) e = any-drop low high m l (or-false (outside low high z) (any_outside_lem low high l) e).1

pub any-take : (low high : ℤ) (n : ℕ) (l : List ℤ) → any_outside_lem low high l ≡ false → any_outside_lem low high (take n l) ≡ false
unfolding any_outside_lem
any-take low high zero l e = refl
any-take low high (suc n) [] e = refl
any-take low high (suc n) (z ∷ l) e =
    let o = or-false (outside low high z) (any_outside_lem low high l) e in
    rw (o.0, any-take low high n l o.1)
