-- Whether so many bytes from an offset on lie within an end, by a difference that does not fall below 0.
-- Assumes nothing.
use mathlib.Core.Path.{◌≡◌, refl}
use mathlib.Core.Bool.{true, false}
use Prim.Native.Nat.{ℕ, ◌+◌, ◌-◌, ◌≤◌, ◌<◌}
use native.Mathlib.Omega.{arith}
use lib.Dec.{leb}
use borrow.Author.Tests.{le-leb, lt-leb, leb-true, leb-false}

pub lies_at : (at width end : ℕ) → at ≤ end → leb width (end - at) ≡ leb (at + width) end
lies_at at width end h = elim (leb (at + width) end) as (λ t. leb (at + width) end ≡ t → leb width (end - at) ≡ t) [
  | true ↦ λ e. le-leb width (end - at) (fits (leb-true (at + width) end e))
  | false ↦ λ e. lt-leb width (end - at) (over (leb-false (at + width) end e))
] refl
  where
    fits : at + width ≤ end → width ≤ end - at
    fits k = omega arith

    over : end < at + width → end - at < width
    over k = omega arith
