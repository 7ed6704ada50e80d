-- Numbers in a piece of the bytes: a row of numbers is the same by its piece and by the whole, and a part of a row is the row of its own piece.
-- Assumes nothing.
use mathlib.Core.Path.{◌≡◌, refl, sym, ap, ap₂, ◌∙◌}
use mathlib.Core.List.{List, ◌∷◌}
use Prim.Native.Nat.{ℕ, zero, suc, ◌+◌, ◌*◌, ◌-◌, ◌≤◌, ◌<◌}
use native.Mathlib.Nat.{le_of_suc-le-suc, not-suc-le-zero}
use native.Mathlib.Omega.{arith}
use lib.IntN.{ℤ}
use lib.ListN.{length, take, drop, length-drop}
use Rattle.decode.specs.Number.{unsigned_at, twos_complement_lem, signed_at_lem, signeds_at}
use Rattle.decode.proofs.Rows.{unsigned-take, unsigned-drop}

-- the piece of so many bytes from an offset on
module _ (bytes : List ℕ) (from width : ℕ) (fits : from + width ≤ length bytes) where
  room : width ≤ length (drop from bytes)
  room = rw (length-drop from bytes) (omega arith)

  -- a number that lies within it
  number-piece : (v at : ℕ) → at + v ≤ width → unsigned_at v (take width (drop from bytes)) at ≡ unsigned_at v bytes (from + at)
  number-piece v at h = unsigned-take v width (drop from bytes) at room h ∙ unsigned-drop v from bytes at (omega arith)

  pub signed-piece : (at : ℕ) → at + 8 ≤ width → signed_at_lem (take width (drop from bytes)) at ≡ signed_at_lem bytes (from + at)
  unfolding signed_at_lem
  signed-piece at h = ap twos_complement_lem (number-piece 8 at h)

  -- a row of which every number does
  pub signeds-piece : (at stride count : ℕ) → ((i : ℕ) → i < count → at + stride * i + 8 ≤ width)
      → signeds_at (take width (drop from bytes)) at stride count ≡ signeds_at bytes (from + at) stride count
  unfolding signeds_at
  signeds-piece at stride zero h = refl
  signeds-piece at stride (suc count) h =
      let first = h 0 (omega arith) in
      ap₂ ◌∷◌ (signed-piece at (omega (arith, first)))
      (signeds-piece (at + stride) stride count (λ i k. next i k)
      ∙ ap (λ (p : ℕ). signeds_at bytes p stride count) (omega arith))
    where
      next : (i : ℕ) → i < count → at + stride + stride * i + 8 ≤ width
      next i k = let all = h (suc i) (omega arith) in omega (arith, all)

-- a number in a part that is lent up to its end, and a signed one that has all of it
pub number-part : (v w : ℕ) (bytes : List ℕ) (from at : ℕ) → from + w ≤ length bytes → at + v ≤ w
    → unsigned_at v (take (from + w - from) (drop from bytes)) at ≡ unsigned_at v bytes (from + at)
number-part v w bytes from at h i =
    ap (λ (n : ℕ). unsigned_at v (take n (drop from bytes)) at) (width from) ∙ number-piece bytes from w h v at i
  where
    width : (from : ℕ) → from + w - from ≡ w
    width from = omega arith

pub signed_part : (bytes : List ℕ) (from : ℕ) → from + 8 ≤ length bytes → signed_at_lem (take (from + 8 - from) (drop from bytes)) 0 ≡ signed_at_lem bytes from
unfolding signed_at_lem
signed_part bytes from h = ap twos_complement_lem (number-part 8 8 bytes from 0 h (omega arith) ∙ ap (unsigned_at 8 bytes) (omega arith))

-- a row of all that is left from an offset on
pub signeds-from : (bytes : List ℕ) (from : ℕ) → from ≤ length bytes → (at stride count : ℕ)
    → signeds_at (drop from bytes) at stride count ≡ signeds_at bytes (from + at) stride count
unfolding signed_at_lem signeds_at
signeds-from bytes from h at stride zero = refl
signeds-from bytes from h at stride (suc count) =
    let p : from + (at + stride) ≡ from + at + stride = omega arith in
    ap₂ ◌∷◌ (ap twos_complement_lem (unsigned-drop 8 from bytes at h))
    (signeds-from bytes from h (at + stride) stride count ∙ ap (λ (p : ℕ). signeds_at bytes p stride count) p)

-- the numbers of a row from one on, and those before it
pub signeds-drop : (bytes : List ℕ) (at stride k n count : ℕ) → n ≡ k + count
    → drop k (signeds_at bytes at stride n) ≡ signeds_at bytes (at + stride * k) stride count
unfolding signeds_at
signeds-drop bytes at stride zero n count e =
    let p : at ≡ at + stride * 0 = omega arith in
    let m : n ≡ count = omega arith in
    λ i. signeds_at bytes (p i) stride (m i)
signeds-drop bytes at stride (suc k) zero count e = absurd (omega arith)
signeds-drop bytes at stride (suc k) (suc n) count e =
    let p : at + stride + stride * k ≡ at + stride * suc k = omega arith in
    let m : n ≡ k + count = omega arith in
    signeds-drop bytes (at + stride) stride k n count m ∙ ap (λ (p : ℕ). signeds_at bytes p stride count) p

pub signeds-take : (bytes : List ℕ) (at stride k n : ℕ) → k ≤ n → take k (signeds_at bytes at stride n) ≡ signeds_at bytes at stride k
unfolding signeds_at
signeds-take bytes at stride zero n h = refl
signeds-take bytes at stride (suc k) zero h = absurd (not-suc-le-zero h)
signeds-take bytes at stride (suc k) (suc n) h =
    ap (λ (l : List ℤ). signed_at_lem bytes at ∷ l) (signeds-take bytes (at + stride) stride k n (le_of_suc-le-suc h))

-- so many numbers of eight bytes from one on are those of their own piece
pub signeds-part : (bytes : List ℕ) (k count n : ℕ) → k + count ≤ n → 8 * n ≤ length bytes
    → signeds_at (take (8 * count) (drop (8 * k) bytes)) 0 8 count ≡ take count (drop k (signeds_at bytes 0 8 n))
signeds-part bytes k count n h fits =
    let room : 8 * k + 8 * count ≤ length bytes = omega arith in
    let p : 8 * k + 0 ≡ 0 + 8 * k = omega arith in
    let m : n ≡ k + (n - k) = omega arith in
    let c : count ≤ n - k = omega arith in
    signeds-piece bytes (8 * k) (8 * count) room 0 8 count (λ i g. within i g)
    ∙ ap (λ (p : ℕ). signeds_at bytes p 8 count) p
    ∙ sym (ap (take count) (signeds-drop bytes 0 8 k n (n - k) m) ∙ signeds-take bytes (0 + 8 * k) 8 count (n - k) c)
  where
    within : (i : ℕ) → i < count → 0 + 8 * i + 8 ≤ 8 * count
    within i g = omega arith
