-- Numbers in bytes that are made of parts: what stands before a part or behind it does not matter to it, and parts that repeat give numbers that
-- repeat.
-- Assumes nothing.
use mathlib.Core.Path.{◌≡◌, refl, sym, ap, ap₂, ◌∙◌}
use mathlib.Core.Bool.{Bool, true, false, cond}
use mathlib.Core.List.{List, [], ◌∷◌, ◌++◌, append_assoc}
use Prim.Native.Nat.{ℕ, zero, suc, ◌+◌, ◌*◌, ◌-◌, ◌≤◌}
use native.Mathlib.Nat.{add_assoc}
use native.Mathlib.Omega.{arith}
use lib.ListN.{length, take, drop, replicate, length-append, length-drop, take-append-drop}
use lib.Seq.{take_at, drop-append-add, take-append-le, drop-append-le, length-take-le}
use lib.Dec.{leb}
use lib.IntN.{pos}
use borrow.Author.Tests.{le-leb, lt-leb, leb-true, leb-false}
use Rattle.decode.specs.Number.{little, unsigned_at, twos_complement_lem, signed_at_lem, signeds_at}

lies-behind : (a b c : ℕ) → leb (a + b) (a + c) ≡ leb b c
lies-behind a b c = elim (leb b c) as (λ lies. leb b c ≡ lies → leb (a + b) (a + c) ≡ lies) [
  | true ↦ λ e. le-leb (a + b) (a + c) (omega (arith, leb-true b c e))
  | false ↦ λ e. lt-leb (a + b) (a + c) (omega (arith, leb-false b c e))
] refl

pub unsigned-behind : (width : ℕ) (before bytes : List ℕ) (at : ℕ) → unsigned_at width (before ++ bytes) (length before + at) ≡ unsigned_at width bytes at
unfolding unsigned_at
unsigned-behind width before bytes at =
    ap₂ (λ (lies : Bool) (rest : List ℕ). cond lies (little (take width rest)) 0)
    (ap₂ leb (add_assoc (length before) at width) (length-append before bytes) ∙ lies-behind (length before) (at + width) (length bytes))
    (drop-append-add before bytes at)

-- what stands behind a number does not matter to it
pub unsigned-before : (width : ℕ) (bytes behind : List ℕ) (at : ℕ) → at + width ≤ length bytes → unsigned_at width (bytes ++ behind) at ≡ unsigned_at width bytes at
unfolding unsigned_at
unsigned-before width bytes behind at h =
    ap₂ (λ (lies : Bool) (text : List ℕ). cond lies (little text) 0)
    (le-leb (at + width) (length (bytes ++ behind)) (omega (arith, length-append bytes behind)) ∙ sym (le-leb (at + width) (length bytes) h))
    (ap (take width) (drop-append-le at bytes behind (omega arith)) ∙ take-append-le width (drop at bytes) behind (rest (length-drop at bytes)))
  where
    rest : {k : ℕ} → k ≡ length bytes - at → width ≤ k
    rest e = omega arith

-- a number of a piece
pub unsigned-piece : (width : ℕ) (front piece : List ℕ) {n : ℕ} (at : ℕ) → length front ≡ n → unsigned_at width (front ++ piece) (n + at) ≡ unsigned_at width piece at
unsigned-piece width front piece at e = ap (λ (m : ℕ). unsigned_at width (front ++ piece) (m + at)) (sym e) ∙ unsigned-behind width front piece at

pub unsigned-take : (width n : ℕ) (bytes : List ℕ) (at : ℕ) → n ≤ length bytes → at + width ≤ n → unsigned_at width (take n bytes) at ≡ unsigned_at width bytes at
unsigned-take width n bytes at h k =
    sym (unsigned-before width (take n bytes) (drop n bytes) at (rw (length-take-le n bytes h) k)) ∙ ap (λ (b : List ℕ). unsigned_at width b at) (take-append-drop n bytes)

pub unsigned-drop : (width n : ℕ) (bytes : List ℕ) (at : ℕ) → n ≤ length bytes → unsigned_at width (drop n bytes) at ≡ unsigned_at width bytes (n + at)
unsigned-drop width n bytes at h =
    sym (unsigned-piece width (take n bytes) (drop n bytes) at (length-take-le n bytes h)) ∙ ap (λ (b : List ℕ). unsigned_at width b (n + at)) (take-append-drop n bytes)

pub signeds-behind : (before bytes : List ℕ) (at stride count : ℕ) → signeds_at (before ++ bytes) (length before + at) stride count ≡ signeds_at bytes at stride count
unfolding signed_at_lem signeds_at
signeds-behind before bytes at stride zero = refl
signeds-behind before bytes at stride (suc count) =
    ap₂ ◌∷◌ (ap twos_complement_lem (unsigned-behind 8 before bytes at))
    (ap (λ (next : ℕ). signeds_at (before ++ bytes) next stride count) (add_assoc (length before) at stride)
    ∙ signeds-behind before bytes (at + stride) stride count)

-- so many times the same bytes
unfoldable pub repeat : ℕ → List ℕ → List ℕ
repeat zero bytes = []
repeat (suc n) bytes = bytes ++ repeat n bytes

-- eight bytes at the front
signed-front : (bytes rest : List ℕ) → length bytes ≡ 8 → signed_at_lem (bytes ++ rest) 0 ≡ twos_complement_lem (little bytes)
unfolding signed_at_lem unsigned_at
signed-front bytes rest e =
    ap twos_complement_lem
    (ap₂ (λ (lies : Bool) (first : List ℕ). cond lies (little first) 0)
    (le-leb (0 + 8) (length (bytes ++ rest)) (omega (arith, length-append bytes rest)))
    (take_at bytes rest 8 e))

pub signeds-repeat : (n : ℕ) (bytes rest : List ℕ) → length bytes ≡ 8
    → signeds_at (repeat n bytes ++ rest) 0 8 n ≡ replicate n (twos_complement_lem (little bytes))
unfolding repeat signeds_at
signeds-repeat zero bytes rest e = refl
signeds-repeat (suc n) bytes rest e =
    ap (λ (all : List ℕ). signeds_at all 0 8 (suc n)) (append_assoc bytes (repeat n bytes) rest)
    ∙ ap₂ ◌∷◌ (signed-front bytes (repeat n bytes ++ rest) e)
    (ap (λ (next : ℕ). signeds_at (bytes ++ (repeat n bytes ++ rest)) next 8 n) (sym (ap (λ (k : ℕ). k + 0) e))
    ∙ signeds-behind bytes (repeat n bytes ++ rest) 0 8 n
    ∙ signeds-repeat n bytes rest e)

-- bytes of 0 are numbers of 0
little-zeros : (n at width : ℕ) → little (take width (drop at (replicate n 0))) ≡ 0
unfolding little
little-zeros zero zero zero = refl
little-zeros zero zero (suc width) = refl
little-zeros zero (suc at) zero = refl
little-zeros zero (suc at) (suc width) = refl
little-zeros (suc n) zero zero = refl
little-zeros (suc n) zero (suc width) = ap (λ (k : ℕ). 0 + 256 * k) (little-zeros n 0 width)
little-zeros (suc n) (suc at) width = little-zeros n at width

unsigned-zeros : (n at width : ℕ) → unsigned_at width (replicate n 0) at ≡ 0
unfolding unsigned_at
unsigned-zeros n at width = by-lies (leb (at + width) (length {A = ℕ} (replicate n 0)))
  where
    by-lies : (lies : Bool) → cond lies (little (take width (drop at (replicate n 0)))) 0 ≡ 0
    by-lies true = little-zeros n at width
    by-lies false = refl

pub signeds-zeros : (n at stride count : ℕ) → signeds_at (replicate n 0) at stride count ≡ replicate count (pos 0)
unfolding twos_complement_lem signed_at_lem signeds_at
signeds-zeros n at stride zero = refl
signeds-zeros n at stride (suc count) = ap₂ ◌∷◌ (ap twos_complement_lem (unsigned-zeros n at 8)) (signeds-zeros n (at + stride) stride count)
