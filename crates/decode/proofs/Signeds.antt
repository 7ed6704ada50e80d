-- A row of signed numbers, one after the other: what a turn of the loop adds, and that past the end every place is the same.
-- Assumes nothing.
use mathlib.Core.Path.{◌≡◌, refl, sym, ap, ap₂, ◌∙◌}
use mathlib.Core.Bool.{true, false}
use mathlib.Core.List.{List, [], ◌∷◌, ◌++◌, append_assoc, append-nil}
use Prim.Native.Nat.{ℕ, zero, suc, ◌+◌, ◌*◌, ◌-◌, ◌≤◌, ◌<◌, min}
use native.Mathlib.Numerals.{add-one, sub-one}
use native.Mathlib.Omega.{arith}
use native.Mathlib.Nat.{not-suc-le-zero, le_of_suc-le-suc, mul-le-mul_left}
use lib.ListN.{length, take, set, get_or}
use lib.Seq.{take-suc-set, take_all}
use lib.Dec.{leb}
use lib.IntN.{ℤ, pos}
use borrow.Author.Tests.{lt-leb, leb-true, leb-false}
use Rattle.decode.specs.Number.{twos_complement_lem, signed_at_lem, signeds_at}
use Rattle.decode.specs.Row.{row_lies_lem}
use Rattle.decode.proofs.Little.{unsigned-outside}

past : (bytes : List ℕ) (p q stride count : ℕ) → length bytes ≤ p → length bytes ≤ q → signeds_at bytes p stride count ≡ signeds_at bytes q stride count
unfolding signeds_at signed_at_lem
past bytes p q stride zero hp hq = refl
past bytes p q stride (suc count) hp hq =
    ap₂ ◌∷◌
    (ap twos_complement_lem
    (sym (unsigned-outside 8 p bytes (lt-leb (p + 8) (length bytes) (omega arith)))
    ∙ unsigned-outside 8 q bytes (lt-leb (q + 8) (length bytes) (omega arith))))
    (past bytes (p + stride) (q + stride) stride count (omega arith) (omega arith))

-- a place past the end is as good as another
pub clamped : (bytes : List ℕ) (p end stride count : ℕ) → length bytes ≤ end → signeds_at bytes p stride count ≡ signeds_at bytes (min p end) stride count
clamped bytes p end stride count room = elim (leb p end) as (λ t. leb p end ≡ t → signeds_at bytes p stride count ≡ signeds_at bytes (min p end) stride count) [
  | true ↦ λ e. ap (λ (q : ℕ). signeds_at bytes q stride count) (within (leb-true p end e))
  | false ↦ λ e. past bytes p (min p end) stride count (over (leb-false p end e)) (last (leb-false p end e))
] refl
  where
    within : p ≤ end → p ≡ min p end
    within h = omega arith

    over : end < p → length bytes ≤ p
    over h = omega arith

    last : end < p → length bytes ≤ min p end
    last h = omega arith

-- one number more is stored
pub signeds-step : (bytes : List ℕ) (whole out : List ℤ) (next stride n i : ℕ) → i < length out → length out ≡ n
    → whole ≡ take i out ++ signeds_at bytes next stride (n - i)
    → whole ≡ take (i + 1) (set out i (signed_at_lem bytes next)) ++ signeds_at bytes (next + stride) stride (n - (i + 1))
unfolding signeds_at
signeds-step bytes whole out next stride n i h l e =
    e
    ∙ ap (λ (k : ℕ). take i out ++ signeds_at bytes next stride k) (one_left h l)
    ∙ sym (append_assoc (take i out) (signed_at_lem bytes next ∷ []) (signeds_at bytes (next + stride) stride (n - (i + 1))))
    ∙ ap (λ (x : List ℤ). x ++ signeds_at bytes (next + stride) stride (n - (i + 1))) (sym (stored h))
  where
    stored : i < length out → take (i + 1) (set out i (signed_at_lem bytes next)) ≡ take i out ++ signed_at_lem bytes next ∷ []
    stored h = rw add-one (take-suc-set out i (signed_at_lem bytes next) h)

    one_left : i < length out → length out ≡ n → n - i ≡ suc (n - (i + 1))
    one_left h l = omega arith

-- and the next place may be taken for another past the end, where it lies there
pub signeds-turn : (bytes : List ℕ) (whole out : List ℤ) (next end stride n i : ℕ) → length bytes ≤ end → i < length out → length out ≡ n
    → whole ≡ take i out ++ signeds_at bytes next stride (n - i)
    → whole ≡ take (i + 1) (set out i (signed_at_lem bytes next)) ++ signeds_at bytes (min (next + stride) end) stride (n - (i + 1))
signeds-turn bytes whole out next end stride n i room h l e =
    signeds-step bytes whole out next stride n i h l e
    ∙ ap (λ (x : List ℤ). take (i + 1) (set out i (signed_at_lem bytes next)) ++ x) (clamped bytes (next + stride) end stride (n - (i + 1)) room)

-- all are stored
pub signeds-done : (bytes : List ℕ) (whole out : List ℤ) (next stride n i : ℕ) → n ≤ i → length out ≡ n
    → whole ≡ take i out ++ signeds_at bytes next stride (n - i) → out ≡ whole
unfolding signeds_at
signeds-done bytes whole out next stride n i h l e =
    sym (e ∙ ap₂ ◌++◌ (take_all i out (omega arith)) (ap (λ (k : ℕ). signeds_at bytes next stride k) (none_left h)) ∙ append-nil out)
  where
    none_left : n ≤ i → n - i ≡ 0
    none_left h = omega arith

-- ---- the row by its places

pub length-signeds : (bytes : List ℕ) (at stride count : ℕ) → length (signeds_at bytes at stride count) ≡ count
unfolding signeds_at
length-signeds bytes at stride zero = refl
length-signeds bytes at stride (suc count) = ap suc (length-signeds bytes (at + stride) stride count)

pub signeds-at : (bytes : List ℕ) (at stride count j : ℕ) → j < count → get_or (signeds_at bytes at stride count) j (pos 0) ≡ signed_at_lem bytes (at + stride * j)
unfolding signeds_at
signeds-at bytes at stride zero j h = absurd (not-suc-le-zero h)
signeds-at bytes at stride (suc count) zero h = ap (signed_at_lem bytes) (omega arith)
signeds-at bytes at stride (suc count) (suc j) h = signeds-at bytes (at + stride) stride count j (le_of_suc-le-suc h) ∙ ap (signed_at_lem bytes) (omega arith)

-- ---- a row that lies whole within the bytes

-- where the last number lies, each does
pub row-places : (bytes at stride count : ℕ) → row_lies_lem bytes at stride count ≡ true → (i : ℕ) → i < count → at + stride * i + 8 ≤ bytes
unfolding row_lies_lem
row-places bytes at stride zero e i h = absurd (not-suc-le-zero h)
row-places bytes at stride (suc k) e i h =
    let before : stride * i ≤ stride * k = mul-le-mul_left stride (le_of_suc-le-suc h) in
    omega (arith, leb-true (at + stride * k + 8) bytes e)

pub row-empty : (bytes at stride count : ℕ) → count ≡ 0 → true ≡ row_lies_lem bytes at stride count
unfolding row_lies_lem
row-empty bytes at stride count e = rw e

-- where there are some, the last one tells
pub row-last : (bytes at stride count : ℕ) → 0 < count → leb (at + stride * (count - 1) + 8) bytes ≡ row_lies_lem bytes at stride count
unfolding row_lies_lem
row-last bytes at stride zero h = absurd (not-suc-le-zero h)
row-last bytes at stride (suc k) h = ap (λ (j : ℕ). leb (at + stride * j + 8) bytes) (sub-one (suc k))
