-- Numbers as bytes (specs/Encode.antt): how a writer goes on.
-- Assumes nothing.
use mathlib.Core.Path.{◌≡◌, refl, sym, ap, ap₂, ◌∙◌}
use mathlib.Core.List.{List, [], ◌∷◌, ◌++◌, append-nil}
use Prim.Native.Nat.{ℕ, zero, suc, ◌+◌, ◌-◌, ◌/◌, ◌%◌, ◌≤◌, ◌<◌}
use native.Mathlib.Numerals.{add-one}
use native.Mathlib.Omega.{arith}
use lib.IntN.{ℤ, pos, negsuc}
use lib.ListN.{length, take, set}
use lib.Seq.{take-suc-set, append_snoc, take_all}
use mir.Syntax.{w64}
use mir.Val.{of_z}
use Rattle.encode.specs.Encode.{little_bytes, pattern_of}

pub length-bytes : (width n : ℕ) → length (little_bytes width n) ≡ width
unfolding little_bytes
length-bytes zero n = refl
length-bytes (suc width) n = ap suc (length-bytes width (n / 256))

-- ---- a writer's turn

pub bytes-turn : (out : List ℕ) (n i rest : ℕ) → i < length out → length out ≡ n
    → take i out ++ little_bytes (n - i) rest ≡ take (i + 1) (set out i (rest % 256)) ++ little_bytes (n - (i + 1)) (rest / 256)
unfolding little_bytes
bytes-turn out n i rest h l =
    ap (λ (k : ℕ). take i out ++ little_bytes k rest) (more h)
    ∙ sym (append_snoc (take i out) (rest % 256) (little_bytes (n - (i + 1)) (rest / 256)))
    ∙ ap (λ (x : List ℕ). x ++ little_bytes (n - (i + 1)) (rest / 256)) (sym stored)
  where
    stored : take (i + 1) (set out i (rest % 256)) ≡ take i out ++ rest % 256 ∷ []
    stored = rw add-one (take-suc-set out i (rest % 256) h)

    more : i < length out → n - i ≡ suc (n - (i + 1))
    more h = omega arith

pub bytes-done : (out : List ℕ) (n i rest : ℕ) → n ≤ i → length out ≡ n → take i out ++ little_bytes (n - i) rest ≡ out
unfolding little_bytes
bytes-done out n i rest h l =
    ap₂ ◌++◌ (take_all i out (omega arith)) (ap (λ (k : ℕ). little_bytes k rest) (none h)) ∙ append-nil out
  where
    none : n ≤ i → n - i ≡ 0
    none h = omega arith

-- ---- the pattern

-- std's pattern of a signed number
pub pattern_is : (z : ℤ) → of_z w64 z ≡ pattern_of z
unfolding pattern_of
pattern_is (pos n) = refl
pattern_is (negsuc n) = omega arith
