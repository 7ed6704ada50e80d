-- The verdict on a day's blocks (specs/Day.antt): what the first of them does to it, and that it has no refusal just where each block is accepted
-- and follows its forerunner.
-- Assumes nothing.
use mathlib.Core.Path.{◌≡◌, refl, sym, ap, ◌∙◌}
use mathlib.Core.Bool.{Bool, true, false, not}
use mathlib.Core.List.{List, [], ◌∷◌, ◌++◌}
use Prim.Native.Nat.{ℕ, suc, ◌+◌}
use native.Mathlib.Omega.{arith}
use lib.Dec.{eqb}
use lib.ListN.{length}
use borrow.Author.Tests.{eqb-true, eqb-false, eq-eqb, ne_eqb, not-false}
use Rattle.limits.specs.Refusal.{◌when◌}
use Rattle.limits.proofs.Laws.{then-zero, then-passed, when-zero}
use Rattle.line.specs.Block.{block_number}
use Rattle.linefile.specs.Files.{keys_of, before}
use Rattle.linefile.proofs.Ascending.{All}
use Rattle.day.specs.Day.{block_keys, behind_number, Verdict, judged}

pub judged-passed : (last : List ℕ) (index : ℕ) (b : List ℕ) (rest : List (List ℕ)) → behind_number last b ≡ 0
    → judged last index (b ∷ rest) ≡ judged (block_keys b) (index + 1) rest
unfolding judged
judged-passed last index b rest e = rw (eq-eqb (behind_number last b) 0 e)

pub judged-refused : (last : List ℕ) (index : ℕ) (b : List ℕ) (rest : List (List ℕ)) → (behind_number last b ≡ 0 → ⊥)
    → judged last index (b ∷ rest) ≡ record { refusal = behind_number last b; block = index }
unfolding judged
judged-refused last index b rest h = rw (ne_eqb (behind_number last b) 0 h)

-- where none is refused, the number of blocks is named
pub judged-count : (last : List ℕ) (index : ℕ) (bs : List (List ℕ)) → (judged last index bs).refusal ≡ 0 → (judged last index bs).block ≡ index + length bs
unfolding judged
judged-count last index [] e = omega arith
judged-count last index (b ∷ bs) e = by-test (eqb (behind_number last b) 0) refl (judged-count (block_keys b) (index + 1) bs)
  where
    by-test : (t : Bool) → eqb (behind_number last b) 0 ≡ t
        → ((judged (block_keys b) (index + 1) bs).refusal ≡ 0 → (judged (block_keys b) (index + 1) bs).block ≡ index + 1 + length bs)
        → (judged last index (b ∷ bs)).block ≡ index + suc (length bs)
    by-test true f k =
        let p = judged-passed last index b bs (eqb-true _ 0 f) in
        ap (λ (v : Verdict). v.block) p ∙ more (k (sym (ap (λ (v : Verdict). v.refusal) p) ∙ e))
      where
        more : {k : ℕ} → k ≡ index + 1 + length bs → k ≡ index + suc (length bs)
        more h = omega arith
    by-test false f k =
        absurd (eqb-false _ 0 f (sym (ap (λ (v : Verdict). v.refusal) (judged-refused last index b bs (eqb-false _ 0 f))) ∙ e))

-- ---- no refusal

abbrev pub AcceptedBlock : List ℕ → Type 0
AcceptedBlock b = block_number b ≡ 0

-- Each block follows its forerunner, the first one keys `last`.
abbrev pub Ascends : (last : List ℕ) → List (List ℕ) → Type 0
Ascends last [] = Unit {0}
Ascends last (b ∷ bs) = (before last (block_keys b) ≡ true) × Ascends (block_keys b) bs

first-passed : (last : List ℕ) (i : ℕ) (b : List ℕ) (bs : List (List ℕ)) → (judged last i (b ∷ bs)).refusal ≡ 0 → behind_number last b ≡ 0
first-passed last i b bs e = by-test (eqb (behind_number last b) 0) refl
  where
    by-test : (t : Bool) → eqb (behind_number last b) 0 ≡ t → behind_number last b ≡ 0
    by-test true f = eqb-true _ 0 f
    by-test false f = sym (ap (λ (v : Verdict). v.refusal) (judged-refused last i b bs (eqb-false _ 0 f))) ∙ e

pub all-accepted : (last : List ℕ) (i : ℕ) (bs : List (List ℕ)) → (judged last i bs).refusal ≡ 0 → All AcceptedBlock bs × Ascends last bs
all-accepted last i [] e = (tt, tt)
all-accepted last i (b ∷ bs) e =
    let p = first-passed last i b bs e in
    let t = then-zero _ _ p in
    let r = all-accepted (block_keys b) (i + 1) bs (sym (ap (λ (v : Verdict). v.refusal) (judged-passed last i b bs p)) ∙ e) in
    ((t.0, r.0), (not-false _ (when-zero 15 _ t.1), r.1))

follows : (last b : List ℕ) → AcceptedBlock b → before last (block_keys b) ≡ true → behind_number last b ≡ 0
unfolding ◌when◌
follows last b a h = then-passed _ _ a ∙ ap (λ (t : Bool). 16 when not t) h

pub accepted-all : (last : List ℕ) (i : ℕ) (bs : List (List ℕ)) → All AcceptedBlock bs → Ascends last bs → (judged last i bs).refusal ≡ 0
unfolding judged
accepted-all last i [] a h = refl
accepted-all last i (b ∷ bs) a h =
    ap (λ (v : Verdict). v.refusal) (judged-passed last i b bs (follows last b a.0 h.0))
    ∙ accepted-all (block_keys b) (i + 1) bs a.1 h.1

-- ---- of some blocks and more

-- the first of them follows where none stands before it
pub first-follows : (b : List ℕ) → before [] (block_keys b) ≡ true
unfolding before keys_of
first-follows b = refl

ascends-any : (last : List ℕ) (bs : List (List ℕ)) → Ascends last bs → Ascends [] bs
ascends-any last [] h = tt
ascends-any last (b ∷ bs) h = (first-follows b, h.1)

pub apart : (last : List ℕ) (xs ys : List (List ℕ)) → All AcceptedBlock (xs ++ ys) → Ascends last (xs ++ ys)
    → (All AcceptedBlock xs × Ascends last xs) × (All AcceptedBlock ys × Ascends [] ys)
apart last [] ys a h = ((tt, tt), (a, ascends-any last ys h))
apart last (x ∷ xs) ys a h =
    let r = apart (block_keys x) xs ys a.1 h.1 in (((a.0, r.0.0), (h.0, r.0.1)), r.1)

-- two parts that have one block in common
pub overlapped : (last : List ℕ) (xs : List (List ℕ)) (b : List ℕ) (ys : List (List ℕ)) → All AcceptedBlock (xs ++ b ∷ []) → Ascends last (xs ++ b ∷ [])
    → All AcceptedBlock (b ∷ ys) → Ascends [] (b ∷ ys) → All AcceptedBlock (xs ++ b ∷ ys) × Ascends last (xs ++ b ∷ ys)
overlapped last [] b ys a h c k = (c, (h.0, k.1))
overlapped last (x ∷ xs) b ys a h c k =
    let r = overlapped (block_keys x) xs b ys a.1 h.1 c k in ((a.0, r.0), (h.0, r.1))
