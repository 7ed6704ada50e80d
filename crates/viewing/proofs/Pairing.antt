-- The pairs of two files (specs/View.antt): those of two lists behind each other, whichever file is the first, those of a file with itself, and that no line is in two of them.
-- Assumes nothing.
use mathlib.Core.Path.{◌≡◌, refl, sym, ap, ap₂, subst, ◌∙◌}
use mathlib.Core.Bool.{Bool, true, false, cond}
use mathlib.Core.List.{List, [], ◌∷◌, ◌++◌, map}
use Prim.Native.Nat.{ℕ, ◌+◌, ◌≤◌, zero-le}
use native.Mathlib.Nat.{le_trans}
use native.Mathlib.Omega.{arith}
use lib.Dec.{eqb}
use lib.IntN.{ℤ, pos, neg_ℤ, ◌-ℤ◌, +ℤ_invr}
use lib.ListN.{length, replicate}
use borrow.Author.Tests.{eq-eqb}
use Rattle.whole.proofs.Ring.{sub-turned}
use Rattle.limits.proofs.Laws.{eqb-turned}
use Rattle.linefile.specs.Files.{keys, same}
use Rattle.linefile.specs.Partners.{partners_of, partners}
use Rattle.viewing.specs.View.{trkl_of, refsys_of, same_trkl, differences}
use Rattle.linefile.proofs.Keys.{Order, below, level, above, order}
use Rattle.linefile.proofs.Ascending.{Ascending, all-behind}
use Rattle.linefile.proofs.Partners.{exchanged, partners-none, partners-exchanged}
use Rattle.linefile.proofs.Holding.{times, times-append, ascending-few}

-- ---- some pairs and more

pub view-append : (ps qs : List (List ℕ × List ℕ)) → differences (same_trkl (ps ++ qs)) ≡ differences (same_trkl ps) ++ differences (same_trkl qs)
unfolding same_trkl differences
view-append [] qs = refl
view-append ((x, y) ∷ ps) qs = by-test (eqb (trkl_of x) (trkl_of y)) (view-append ps qs)
  where
    by-test : (b : Bool) → differences (same_trkl (ps ++ qs)) ≡ differences (same_trkl ps) ++ differences (same_trkl qs)
        → differences (cond b ((x, y) ∷ []) [] ++ same_trkl (ps ++ qs)) ≡ differences (cond b ((x, y) ∷ []) [] ++ same_trkl ps) ++ differences (same_trkl qs)
    by-test true h = ap (λ (t : List ℤ). (refsys_of x -ℤ refsys_of y) ∷ t) h
    by-test false h = h

-- ---- whichever is the first

pub trkl-exchanged : (ps : List (List ℕ × List ℕ)) → same_trkl (map exchanged ps) ≡ map exchanged (same_trkl ps)
unfolding same_trkl
trkl-exchanged [] = refl
trkl-exchanged ((x, y) ∷ ps) =
    ap₂ (λ (b : Bool) (t : List (List ℕ × List ℕ)). cond b ((y, x) ∷ []) [] ++ t) (eqb-turned (trkl_of y) (trkl_of x)) (trkl-exchanged ps)
    ∙ by-test (eqb (trkl_of x) (trkl_of y))
  where
    by-test : (b : Bool) → cond b ((y, x) ∷ []) [] ++ map exchanged (same_trkl ps) ≡ map exchanged (cond b ((x, y) ∷ []) [] ++ same_trkl ps)
    by-test true = refl
    by-test false = refl

pub differences-exchanged : (ps : List (List ℕ × List ℕ)) → differences (map exchanged ps) ≡ map neg_ℤ (differences ps)
unfolding differences
differences-exchanged [] = refl
differences-exchanged ((x, y) ∷ ps) = ap₂ ◌∷◌ (sub-turned (refsys_of y) (refsys_of x)) (differences-exchanged ps)

-- ---- a file with itself

pub differences-itself : (xs : List (List ℕ)) → differences (same_trkl (map (λ x. (x, x)) xs)) ≡ replicate (length xs) (pos 0)
unfolding same_trkl differences
differences-itself [] = refl
differences-itself (x ∷ xs) =
    ap (λ (b : Bool). differences (cond b ((x, x) ∷ []) [] ++ same_trkl (map (λ x. (x, x)) xs))) (eq-eqb (trkl_of x) (trkl_of x) refl)
    ∙ ap₂ ◌∷◌ (+ℤ_invr (refsys_of x)) (differences-itself xs)

-- ---- no line is in two pairs

-- the first lines of pairs, and the second ones
abbrev pub firsts : List (List ℕ × List ℕ) → List (List ℕ)
firsts ps = map (λ p. p.0) ps

abbrev pub seconds : List (List ℕ × List ℕ) → List (List ℕ)
seconds ps = map (λ p. p.1) ps

seconds-is : (ps : List (List ℕ × List ℕ)) → seconds ps ≡ firsts (map exchanged ps)
seconds-is [] = refl
seconds-is (p ∷ ps) = ap (λ (t : List (List ℕ)). p.1 ∷ t) (seconds-is ps)

firsts-append : (ps qs : List (List ℕ × List ℕ)) → firsts (ps ++ qs) ≡ firsts ps ++ firsts qs
firsts-append [] qs = refl
firsts-append (p ∷ ps) qs = ap (λ (t : List (List ℕ)). p.0 ∷ t) (firsts-append ps qs)

-- lines that ascend have one partner of a line, or none
partners-few : (x k : List ℕ) (ys : List (List ℕ)) → Ascending k ys → (l : List ℕ) → times l (firsts (partners_of x ys)) ≤ cond (same l x) 1 0
unfolding partners_of times
partners-few x k [] a l = zero-le
partners-few x k (y ∷ ys) a l = by_order (order (keys x) (keys y)) (partners-few x (keys y) ys a.1 l)
  where
    by_order : Order (keys x) (keys y) → times l (firsts (partners_of x ys)) ≤ cond (same l x) 1 0
        → times l (firsts (cond (same (keys x) (keys y)) ((x, y) ∷ []) [] ++ partners_of x ys)) ≤ cond (same l x) 1 0
    by_order (below p q r) h = rw r h
    by_order (level e p q r) h =
        rw (r, partners-none x ys (all-behind (keys x) ys (subst (λ (k : List ℕ). Ascending k ys) (sym e) a.1))) (one (cond (same l x) 1 0))
      where
        one : (n : ℕ) → n + 0 ≤ n
        one n = omega arith
    by_order (above p q r) h = rw r h

firsts-few : (k : List ℕ) (xs ys : List (List ℕ)) → Ascending k ys → (l : List ℕ) → times l (firsts (partners xs ys)) ≤ times l xs
unfolding partners times
firsts-few k [] ys a l = zero-le
firsts-few k (x ∷ xs) ys a l =
    let s = ap (times l) (firsts-append (partners_of x ys) (partners xs ys)) ∙ times-append l (firsts (partners_of x ys)) (firsts (partners xs ys)) in
    let p = partners-few x k ys a l in
    let q = firsts-few k xs ys a l in
    omega (arith, s, p, q)

-- those of the same TRKL are some of them
trkl-few : (l : List ℕ) (ps : List (List ℕ × List ℕ)) → times l (firsts (same_trkl ps)) ≤ times l (firsts ps)
unfolding same_trkl times
trkl-few l [] = zero-le
trkl-few l ((x, y) ∷ ps) = by-test (eqb (trkl_of x) (trkl_of y)) (trkl-few l ps)
  where
    by-test : (b : Bool) → times l (firsts (same_trkl ps)) ≤ times l (firsts ps)
        → times l (firsts (cond b ((x, y) ∷ []) [] ++ same_trkl ps)) ≤ cond (same l x) 1 0 + times l (firsts ps)
    by-test true h = omega arith
    by-test false h = omega arith

pub firsts-once : (j k : List ℕ) (xs ys : List (List ℕ)) → Ascending j xs → Ascending k ys → (l : List ℕ) → times l (firsts (same_trkl (partners xs ys))) ≤ 1
firsts-once j k xs ys a b l =
    le_trans (trkl-few l (partners xs ys)) (le_trans (firsts-few k xs ys b l) (ascending-few l j xs a))

pub seconds-once : (j k : List ℕ) (xs ys : List (List ℕ)) → Ascending j xs → Ascending k ys → (l : List ℕ) → times l (seconds (same_trkl (partners xs ys))) ≤ 1
seconds-once j k xs ys a b l =
    subst (λ (t : List (List ℕ)). times l t ≤ 1)
    (sym (seconds-is (same_trkl (partners xs ys)) ∙ ap firsts (sym (trkl-exchanged (partners xs ys)) ∙ ap same_trkl (sym (partners-exchanged j k xs ys a b)))))
    (firsts-once k j ys xs b a l)
