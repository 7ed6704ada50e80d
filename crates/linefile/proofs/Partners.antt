-- Lines of two ascending lists that share their keys (specs/Partners.antt): what the first line of each list has to do with them, that they are the
-- same whichever list is the first, and those of a list with itself.
-- Assumes nothing.
use mathlib.Core.Path.{◌≡◌, refl, sym, ap, ap₂, subst, ◌∙◌}
use mathlib.Core.Bool.{true, false, true≢false}
use mathlib.Core.List.{List, [], ◌∷◌, ◌++◌, map}
use Prim.Native.Nat.{ℕ, zero, suc, ◌+◌, ◌≤◌}
use native.Mathlib.Nat.{le_refl}
use native.Mathlib.Omega.{arith}
use lib.ListN.{length}
use Rattle.linefile.specs.Files.{same, keys, before}
use Rattle.linefile.specs.Partners.{partners_of, partners}
use Rattle.linefile.proofs.Keys.{same_refl, Order, below, level, above, order, before-apart}
use Rattle.linefile.proofs.Ascending.{Ascending, All, Behind, all_map, all-behind}

-- A line with other keys than this one.
abbrev Apart : (y x : List ℕ) → Type 0
Apart y x = same (keys x) (keys y) ≡ false

pub partners-none : (x : List ℕ) (ys : List (List ℕ)) → All (Behind (keys x)) ys → partners_of x ys ≡ []
unfolding partners_of
partners-none x [] a = refl
partners-none x (y ∷ ys) a = rw (before-apart (keys x) (keys y) a.0) (partners-none x ys a.1)

partners-under : (y : List ℕ) (xs ys : List (List ℕ)) → All (Apart y) xs → partners xs (y ∷ ys) ≡ partners xs ys
unfolding partners partners_of
partners-under y [] ys a = refl
partners-under y (x ∷ xs) ys a = rw a.0 (ap (λ (t : List (List ℕ × List ℕ)). partners_of x ys ++ t) (partners-under y xs ys a.1))

pub partners-nothing : (xs : List (List ℕ)) → partners xs [] ≡ []
unfolding partners partners_of
partners-nothing [] = refl
partners-nothing (x ∷ xs) = partners-nothing xs

apart-behind : (y : List ℕ) (xs : List (List ℕ)) → Ascending (keys y) xs → All (Apart y) xs
apart-behind y xs a =
    all_map (Behind (keys y)) (Apart y) (λ x h. flip x (order (keys x) (keys y)) h) xs (all-behind (keys y) xs a)
  where
    flip : (x : List ℕ) → Order (keys x) (keys y) → before (keys y) (keys x) ≡ true → same (keys x) (keys y) ≡ false
    flip x (below p q r) h = r
    flip x (level e p q r) h = absurd (true≢false (sym h ∙ q))
    flip x (above p q r) h = r

-- ---- the first lines of two lists

module _ (x y : List ℕ) (xs ys : List (List ℕ)) (ax : Ascending (keys x) xs) (ay : Ascending (keys y) ys) where
  pub below-partners : before (keys x) (keys y) ≡ true → partners (x ∷ xs) (y ∷ ys) ≡ partners xs (y ∷ ys)
  unfolding partners
  below-partners h =
      ap (λ (t : List (List ℕ × List ℕ)). t ++ partners xs (y ∷ ys)) (partners-none x (y ∷ ys) (all-behind (keys x) (y ∷ ys) (h, ay)))

  pub above-partners : before (keys y) (keys x) ≡ true → partners (x ∷ xs) (y ∷ ys) ≡ partners (x ∷ xs) ys
  above-partners h = partners-under y (x ∷ xs) ys (apart-behind y (x ∷ xs) (h, ax))

  pub level-partners : keys x ≡ keys y → same (keys x) (keys y) ≡ true → partners (x ∷ xs) (y ∷ ys) ≡ (x, y) ∷ partners xs ys
  unfolding partners partners_of
  level-partners e s =
      rw s
      (ap₂ (λ (t u : List (List ℕ × List ℕ)). (x, y) ∷ (t ++ u))
      (partners-none x ys (all-behind (keys x) ys (subst (λ (k : List ℕ). Ascending k ys) (sym e) ay)))
      (partners-under y xs ys (apart-behind y xs (subst (λ (k : List ℕ). Ascending k xs) e ax))))

-- ---- whichever is the first

abbrev pub exchanged : List ℕ × List ℕ → List ℕ × List ℕ
exchanged p = (p.1, p.0)

-- by so many lines at most in both lists
exchanged-in : (most : ℕ) (j k : List ℕ) (xs ys : List (List ℕ)) → length xs + length ys ≤ most → Ascending j xs → Ascending k ys
    → partners ys xs ≡ map exchanged (partners xs ys)
unfolding partners
exchanged-in most j k [] ys h a b = partners-nothing ys
exchanged-in most j k (x ∷ xs) [] h a b = sym (ap (map exchanged) (partners-nothing (x ∷ xs)))
exchanged-in zero j k (x ∷ xs) (y ∷ ys) h a b = absurd (none (length xs) (length (y ∷ ys)) h)
  where
    none : (m n : ℕ) → suc m + n ≤ 0 → ⊥
    none m n h = omega arith
exchanged-in (suc most) j k (x ∷ xs) (y ∷ ys) h a b =
    by_order (order (keys x) (keys y))
    (exchanged-in most (keys x) k xs (y ∷ ys) (first (length xs) (length ys) h) a.1 b)
    (exchanged-in most (keys x) (keys y) xs ys (both (length xs) (length ys) h) a.1 b.1)
    (exchanged-in most j (keys y) (x ∷ xs) ys (second (length xs) (length ys) h) a b.1)
  where
    first : (m n : ℕ) → suc m + suc n ≤ suc most → m + suc n ≤ most
    first m n h = omega arith

    second : (m n : ℕ) → suc m + suc n ≤ suc most → suc m + n ≤ most
    second m n h = omega arith

    both : (m n : ℕ) → suc m + suc n ≤ suc most → m + n ≤ most
    both m n h = omega arith

    by_order : Order (keys x) (keys y) → partners (y ∷ ys) xs ≡ map exchanged (partners xs (y ∷ ys)) → partners ys xs ≡ map exchanged (partners xs ys)
        → partners ys (x ∷ xs) ≡ map exchanged (partners (x ∷ xs) ys) → partners (y ∷ ys) (x ∷ xs) ≡ map exchanged (partners (x ∷ xs) (y ∷ ys))
    by_order (below p q r) u v w =
        above-partners y x ys xs b.1 a.1 p ∙ u ∙ ap (map exchanged) (sym (below-partners x y xs ys a.1 b.1 p))
    by_order (level e p q r) u v w =
        level-partners y x ys xs b.1 a.1 (sym e) (subst (λ (k : List ℕ). same k (keys x) ≡ true) e (same_refl (keys x)))
        ∙ ap (λ (t : List (List ℕ × List ℕ)). (y, x) ∷ t) v
        ∙ ap (map exchanged) (sym (level-partners x y xs ys a.1 b.1 e r))
    by_order (above p q r) u v w =
        below-partners y x ys xs b.1 a.1 p ∙ w ∙ ap (map exchanged) (sym (above-partners x y xs ys a.1 b.1 p))

pub partners-exchanged : (j k : List ℕ) (xs ys : List (List ℕ)) → Ascending j xs → Ascending k ys → partners ys xs ≡ map exchanged (partners xs ys)
partners-exchanged j k xs ys a b = exchanged-in (length xs + length ys) j k xs ys (le_refl _) a b

-- ---- a list with itself

pub partners-itself : (k : List ℕ) (xs : List (List ℕ)) → Ascending k xs → partners xs xs ≡ map (λ x. (x, x)) xs
unfolding partners
partners-itself k [] a = refl
partners-itself k (x ∷ xs) a =
    level-partners x x xs xs a.1 a.1 refl (same_refl (keys x)) ∙ ap (λ (t : List (List ℕ × List ℕ)). (x, x) ∷ t) (partners-itself (keys x) xs a.1)
