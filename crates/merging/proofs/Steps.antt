-- Lines put among ascending ones (specs/Merge.antt), and that the lines which a walk over two lists passes are the merged ones.
-- Assumes nothing.
use mathlib.Core.Path.{◌≡◌, refl, sym, ap, subst, ◌∙◌}
use mathlib.Core.Bool.{true, false}
use mathlib.Core.List.{List, [], ◌∷◌, map}
use Prim.Native.Nat.{ℕ}
use Rattle.linefile.specs.Files.{keys, before}
use Rattle.linefile.proofs.Keys.{Order, below, level, above, order, before-asym}
use Rattle.linefile.proofs.Ascending.{Ascending, All, before-none, ascending-from}
use Rattle.linefile.specs.declared.step.Step.{Step}
use Rattle.linefile.specs.Walk.{line_of, steps}
use Rattle.linefile.proofs.Steps.{Unrefused, by-steps}
use Rattle.merging.specs.Merge.{inserted, merged}

-- ---- a line among others

pub all_inserted : (P : List ℕ → Type 0) (l : List ℕ) (ls : List (List ℕ)) → P l → All P ls → All P (inserted l ls)
unfolding inserted
all_inserted P l [] p a = (p, tt)
all_inserted P l (o ∷ os) p a = by_order (order (keys l) (keys o)) (all_inserted P l os p a.1)
  where
    by_order : Order (keys l) (keys o) → All P (inserted l os) → All P (inserted l (o ∷ os))
    by_order (below x y z) r = rw x (p, a)
    by_order (level e x y z) r = rw (x, y) (p, a.1)
    by_order (above x y z) r = rw (y, x) (a.0, r)

pub inserted-ascends : (k l : List ℕ) (ls : List (List ℕ)) → before k (keys l) ≡ true → Ascending k ls → Ascending k (inserted l ls)
unfolding inserted
inserted-ascends k l [] h a = (h, tt)
inserted-ascends k l (o ∷ os) h a = by_order (order (keys l) (keys o)) (inserted-ascends (keys o) l os)
  where
    by_order : Order (keys l) (keys o) → (before (keys o) (keys l) ≡ true → Ascending (keys o) os → Ascending (keys o) (inserted l os)) → Ascending k (inserted l (o ∷ os))
    by_order (below x y z) r = rw x (h, (x, a.1))
    by_order (level e x y z) r = rw (x, y) (h, subst (λ (j : List ℕ). Ascending j os) (sym e) a.1)
    by_order (above x y z) r = rw (y, x) (a.0, r x a.1)

-- one before all others is put in front
pub inserted-first : (l : List ℕ) (ls : List (List ℕ)) → Ascending (keys l) ls → inserted l ls ≡ l ∷ ls
unfolding inserted
inserted-first l [] a = refl
inserted-first l (o ∷ os) a = rw a.0

-- ---- the lines of both

pub all-merged : (P : List ℕ → Type 0) (xs ys : List (List ℕ)) → All P xs → All P ys → All P (merged xs ys)
unfolding merged
all-merged P [] ys a b = b
all-merged P (x ∷ xs) ys a b = all_inserted P x (merged xs ys) a.0 (all-merged P xs ys a.1 b)

pub merged-ascends : (k : List ℕ) (xs ys : List (List ℕ)) → Ascending k xs → Ascending k ys → Ascending k (merged xs ys)
unfolding merged
merged-ascends k [] ys a b = b
merged-ascends k (x ∷ xs) ys a b =
    inserted-ascends k x (merged xs ys) a.0 (merged-ascends k xs ys (ascending-from k (keys x) xs a.0 a.1) b)

pub merged-nothing : (k : List ℕ) (xs : List (List ℕ)) → Ascending k xs → merged xs [] ≡ xs
unfolding merged
merged-nothing k [] a = refl
merged-nothing k (x ∷ xs) a =
    ap (inserted x) (merged-nothing (keys x) xs a.1) ∙ inserted-first x xs a.1

-- a line of the second list before all of the first is put in front
merged-under : (y : List ℕ) (xs ys : List (List ℕ)) → Ascending (keys y) xs → merged xs (y ∷ ys) ≡ y ∷ merged xs ys
unfolding merged inserted
merged-under y [] ys a = refl
merged-under y (x ∷ xs) ys a =
    ap (inserted x) (merged-under y xs ys (ascending-from (keys y) (keys x) xs a.0 a.1))
    ∙ rw (before-asym (keys y) (keys x) a.0, a.0)

-- ---- the first of two lines

module _ (x y : List ℕ) (xs ys : List (List ℕ)) (ax : Ascending (keys x) xs) (ay : Ascending (keys y) ys) where
  below-merged : before (keys x) (keys y) ≡ true → merged (x ∷ xs) (y ∷ ys) ≡ x ∷ merged xs (y ∷ ys)
  unfolding merged
  below-merged h = inserted-first x (merged xs (y ∷ ys)) (merged-ascends (keys x) xs (y ∷ ys) ax (h, ay))

  above-merged : before (keys y) (keys x) ≡ true → merged (x ∷ xs) (y ∷ ys) ≡ y ∷ merged (x ∷ xs) ys
  above-merged h = merged-under y (x ∷ xs) ys (h, ax)

  pub level-merged : keys x ≡ keys y → before (keys x) (keys y) ≡ false → before (keys y) (keys x) ≡ false
      → merged (x ∷ xs) (y ∷ ys) ≡ x ∷ merged xs ys
  unfolding merged inserted
  level-merged e p q =
      ap (inserted x) (merged-under y xs ys (subst (λ (k : List ℕ). Ascending k xs) e ax)) ∙ rw (p, q)

-- ---- a walk

seconds-lines : (ys : List (List ℕ)) → map line_of (map Step.Second ys) ≡ ys
seconds-lines [] = refl
seconds-lines (y ∷ ys) = ap (λ (t : List (List ℕ)). y ∷ t) (seconds-lines ys)

-- the lines that its steps pass are the merged ones
pub merged-steps : (xs ys : List (List ℕ)) → Unrefused xs → Unrefused ys → merged xs ys ≡ map line_of (steps xs ys)
unfolding merged
merged-steps =
    by-steps {P = λ xs ys ss. merged xs ys ≡ map line_of ss}
    (record {
      seconds = λ ys. sym (seconds-lines ys);
      firsts = λ x xs ss a h. merged-nothing [] (x ∷ xs) (before-none x, a) ∙ ap (λ (t : List (List ℕ)). x ∷ t) (sym (merged-nothing (keys x) xs a) ∙ h);
      first = λ x y xs ys ss a b p h. below-merged x y xs ys a b p ∙ ap (λ (t : List (List ℕ)). x ∷ t) h;
      second = λ x y xs ys ss a b p h. above-merged x y xs ys a b p ∙ ap (λ (t : List (List ℕ)). y ∷ t) h;
      both = λ x y xs ys ss a b e f g p q r h. level-merged x y xs ys a b g p q ∙ ap (λ (t : List (List ℕ)). x ∷ t) h;
    })
