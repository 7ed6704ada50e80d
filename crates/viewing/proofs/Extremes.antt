-- The smallest and the largest of some differences, and how their sum lies between (specs/View.antt). One law serves both: it is over the choice that
-- is made of two, and the order in which the chosen one stands before the other.
-- Assumes nothing.
use mathlib.Core.Path.{◌≡◌, refl, sym, ap, subst, ◌∙◌}
use mathlib.Core.Bool.{Bool, true, false, cond}
use mathlib.Core.List.{List, [], ◌∷◌, map}
use mathlib.Core.Logic.{◌⊎◌, inl, inr}
use Prim.Native.Nat.{ℕ, suc}
use native.Mathlib.Numerals.{one-add}
use native.Mathlib.Omega.{arith}
use lib.IntN.{ℤ, pos, neg_ℤ, ◌+ℤ◌, ◌*ℤ◌, neg_ℤ-+ℤ, pos-+ℤ-pos}
use lib.Signed.{◌≤ℤ◌, lt_z, clash_ℤ}
use lib.ListN.{length}
use Rattle.whole.proofs.Order.{le_refl, le_trans, le_of_lt, from-lt, from-not-lt, add-le}
use Rattle.whole.proofs.Identity.{identity, quote}
use Rattle.whole.proofs.Linear.{le-by, le_is}
use Rattle.viewing.specs.View.{sum_of, smaller, larger, chosen, extreme}
use Rattle.linefile.proofs.Ascending.{All}

-- A number is one of these.
abbrev pub Among : ℤ → List ℤ → Type 0
Among e [] = ⊥
Among e (d ∷ ds) = (e ≡ d) ⊎ Among e ds

-- ---- over the choice

module _ (choose : ℤ → ℤ → ℤ) (R : ℤ → ℤ → Type 0) (same : (d : ℤ) → R d d) (trans : (x y z : ℤ) → R x y → R y z → R x z)
    (left : (d e : ℤ) → R (choose d e) d) (right : (d e : ℤ) → R (choose d e) e) (one : (d e : ℤ) → (choose d e ≡ d) ⊎ (choose d e ≡ e)) where
  chosen-first : (d : ℤ) (ds : List ℤ) → All (R (chosen choose d ds)) (d ∷ ds)
  unfolding chosen
  chosen-first d [] = (same d, tt)
  chosen-first d (e ∷ ds) =
      let p = chosen-first (choose d e) ds in (trans _ _ _ p.0 (left d e), (trans _ _ _ p.0 (right d e), p.1))

  chosen-among : (d : ℤ) (ds : List ℤ) → Among (chosen choose d ds) (d ∷ ds)
  unfolding chosen
  chosen-among d [] = inl refl
  chosen-among d (e ∷ ds) = by_place (chosen-among (choose d e) ds) (one d e)
    where
      by_place : Among (chosen choose (choose d e) ds) (choose d e ∷ ds) → (choose d e ≡ d) ⊎ (choose d e ≡ e)
          → Among (chosen choose (choose d e) ds) (d ∷ e ∷ ds)
      by_place (inl p) (inl q) = inl (p ∙ q)
      by_place (inl p) (inr q) = inr (inl (p ∙ q))
      by_place (inr p) q = inr (inr p)

  -- the extreme is one of them, and stands before all
  pub extreme-is : (d : ℤ) (ds : List ℤ) → Among (extreme choose (d ∷ ds)) (d ∷ ds) × All (R (extreme choose (d ∷ ds))) (d ∷ ds)
  unfolding extreme
  extreme-is d ds = (chosen-among d ds, chosen-first d ds)

  module _ (add : (x y u v : ℤ) → R x y → R u v → R (x +ℤ u) (y +ℤ v)) where
    sum-before : (b : ℤ) (ds : List ℤ) → All (R b) ds → R (b *ℤ pos (length ds)) (sum_of ds)
    unfolding sum_of
    sum-before b [] a = subst (λ (z : ℤ). R z (pos 0)) (sym (none b)) (same (pos 0))
      where
        none : (b : ℤ) → b *ℤ pos 0 ≡ pos 0
        none b = identity (b ∷ []) (search quote depth 20) tt
    sum-before b (d ∷ ds) a =
        subst (λ (z : ℤ). R z (d +ℤ sum_of ds)) (sym (one_more b (length ds))) (add _ _ _ _ a.0 (sum-before b ds a.1))
      where
        spread : (b n : ℤ) → b *ℤ (pos 1 +ℤ n) ≡ b +ℤ b *ℤ n
        spread b n = identity (b ∷ n ∷ []) (search quote depth 20) tt

        one_more : (b : ℤ) (n : ℕ) → b *ℤ pos (suc n) ≡ b +ℤ b *ℤ pos n
        one_more b n = ap (λ (z : ℤ). b *ℤ z) (sym (pos-+ℤ-pos 1 n ∙ ap pos (one-add n))) ∙ spread b (pos n)

    pub extreme-sum : (ds : List ℤ) → R (extreme choose ds *ℤ pos (length ds)) (sum_of ds)
    unfolding sum_of extreme
    extreme-sum [] = same (pos 0)
    extreme-sum (d ∷ ds) = sum-before (extreme choose (d ∷ ds)) (d ∷ ds) (extreme-is d ds).1

-- ---- the two choices

-- what is chosen by a test is one of the two, and stands before both where the test goes by the order
module _ (R : ℤ → ℤ → Type 0) (same : (d : ℤ) → R d d) (test : ℤ → ℤ → Bool) (yes : (d e : ℤ) → test d e ≡ true → R e d) (no : (d e : ℤ) → test d e ≡ false → R d e) where
  by-test-left : (d e : ℤ) → R (cond (test d e) e d) d
  by-test-left d e = go (test d e) refl
    where
      go : (b : Bool) → test d e ≡ b → R (cond b e d) d
      go true t = yes d e t
      go false t = same d

  by-test-right : (d e : ℤ) → R (cond (test d e) e d) e
  by-test-right d e = go (test d e) refl
    where
      go : (b : Bool) → test d e ≡ b → R (cond b e d) e
      go true t = same e
      go false t = no d e t

  by-test-one : (d e : ℤ) → (cond (test d e) e d ≡ d) ⊎ (cond (test d e) e d ≡ e)
  by-test-one d e = go (test d e)
    where
      go : (b : Bool) → (cond b e d ≡ d) ⊎ (cond b e d ≡ e)
      go true = inr refl
      go false = inl refl

abbrev After : ℤ → ℤ → Type 0
After d e = e ≤ℤ d

pub smallest-is : (d : ℤ) (ds : List ℤ) → Among (extreme smaller (d ∷ ds)) (d ∷ ds) × All (λ e. extreme smaller (d ∷ ds) ≤ℤ e) (d ∷ ds)
unfolding smaller
smallest-is =
    extreme-is smaller ◌≤ℤ◌ le_refl (λ x y z p q. le_trans p q)
    (by-test-left ◌≤ℤ◌ le_refl (λ d e. lt_z e d) (λ d e t. le_of_lt (from-lt e d t)) (λ d e t. from-not-lt e d t))
    (by-test-right ◌≤ℤ◌ le_refl (λ d e. lt_z e d) (λ d e t. le_of_lt (from-lt e d t)) (λ d e t. from-not-lt e d t))
    (by-test-one ◌≤ℤ◌ le_refl (λ d e. lt_z e d) (λ d e t. le_of_lt (from-lt e d t)) (λ d e t. from-not-lt e d t))

pub largest-is : (d : ℤ) (ds : List ℤ) → Among (extreme larger (d ∷ ds)) (d ∷ ds) × All (λ e. e ≤ℤ extreme larger (d ∷ ds)) (d ∷ ds)
unfolding larger
largest-is =
    extreme-is larger After le_refl (λ x y z p q. le_trans q p)
    (by-test-left After le_refl lt_z (λ d e t. le_of_lt (from-lt d e t)) from-not-lt)
    (by-test-right After le_refl lt_z (λ d e t. le_of_lt (from-lt d e t)) from-not-lt)
    (by-test-one After le_refl lt_z (λ d e t. le_of_lt (from-lt d e t)) from-not-lt)

-- the sum lies between as many times the smallest and as many times the largest
pub smallest-sum : (ds : List ℤ) → (extreme smaller ds *ℤ pos (length ds)) ≤ℤ sum_of ds
unfolding smaller
smallest-sum =
    extreme-sum smaller ◌≤ℤ◌ le_refl (λ x y z p q. le_trans p q)
    (by-test-left ◌≤ℤ◌ le_refl (λ d e. lt_z e d) (λ d e t. le_of_lt (from-lt e d t)) (λ d e t. from-not-lt e d t))
    (by-test-right ◌≤ℤ◌ le_refl (λ d e. lt_z e d) (λ d e t. le_of_lt (from-lt e d t)) (λ d e t. from-not-lt e d t))
    (by-test-one ◌≤ℤ◌ le_refl (λ d e. lt_z e d) (λ d e t. le_of_lt (from-lt e d t)) (λ d e t. from-not-lt e d t))
    (λ x y u v p q. add-le p q)

pub largest-sum : (ds : List ℤ) → sum_of ds ≤ℤ (extreme larger ds *ℤ pos (length ds))
unfolding larger
largest-sum =
    extreme-sum larger After le_refl (λ x y z p q. le_trans q p)
    (by-test-left After le_refl lt_z (λ d e t. le_of_lt (from-lt d e t)) from-not-lt)
    (by-test-right After le_refl lt_z (λ d e t. le_of_lt (from-lt d e t)) from-not-lt)
    (by-test-one After le_refl lt_z (λ d e t. le_of_lt (from-lt d e t)) from-not-lt)
    (λ x y u v p q. add-le p q)

-- ---- all signs turned

less-turned : (d e : ℤ) → lt_z (neg_ℤ d) (neg_ℤ e) ≡ lt_z e d
less-turned d e = by_tests (lt_z (neg_ℤ d) (neg_ℤ e)) (lt_z e d) refl refl
  where
    back : d ≤ℤ e → neg_ℤ e ≤ℤ neg_ℤ d
    back h = le-by (d ∷ e ∷ []) (search quote depth 20) (omega (arith, le_is (d ∷ e ∷ []) (search quote depth 20) h))

    forth : neg_ℤ e ≤ℤ neg_ℤ d → d ≤ℤ e
    forth h = le-by (d ∷ e ∷ []) (search quote depth 20) (omega (arith, le_is (d ∷ e ∷ []) (search quote depth 20) h))

    by_tests : (a b : Bool) → lt_z (neg_ℤ d) (neg_ℤ e) ≡ a → lt_z e d ≡ b → a ≡ b
    by_tests true true p q = refl
    by_tests false false p q = refl
    by_tests true false p q = clash_ℤ (from-lt (neg_ℤ d) (neg_ℤ e) p) (back (from-not-lt e d q))
    by_tests false true p q = clash_ℤ (from-lt e d q) (forth (from-not-lt (neg_ℤ d) (neg_ℤ e) p))

pub sum-turned : (ds : List ℤ) → sum_of (map neg_ℤ ds) ≡ neg_ℤ (sum_of ds)
unfolding sum_of
sum-turned [] = refl
sum-turned (d ∷ ds) = ap (λ (z : ℤ). neg_ℤ d +ℤ z) (sum-turned ds) ∙ sym (neg_ℤ-+ℤ d (sum_of ds))

module _ (choose turned : ℤ → ℤ → ℤ) (turns : (d e : ℤ) → choose (neg_ℤ d) (neg_ℤ e) ≡ neg_ℤ (turned d e)) where
  chosen-turned : (d : ℤ) (ds : List ℤ) → chosen choose (neg_ℤ d) (map neg_ℤ ds) ≡ neg_ℤ (chosen turned d ds)
  unfolding chosen
  chosen-turned d [] = refl
  chosen-turned d (e ∷ ds) =
      ap (λ (z : ℤ). chosen choose z (map neg_ℤ ds)) (turns d e) ∙ chosen-turned (turned d e) ds

  extreme-turned : (ds : List ℤ) → extreme choose (map neg_ℤ ds) ≡ neg_ℤ (extreme turned ds)
  unfolding extreme
  extreme-turned [] = refl
  extreme-turned (d ∷ ds) = chosen-turned d ds

cond-turned : (b : Bool) (d e : ℤ) → cond b (neg_ℤ d) (neg_ℤ e) ≡ neg_ℤ (cond b d e)
cond-turned true d e = refl
cond-turned false d e = refl

smaller-turns : (d e : ℤ) → smaller (neg_ℤ d) (neg_ℤ e) ≡ neg_ℤ (larger d e)
unfolding smaller larger
smaller-turns d e = ap (λ (b : Bool). cond b (neg_ℤ e) (neg_ℤ d)) (less-turned e d) ∙ cond-turned (lt_z d e) e d

larger-turns : (d e : ℤ) → larger (neg_ℤ d) (neg_ℤ e) ≡ neg_ℤ (smaller d e)
unfolding smaller larger
larger-turns d e = ap (λ (b : Bool). cond b (neg_ℤ e) (neg_ℤ d)) (less-turned d e) ∙ cond-turned (lt_z e d) e d

pub smallest-turned : (ds : List ℤ) → extreme smaller (map neg_ℤ ds) ≡ neg_ℤ (extreme larger ds)
smallest-turned = extreme-turned smaller larger smaller-turns

pub largest-turned : (ds : List ℤ) → extreme larger (map neg_ℤ ds) ≡ neg_ℤ (extreme smaller ds)
largest-turned = extreme-turned larger smaller larger-turns
