-- Laws of keys (specs/Files.antt): `same` tells equal rows, and `before` is an order in which any two rows are comparable.
-- Assumes nothing.
use mathlib.Core.Path.{◌≡◌, refl, sym, ap, subst, ◌∙◌}
use mathlib.Core.Bool.{true, false, false≢true}
use mathlib.Core.List.{List, [], ◌∷◌}
use Prim.Native.Nat.{ℕ, zero, suc, ◌≤◌, ◌<◌, zero-le, suc-le-suc}
use native.Mathlib.Nat.{le_refl}
use native.Mathlib.Omega.{arith}
use lib.Dec.{eqb}
use borrow.Author.Tests.{lt-ltb, le-ltb, eq-eqb, ne_eqb, eqb-true}
use Rattle.limits.proofs.Laws.{both, never}
use Rattle.linefile.specs.Files.{same, before}

-- ---- equal rows

pub same_refl : (a : List ℕ) → same a a ≡ true
unfolding same
same_refl [] = refl
same_refl (n ∷ a) = rw (eq-eqb n n refl) (same_refl a)

pub same-eq : (a b : List ℕ) → same a b ≡ true → a ≡ b
unfolding same
same-eq [] [] e = refl
same-eq [] (n ∷ b) e = absurd (false≢true e)
same-eq (m ∷ a) [] e = absurd (false≢true e)
same-eq (m ∷ a) (n ∷ b) e =
    let p = both (eqb m n) (same a b) e in
    let h = eqb-true m n p.0 in
    let t = same-eq a b p.1 in
    λ i. h i ∷ t i

-- ---- two numbers

pub data Heads (m n : ℕ) : Type 0 where
  less : m < n → Heads m n
  equal : m ≡ n → Heads m n
  more : n < m → Heads m n

pub heads : (m n : ℕ) → Heads m n
heads zero zero = equal refl
heads zero (suc n) = less (suc-le-suc zero-le)
heads (suc m) zero = more (suc-le-suc zero-le)
heads (suc m) (suc n) = next (heads m n)
  where
    next : Heads m n → Heads (suc m) (suc n)
    next (less h) = less (suc-le-suc h)
    next (equal e) = equal (ap suc e)
    next (more h) = more (suc-le-suc h)

-- ---- the order of keys by their first one

pub before-below : (m n : ℕ) (a b : List ℕ) → m < n → before (m ∷ a) (n ∷ b) ≡ true
unfolding before
before-below m n a b h = rw (lt-ltb m n h)

pub before_above : (m n : ℕ) (a b : List ℕ) → n < m → before (m ∷ a) (n ∷ b) ≡ false
unfolding before
before_above m n a b h = rw (le-ltb m n (lower h), ne_eqb m n (other h))
  where
    lower : n < m → n ≤ m
    lower h = omega arith

    other : n < m → m ≡ n → ⊥
    other h e = omega arith

pub before-level : (n : ℕ) (a b : List ℕ) → before (n ∷ a) (n ∷ b) ≡ before a b
unfolding before
before-level n a b = rw (le-ltb n n (le_refl n), eq-eqb n n refl)

same-apart : (m n : ℕ) (a b : List ℕ) → (m ≡ n → ⊥) → same (m ∷ a) (n ∷ b) ≡ false
unfolding same
same-apart m n a b d = rw (ne_eqb m n d)

same-level : (n : ℕ) (a b : List ℕ) → same (n ∷ a) (n ∷ b) ≡ same a b
unfolding same
same-level n a b = rw (eq-eqb n n refl)

-- ---- any two keys

-- How two keys stand to each other, with all that the tests on them give.
pub data Order (a b : List ℕ) : Type 0 where
  below : before a b ≡ true → before b a ≡ false → same a b ≡ false → Order a b
  level : a ≡ b → before a b ≡ false → before b a ≡ false → same a b ≡ true → Order a b
  above : before b a ≡ true → before a b ≡ false → same a b ≡ false → Order a b

order-level : (n : ℕ) (a b : List ℕ) → Order a b → Order (n ∷ a) (n ∷ b)
order-level n a b (below p q r) = below (before-level n a b ∙ p) (before-level n b a ∙ q) (same-level n a b ∙ r)
order-level n a b (level e p q r) = level (ap (λ (t : List ℕ). n ∷ t) e) (before-level n a b ∙ p) (before-level n b a ∙ q) (same-level n a b ∙ r)
order-level n a b (above p q r) = above (before-level n b a ∙ p) (before-level n a b ∙ q) (same-level n a b ∙ r)

pub order : (a b : List ℕ) → Order a b
unfolding before same
order [] [] = level refl refl refl refl
order [] (n ∷ b) = below refl refl refl
order (m ∷ a) [] = above refl refl refl
order (m ∷ a) (n ∷ b) = by_heads (heads m n) (order a b)
  where
    lower : m < n → m ≡ n → ⊥
    lower h e = omega arith

    higher : n < m → m ≡ n → ⊥
    higher h e = omega arith

    by_heads : Heads m n → Order a b → Order (m ∷ a) (n ∷ b)
    by_heads (less h) o = below (before-below m n a b h) (before_above n m b a h) (same-apart m n a b (lower h))
    by_heads (equal e) o = subst (λ (k : ℕ). Order (k ∷ a) (n ∷ b)) (sym e) (order-level n a b o)
    by_heads (more h) o = above (before-below n m b a h) (before_above m n a b h) (same-apart m n a b (higher h))

pub before-irrefl : (a : List ℕ) → before a a ≡ false
unfolding before
before-irrefl [] = refl
before-irrefl (n ∷ a) = before-level n a a ∙ before-irrefl a

pub before-trans : (a b c : List ℕ) → before a b ≡ true → before b c ≡ true → before a c ≡ true
unfolding before
before-trans [] b [] p q = absurd (nothing b q)
  where
    nothing : (b : List ℕ) → before b [] ≡ true → ⊥
    nothing [] e = absurd (false≢true e)
    nothing (n ∷ b) e = absurd (false≢true e)
before-trans [] b (n ∷ c) p q = refl
before-trans (l ∷ a) [] c p q = absurd (false≢true p)
before-trans (l ∷ a) (m ∷ b) [] p q = absurd (false≢true q)
before-trans (l ∷ a) (m ∷ b) (n ∷ c) p q = by_heads (heads l m) (heads m n) (before-trans a b c)
  where
    by_heads : Heads l m → Heads m n → (before a b ≡ true → before b c ≡ true → before a c ≡ true) → before (l ∷ a) (n ∷ c) ≡ true
    by_heads (less h) (less k) t = before-below l n a c (omega arith)
    by_heads (less h) (equal e) t = before-below l n a c (omega arith)
    by_heads (equal e) (less k) t = before-below l n a c (omega arith)
    by_heads (equal e) (equal f) t =
        subst (λ (k : ℕ). before (k ∷ a) (n ∷ c) ≡ true) (sym (e ∙ f))
        (before-level n a c
        ∙ t (sym (before-level m a b) ∙ subst (λ (k : ℕ). before (k ∷ a) (m ∷ b) ≡ true) e p)
        (sym (before-level n b c) ∙ subst (λ (k : ℕ). before (k ∷ b) (n ∷ c) ≡ true) f q))
    by_heads (more h) k t = absurd (never (before_above l m a b h) p)
    by_heads (less h) (more k) t = absurd (never (before_above m n b c k) q)
    by_heads (equal e) (more k) t = absurd (never (before_above m n b c k) q)

pub before-asym : (a b : List ℕ) → before a b ≡ true → before b a ≡ false
before-asym a b h = by_order (order a b)
  where
    by_order : Order a b → before b a ≡ false
    by_order (below p q r) = q
    by_order (level e p q r) = q
    by_order (above p q r) = absurd (never q h)

pub before-apart : (a b : List ℕ) → before a b ≡ true → same a b ≡ false
before-apart a b h = by_order (order a b)
  where
    by_order : Order a b → same a b ≡ false
    by_order (below p q r) = r
    by_order (level e p q r) = absurd (never p h)
    by_order (above p q r) = r
