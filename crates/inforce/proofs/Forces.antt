-- The entry in force (Lookup of `delays`) is that of the latest start not after the date, and it is the only one.
-- Assumes nothing.
use mathlib.Core.Path.{◌≡◌, refl, subst}
use mathlib.Core.Bool.{Bool, true, false, cond}
use Prim.Native.Nat.{ℕ, zero, suc, ◌≤◌, ◌<◌}
use native.Mathlib.Nat.{not-suc-le-zero, not-le_of_lt, le_refl, le_of_lt}
use native.Mathlib.Omega.{arith}
use lib.Dec.{leb, ltb}
use borrow.Author.Tests.{leb-true, leb-false, ltb-true, ltb-false}
use Rattle.limits.proofs.Laws.{both}
use Rattle.delays.specs.Store.{later, rising}
use Rattle.delays.specs.Lookup.{in_force_lem}

-- Of the first n starts, k is the latest one not after the date.
pub record Latest (start : ℕ → ℕ) (mjd n k : ℕ) : Type 0 where
  pub within : k < n
  pub early : start k ≤ mjd
  pub last : (j : ℕ) → k < j → j < n → mjd < start j

module _ (start : ℕ → ℕ) (mjd : ℕ) where
  by-start : (n : ℕ) (t : Bool) → leb (start n) mjd ≡ t → (k : ℕ) → cond t (suc n) (in_force_lem start mjd n) ≡ suc k
      → (in_force_lem start mjd n ≡ suc k → Latest start mjd n k) → Latest start mjd (suc n) k
  by-start n true e k f rest =
      let same : n ≡ k = omega arith in
      subst (Latest start mjd (suc n)) same
      (record { within = le_refl (suc n); early = leb-true (start n) mjd e; last = λ j h l. absurd (none j h l) })
    where
      none : (j : ℕ) → n < j → j < suc n → ⊥
      none j h l = omega arith
  by-start n false e k f rest =
      let r = rest f in
      record { within = omega (arith, r.within); early = r.early; last = λ j h l. after j h l (ltb j n) refl }
    where
      after : (j : ℕ) → k < j → j < suc n → (t : Bool) → ltb j n ≡ t → mjd < start j
      after j h l true q = (rest f).last j h (ltb-true j n q)
      after j h l false q = subst (λ (m : ℕ). mjd < start m) (is j l (ltb-false j n q)) (leb-false (start n) mjd e)
        where
          is : (j : ℕ) → j < suc n → n ≤ j → n ≡ j
          is j l q = omega arith

  pub in-force-latest : (n k : ℕ) → in_force_lem start mjd n ≡ suc k → Latest start mjd n k
  unfolding in_force_lem
  in-force-latest zero k e = absurd (never e)
    where
      never : 0 ≡ suc k → ⊥
      never e = omega arith
  in-force-latest (suc n) k e = by-start n (leb (start n) mjd) refl k e (in-force-latest n k)

  -- where there is none, every start is after the date
  pub in-force-nothing : (n : ℕ) → in_force_lem start mjd n ≡ 0 → (j : ℕ) → j < n → mjd < start j
  unfolding in_force_lem
  in-force-nothing zero e j h = absurd (not-suc-le-zero h)
  in-force-nothing (suc n) e j h = by-test (leb (start n) mjd) refl e (in-force-nothing n)
    where
      by-test : (t : Bool) → leb (start n) mjd ≡ t → cond t (suc n) (in_force_lem start mjd n) ≡ 0 → (in_force_lem start mjd n ≡ 0 → (j : ℕ) → j < n → mjd < start j) → mjd < start j
      by-test true q f rest = absurd (never f)
        where
          never : suc n ≡ 0 → ⊥
          never f = omega arith
      by-test false q f rest = inner (ltb j n) refl
        where
          is : n ≤ j → n ≡ j
          is l = omega arith

          inner : (t : Bool) → ltb j n ≡ t → mjd < start j
          inner true l = rest f j (ltb-true j n l)
          inner false l = subst (λ (m : ℕ). mjd < start m) (is (ltb-false j n l)) (leb-false (start n) mjd q)

  -- there is one at most
  pub only-latest : (n k m : ℕ) → Latest start mjd n k → Latest start mjd n m → k ≡ m
  only-latest n k m p q = by_tests (ltb k m) refl (ltb m k) refl
    where
      by_tests : (t : Bool) → ltb k m ≡ t → (u : Bool) → ltb m k ≡ u → k ≡ m
      by_tests true e u f = absurd (not-le_of_lt (p.last m (ltb-true k m e) q.within) q.early)
      by_tests false e true f = absurd (not-le_of_lt (q.last k (ltb-true m k f) p.within) p.early)
      by_tests false e false f = omega (arith, ltb-false k m e, ltb-false m k f)

-- ---- rising starts: the latest entry has the greatest date

abbrev Below : (start : ℕ → ℕ) (n : ℕ) → Type 0
Below start n = (i j : ℕ) → i < j → j < n → start i < start j

-- the next start is later than all before it
next-above : (start : ℕ → ℕ) (n : ℕ) → later start n (start n) ≡ true → Below start n → (i : ℕ) → i < n → start i < start n
unfolding later
next-above start zero r up i h = absurd (not-suc-le-zero h)
next-above start (suc m) r up i h = by-test (ltb i m) refl
  where
    is : m ≤ i → m ≡ i
    is q = omega arith

    by-test : (t : Bool) → ltb i m ≡ t → start i < start (suc m)
    by-test true q = omega (arith, up i m (ltb-true i m q) (le_refl (suc m)), ltb-true (start m) (start (suc m)) r)
    by-test false q = subst (λ (a : ℕ). start a < start (suc m)) (is (ltb-false i m q)) (ltb-true (start m) (start (suc m)) r)

pub rising-below : (start : ℕ → ℕ) (n : ℕ) → rising start n ≡ true → Below start n
unfolding rising
rising-below start zero e i j h l = absurd (not-suc-le-zero l)
rising-below start (suc n) e i j h l =
    let b = both (rising start n) (later start n (start n)) e in
    by-test (rising-below start n b.0) b.1 (ltb j n) refl
  where
    is : n ≤ j → n ≡ j
    is q = omega arith

    by-test : Below start n → later start n (start n) ≡ true → (t : Bool) → ltb j n ≡ t → start i < start j
    by-test up r true q = up i j h (ltb-true j n q)
    by-test up r false q =
        subst (λ (m : ℕ). start i < start m) (is (ltb-false j n q))
        (next-above start n r up i (omega (arith, ltb-false j n q)))

-- so no start that is not after the date is later than that of the entry in force
pub latest-greatest : (start : ℕ → ℕ) (mjd n k : ℕ) → rising start n ≡ true → Latest start mjd n k → (j : ℕ) → j < n → start j ≤ mjd → start j ≤ start k
latest-greatest start mjd n k e p j h l = by_tests (ltb j k) refl (ltb k j) refl
  where
    is : k ≤ j → j ≤ k → j ≡ k
    is q r = omega arith

    by_tests : (t : Bool) → ltb j k ≡ t → (u : Bool) → ltb k j ≡ u → start j ≤ start k
    by_tests true q u r = le_of_lt (rising-below start n e j k (ltb-true j k q) p.within)
    by_tests false q true r = absurd (not-le_of_lt (p.last j (ltb-true k j r) h) l)
    by_tests false q false r = subst (λ (m : ℕ). start j ≤ start m) (is (ltb-false j k q) (ltb-false k j r)) (le_refl (start j))
