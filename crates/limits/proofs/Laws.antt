-- The order of refusals, tests joined and turned, and what an answer 0 tells: no condition held, and a number that is not outside its limits is inside them.
-- Assumes nothing.
use mathlib.Core.Path.{◌≡◌, refl, sym, ap₂, ◌∙◌}
use mathlib.Core.Bool.{Bool, true, false, not, ◌&&◌, ◌||◌, true≢false, false≢true}
use Prim.Native.Nat.{ℕ, zero, suc, ◌≤◌, ◌<◌, zero-le, suc-le-suc}
use native.Mathlib.Nat.{suc-ne-zero, ne_of_gt, not-suc-le-zero, le_of_suc-le-suc}
use lib.IntN.{ℤ, pos, negsuc, nat_abs}
use lib.Dec.{ltb, leb, eqb, eqb-suc-zero}
use mir.Syntax.{w64}
use mir.Val.{SFits}
use borrow.Author.Tests.{ltb-true, ltb-false, leb-true, leb-false, eqb-true, eqb-false, lt-ltb, le-ltb, le-leb, lt-leb, eq-eqb, ne_eqb}
use Rattle.limits.specs.Refusal.{◌when◌, ◌then◌, after}
use Rattle.limits.specs.declared.Numbers.{Numbers}
use Rattle.limits.specs.Limits.{outside, beyond, limits_number, dsg_number}

-- an answer put together from two is 0 only where both are
pub then-zero : (first next : ℕ) → first then next ≡ 0 → (first ≡ 0) × (next ≡ 0)
unfolding ◌then◌
then-zero zero next e = (refl, e)
then-zero (suc first) next e = absurd (suc-ne-zero first (rw (eqb-suc-zero first) at e))

-- a refusal stands before what comes next
pub then-refused : (first next : ℕ) → 0 < first → first then next ≡ first
unfolding ◌then◌
then-refused zero next h = absurd (not-suc-le-zero h)
then-refused (suc first) next h = rw (eqb-suc-zero first)

pub then-passed : (first next : ℕ) → first ≡ 0 → first then next ≡ next
unfolding ◌then◌
then-passed first next e = rw e

pub then-assoc : (a b c : ℕ) → (a then b) then c ≡ a then b then c
unfolding ◌then◌
then-assoc zero b c = refl
then-assoc (suc a) b c = simp (eqb-suc-zero)

-- nothing comes next
pub then-none : (number : ℕ) → number then 0 ≡ number
unfolding ◌then◌
then-none zero = refl
then-none (suc number) = rw (eqb-suc-zero number)

-- one test on two conditions is two tests
pub when-either : (number : ℕ) (a b : Bool) → number when (a || b) ≡ number when a then number when b
unfolding ◌when◌ ◌then◌
when-either zero true true = refl
when-either zero true false = refl
when-either (suc number) true b = rw (eqb-suc-zero number)
when-either number false b = refl

pub when-zero : (number : ℕ) (condition : Bool) → suc number when condition ≡ 0 → condition ≡ false
unfolding ◌when◌
when-zero number true e = absurd (suc-ne-zero number e)
when-zero number false e = refl

-- a number by one test that is not 0
pub when-some : (number : ℕ) (condition : Bool) {k : ℕ} → k ≡ number when condition → (k ≡ 0 → ⊥) → (k ≡ number) × (condition ≡ true)
unfolding ◌when◌
when-some number true e h = (e, refl)
when-some number false e h = absurd (h e)

-- there is room where the test for it is passed
pub room-passed : (room least : ℕ) → 9 when ltb room least ≡ 0 → least ≤ room
room-passed room least e = ltb-false room least (when-zero 8 _ e)

-- what was lent is written where nothing is refused, and else kept
pub after-accepted : {A : Type 0} {number : ℕ} (written lent : A) → number ≡ 0 → after number written lent ≡ written
after-accepted written lent e = rw e

pub after-refused : {A : Type 0} {number : ℕ} (written lent : A) → (number ≡ 0 → ⊥) → after number written lent ≡ lent
after-refused {number = zero} written lent n = absurd (n refl)
after-refused {number = suc number} written lent n = rw (eqb-suc-zero number)

-- the same of a number above 0
pub lent-kept : {A : Type 0} (number : ℕ) (written lent : A) → 0 < number → lent ≡ after number written lent
lent-kept number written lent h = sym (after-refused written lent (ne_of_gt h))

-- what is told by two tests joined
pub both : (a b : Bool) → a && b ≡ true → (a ≡ true) × (b ≡ true)
both true b e = (refl, e)
both false b e = absurd (false≢true e)

pub and-true-both : {a b : Bool} → a ≡ true → b ≡ true → a && b ≡ true
and-true-both p q = ap₂ ◌&&◌ p q

pub either : {X : Type 0} (a b : Bool) → a || b ≡ true → (a ≡ true → X) → (b ≡ true → X) → X
either true b e f g = f refl
either false b e f g = g e

pub or-false : (a b : Bool) → a || b ≡ false → (a ≡ false) × (b ≡ false)
or-false true b e = absurd (true≢false e)
or-false false b e = (refl, e)

-- no test says no and yes
pub never : {x : Bool} → x ≡ false → x ≡ true → ⊥
never e f = true≢false (sym f ∙ e)

-- a test denied, and two numbers compared the other way round
pub not-ltb : (m n : ℕ) → not (ltb m n) ≡ leb n m
not-ltb m n = by-test (ltb m n) refl
  where
    by-test : (t : Bool) → ltb m n ≡ t → not t ≡ leb n m
    by-test true e = sym (lt-leb n m (ltb-true m n e))
    by-test false e = sym (le-leb n m (ltb-false m n e))

pub not-leb : (m n : ℕ) → not (leb m n) ≡ ltb n m
not-leb m n = by-test (leb m n) refl
  where
    by-test : (t : Bool) → leb m n ≡ t → not t ≡ ltb n m
    by-test true e = sym (le-ltb n m (leb-true m n e))
    by-test false e = sym (lt-ltb n m (leb-false m n e))

-- two tests that hold in the same cases
pub eqb_same : (a b c d : ℕ) → (a ≡ b → c ≡ d) → (c ≡ d → a ≡ b) → eqb a b ≡ eqb c d
eqb_same a b c d f g = by-test (eqb c d) refl
  where
    by-test : (t : Bool) → eqb c d ≡ t → eqb a b ≡ t
    by-test true e = eq-eqb a b (g (eqb-true c d e))
    by-test false e = ne_eqb a b (λ h. eqb-false c d e (f h))

-- so a test holds the other way round
pub eqb-turned : (m n : ℕ) → eqb m n ≡ eqb n m
eqb-turned m n = eqb_same m n n m sym sym

-- within plus or minus a limit, the magnitude is at most the limit
pub magnitude-within : (limit : ℕ) (z : ℤ) → beyond limit z ≡ false → nat_abs z ≤ limit
unfolding outside
magnitude-within zero (pos n) e = ltb-false 0 n (or-false (ltb n 0) (ltb 0 n) e).1
magnitude-within (suc limit) (pos n) e = ltb-false (suc limit) n e
magnitude-within zero (negsuc n) e = absurd (true≢false e)
magnitude-within (suc limit) (negsuc n) e = suc-le-suc (ltb-false limit n (or-false (ltb limit n) false e).0)

pub within-magnitude : (limit : ℕ) (z : ℤ) → nat_abs z ≤ limit → beyond limit z ≡ false
unfolding outside
within-magnitude zero (pos n) h = rw (le-ltb n 0 zero-le, le-ltb 0 n h)
within-magnitude (suc limit) (pos n) h = le-ltb (suc limit) n h
within-magnitude zero (negsuc n) h = absurd (not-suc-le-zero h)
within-magnitude (suc limit) (negsuc n) h = rw (le-ltb limit n (le_of_suc-le-suc h))

-- within two limits that are not below 0, the number is a natural one
pub natural-within : (low high : ℕ) (z : ℤ) → outside (pos low) (pos high) z ≡ false → (pos (nat_abs z) ≡ z) × (low ≤ nat_abs z) × (nat_abs z ≤ high)
unfolding outside
natural-within low high (pos n) e =
    let f = or-false (ltb n low) (ltb high n) e in
    (refl, ltb-false n low f.0, ltb-false high n f.1)
natural-within low high (negsuc n) e = absurd (true≢false e)

pub within-natural : (low high n : ℕ) → low ≤ n → n ≤ high → outside (pos low) (pos high) (pos n) ≡ false
unfolding outside
within-natural low high n h k = rw (le-ltb n low h, le-ltb high n k)

-- every one of the ten numbers fits its word, so that it reads back from its bits
pub record Fits (n : Numbers) : Type 0 where
  pub refsv : SFits w64 n.refsv
  pub srsv : SFits w64 n.srsv
  pub refsys : SFits w64 n.refsys
  pub srsys : SFits w64 n.srsys
  pub mdtr : SFits w64 n.mdtr
  pub smdt : SFits w64 n.smdt
  pub mdio : SFits w64 n.mdio
  pub smdi : SFits w64 n.smdi
  pub dsg : SFits w64 n.dsg
  pub trkl : SFits w64 n.trkl

-- what an answer 0 on the eight fitted numbers tells
pub record InLimits (n : Numbers) : Type 0 where
  pub midpoints : (nat_abs n.refsv ≤ 9999999999) × (nat_abs n.refsys ≤ 9999999999)
  pub slopes : (nat_abs n.srsv ≤ 99999) × (nat_abs n.srsys ≤ 99999) × (nat_abs n.smdt ≤ 999) × (nat_abs n.smdi ≤ 999)
  pub delays : (pos (nat_abs n.mdtr) ≡ n.mdtr) × (nat_abs n.mdtr ≤ 9999) × (pos (nat_abs n.mdio) ≡ n.mdio) × (nat_abs n.mdio ≤ 9999)

pub within : (n : Numbers) → limits_number n ≡ 0 → InLimits n
unfolding limits_number
within n e =
    let three = then-zero _ _ e in
    let four = then-zero _ _ three.1 in
    let m = or-false (beyond 9999999999 n.refsv) _ (when-zero 2 _ three.0) in
    let s = or-false (beyond 99999 n.srsv || beyond 99999 n.srsys || beyond 999 n.smdt) _ (when-zero 3 _ four.0) in
    let t = or-false (beyond 99999 n.srsv || beyond 99999 n.srsys) _ s.0 in
    let u = or-false (beyond 99999 n.srsv) _ t.0 in
    let d = or-false (outside (pos 0) (pos 9999) n.mdtr) _ (when-zero 4 _ four.1) in
    let r = natural-within 0 9999 n.mdtr d.0 in
    let i = natural-within 0 9999 n.mdio d.1 in
    record {
      midpoints = (magnitude-within 9999999999 n.refsv m.0, magnitude-within 9999999999 n.refsys m.1);
      slopes = (
        magnitude-within 99999 n.srsv u.0,
        magnitude-within 99999 n.srsys u.1,
        magnitude-within 999 n.smdt t.1,
        magnitude-within 999 n.smdi s.1,
      );
      delays = (r.0, r.2, i.0, i.2);
    }

pub dsg-within : (dsg : ℤ) → dsg_number dsg ≡ 0 → (pos (nat_abs dsg) ≡ dsg) × (nat_abs dsg ≤ 9999)
unfolding dsg_number
dsg-within dsg e = let d = natural-within 0 9999 dsg (when-zero 5 _ e) in (d.0, d.2)

-- what a natural number is as a DSG
pub dsg-refused : (d : ℕ) → 9999 < d → dsg_number (pos d) ≡ 6
unfolding dsg_number outside ◌when◌
dsg-refused d h = rw (le-ltb d 0 zero-le, lt-ltb 9999 d h)

pub dsg-accepted : (d : ℕ) → d ≤ 9999 → dsg_number (pos d) ≡ 0
unfolding dsg_number ◌when◌
dsg-accepted d h = rw (within-natural 0 9999 d zero-le h)
