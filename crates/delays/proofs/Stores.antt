-- What lies where in a store (specs/Store.antt), and the entry in force (specs/Lookup.antt), step by step.
-- Assumes nothing.
use mathlib.Core.Path.{◌≡◌, refl, sym, ap, ap₂, ◌∙◌}
use mathlib.Core.Bool.{Bool, true, false, cond, ◌&&◌, ◌||◌, or_assoc, or-false}
use mathlib.Core.List.{List, [], ◌∷◌}
use Prim.Native.Nat.{ℕ, zero, suc, ◌+◌, ◌*◌, ◌-◌, ◌≤◌, ◌<◌}
use native.Mathlib.Nat.{not-suc-le-zero, mul-le-mul}
use native.Mathlib.Numerals.{sub-one, add-one}
use native.Mathlib.Omega.{arith}
use lib.Dec.{ltb, eqb}
use lib.IntN.{ℤ, pos}
use borrow.Author.Tests.{le-leb, lt-leb, ne_eqb}
use Rattle.limits.specs.Limits.{beyond, delay_limit}
use Rattle.limits.specs.Lists.{any_outside_lem, any_beyond_lem}
use lib.ListN.{length, take, drop}
use Rattle.decode.specs.Number.{unsigned_at, signed_at_lem, signeds_at}
use Rattle.decode.proofs.Pieces.{number-part}
use Rattle.delays.specs.Store.{version, count, group_width_lem, start, delay, later, rising}
use Rattle.delays.specs.Lookup.{in_force_lem, set_of_lem}

-- a start among the bytes from p on
pub start-part : (s : List ℕ) (p w q k : ℕ) → p + w ≤ length s → q + 4 ≤ w → p + q ≡ 4 + 4 * k → unsigned_at 4 (take (p + w - p) (drop p s)) q ≡ start s k
unfolding start
start-part s p w q k h i e = number-part 4 w s p q h i ∙ ap (unsigned_at 4 s) e

-- a group's width times a count
pub width-times : {w n : ℕ} → w ≤ 4 → n ≤ 65536 → w * n ≤ 262144
width-times h k = mul-le-mul h k

pub wide-one : (v : ℕ) → v ≡ 1 → group_width_lem v ≡ 3
unfolding group_width_lem
wide-one v e = rw e

pub wide-two : (v : ℕ) → (v ≡ 1 → ⊥) → group_width_lem v ≡ 4
unfolding group_width_lem
wide-two v h = simp (ne_eqb v 1 h)

pub three-wide : (v : ℕ) → 3 ≤ group_width_lem v
unfolding group_width_lem
three-wide v = by-test (eqb v 1)
  where
    by-test : (t : Bool) → 3 ≤ cond t 3 4
    by-test true = omega arith
    by-test false = omega arith

pub four-wide : (v : ℕ) → group_width_lem v ≤ 4
unfolding group_width_lem
four-wide v = by-test (eqb v 1)
  where
    by-test : (t : Bool) → cond t 3 4 ≤ 4
    by-test true = omega arith
    by-test false = omega arith

-- ---- dates

pub later-none : (start : ℕ → ℕ) (n mjd : ℕ) → n ≡ 0 → true ≡ later start n mjd
unfolding later
later-none start n mjd e = rw e

pub later-some : (start : ℕ → ℕ) (n mjd : ℕ) → (n ≡ 0 → ⊥) → ltb (start (n - 1)) mjd ≡ later start n mjd
unfolding later
later-some start zero mjd h = absurd (h refl)
later-some start (suc n) mjd h = ap (λ (k : ℕ). ltb (start k) mjd) (sub-one (suc n))

-- the last of n starts is read four bytes before the groups
pub later-last : (s : List ℕ) (n mjd : ℕ) {date : ℕ} → date ≡ unsigned_at 4 s (4 * n) → (n ≡ 0 → ⊥) → ltb date mjd ≡ later (start s) n mjd
unfolding start
later-last s n mjd e h = ap (λ (x : ℕ). ltb x mjd) (e ∙ ap (unsigned_at 4 s) (place h)) ∙ later-some (start s) n mjd h
  where
    place : (n ≡ 0 → ⊥) → 4 * n ≡ 4 + 4 * (n - 1)
    place h = omega arith

module _ (start : ℕ → ℕ) (mjd : ℕ) where
  pub in-force-none : (n : ℕ) → n ≤ 0 → 0 ≡ in_force_lem start mjd n
  unfolding in_force_lem
  in-force-none zero h = refl
  in-force-none (suc n) h = absurd (not-suc-le-zero h)

  pub in-force-here : (n : ℕ) → 0 < n → start (n - 1) ≤ mjd → n ≡ in_force_lem start mjd n
  unfolding in_force_lem
  in-force-here zero p h = absurd (not-suc-le-zero p)
  in-force-here (suc n) p h = sym (rw (le-leb (start n) mjd (rw sub-one at h)))

  pub in-force-before : (n : ℕ) → 0 < n → mjd < start (n - 1) → in_force_lem start mjd n ≡ in_force_lem start mjd (n - 1)
  unfolding in_force_lem
  in-force-before zero p h = absurd (not-suc-le-zero p)
  in-force-before (suc n) p h = rw (lt-leb (start n) mjd (rw sub-one at h)) (ap (in_force_lem start mjd) (sym (sub-one (suc n))))

rising-more : (start : ℕ → ℕ) (k : ℕ) → rising start (k + 1) ≡ rising start k && later start k (start k)
unfolding rising
rising-more start k = rw add-one

-- one start alone rises
pub rising-one : (start : ℕ → ℕ) → true ≡ rising start 1
unfolding rising later
rising-one start = refl

-- from there a turn looks at a start and the one before
pub rising-turn : (start : ℕ → ℕ) (k : ℕ) {ok : Bool} {before this : ℕ} → 1 ≤ k → ok ≡ rising start k → before ≡ start (k - 1) → this ≡ start k
    → ok && ltb before this ≡ rising start (k + 1)
rising-turn start k h e f g =
    ap₂ ◌&&◌ e (ap₂ ltb f g ∙ later-some start k (start k) (λ z. never z h)) ∙ sym (rising-more start k)
  where
    never : {k : ℕ} → k ≡ 0 → 1 ≤ k → ⊥
    never z h = omega arith

pub rising-done : (start : ℕ → ℕ) (n k : ℕ) → 1 ≤ k → k ≤ n + (1 - n) → n ≤ k → rising start k ≡ rising start n
unfolding rising
rising-done start zero k h i j = ap (rising start) (is h i) ∙ sym (rising-one start)
  where
    is : 1 ≤ k → k ≤ 0 + (1 - 0) → k ≡ 1
    is h i = omega arith
rising-done start (suc n) k h i j = ap (rising start) (is i j)
  where
    is : k ≤ suc n + (1 - suc n) → suc n ≤ k → k ≡ suc n
    is i j = omega arith

-- ---- delays beyond the limit

module _ (s : List ℕ) (at n i : ℕ) (found : Bool) where
  pub beyond-turn : i < n
      → found || any_beyond_lem delay_limit (signeds_at s (at + 8 * i) 8 (n - i))
      ≡ (found || beyond delay_limit (signed_at_lem s (at + 8 * i))) || any_beyond_lem delay_limit (signeds_at s (at + 8 * (i + 1)) 8 (n - (i + 1)))
  unfolding signeds_at any_outside_lem
  beyond-turn h =
      ap (λ (m : ℕ). found || any_beyond_lem delay_limit (signeds_at s (at + 8 * i) 8 m)) (more h)
      ∙ sym (or_assoc found (beyond delay_limit (signed_at_lem s (at + 8 * i))) (any_beyond_lem delay_limit (signeds_at s (at + 8 * i + 8) 8 (n - (i + 1)))))
      ∙ ap (λ (p : ℕ). (found || beyond delay_limit (signed_at_lem s (at + 8 * i))) || any_beyond_lem delay_limit (signeds_at s p 8 (n - (i + 1)))) (omega arith)
    where
      more : i < n → n - i ≡ suc (n - (i + 1))
      more h = omega arith

  pub beyond-done : n ≤ i → found || any_beyond_lem delay_limit (signeds_at s (at + 8 * i) 8 (n - i)) ≡ found
  unfolding signeds_at any_outside_lem
  beyond-done h = ap (λ (m : ℕ). found || any_beyond_lem delay_limit (signeds_at s (at + 8 * i) 8 m)) (none h) ∙ or-false found
    where
      none : n ≤ i → n - i ≡ 0
      none h = omega arith

-- ---- the set of an entry

pub set_is : (s : List ℕ) (k : ℕ) {v n w : ℕ} {a b c d : ℤ} → v ≡ version s → n ≡ count s → w ≡ group_width_lem v
    → a ≡ signed_at_lem s (4 + 4 * n + 8 * (w * k))
    → b ≡ signed_at_lem s (4 + 4 * n + 8 * (w * k) + 8)
    → c ≡ signed_at_lem s (4 + 4 * n + 8 * (w * k) + 16)
    → d ≡ cond (eqb v 1) (pos 0) (signed_at_lem s (4 + 4 * n + 8 * (w * k) + 24))
    → a ∷ b ∷ c ∷ d ∷ [] ≡ set_of_lem s k
unfolding set_of_lem delay
set_is s k {v} {n} {w} p q r ea eb ec ed =
    λ i. (ea ∙ at 0 _ (omega arith)) i ∷ (eb ∙ at 1 _ (omega arith)) i ∷ (ec ∙ at 2 _ (omega arith)) i
    ∷ (ed ∙ ap₂ (λ (t : ℕ) (z : ℤ). cond (eqb t 1) (pos 0) z) p (at 3 _ (omega arith))) i ∷ []
  where
    wide : w ≡ group_width_lem (version s)
    wide = r ∙ ap group_width_lem p

    at : (j m : ℕ) → m ≡ 4 + 4 * n + 8 * (w * k + j) → signed_at_lem s m ≡ signed_at_lem s (4 + 4 * count s + 8 * (group_width_lem (version s) * k + j))
    at j m e = ap (signed_at_lem s) (e ∙ ap₂ (λ (x y : ℕ). 4 + 4 * x + 8 * (y * k + j)) q wide)
