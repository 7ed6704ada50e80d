-- What is answered (specs/Lookup.antt, specs/Append.antt), by the tests that were made, and what the case of an answer tells (specs/Answers.antt).
-- Assumes nothing.
use mathlib.Core.Path.{◌≡◌, sym, ap, ◌∙◌}
use mathlib.Core.Bool.{Bool, true, false, cond, ◌||◌}
use mathlib.Core.List.{List, ◌++◌}
use Prim.Native.Nat.{ℕ, zero, suc, ◌+◌, ◌*◌, ◌≤◌, ◌<◌, zero-le}
use native.Mathlib.Nat.{le_refl, le_step}
use native.Mathlib.Omega.{arith}
use lib.Dec.{leb, eqb}
use lib.IntN.{ℤ}
use lib.ListN.{length, drop}
use borrow.Author.Tests.{eqb-true, ne_eqb, ltb-false, not-false}
use Rattle.limits.specs.Refusal.{◌when◌, ◌then◌}
use Rattle.limits.specs.Reply.{reply}
use Rattle.limits.specs.Limits.{delay_limit}
use Rattle.limits.specs.Lists.{any_beyond_lem}
use Rattle.limits.proofs.Laws.{then-zero, then-refused, when-zero, or-false, after-accepted, room-passed}
use Rattle.limits.specs.Numbers.{paper_number}
use Rattle.limits.specs.declared.refusal.Refusal.{Refusal}
use Rattle.limits.proofs.Cases.{paper_above_zero}
use Rattle.limits.proofs.Replies.{reply-refused, refused-reply}
use Rattle.delays.specs.Store.{version, count, group_width_lem, store_length_lem, start, delays, rising, store_number, most_entries}
use Rattle.delays.specs.Lookup.{in_force_lem, set_in_force, lookup_number, no_set, lookup_rule}
use Rattle.delays.specs.Append.{longer_store, append_number, append_rule, append_after}

pub in-force-most : (start : ℕ → ℕ) (mjd n : ℕ) → in_force_lem start mjd n ≤ n
unfolding in_force_lem
in-force-most start mjd zero = zero-le
in-force-most start mjd (suc n) = by-test (leb (start n) mjd) (in-force-most start mjd n)
  where
    by-test : (t : Bool) → in_force_lem start mjd n ≤ n → cond t (suc n) (in_force_lem start mjd n) ≤ suc n
    by-test true h = le_refl (suc n)
    by-test false h = le_step h

-- ---- an accepted store

pub record Accepted (s : List ℕ) : Type 0 where
  pub known : eqb (version s) 1 || eqb (version s) 2 ≡ true
  pub few : count s ≤ most_entries
  pub long : length s ≡ store_length_lem (version s) (count s)
  pub rises : rising (start s) (count s) ≡ true
  pub within : any_beyond_lem delay_limit (delays s) ≡ false

pub accepted : (s : List ℕ) → store_number s ≡ 0 → Accepted s
unfolding store_number
accepted s e =
    let a = or-false _ _ (when-zero 19 _ e) in
    let b = or-false _ _ a.0 in
    let c = or-false _ _ b.0 in
    let d = or-false _ _ c.0 in
    record {
      known = not-false _ d.0;
      few = ltb-false most_entries (count s) d.1;
      long = eqb-true (length s) (store_length_lem (version s) (count s)) (not-false _ c.1);
      rises = not-false _ b.1;
      within = a.1;
    }

-- ---- lookups

module _ (s : List ℕ) (mjd : ℕ) where
  pub lookup-bad : {number : ℕ} → number ≡ store_number s → 0 < number → record { number = number; values = no_set } ≡ lookup_rule s mjd
  unfolding lookup_rule lookup_number
  lookup-bad {number} e h =
      sym
      (ap (λ (n : ℕ). reply no_set n (set_in_force s mjd)) (ap (λ (n : ℕ). n then none) (sym e) ∙ then-refused number none h)
      ∙ reply-refused no_set (set_in_force s mjd) h)
    where
      none : ℕ
      none = 21 when eqb (in_force_lem (start s) mjd (count s)) 0

  pub lookup-none : store_number s ≡ 0 → in_force_lem (start s) mjd (count s) ≡ 0 → record { number = 21; values = no_set } ≡ lookup_rule s mjd
  unfolding lookup_rule lookup_number ◌then◌ ◌when◌
  lookup-none e f = rw (e, f)

  pub lookup-found : store_number s ≡ 0 → (in_force_lem (start s) mjd (count s) ≡ 0 → ⊥) → record { number = 0; values = set_in_force s mjd } ≡ lookup_rule s mjd
  unfolding lookup_rule lookup_number ◌then◌ ◌when◌
  lookup-found e h = rw (e, ne_eqb (in_force_lem (start s) mjd (count s)) 0 h)

-- ---- appends

module _ (s : List ℕ) (mjd : ℕ) (int cab refdly gd : ℤ) (lent : List ℕ) where
  pub append-refused : {number : ℕ} → number ≡ append_number s mjd int cab refdly gd (length lent) → 0 < number
      → (record { number = number; values = 0 } ≡ append_rule s mjd int cab refdly gd (length lent)) × (lent ≡ append_after s mjd int cab refdly gd lent)
  unfolding append_rule append_after
  append-refused e h = refused-reply 0 (store_length_lem (version s) (suc (count s))) _ lent e h

  -- a store that is refused is refused first
  pub store-refused : (r : Refusal) → paper_number r ≡ store_number s → paper_number r ≡ append_number s mjd int cab refdly gd (length lent)
  unfolding append_number
  store-refused r e = rw (← e) (sym (then-refused _ _ (paper_above_zero r)))

  pub append-done : append_number s mjd int cab refdly gd (length lent) ≡ 0
      → (record { number = 0; values = store_length_lem (version s) (suc (count s)) } ≡ append_rule s mjd int cab refdly gd (length lent))
      × (longer_store s mjd int cab refdly gd ++ drop (store_length_lem (version s) (suc (count s))) lent ≡ append_after s mjd int cab refdly gd lent)
  unfolding append_rule append_after
  append-done e = (rw e, sym (after-accepted _ lent e))

  -- what an accepted append tells
  pub append-room : append_number s mjd int cab refdly gd (length lent) ≡ 0 → (store_number s ≡ 0) × (store_length_lem (version s) (suc (count s)) ≤ length lent)
  unfolding append_number
  append-room e =
      let a = then-zero _ _ e in
      let b = then-zero _ _ a.1 in
      let c = then-zero _ _ b.1 in
      (a.0, room-passed (length lent) (store_length_lem (version s) (suc (count s))) c.1)

pub groups-fit : (s : List ℕ) → length s ≡ store_length_lem (version s) (count s) → 4 + 4 * count s ≤ length s
unfolding store_length_lem
groups-fit s e = omega arith

pub one_more : (s : List ℕ) → length s ≡ store_length_lem (version s) (count s) → length s + 4 + 8 * group_width_lem (version s) ≡ store_length_lem (version s) (suc (count s))
unfolding store_length_lem
one_more s e = omega arith

-- the same in the terms of what is written
pub record Fitting (s lent : List ℕ) : Type 0 where
  pub groups : 4 + 4 * count s ≤ length s
  pub long : length s + 4 + 8 * group_width_lem (version s) ≡ store_length_lem (version s) (suc (count s))
  pub room : store_length_lem (version s) (suc (count s)) ≤ length lent
  pub few : count s ≤ most_entries

pub fitting : (s : List ℕ) (mjd : ℕ) (int cab refdly gd : ℤ) (lent : List ℕ) → append_number s mjd int cab refdly gd (length lent) ≡ 0 → Fitting s lent
fitting s mjd int cab refdly gd lent e =
    let r = append-room s mjd int cab refdly gd lent e in
    let a = accepted s r.0 in
    record { groups = groups-fit s a.long; long = one_more s a.long; room = r.1; few = a.few }
