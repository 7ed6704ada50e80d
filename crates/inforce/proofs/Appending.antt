-- What append does to a store (document 02, Job 9): the longer one is accepted, holds the old entries and the new one and no other, and answers
-- from the new date on with the new set, before it as the old one.
-- Assumes nothing.
use mathlib.Core.Path.{◌≡◌, refl, sym, ap, ap₂, subst, ◌∙◌}
use mathlib.Core.Bool.{Bool, true, false, cond, ◌&&◌, ◌||◌, true≢false}
use mathlib.Core.List.{List, [], ◌∷◌}
use Prim.Native.Nat.{ℕ, zero, suc, ◌+◌, ◌*◌, ◌-◌, ◌≤◌, ◌<◌, zero-le}
use native.Mathlib.Nat.{not-suc-le-zero, le_refl, mul-le-mul_left}
use native.Mathlib.Numerals.{sub-one}
use native.Mathlib.Omega.{arith}
use lib.Dec.{leb, ltb, eqb}
use lib.IntN.{ℤ, pos, negsuc, nat_abs}
use lib.ListN.{length, take, get_or, get_or-eq_default}
use lib.Seq.{length-take-le, get_or-take}
use borrow.Author.Tests.{eqb-true, eqb-false, eq-eqb, ne_eqb, ltb-true, ltb-false, le-ltb, le-leb, lt-leb, not-false}
use Rattle.whole.proofs.Words.{fits-of}
use Rattle.limits.specs.Refusal.{◌when◌}
use Rattle.limits.specs.Limits.{beyond, delay_limit}
use Rattle.limits.specs.Lists.{any_beyond_lem}
use Rattle.limits.proofs.Laws.{then-zero, when-zero, or-false, magnitude-within}
use Rattle.limits.proofs.Lists.{within-limit, limit-within}
use Rattle.decode.specs.Number.{signed_at_lem, signeds_at}
use Rattle.decode.proofs.Signeds.{length-signeds, signeds-at}
use Rattle.delays.specs.Store.{version, count, group_width_lem, store_length_lem, start, groups, delay, delays, later, rising, store_number, most_entries}
use Rattle.delays.specs.Lookup.{in_force_lem, set_of_lem, lookup_rule}
use Rattle.delays.specs.Append.{longer_store, append_number}
use Rattle.delays.proofs.Stores.{wide-two, three-wide, four-wide}
use Rattle.delays.proofs.Writing.{length-longer}
use Rattle.delays.proofs.Answers.{Accepted, accepted, groups-fit, one_more, in-force-most, lookup-none, lookup-found}
use Rattle.inforce.proofs.Longer.{AllFit, none, more, longer-version, longer-count, longer-start, longer-date, longer-old, longer-new}

-- ---- starts that are the same

module _ (f g : ℕ → ℕ) where
  later_same : (n mjd : ℕ) → ((k : ℕ) → k < n → f k ≡ g k) → later f n mjd ≡ later g n mjd
  unfolding later
  later_same zero mjd e = refl
  later_same (suc n) mjd e = ap (λ (m : ℕ). ltb m mjd) (e n (le_refl (suc n)))

  below : {n : ℕ} → ((k : ℕ) → k < suc n → f k ≡ g k) → (k : ℕ) → k < n → f k ≡ g k
  below e k h = e k (omega arith)

  rising-same : (n : ℕ) → ((k : ℕ) → k < n → f k ≡ g k) → rising f n ≡ rising g n
  unfolding rising
  rising-same zero e = refl
  rising-same (suc n) e =
      ap₂ ◌&&◌ (rising-same n (below e)) (later_same n (f n) (below e) ∙ ap (later g n) (e n (le_refl (suc n))))

  force-same : (mjd n : ℕ) → ((k : ℕ) → k < n → f k ≡ g k) → in_force_lem f mjd n ≡ in_force_lem g mjd n
  unfolding in_force_lem
  force-same mjd zero e = refl
  force-same mjd (suc n) e =
      ap₂ (λ (m r : ℕ). cond (leb m mjd) (suc n) r) (e n (le_refl (suc n))) (force-same mjd n (below e))

-- ---- what can be appended

pub record Appendable (s : List ℕ) (mjd : ℕ) (int cab refdly gd : ℤ) : Type 0 where
  pub store : Accepted s
  pub free : count s < most_entries
  pub dated : mjd < 4294967296
  pub late : later (start s) (count s) mjd ≡ true
  pub int-within : nat_abs int ≤ delay_limit
  pub cab-within : nat_abs cab ≤ delay_limit
  pub refdly-within : nat_abs refdly ≤ delay_limit
  pub gd-within : nat_abs gd ≤ delay_limit
  pub plain : version s ≡ 1 → gd ≡ pos 0

-- a GD that is 0 in version 1
gd-plain : (v : ℕ) (gd : ℤ) → eqb v 1 && beyond 0 gd ≡ false → v ≡ 1 → gd ≡ pos 0
gd-plain v gd e h = zero_of gd (magnitude-within 0 gd (sym (ap (λ (t : Bool). t && beyond 0 gd) (eq-eqb v 1 h)) ∙ e))
  where
    zero_of : (z : ℤ) → nat_abs z ≤ 0 → z ≡ pos 0
    zero_of (pos n) h = ap pos (omega arith)
    zero_of (negsuc n) h = absurd (not-suc-le-zero h)

not_full : (n : ℕ) → n ≤ most_entries → eqb n most_entries ≡ false → n < most_entries
not_full n h e = by-test (ltb n most_entries) refl
  where
    is : most_entries ≤ n → n ≡ most_entries
    is l = omega arith

    by-test : (t : Bool) → ltb n most_entries ≡ t → n < most_entries
    by-test true q = ltb-true n most_entries q
    by-test false q = absurd (true≢false (sym (eq-eqb n most_entries (is (ltb-false n most_entries q))) ∙ e))

pub appendable : (s : List ℕ) (mjd : ℕ) (int cab refdly gd : ℤ) (room : ℕ) → mjd < 4294967296 → append_number s mjd int cab refdly gd room ≡ 0
    → Appendable s mjd int cab refdly gd
unfolding append_number
appendable s mjd int cab refdly gd room dated e =
    let a = then-zero _ _ e in
    let b = then-zero _ _ a.1 in
    let t = then-zero _ _ b.1 in
    let g = or-false _ _ (when-zero 19 _ b.0) in
    let f = or-false _ _ g.0 in
    let r = or-false _ _ f.0 in
    let i = or-false _ _ r.0 in
    let l = or-false _ _ (when-zero 21 _ t.0) in
    record {
      store = accepted s a.0;
      free = not_full (count s) (accepted s a.0).few l.1;
      dated = dated;
      late = not-false _ l.0;
      int-within = magnitude-within delay_limit int i.0;
      cab-within = magnitude-within delay_limit cab i.1;
      refdly-within = magnitude-within delay_limit refdly r.1;
      gd-within = magnitude-within delay_limit gd f.1;
      plain = gd-plain (version s) gd g.1;
    }

pub accepts : (s : List ℕ) → Accepted s → store_number s ≡ 0
unfolding store_number ◌when◌
accepts s a = rw (a.known, le-ltb most_entries (count s) a.few, eq-eqb (length s) (store_length_lem (version s) (count s)) a.long, a.rises, a.within)

-- ---- the longer store

all_take : (n : ℕ) (zs : List ℤ) → AllFit zs → AllFit (take n zs)
all_take zero zs f = none
all_take (suc n) [] f = none
all_take (suc n) (z ∷ zs) (more f fs) = more f (all_take n zs fs)

module _ (s : List ℕ) (mjd : ℕ) (int cab refdly gd : ℤ) (a : Appendable s mjd int cab refdly gd) where
  abbrev L : List ℕ
  L = longer_store s mjd int cab refdly gd

  abbrev w : ℕ
  w = group_width_lem (version s)

  abbrev new : List ℤ
  new = int ∷ cab ∷ refdly ∷ gd ∷ []

  fit : 4 + 4 * count s ≤ length s
  fit = groups-fit s a.store.long

  pub versions : version L ≡ version s
  versions = longer-version s fit mjd int cab refdly gd

  pub counts : count L ≡ suc (count s)
  counts = longer-count s fit mjd int cab refdly gd (omega (arith, a.free))

  pub starts : (k : ℕ) → k < count s → start L k ≡ start s k
  starts = longer-start s fit mjd int cab refdly gd

  pub date : start L (count s) ≡ mjd
  date = longer-date s fit mjd int cab refdly gd a.dated

  fitting : AllFit new
  fitting =
      more (fits-of a.int-within (omega arith))
      (more (fits-of a.cab-within (omega arith)) (more (fits-of a.refdly-within (omega arith)) (more (fits-of a.gd-within (omega arith)) none)))

  long : length s ≡ 4 + (4 + 8 * w) * count s
  unfolding store_length_lem
  long = a.store.long

  group_at : groups L ≡ 4 + 4 * count s + 4
  group_at = ap (λ (n : ℕ). 4 + 4 * n) counts ∙ omega arith

  -- number i of the row of all delays
  row_old : (i : ℕ) → i < w * count s → signed_at_lem L (groups L + 8 * i) ≡ signed_at_lem s (groups s + 8 * i)
  row_old i h = ap (λ (n : ℕ). signed_at_lem L (n + 8 * i)) group_at ∙ longer-old s fit mjd int cab refdly gd (8 * i) (omega (arith, long))

  row_new : (j : ℕ) → j < w → signed_at_lem L (groups L + 8 * (w * count s + j)) ≡ get_or new j (pos 0)
  row_new j h =
      ap (signed_at_lem L) (ap (λ (n : ℕ). n + 8 * (w * count s + j)) group_at ∙ omega (arith, long))
      ∙ longer-new s fit mjd int cab refdly gd (all_take w new fitting) j (rw (length-take-le w new (four-wide (version s))) h)
      ∙ get_or-take w new j (pos 0) h

  -- every delay is within its limit
  old-within : (i : ℕ) → i < w * count s → nat_abs (signed_at_lem s (groups s + 8 * i)) ≤ delay_limit
  unfolding delays
  old-within i h =
      subst (λ (z : ℤ). nat_abs z ≤ delay_limit) (signeds-at s (groups s) 8 (w * count s) i h) (within-limit delay_limit (delays s) a.store.within i)

  new-within : (j : ℕ) → nat_abs (get_or new j (pos 0)) ≤ delay_limit
  new-within zero = a.int-within
  new-within (suc zero) = a.cab-within
  new-within (suc (suc zero)) = a.refdly-within
  new-within (suc (suc (suc zero))) = a.gd-within
  new-within (suc (suc (suc (suc j)))) = zero-le

  row_within : (i : ℕ) → i < w * count s + w → nat_abs (signed_at_lem L (groups L + 8 * i)) ≤ delay_limit
  row_within i h = by-test (ltb i (w * count s)) refl
    where
      split : w * count s ≤ i → i ≡ w * count s + (i - w * count s)
      split q = omega arith

      rest : w * count s ≤ i → i - w * count s < w
      rest q = omega arith

      by-test : (t : Bool) → ltb i (w * count s) ≡ t → nat_abs (signed_at_lem L (groups L + 8 * i)) ≤ delay_limit
      by-test true q =
          subst (λ (z : ℤ). nat_abs z ≤ delay_limit) (sym (row_old i (ltb-true i (w * count s) q))) (old-within i (ltb-true i (w * count s) q))
      by-test false q =
          let l = ltb-false i (w * count s) q in
          subst (λ (z : ℤ). nat_abs z ≤ delay_limit)
          (sym (ap (λ (n : ℕ). signed_at_lem L (groups L + 8 * n)) (split l) ∙ row_new (i - w * count s) (rest l)))
          (new-within (i - w * count s))

  rows : group_width_lem (version L) * count L ≡ w * count s + w
  rows = ap₂ (λ (v n : ℕ). group_width_lem v * n) versions counts ∙ omega arith

  delays-within : any_beyond_lem delay_limit (delays L) ≡ false
  unfolding delays
  delays-within =
      ap (λ (n : ℕ). any_beyond_lem delay_limit (signeds_at L (groups L) 8 n)) rows
      ∙ limit-within delay_limit (signeds_at L (groups L) 8 (w * count s + w)) (λ i. by-test i (ltb i (w * count s + w)) refl)
    where
      by-test : (i : ℕ) (t : Bool) → ltb i (w * count s + w) ≡ t → nat_abs (get_or (signeds_at L (groups L) 8 (w * count s + w)) i (pos 0)) ≤ delay_limit
      by-test i true q =
          let h = ltb-true i (w * count s + w) q in
          subst (λ (z : ℤ). nat_abs z ≤ delay_limit) (sym (signeds-at L (groups L) 8 (w * count s + w) i h)) (row_within i h)
      by-test i false q =
          subst (λ (z : ℤ). nat_abs z ≤ delay_limit)
          (sym (get_or-eq_default (signeds_at L (groups L) 8 (w * count s + w)) (pos 0) (omega (arith, ltb-false i (w * count s + w) q, length-signeds L (groups L) 8 (w * count s + w)))))
          zero-le

  rises : rising (start L) (count L) ≡ true
  unfolding rising
  rises =
      ap (rising (start L)) counts
      ∙ ap₂ ◌&&◌ (rising-same (start L) (start s) (count s) starts ∙ a.store.rises)
      (later_same (start L) (start s) (count s) (start L (count s)) starts ∙ ap (later (start s) (count s)) date ∙ a.late)

  -- an appended store is accepted
  pub longer-accepted : Accepted L
  longer-accepted =
      record {
        known = ap (λ (v : ℕ). eqb v 1 || eqb v 2) versions ∙ a.store.known;
        few = omega (arith, counts, a.free);
        long = length-longer s (count s) refl fit mjd int cab refdly gd ∙ one_more s a.store.long ∙ sym (ap₂ store_length_lem versions counts);
        rises = rises;
        within = delays-within;
      }

  -- ---- lookups

  -- the sets of the old entries are the same
  delay-old : (k j : ℕ) → k < count s → j < w → delay L k j ≡ delay s k j
  unfolding delay
  delay-old k j h l =
      ap (λ (v : ℕ). signed_at_lem L (groups L + 8 * (group_width_lem v * k + j))) versions ∙ row_old (w * k + j) (omega (arith, mul-le-mul_left w h))

  delay-new : (j : ℕ) → j < w → delay L (count s) j ≡ get_or new j (pos 0)
  unfolding delay
  delay-new j l = ap (λ (v : ℕ). signed_at_lem L (groups L + 8 * (group_width_lem v * count s + j))) versions ∙ row_new j l

  short : (j : ℕ) → j < 3 → j < w
  short j h = omega (arith, three-wide (version s))

  gd-of : (f : ℤ) (z : ℤ) → (version s ≡ 1 → z ≡ pos 0) → ((version s ≡ 1 → ⊥) → f ≡ z) → cond (eqb (version L) 1) (pos 0) f ≡ z
  gd-of f z one two = ap (λ (v : ℕ). cond (eqb v 1) (pos 0) f) versions ∙ by-test (eqb (version s) 1) refl
    where
      by-test : (t : Bool) → eqb (version s) 1 ≡ t → cond t (pos 0) f ≡ z
      by-test true q = sym (one (eqb-true (version s) 1 q))
      by-test false q = two (eqb-false (version s) 1 q)

  pub set-old : (k : ℕ) → k < count s → set_of_lem L k ≡ set_of_lem s k
  unfolding set_of_lem
  set-old k h =
      λ i. delay-old k 0 h (short 0 (omega arith)) i ∷ delay-old k 1 h (short 1 (omega arith)) i ∷ delay-old k 2 h (short 2 (omega arith)) i
      ∷ gd-of (delay L k 3) (cond (eqb (version s) 1) (pos 0) (delay s k 3)) one two i ∷ []
    where
      one : version s ≡ 1 → cond (eqb (version s) 1) (pos 0) (delay s k 3) ≡ pos 0
      one e = ap (λ (t : Bool). cond t (pos 0) (delay s k 3)) (eq-eqb (version s) 1 e)

      two : (version s ≡ 1 → ⊥) → delay L k 3 ≡ cond (eqb (version s) 1) (pos 0) (delay s k 3)
      two n = delay-old k 3 h (omega (arith, wide-two (version s) n)) ∙ sym (ap (λ (t : Bool). cond t (pos 0) (delay s k 3)) (ne_eqb (version s) 1 n))

  pub set_new : set_of_lem L (count s) ≡ new
  unfolding set_of_lem
  set_new =
      λ i. delay-new 0 (short 0 (omega arith)) i ∷ delay-new 1 (short 1 (omega arith)) i ∷ delay-new 2 (short 2 (omega arith)) i
      ∷ gd-of (delay L (count s) 3) gd a.plain (λ n. delay-new 3 (omega (arith, wide-two (version s) n))) i ∷ []

  -- which entry is in force
  force-new : (d : ℕ) → mjd ≤ d → in_force_lem (start L) d (count L) ≡ suc (count s)
  unfolding in_force_lem
  force-new d h =
      ap (in_force_lem (start L) d) counts
      ∙ ap (λ (t : Bool). cond t (suc (count s)) (in_force_lem (start L) d (count s))) (ap (λ (m : ℕ). leb m d) date ∙ le-leb mjd d h)

  force-old : (d : ℕ) → d < mjd → in_force_lem (start L) d (count L) ≡ in_force_lem (start s) d (count s)
  unfolding in_force_lem
  force-old d h =
      ap (in_force_lem (start L) d) counts
      ∙ ap (λ (t : Bool). cond t (suc (count s)) (in_force_lem (start L) d (count s))) (ap (λ (m : ℕ). leb m d) date ∙ lt-leb mjd d h)
      ∙ force-same (start L) (start s) d (count s) starts

  -- from the new date on the new set is in force
  pub lookup-new : (d : ℕ) → mjd ≤ d → lookup_rule L d ≡ record { number = 0; values = new }
  lookup-new d h =
      sym (lookup-found L d (accepts L longer-accepted) (λ z. never (sym (force-new d h) ∙ z)))
      ∙ ap (λ (v : List ℤ). record { number = 0; values = v })
      (ap (λ (n : ℕ). set_of_lem L (n - 1)) (force-new d h) ∙ ap (set_of_lem L) (sub-one (suc (count s))) ∙ set_new)
    where
      never : suc (count s) ≡ 0 → ⊥
      never e = omega arith

  -- before it a lookup answers as in the old store
  pub lookup-old : (d : ℕ) → d < mjd → lookup_rule L d ≡ lookup_rule s d
  lookup-old d h = by-test (eqb p 0) refl
    where
      p : ℕ
      p = in_force_lem (start s) d (count s)

      place : in_force_lem (start L) d (count L) ≡ p
      place = force-old d h

      by-test : (t : Bool) → eqb p 0 ≡ t → lookup_rule L d ≡ lookup_rule s d
      by-test true q =
          sym (lookup-none L d (accepts L longer-accepted) (place ∙ eqb-true p 0 q)) ∙ lookup-none s d (accepts s a.store) (eqb-true p 0 q)
      by-test false q =
          sym (lookup-found L d (accepts L longer-accepted) (λ z. eqb-false p 0 q (sym place ∙ z)))
          ∙ ap (λ (v : List ℤ). record { number = 0; values = v })
          (ap (λ (n : ℕ). set_of_lem L (n - 1)) place ∙ set-old (p - 1) (omega (arith, in-force-most (start s) d (count s), eqb-false p 0 q)))
          ∙ lookup-found s d (accepts s a.store) (eqb-false p 0 q)
