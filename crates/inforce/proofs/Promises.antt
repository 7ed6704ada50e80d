-- The promises of Job 9 (document 02): which set is in force, and what stands in the lent buffer after an append that was not refused.
-- Assumes nothing.
use mathlib.Core.Path.{◌≡◌, refl, sym, ap, ap₂, ◌∙◌}
use mathlib.Core.List.{List, [], ◌∷◌}
use Prim.Native.Nat.{ℕ, zero, suc, ◌-◌, ◌≤◌, ◌<◌}
use native.Mathlib.Nat.{not-le_of_lt}
use native.Mathlib.Numerals.{sub-one}
use native.Mathlib.Omega.{arith}
use lib.IntN.{ℤ, pos, negsuc}
use lib.ListN.{length, take, drop, get_or}
use lib.Seq.{take_at}
use borrow.Author.Tests.{eq-eqb}
use Rattle.limits.specs.Refusal.{◌when◌, ◌then◌}
use Rattle.limits.specs.Reply.{Reply}
use Rattle.limits.specs.Limits.{outside}
use Rattle.limits.specs.Lists.{any_outside_lem}
use Rattle.decode.specs.Number.{little, unsigned_at, twos_complement_lem, signed_at_lem, signeds_at}
use Rattle.encode.specs.Encode.{little_bytes, pattern_of}
use Rattle.delays.specs.Store.{version, count, group_width_lem, store_length_lem, start, delay, delays, later, rising, store_number}
use Rattle.delays.specs.Lookup.{in_force_lem, set_of_lem, no_set, lookup_number, lookup_rule}
use Rattle.delays.specs.Append.{group_bytes, longer_dates, longer_groups, longer_store, append_number, append_rule, append_after}
use Rattle.delays.proofs.Writing.{length-longer}
use Rattle.delays.proofs.Answers.{append-done, fitting, lookup-found, lookup-none}
use Rattle.inforce.proofs.Forces.{Latest, in-force-latest, in-force-nothing, only-latest}
use Rattle.inforce.proofs.Appending.{Appendable, appendable, accepts, longer-accepted, versions, counts, starts, date, set-old, set_new, lookup-new, lookup-old}

-- ---- the set in force

-- of the starts of a store, only one is the latest that is not after the date
pub latest-only : (s : List ℕ) (d k m : ℕ) → Latest (start s) d (count s) k → Latest (start s) d (count s) m → k ≡ m
latest-only s d k m p q = only-latest (start s) d (count s) k m p q

module _ (s : List ℕ) (d : ℕ) (e : store_number s ≡ 0) where
  -- whichever entry is the latest that starts not after the date, its set is answered
  pub latest-answered : (k : ℕ) → Latest (start s) d (count s) k → lookup_rule s d ≡ record { number = 0; values = set_of_lem s k }
  latest-answered k p = by_place (in_force_lem (start s) d (count s)) refl
    where
      some : {m n : ℕ} → m ≡ suc n → m ≡ 0 → ⊥
      some q z = omega arith

      by_place : (m : ℕ) → in_force_lem (start s) d (count s) ≡ m → lookup_rule s d ≡ record { number = 0; values = set_of_lem s k }
      by_place zero q = absurd (not-le_of_lt (in-force-nothing (start s) d (count s) q k p.within) p.early)
      by_place (suc m) q =
          sym (lookup-found s d e (some q))
          ∙ ap (λ (v : List ℤ). record { number = 0; values = v })
          (ap (λ (n : ℕ). set_of_lem s (n - 1)) q
          ∙ ap (set_of_lem s) (sub-one (suc m) ∙ only-latest (start s) d (count s) m k (in-force-latest (start s) d (count s) m q) p))

  -- 21 where every start is after the date
  pub none-answered : ((j : ℕ) → j < count s → d < start s j) → lookup_rule s d ≡ record { number = 21; values = no_set }
  none-answered h = by_place (in_force_lem (start s) d (count s)) refl
    where
      by_place : (m : ℕ) → in_force_lem (start s) d (count s) ≡ m → lookup_rule s d ≡ record { number = 21; values = no_set }
      by_place zero q = sym (lookup-none s d e q)
      by_place (suc m) q = let p = in-force-latest (start s) d (count s) m q in absurd (not-le_of_lt (h m p.within) p.early)

-- version 1 reads GD as 0
pub first-version-gd : (s : List ℕ) (k : ℕ) → version s ≡ 1 → get_or (set_of_lem s k) 3 (pos 0) ≡ pos 0
unfolding set_of_lem
first-version-gd s k e = simp (eq-eqb (version s) 1 e)

-- ---- what append writes

module _ (s : List ℕ) (mjd : ℕ) (int cab refdly gd : ℤ) (lent : List ℕ) (dated : mjd < 4294967296)
    (e : append_number s mjd int cab refdly gd (length lent) ≡ 0) where
  -- what was written: as many bytes as the answer says
  abbrev pub written : List ℕ
  written = take (append_rule s mjd int cab refdly gd (length lent)).values (append_after s mjd int cab refdly gd lent)

  written_is : written ≡ longer_store s mjd int cab refdly gd
  written_is =
      let f = fitting s mjd int cab refdly gd lent e in
      let d = append-done s mjd int cab refdly gd lent e in
      ap₂ take (sym (ap (λ (r : Reply ℕ). r.values) d.0)) (sym d.1)
      ∙ take_at (longer_store s mjd int cab refdly gd) (drop (store_length_lem (version s) (suc (count s))) lent) (store_length_lem (version s) (suc (count s)))
      (length-longer s (count s) refl f.groups mjd int cab refdly gd ∙ f.long)

  abbrev fit : Appendable s mjd int cab refdly gd
  fit = appendable s mjd int cab refdly gd (length lent) dated e

  -- it is accepted, of the same version, with one entry more
  pub written-accepted : store_number written ≡ 0
  written-accepted = ap store_number written_is ∙ accepts _ (longer-accepted s mjd int cab refdly gd fit)

  pub written-version : version written ≡ version s
  written-version = ap version written_is ∙ versions s mjd int cab refdly gd fit

  pub written_count : count written ≡ suc (count s)
  written_count = ap count written_is ∙ counts s mjd int cab refdly gd fit

  -- the old entries are as they were, and the last one is the new one
  pub written-old : (k : ℕ) → k < count s → (start written k ≡ start s k) × (set_of_lem written k ≡ set_of_lem s k)
  written-old k h = (
    ap (λ (b : List ℕ). start b k) written_is ∙ starts s mjd int cab refdly gd fit k h,
    ap (λ (b : List ℕ). set_of_lem b k) written_is ∙ set-old s mjd int cab refdly gd fit k h,
  )

  pub written_new : (start written (count s) ≡ mjd) × (set_of_lem written (count s) ≡ int ∷ cab ∷ refdly ∷ gd ∷ [])
  written_new = (
    ap (λ (b : List ℕ). start b (count s)) written_is ∙ date s mjd int cab refdly gd fit,
    ap (λ (b : List ℕ). set_of_lem b (count s)) written_is ∙ set_new s mjd int cab refdly gd fit,
  )

  -- from its date on it is in force, and every lookup of an earlier date answers as before
  pub from-the-date-on : (d : ℕ) → mjd ≤ d → lookup_rule written d ≡ record { number = 0; values = int ∷ cab ∷ refdly ∷ gd ∷ [] }
  from-the-date-on d h = ap (λ (b : List ℕ). lookup_rule b d) written_is ∙ lookup-new s mjd int cab refdly gd fit d h

  pub before-the-date : (d : ℕ) → d < mjd → lookup_rule written d ≡ lookup_rule s d
  before-the-date d h = ap (λ (b : List ℕ). lookup_rule b d) written_is ∙ lookup-old s mjd int cab refdly gd fit d h

-- ---- worked cases

-- a store of no entries, and one of version 1 with one entry from 60000 on: INT -5, CAB 6, REF -7
pub empty-store : lookup_rule (1 ∷ 0 ∷ 0 ∷ 0 ∷ []) 60000 ≡ record { number = 21; values = no_set }
unfolding lookup_rule lookup_number store_number store_length_lem start delays delay rising later in_force_lem set_of_lem group_width_lem ◌when◌ ◌then◌ unsigned_at signed_at_lem signeds_at little twos_complement_lem any_outside_lem outside
empty-store = refl

abbrev one_entry : List ℕ
one_entry =
    1 ∷ 0 ∷ 1 ∷ 0 ∷ 96 ∷ 234 ∷ 0 ∷ 0 ∷ 251 ∷ 255 ∷ 255 ∷ 255 ∷ 255 ∷ 255 ∷ 255 ∷ 255 ∷ 6 ∷ 0 ∷ 0 ∷ 0 ∷ 0 ∷ 0 ∷ 0 ∷ 0
    ∷ 249 ∷ 255 ∷ 255 ∷ 255 ∷ 255 ∷ 255 ∷ 255 ∷ 255 ∷ []

pub one_entry_lem : lookup_rule one_entry 60000 ≡ record { number = 0; values = negsuc 4 ∷ pos 6 ∷ negsuc 6 ∷ pos 0 ∷ [] }
unfolding lookup_rule lookup_number store_number store_length_lem start delays delay rising later in_force_lem set_of_lem group_width_lem ◌when◌ ◌then◌ unsigned_at signed_at_lem signeds_at little twos_complement_lem any_outside_lem outside
one_entry_lem = refl

pub one-appended : longer_store (1 ∷ 0 ∷ 0 ∷ 0 ∷ []) 60000 (negsuc 4) (pos 6) (negsuc 6) (pos 0) ≡ one_entry
unfolding longer_store longer_dates longer_groups group_bytes little_bytes pattern_of group_width_lem unsigned_at little
one-appended = refl
