-- A walk over two lists of lines (specs/Walk.antt): its steps, one after the other, and what they are by the keys of the lines.
-- Assumes nothing.
use mathlib.Core.Path.{◌≡◌, refl, sym, ap, ap₂, ◌∙◌}
use mathlib.Core.Bool.{Bool, true, false, cond}
use mathlib.Core.List.{List, [], ◌∷◌, map}
use Prim.Native.Nat.{ℕ, suc, ◌+◌, ◌≤◌, ◌<◌}
use native.Mathlib.Omega.{arith}
use lib.Dec.{ltb}
use lib.ListN.{length, length-map}
use borrow.Author.Tests.{lt-ltb, le-ltb}
use Rattle.std.specs.Prelude.{Some}
use Rattle.std.specs.Iterator.{MakesProgress, at_most}
use Rattle.linefile.specs.declared.step.Step.{Step}
use Rattle.linefile.specs.declared.walk.Walk.{Walk}
use Rattle.linefile.specs.Files.{same, keys, before, lines_number}
use Rattle.linefile.specs.Partners.{partners}
use Rattle.linefile.specs.Walk.{rank, pairs_in, steps_from, steps}
use Rattle.linefile.proofs.Keys.{Order, below, level, above, order}
use Rattle.linefile.proofs.Ascending.{Ascending, All, Accepted, ascending-any, lines-accepted}
use Rattle.linefile.proofs.Partners.{below-partners, above-partners, level-partners, partners-nothing}
use Rattle.linefile.proofs.Ranks.{rank-before}

-- ---- one step

pub second-step : (first : List (List ℕ)) {second others : List (List ℕ)} {other : List ℕ} → length first ≡ 0 → second ≡ other ∷ others
    → steps first second ≡ Step.Second other ∷ steps first others
unfolding steps
second-step [] e f = ap (map Step.Second) f
second-step (x ∷ xs) e f = absurd (none e)
  where
    none : {n : ℕ} → suc n ≡ 0 → ⊥
    none e = omega arith

pub no-step : (first second : List (List ℕ)) → length first ≡ 0 → length second ≡ 0 → steps first second ≡ []
unfolding steps
no-step [] [] e f = refl
no-step [] (y ∷ ys) e f = absurd (none f)
  where
    none : {n : ℕ} → suc n ≡ 0 → ⊥
    none e = omega arith
no-step (x ∷ xs) second e f = absurd (none e)
  where
    none : {n : ℕ} → suc n ≡ 0 → ⊥
    none e = omega arith

pub first-step : (second : List (List ℕ)) {first lines : List (List ℕ)} {line : List ℕ} → first ≡ line ∷ lines → length second ≡ 0
    → steps first second ≡ Step.First line ∷ steps lines second
unfolding steps steps_from
first-step [] e f = ap (λ (l : List (List ℕ)). steps l []) e
first-step (y ∷ ys) e f = absurd (none f)
  where
    none : {n : ℕ} → suc n ≡ 0 → ⊥
    none e = omega arith

module _ {first second lines others : List (List ℕ)} {line other : List ℕ} (e : first ≡ line ∷ lines) (f : second ≡ other ∷ others)
    {place other_place : ℕ} (p : place ≡ rank line) (q : other_place ≡ rank other) where
  abbrev go : (lesser more : Bool) → List (Step (List ℕ))
  go lesser more =
      cond lesser (Step.First line ∷ steps lines (other ∷ others))
      (cond more (Step.Second other ∷ steps (line ∷ lines) others) (Step.Both line other ∷ steps lines others))

  steps-go : steps first second ≡ go (ltb place other_place) (ltb other_place place)
  unfolding steps steps_from
  steps-go = ap₂ steps e f ∙ ap₂ (λ (m n : ℕ). go (ltb m n) (ltb n m)) (sym p) (sym q)

  pub lesser-step : place < other_place → steps first second ≡ Step.First line ∷ steps lines second
  lesser-step h =
      steps-go ∙ ap (λ (b : Bool). go b (ltb other_place place)) (lt-ltb place other_place h)
      ∙ ap (λ (l : List (List ℕ)). Step.First line ∷ steps lines l) (sym f)

  pub greater-step : other_place ≤ place → other_place < place → steps first second ≡ Step.Second other ∷ steps first others
  greater-step h k =
      steps-go ∙ ap₂ go (le-ltb place other_place h) (lt-ltb other_place place k)
      ∙ ap (λ (l : List (List ℕ)). Step.Second other ∷ steps l others) (sym e)

  pub level-step : other_place ≤ place → place ≤ other_place → steps first second ≡ Step.Both line other ∷ steps lines others
  level-step h k = steps-go ∙ ap₂ go (le-ltb place other_place h) (le-ltb other_place place k)

-- after a step there is one less to come
pub progress : {A : Type 0} {s t : Walk} {x : A} {step : Step (List ℕ)} → steps s.first.now s.second.now ≡ step ∷ steps t.first.now t.second.now
    → MakesProgress {A = A} (λ _. Unit {0}) (λ (walk : Walk). at_most (length (steps walk.first.now walk.second.now))) s (Some x) t
progress e = record { on = λ _. (tt, tt, omega (arith, ap length e)); keeps = tt; rests = λ _. tt }

-- ---- by the keys

-- Lines of which none is refused.
abbrev pub Unrefused : List (List ℕ) → Type 0
Unrefused ls = Ascending [] ls × All Accepted ls

pub unrefused : (ls : List (List ℕ)) → lines_number [] ls ≡ 0 → Unrefused ls
unrefused ls e = lines-accepted [] ls e

-- How two lines stand to each other, and what the tests on their ranks give.
data Stand (x y : List ℕ) : Bool → Bool → Type 0 where
  first : before (keys x) (keys y) ≡ true → Stand x y true false
  both : keys x ≡ keys y → before (keys x) (keys y) ≡ false → before (keys y) (keys x) ≡ false → same (keys x) (keys y) ≡ true → Stand x y false false
  second : before (keys y) (keys x) ≡ true → Stand x y false true

stand : (x y : List ℕ) → Accepted x → Accepted y → Stand x y (ltb (rank x) (rank y)) (ltb (rank y) (rank x))
stand x y e f = by_order (order (keys x) (keys y))
  where
    at : {u v : Bool} → before (keys x) (keys y) ≡ u → before (keys y) (keys x) ≡ v → Stand x y u v → Stand x y (ltb (rank x) (rank y)) (ltb (rank y) (rank x))
    at p q s = rw (sym (rank-before x y e f) ∙ p, sym (rank-before y x f e) ∙ q) s

    by_order : Order (keys x) (keys y) → Stand x y (ltb (rank x) (rank y)) (ltb (rank y) (rank x))
    by_order (below p q r) = at p q (first p)
    by_order (level g p q r) = at p q (both g p q r)
    by_order (above p q r) = at q p (second p)

-- What holds of two lists and the steps over them holds by the cases of a step.
pub record StepLaws (P : (first second : List (List ℕ)) → List (Step (List ℕ)) → Type 0) : Type 0 where
  pub seconds : (ys : List (List ℕ)) → P [] ys (map Step.Second ys)
  pub firsts : (x : List ℕ) (xs : List (List ℕ)) (ss : List (Step (List ℕ))) → Ascending (keys x) xs → P xs [] ss → P (x ∷ xs) [] (Step.First x ∷ ss)
  pub first : (x y : List ℕ) (xs ys : List (List ℕ)) (ss : List (Step (List ℕ))) → Ascending (keys x) xs → Ascending (keys y) ys
      → before (keys x) (keys y) ≡ true → P xs (y ∷ ys) ss → P (x ∷ xs) (y ∷ ys) (Step.First x ∷ ss)
  pub second : (x y : List ℕ) (xs ys : List (List ℕ)) (ss : List (Step (List ℕ))) → Ascending (keys x) xs → Ascending (keys y) ys
      → before (keys y) (keys x) ≡ true → P (x ∷ xs) ys ss → P (x ∷ xs) (y ∷ ys) (Step.Second y ∷ ss)
  pub both : (x y : List ℕ) (xs ys : List (List ℕ)) (ss : List (Step (List ℕ))) → Ascending (keys x) xs → Ascending (keys y) ys → Accepted x → Accepted y
      → keys x ≡ keys y → before (keys x) (keys y) ≡ false → before (keys y) (keys x) ≡ false → same (keys x) (keys y) ≡ true
      → P xs ys ss → P (x ∷ xs) (y ∷ ys) (Step.Both x y ∷ ss)

module _ {P : (first second : List (List ℕ)) → List (Step (List ℕ)) → Type 0} (l : StepLaws P) where
  from-line : (x : List ℕ) (xs ys : List (List ℕ)) → Ascending (keys x) xs → Accepted x → Unrefused ys
      → ((zs : List (List ℕ)) → Unrefused zs → P xs zs (steps xs zs)) → P (x ∷ xs) ys (steps_from x (steps xs) ys)
  unfolding steps_from
  from-line x xs [] a e b h = l.firsts x xs (steps xs []) a (h [] (tt, tt))
  from-line x xs (y ∷ ys) a e b h =
      by_stand (ltb (rank x) (rank y)) (ltb (rank y) (rank x)) (stand x y e b.1.0) (h (y ∷ ys) b) (from-line x xs ys a e behind h) (h ys behind)
    where
      behind : Unrefused ys
      behind = (ascending-any (keys y) ys b.0.1, b.1.1)

      by_stand : (u v : Bool) → Stand x y u v → P xs (y ∷ ys) (steps xs (y ∷ ys)) → P (x ∷ xs) ys (steps_from x (steps xs) ys) → P xs ys (steps xs ys)
          → P (x ∷ xs) (y ∷ ys) (cond u (Step.First x ∷ steps xs (y ∷ ys)) (cond v (Step.Second y ∷ steps_from x (steps xs) ys) (Step.Both x y ∷ steps xs ys)))
      by_stand true false (first p) f s t = l.first x y xs ys _ a b.0.1 p f
      by_stand false true (second p) f s t = l.second x y xs ys _ a b.0.1 p s
      by_stand false false (both g p q r) f s t = l.both x y xs ys _ a b.0.1 e b.1.0 g p q r t
      by_stand true true p f s t = elim p [ ]

  pub by-steps : (xs ys : List (List ℕ)) → Unrefused xs → Unrefused ys → P xs ys (steps xs ys)
  unfolding steps
  by-steps [] ys a b = l.seconds ys
  by-steps (x ∷ xs) ys a b =
      from-line x xs ys a.0.1 a.1.0 b (λ zs c. by-steps xs zs (ascending-any (keys x) xs a.0.1, a.1.1) c)

-- ---- the partners

no-pairs : (ys : List (List ℕ)) → pairs_in (map Step.Second ys) ≡ []
no-pairs [] = refl
no-pairs (y ∷ ys) = no-pairs ys

-- the lines that steps pass together are the partners
pub partners-steps : (xs ys : List (List ℕ)) → Unrefused xs → Unrefused ys → partners xs ys ≡ pairs_in (steps xs ys)
unfolding partners
partners-steps =
    by-steps {P = λ xs ys ss. partners xs ys ≡ pairs_in ss}
    (record {
      seconds = λ ys. sym (no-pairs ys);
      firsts = λ x xs ss a h. partners-nothing (x ∷ xs) ∙ sym (partners-nothing xs) ∙ h;
      first = λ x y xs ys ss a b p h. below-partners x y xs ys a b p ∙ h;
      second = λ x y xs ys ss a b p h. above-partners x y xs ys a b p ∙ h;
      both = λ x y xs ys ss a b e f g p q r h. level-partners x y xs ys a b g r ∙ ap (λ (t : List (List ℕ × List ℕ)). (x, y) ∷ t) h;
    })

-- Two lines that are accepted.
abbrev pub BothAccepted : List ℕ × List ℕ → Type 0
BothAccepted p = Accepted p.0 × Accepted p.1

pub pairs-accepted : (xs ys : List (List ℕ)) → Unrefused xs → Unrefused ys → All BothAccepted (pairs_in (steps xs ys))
pairs-accepted =
    by-steps {P = λ xs ys ss. All BothAccepted (pairs_in ss)}
    (record {
      seconds = λ ys. rw (no-pairs ys) tt;
      firsts = λ x xs ss a h. h;
      first = λ x y xs ys ss a b p h. h;
      second = λ x y xs ys ss a b p h. h;
      both = λ x y xs ys ss a b e f g p q r h. ((e, f), h);
    })

-- there are no more of them than lines in the first list
pub few-pairs : (xs ys : List (List ℕ)) → Unrefused xs → Unrefused ys → length (pairs_in (steps xs ys)) ≤ length xs
few-pairs =
    by-steps {P = λ xs ys ss. length (pairs_in ss) ≤ length xs}
    (record {
      seconds = λ ys. rw (no-pairs ys) (omega arith);
      firsts = λ x xs ss a h. omega arith;
      first = λ x y xs ys ss a b p h. omega arith;
      second = λ x y xs ys ss a b p h. h;
      both = λ x y xs ys ss a b e f g p q r h. omega arith;
    })

-- a walk has no more steps than there are lines
pub few-steps : (xs ys : List (List ℕ)) → Unrefused xs → Unrefused ys → length (steps xs ys) ≤ length xs + length ys
few-steps =
    by-steps {P = λ xs ys ss. length ss ≤ length xs + length ys}
    (record {
      seconds = λ ys. omega (arith, length-map ys Step.Second);
      firsts = λ x xs ss a h. omega arith;
      first = λ x y xs ys ss a b p h. omega arith;
      second = λ x y xs ys ss a b p h. omega arith;
      both = λ x y xs ys ss a b e f g p q r h. omega arith;
    })
