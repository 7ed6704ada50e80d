-- How a report grows, one difference after the other (specs/View.antt, specs/Gather.antt).
-- Assumes nothing.
use mathlib.Core.Path.{◌≡◌, refl, sym, ap, subst, ◌∙◌}
use mathlib.Core.Bool.{Bool, true, false, cond, ◌||◌}
use mathlib.Core.List.{List, [], ◌∷◌, ◌++◌, append_assoc, append-nil}
use Prim.Native.Nat.{ℕ, suc, ◌+◌, ◌≤◌}
use native.Mathlib.Omega.{arith}
use lib.Dec.{eqb}
use lib.IntN.{ℤ, pos, neg_ℤ, nat_abs, ◌+ℤ◌, ◌-ℤ◌, +ℤ_idl, +ℤ_idr, +ℤ_assoc, pos-+ℤ-pos}
use lib.Signed.{lt_z}
use lib.ListN.{length, length-append}
use mir.Syntax.{w64}
use mir.Val.{SFits}
use borrow.Author.Tests.{le-ltb}
use Rattle.whole.proofs.Magnitudes.{nat_abs-add, nat_abs-neg}
use Rattle.viewing.specs.declared.Figures.{Figures}
use Rattle.linefile.specs.declared.step.Step.{Step}
use Rattle.linefile.specs.Walk.{step_map, pairs_in}
use Rattle.viewing.specs.View.{trkl_of, refsys_of, same_trkl, differences, sum_of, smaller, larger, chosen, extreme, figures}
use Rattle.viewing.specs.Gather.{counted, widest, Bounded}
use Rattle.linefile.proofs.Ascending.{All}
use Rattle.viewing.proofs.Values.{refsys-bound}
use Rattle.linefile.proofs.Steps.{BothAccepted}

-- ---- one difference more

pub sum-append : (ds es : List ℤ) → sum_of (ds ++ es) ≡ sum_of ds +ℤ sum_of es
unfolding sum_of
sum-append [] es = sym (+ℤ_idl (sum_of es))
sum-append (d ∷ ds) es = ap (λ (z : ℤ). d +ℤ z) (sum-append ds es) ∙ sym (+ℤ_assoc d (sum_of ds) (sum_of es))

sum_one : (ds : List ℤ) (d : ℤ) → sum_of ds +ℤ d ≡ sum_of (ds ++ d ∷ [])
unfolding sum_of
sum_one ds d = ap (λ (z : ℤ). sum_of ds +ℤ z) (sym (+ℤ_idr d)) ∙ sym (sum-append ds (d ∷ []))

chosen-one : (choose : ℤ → ℤ → ℤ) (d : ℤ) (ds : List ℤ) (e : ℤ) → chosen choose d (ds ++ e ∷ []) ≡ choose (chosen choose d ds) e
unfolding chosen
chosen-one choose d [] e = refl
chosen-one choose d (f ∷ ds) e = chosen-one choose (choose d f) ds e

-- a choice that takes the new one where a test says so
extreme-one : (choose : ℤ → ℤ → ℤ) (test : ℤ → ℤ → Bool) → ((d e : ℤ) → choose d e ≡ cond (test d e) e d)
    → (ds : List ℤ) (e : ℤ) → cond (lt_z (pos (length ds)) (pos 1) || test (extreme choose ds) e) e (extreme choose ds) ≡ extreme choose (ds ++ e ∷ [])
unfolding extreme chosen
extreme-one choose test is [] e = refl
extreme-one choose test is (d ∷ ds) e =
    ap (λ (b : Bool). cond (b || test (chosen choose d ds) e) e (chosen choose d ds)) (le-ltb (suc (length ds)) 1 (omega arith))
    ∙ sym (is (chosen choose d ds) e)
    ∙ sym (chosen-one choose d ds e)

smaller-is : (d e : ℤ) → smaller d e ≡ cond (lt_z e d) e d
unfolding smaller
smaller-is d e = refl

larger-is : (d e : ℤ) → larger d e ≡ cond (lt_z d e) e d
unfolding larger
larger-is d e = refl

pub counted-figures : (ds : List ℤ) (d : ℤ) → counted (figures ds) d ≡ figures (ds ++ d ∷ [])
unfolding counted figures
counted-figures ds d =
    let p : pos (length ds) +ℤ pos 1 ≡ pos (length (ds ++ d ∷ [])) = pos-+ℤ-pos (length ds) 1 ∙ ap pos (sym (length-append ds (d ∷ []))) in
    let s = sum_one ds d in
    let a = extreme-one smaller (λ x y. lt_z y x) smaller-is ds d in
    let b = extreme-one larger lt_z larger-is ds d in
    λ i. record { pairs = p i; sum = s i; smallest = a i; largest = b i }

-- its numbers fit their words, so that they read back from their bits
pub record Fits (f : Figures) : Type 0 where
  pub pairs : SFits w64 f.pairs
  pub sum : SFits w64 f.sum
  pub smallest : SFits w64 f.smallest
  pub largest : SFits w64 f.largest

-- ---- how large its numbers are

pub difference-bound : (x y : ℤ) → nat_abs x ≤ 9999999999 → nat_abs y ≤ 9999999999 → nat_abs (x -ℤ y) ≤ widest
difference-bound x y h k = omega (arith, nat_abs-add x (neg_ℤ y), nat_abs-neg y)

counted-bounded : (most : ℕ) (f : Figures) (d : ℤ) → Bounded most f → nat_abs d ≤ widest → Bounded (most + 1) (counted f d)
unfolding counted
counted-bounded most f d b h =
    record {
      pairs = omega (arith, nat_abs-add f.pairs (pos 1), b.pairs);
      sum = omega (arith, nat_abs-add f.sum d, b.sum);
    }

pub more-bounded : (m n : ℕ) {f : Figures} → m ≤ n → Bounded m f → Bounded n f
more-bounded m n h b = record { pairs = omega (arith, b.pairs); sum = omega (arith, b.sum) }

pub nothing-bounded : Bounded 0 (record { pairs = pos 0; sum = pos 0; smallest = pos 0; largest = pos 0 })
nothing-bounded = record { pairs = omega arith; sum = omega arith }

-- ---- a turn of the walk

-- The report on the differences that were seen, and what is left of all.
pub record Gathered (all left : List ℤ) (f : Figures) : Type 0 where
  pub seen : List ℤ
  pub whole : seen ++ left ≡ all
  pub is : f ≡ figures seen
  pub bounded : Bounded (length seen) f

pub nothing-gathered : (all : List ℤ) → Gathered all all (record { pairs = pos 0; sum = pos 0; smallest = pos 0; largest = pos 0 })
unfolding figures sum_of extreme
nothing-gathered all = record { seen = []; whole = refl; is = refl; bounded = nothing-bounded }

pub all-gathered : {all left : List ℤ} {f : Figures} → left ≡ [] → Gathered all left f → f ≡ figures all
all-gathered e g = g.is ∙ ap figures (sym (append-nil g.seen) ∙ ap (λ (l : List ℤ). g.seen ++ l) (sym e) ∙ g.whole)

-- what was seen is at most as much as there is
pub seen-bounded : (most : ℕ) {all left : List ℤ} {f : Figures} → length all ≤ most → Gathered all left f → Bounded most f
seen-bounded most {left = left} h g =
    more-bounded (length g.seen) most (omega (arith, ap length g.whole, length-append g.seen left)) g.bounded

-- a difference is counted where a test says so
more-gathered : (b : Bool) (d : ℤ) {all left next : List ℤ} {f g : Figures} → left ≡ cond b (d ∷ []) [] ++ next → g ≡ cond b (counted f d) f
    → nat_abs d ≤ widest → Gathered all left f → Gathered all next g
more-gathered true d {next = next} {f} {g} e h w t =
    record {
      seen = t.seen ++ d ∷ [];
      whole = append_assoc t.seen (d ∷ []) next ∙ ap (λ (l : List ℤ). t.seen ++ l) (sym e) ∙ t.whole;
      is = h ∙ ap (λ (x : Figures). counted x d) t.is ∙ counted-figures t.seen d;
      bounded =
          subst (λ (n : ℕ). Bounded n g) (sym (length-append t.seen (d ∷ [])))
          (subst (Bounded (length t.seen + 1)) (sym h) (counted-bounded (length t.seen) f d t.bounded w));
    }
more-gathered false d {g = g} e h w t =
    record {
      seen = t.seen;
      whole = ap (λ (l : List ℤ). t.seen ++ l) (sym e) ∙ t.whole;
      is = h ∙ t.is;
      bounded = subst (Bounded (length t.seen)) (sym h) t.bounded;
    }

-- the differences of some pairs
abbrev pub viewed_in : List (List ℕ × List ℕ) → List ℤ
viewed_in ps = differences (same_trkl ps)

differences-more : (x y : List ℕ) (rest : List (List ℕ × List ℕ))
    → viewed_in ((x, y) ∷ rest) ≡ cond (eqb (trkl_of x) (trkl_of y)) ((refsys_of x -ℤ refsys_of y) ∷ []) [] ++ viewed_in rest
unfolding same_trkl differences
differences-more x y rest = by-test (eqb (trkl_of x) (trkl_of y))
  where
    by-test : (b : Bool)
        → differences (cond b ((x, y) ∷ []) [] ++ same_trkl rest) ≡ cond b ((refsys_of x -ℤ refsys_of y) ∷ []) [] ++ differences (same_trkl rest)
    by-test true = refl
    by-test false = refl

pub few-viewed : (ps : List (List ℕ × List ℕ)) → length (viewed_in ps) ≤ length ps
unfolding same_trkl differences
few-viewed [] = omega arith
few-viewed ((x, y) ∷ ps) = by-test (eqb (trkl_of x) (trkl_of y)) (few-viewed ps)
  where
    by-test : (b : Bool) → length (viewed_in ps) ≤ length ps → length (differences (cond b ((x, y) ∷ []) [] ++ same_trkl ps)) ≤ suc (length ps)
    by-test true h = omega arith
    by-test false h = omega arith

-- What the report is made of behind some steps, and that the lines of each pair that is left are accepted.
pub record Left (all : List ℤ) (steps : List (Step (List ℕ))) (f : Figures) : Type 0 where
  pub gathered : Gathered all (viewed_in (pairs_in steps)) f
  pub accepted : All BothAccepted (pairs_in steps)

pub first-left : (all : List ℤ) (steps : List (Step (List ℕ))) → all ≡ viewed_in (pairs_in steps) → All BothAccepted (pairs_in steps)
    → Left all steps (record { pairs = pos 0; sum = pos 0; smallest = pos 0; largest = pos 0 })
first-left all steps e a =
    record {
      gathered = subst (λ (l : List ℤ). Gathered all l (record { pairs = pos 0; sum = pos 0; smallest = pos 0; largest = pos 0 })) e (nothing-gathered all);
      accepted = a;
    }

module _ {all : List ℤ} {left next : List (Step (List ℕ))} {step : Step (List ℕ)} {x y : List ℕ} {f : Figures} (l : Left all left f)
    (e : left ≡ step ∷ next) (b : step ≡ Step.Both x y) where
  pairs-are : pairs_in left ≡ (x, y) ∷ pairs_in next
  pairs-are = ap pairs_in (e ∙ ap (λ (s : Step (List ℕ)). s ∷ next) b)

  pub pair-accepted : BothAccepted (x, y)
  pair-accepted = (subst (All BothAccepted) pairs-are l.accepted).0

  pub pair-left : {g : Figures} → g ≡ cond (eqb (trkl_of x) (trkl_of y)) (counted f (refsys_of x -ℤ refsys_of y)) f → Left all next g
  pair-left h =
      record {
        gathered =
            more-gathered (eqb (trkl_of x) (trkl_of y)) (refsys_of x -ℤ refsys_of y) (ap viewed_in pairs-are ∙ differences-more x y (pairs_in next)) h
            (difference-bound (refsys_of x) (refsys_of y) (refsys-bound x pair-accepted.0) (refsys-bound y pair-accepted.1)) l.gathered;
        accepted = (subst (All BothAccepted) pairs-are l.accepted).1;
      }

pub alone-left : {A : Type 0} (view : A → List ℕ) (step : Step A) {all : List ℤ} {left next : List (Step (List ℕ))} {f : Figures} → Left all left f
    → left ≡ step_map view step ∷ next → ((x y : A) → step ≡ Step.Both x y → ⊥) → Left all next f
alone-left view (Step.First x) {all} {f = f} l e n =
    let p = ap pairs_in e in
    record { gathered = subst (λ ps. Gathered all (viewed_in ps) f) p l.gathered; accepted = subst (All BothAccepted) p l.accepted }
alone-left view (Step.Second y) {all} {f = f} l e n =
    let p = ap pairs_in e in
    record { gathered = subst (λ ps. Gathered all (viewed_in ps) f) p l.gathered; accepted = subst (All BothAccepted) p l.accepted }
alone-left view (Step.Both x y) l e n = absurd (n x y refl)

pub none-left : {all : List ℤ} {left : List (Step (List ℕ))} {f : Figures} → left ≡ [] → Left all left f → f ≡ figures all
unfolding same_trkl differences
none-left e l = all-gathered (ap (λ (s : List (Step (List ℕ))). viewed_in (pairs_in s)) e) l.gathered
