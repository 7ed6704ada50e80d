-- What is reported of two line files (specs/View.antt): each line is in one pair at most; with the files exchanged all signs turn; a file with itself
-- has all differences 0; the smallest and the largest are differences that bound all others and, as often as there are pairs, the sum.
-- Assumes nothing.
use mathlib.Core.Path.{◌≡◌, refl, sym, ap, ap₂, ◌∙◌}
use mathlib.Core.Bool.{Bool, or_comm, or_self}
use mathlib.Core.List.{List, [], ◌∷◌, map}
use Prim.Native.Nat.{ℕ, zero, suc, ◌≤◌}
use native.Mathlib.Nat.{suc-ne-zero}
use lib.Dec.{ltb, eqb}
use lib.IntN.{ℤ, pos, neg_ℤ, ◌+ℤ◌, ◌*ℤ◌}
use lib.Signed.{◌≤ℤ◌}
use lib.ListN.{length, replicate, length-replicate, length-map}
use Rattle.limits.specs.Refusal.{◌when◌, ◌then◌}
use Rattle.limits.specs.Reply.{reply}
use Rattle.limits.proofs.Laws.{then-passed}
use Rattle.viewing.specs.declared.Figures.{Figures}
use Rattle.linefile.specs.Files.{lines, file_number}
use Rattle.linefile.specs.Partners.{partners}
use Rattle.viewing.specs.View.{same_trkl, pairs_of, differences, viewed, sum_of, smaller, larger, chosen, extreme, figures, longest, view_number_lem, view_rule}
use Rattle.linefile.proofs.Lines.{line-file}
use Rattle.linefile.proofs.Ascending.{All}
use Rattle.linefile.proofs.Holding.{times}
use Rattle.linefile.proofs.Partners.{exchanged, partners-exchanged, partners-itself}
use Rattle.viewing.proofs.Extremes.{Among, smallest-is, largest-is, smallest-sum, largest-sum, sum-turned, smallest-turned, largest-turned}
use Rattle.viewing.proofs.Pairing.{trkl-exchanged, differences-exchanged, differences-itself, firsts, seconds, firsts-once, seconds-once}

-- ---- the figures of any differences

-- What the figures say of the differences that they are of.
pub record Reported (ds : List ℤ) (f : Figures) : Type 0 where
  pub smallest : Among f.smallest ds × All (λ d. f.smallest ≤ℤ d) ds
  pub largest : Among f.largest ds × All (λ d. d ≤ℤ f.largest) ds

pub figures-of : (d : ℤ) (ds : List ℤ) → Reported (d ∷ ds) (figures (d ∷ ds))
unfolding figures
figures-of d ds = record { smallest = smallest-is d ds; largest = largest-is d ds }

-- As often as there are pairs, the smallest difference is at most the sum, and the largest at least.
pub record Between (f : Figures) : Type 0 where
  pub least : (f.smallest *ℤ f.pairs) ≤ℤ f.sum
  pub most : f.sum ≤ℤ (f.largest *ℤ f.pairs)

figures-between : (ds : List ℤ) → Between (figures ds)
unfolding figures
figures-between ds = record { least = smallest-sum ds; most = largest-sum ds }

pub report-between : (first second : List ℕ) → Between (view_rule first second).values
unfolding view_rule
report-between first second = by_number (view_number_lem first second)
  where
    by_number : (n : ℕ) → Between (reply (figures []) n (figures (viewed first second))).values
    by_number zero = figures-between (viewed first second)
    by_number (suc n) = figures-between []

-- ---- two line files

-- The second figures are the first ones with all signs turned.
pub record Turned (f g : Figures) : Type 0 where
  pub pairs : g.pairs ≡ f.pairs
  pub sum : g.sum ≡ neg_ℤ f.sum
  pub smallest : g.smallest ≡ neg_ℤ f.largest
  pub largest : g.largest ≡ neg_ℤ f.smallest

figures-turned : (ds es : List ℤ) → es ≡ map neg_ℤ ds → Turned (figures ds) (figures es)
unfolding figures
figures-turned ds es e =
    record {
      pairs = ap (λ (l : List ℤ). pos (length l)) e ∙ ap pos (length-map ds neg_ℤ);
      sum = ap sum_of e ∙ sum-turned ds;
      smallest = ap (extreme smaller) e ∙ smallest-turned ds;
      largest = ap (extreme larger) e ∙ largest-turned ds;
    }

module _ (first second : List ℕ) (f : file_number first ≡ 0) (g : file_number second ≡ 0) where
  -- no line of either is in two pairs
  pub line-once : (line : List ℕ) → (times line (firsts (pairs_of first second)) ≤ 1) × (times line (seconds (pairs_of first second)) ≤ 1)
  unfolding pairs_of
  line-once line = (
    firsts-once [] [] (lines first) (lines second) (line-file first f).ascends (line-file second g).ascends line,
    seconds-once [] [] (lines first) (lines second) (line-file first f).ascends (line-file second g).ascends line,
  )

  pub pairs-exchanged : pairs_of second first ≡ map exchanged (pairs_of first second)
  unfolding pairs_of
  pairs-exchanged =
      ap same_trkl (partners-exchanged [] [] (lines first) (lines second) (line-file first f).ascends (line-file second g).ascends)
      ∙ trkl-exchanged (partners (lines first) (lines second))

  viewed-exchanged : viewed second first ≡ map neg_ℤ (viewed first second)
  unfolding viewed
  viewed-exchanged = ap differences pairs-exchanged ∙ differences-exchanged (pairs_of first second)

  pub number-exchanged : view_number_lem second first ≡ view_number_lem first second
  unfolding view_number_lem
  number-exchanged =
      λ i. 19 when or_comm (ltb longest (length second)) (ltb longest (length first)) i
      then (g ∙ sym f) i
      then (f ∙ sym g) i
      then 18 when eqb ((ap length viewed-exchanged ∙ length-map (viewed first second) neg_ℤ) i) 0

  pub report-exchanged : Turned (view_rule first second).values (view_rule second first).values
  unfolding view_rule
  report-exchanged =
      by_number (view_number_lem first second) (view_number_lem second first) number-exchanged
    where
      by_number : (m n : ℕ) → n ≡ m → Turned (reply (figures []) m (figures (viewed first second))).values (reply (figures []) n (figures (viewed second first))).values
      by_number zero zero e = figures-turned (viewed first second) (viewed second first) viewed-exchanged
      by_number (suc m) (suc n) e = figures-turned [] [] refl
      by_number zero (suc n) e = absurd (suc-ne-zero n e)
      by_number (suc m) zero e = absurd (suc-ne-zero m (sym e))

-- ---- a file with itself

zeros : (n : ℕ) → (sum_of (replicate n (pos 0)) ≡ pos 0) × (chosen smaller (pos 0) (replicate n (pos 0)) ≡ pos 0) × (chosen larger (pos 0) (replicate n (pos 0)) ≡ pos 0)
unfolding sum_of chosen smaller larger
zeros zero = (refl, refl, refl)
zeros (suc n) = let z = zeros n in (ap (λ (s : ℤ). pos 0 +ℤ s) z.0, z.1, z.2)

figures-zero : (n : ℕ) → figures (replicate n (pos 0)) ≡ record { pairs = pos n; sum = pos 0; smallest = pos 0; largest = pos 0 }
unfolding figures sum_of extreme
figures-zero zero = refl
figures-zero (suc n) =
    let l = ap (λ (k : ℕ). pos (suc k)) (length-replicate n (pos 0)) in
    let z = zeros n in
    let s = ap (λ (s : ℤ). pos 0 +ℤ s) z.0 in
    λ i. record { pairs = l i; sum = s i; smallest = z.1 i; largest = z.2 i }

module _ (file : List ℕ) (f : file_number file ≡ 0) where
  viewed-itself : viewed file file ≡ replicate (length (lines file)) (pos 0)
  unfolding viewed pairs_of
  viewed-itself =
      ap (λ (p : List (List ℕ × List ℕ)). differences (same_trkl p)) (partners-itself [] (lines file) (line-file file f).ascends)
      ∙ differences-itself (lines file)

  -- as many pairs as lines, and all differences 0
  pub figures-itself : figures (viewed file file) ≡ record { pairs = pos (length (lines file)); sum = pos 0; smallest = pos 0; largest = pos 0 }
  figures-itself = ap figures viewed-itself ∙ figures-zero (length (lines file))

  -- refused only where it is too long or has no line
  pub number-itself : view_number_lem file file ≡ 19 when ltb longest (length file) then 18 when eqb (length (lines file)) 0
  unfolding view_number_lem
  number-itself =
      ap₂ (λ (b : Bool) (n : ℕ). 19 when b then n) (or_self (ltb longest (length file)))
      (then-passed (file_number file) _ f
      ∙ then-passed (file_number file) _ f
      ∙ ap (λ (n : ℕ). 18 when eqb n 0) (ap length viewed-itself ∙ length-replicate (length (lines file)) (pos 0)))
