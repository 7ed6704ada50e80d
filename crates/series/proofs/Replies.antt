-- The replies of a list that is refused, and of one that is not (specs/Smooth.antt, specs/Fit.antt, specs/Scatter.antt).
-- Assumes nothing.
use borrow.Author.Tests.{ne_eqb}
use mathlib.Core.Bool.{true, false}
use mathlib.Core.Path.{◌≡◌, sym, ap, ◌∙◌, subst, subst₂}
use mathlib.Core.List.{List}
use Prim.Native.Nat.{ℕ, ◌*◌, ◌≤◌, ◌<◌}
use native.Mathlib.Omega.{arith}
use lib.Dec.{lit<}
use lib.IntN.{ℤ, pos, nat_abs}
use lib.ListN.{length}
use Rattle.std.specs.Prelude.{Err}
use Rattle.whole.specs.Order.{◌⩽◌, ◌⋖◌}
use Rattle.whole.proofs.Order.{pos-le, pos-lt}
use Rattle.whole.specs.Table.{at}
use Rattle.exact.specs.Corrected.{steps}
use Rattle.limits.specs.Limits.{dsg_number, measurement_limit}
use Rattle.limits.specs.Lists.{any_beyond_lem, range_number}
use Rattle.limits.specs.Refusal.{◌when◌, ◌then◌}
use Rattle.limits.specs.Reply.{reply}
use Rattle.limits.specs.Numbers.{paper_number, reply_of}
use Rattle.limits.specs.declared.refusal.Refusal.{Refusal}
use Rattle.limits.proofs.Cases.{paper_above_zero}
use Rattle.limits.proofs.Laws.{then-refused, then-passed, dsg-refused, dsg-accepted}
use Rattle.limits.proofs.Lists.{counts, list-passes}
use Rattle.limits.proofs.Replies.{reply-accepted, reply-refused}
use Rattle.series.specs.Answers.{fit_reply}
use Rattle.series.specs.Smooth.{smoothed, smooth_rule}
use Rattle.series.specs.Fit.{series_number, fit_rule}
use Rattle.series.specs.Scatter.{squares, threshold, dsg, scatter_rule, squares_cap}
use Rattle.series.proofs.Residuals.{squares-pos}
use Rattle.series.proofs.Thresholds.{cap-is, dsg-greatest, greatest, dsg-below}

-- ---- Smooth

module _ (l : List ℤ) where
  pub smooth-miscounted : (length l ≡ 15 → ⊥) → record { number = 1; values = pos 0 } ≡ smooth_rule l
  unfolding smooth_rule range_number ◌when◌ ◌then◌
  smooth-miscounted h = rw (ne_eqb (length l) 15 h)

  pub smooth-beyond : length l ≡ 15 → any_beyond_lem measurement_limit l ≡ true → record { number = 2; values = pos 0 } ≡ smooth_rule l
  unfolding smooth_rule range_number ◌when◌ ◌then◌
  smooth-beyond h e = rw (counts 15 l h, e)

  pub smooth-passes : length l ≡ 15 → any_beyond_lem measurement_limit l ≡ false → record { number = 0; values = smoothed (at l) } ≡ smooth_rule l
  unfolding smooth_rule
  smooth-passes h e = sym (reply-accepted _ _ (list-passes _ _ _ l (counts 15 l h) e))

-- ---- Fit and Scatter: a list that is refused

module _ (l : List ℤ) (r : Refusal) (e : paper_number r ≡ series_number l) where
  number-some : 0 < series_number l
  number-some = subst (λ (n : ℕ). 0 < n) e (paper_above_zero r)

  pub fit-refused : fit_reply (Err r) ≡ fit_rule l
  unfolding fit_rule
  fit-refused = rw e (sym (reply-refused _ _ number-some))

  -- before DSG is known
  pub scatter-refused : reply_of (pos 0) (Err r) ≡ scatter_rule l
  unfolding scatter_rule
  scatter-refused =
      let sigma = pos (dsg steps (length l) (squares (length l) (at l))) in
      let f = then-refused (series_number l) (dsg_number sigma) number-some in
      rw e (sym (ap (λ (n : ℕ). reply (pos 0) n sigma) f ∙ reply-refused _ _ number-some))

-- ---- Scatter: a list that is not refused

module _ (l : List ℤ) (some : 0 < length l) (e : series_number l ≡ 0) where
  abbrev Q : ℤ
  Q = squares (length l) (at l)

  -- a sum of squares from the cap up has a DSG above 9999
  pub scatter-above : (r : Refusal) → paper_number r ≡ 6 → squares_cap * length l ≤ nat_abs Q → reply_of (pos 0) (Err r) ≡ scatter_rule l
  unfolding scatter_rule
  scatter-above r h least =
      let reached : threshold steps (length l) 10000 ⩽ Q = subst₂ (λ (x y : ℤ). x ⩽ y) (sym (cap-is (length l))) (sym (squares-pos (length l) _)) (pos-le least) in
      let top : 9999 < dsg steps (length l) Q = greatest steps (length l) (dsg-greatest steps (length l) (lit< tt) some Q) (lit< tt) reached in
      rw h (sym (ap (λ (k : ℕ). reply (pos 0) k (pos (dsg steps (length l) Q))) (then-passed _ _ e ∙ dsg-refused _ top)))

  -- and one below it is DSG's
  module _ (q d : ℕ) (same : pos q ≡ Q) (h : d ≡ dsg steps (length l) (pos q)) (below : q < squares_cap * length l) where
    sigma-is : d ≡ dsg steps (length l) Q
    sigma-is = h ∙ ap (dsg steps (length l)) same

    under : dsg steps (length l) Q < 10000
    under =
        dsg-below steps (length l) (lit< tt) some (lit< tt)
        (subst₂ (λ (x y : ℤ). x ⋖ y) same (sym (cap-is (length l))) (pos-lt below))

    pub sigma-small : d ≤ 9999
    sigma-small = let s = sigma-is in let u = under in omega arith

    pub scatter-below : record { number = 0; values = pos d } ≡ scatter_rule l
    unfolding scatter_rule
    scatter-below =
        let u : dsg steps (length l) Q ≤ 9999 = rw sigma-is at sigma-small in
        ap (λ (k : ℕ). record { number = 0; values = pos k }) sigma-is ∙ sym (reply-accepted _ _ (then-passed _ _ e ∙ dsg-accepted _ u))
