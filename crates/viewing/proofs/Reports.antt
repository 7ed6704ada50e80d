-- What common view answers (specs/View.antt), where it is refused and where it is not.
-- Assumes nothing.
use mathlib.Core.Path.{◌≡◌, refl, sym, ap, ap₂, ◌∙◌}
use mathlib.Core.Bool.{Bool, true, false, ◌||◌}
use mathlib.Core.List.{List, []}
use Prim.Native.Nat.{ℕ, ◌≤◌, ◌<◌}
use native.Mathlib.Omega.{arith}
use lib.Dec.{ltb, eqb, lit<}
use lib.IntN.{pos}
use lib.Signed.{lt_z}
use lib.ListN.{length}
use borrow.Author.Tests.{ltb-true, ltb-false, eq-eqb, ne_eqb}
use Rattle.limits.specs.Refusal.{◌when◌, ◌then◌}
use Rattle.limits.specs.Reply.{reply}
use Rattle.limits.proofs.Laws.{then-refused, then-passed, then-assoc, or-false}
use Rattle.limits.proofs.Replies.{reply-accepted, reply-refused}
use Rattle.viewing.specs.declared.Figures.{Figures}
use Rattle.linefile.specs.Files.{lines, file_number}
use Rattle.linefile.specs.Partners.{partners}
use Rattle.viewing.specs.View.{same_trkl, pairs_of, differences, figures, viewed, longest, view_number_lem, view_rule}

-- what is gathered of the lines of two files
pub gathered-is : (first second : List ℕ) {xs ys : List (List ℕ)} {f : Figures} → (xs ≡ lines first) × (ys ≡ lines second)
    → f ≡ figures (differences (same_trkl (partners xs ys))) → f ≡ figures (viewed first second)
unfolding viewed pairs_of
gathered-is first second l e = e ∙ ap₂ (λ (xs ys : List (List ℕ)). figures (differences (same_trkl (partners xs ys)))) l.0 l.1

module _ (first second : List ℕ) where
  -- the answer of a refusal
  refused : {number : ℕ} → number ≡ view_number_lem first second → 0 < number
      → record { number = number; values = figures [] } ≡ view_rule first second
  unfolding view_rule
  refused {number} e h =
      sym (ap (λ (n : ℕ). reply (figures []) n (figures (viewed first second))) (sym e) ∙ reply-refused (figures []) (figures (viewed first second)) h)

  -- a file that is longer than it may be
  abbrev long : Bool
  long = ltb longest (length first) || ltb longest (length second)

  pub long-refused : long ≡ true → record { number = 19; values = figures [] } ≡ view_rule first second
  unfolding view_number_lem ◌when◌
  long-refused e =
      refused (sym (ap (λ (b : Bool). 19 when b then file_number first then file_number second then 18 when eqb (length (viewed first second)) 0) e ∙ then-refused 19 _ (lit< tt)))
      (lit< tt)

  module _ (short : long ≡ false) where
    pub lengths : (length first ≤ longest) × (length second ≤ longest)
    lengths = let s = or-false (ltb longest (length first)) _ short in (ltb-false _ _ s.0, ltb-false _ _ s.1)

    -- what is left of the number
    rest : view_number_lem first second ≡ (file_number first then file_number second) then 18 when eqb (length (viewed first second)) 0
    unfolding view_number_lem ◌when◌
    rest =
        ap (λ (b : Bool). 19 when b then file_number first then file_number second then 18 when eqb (length (viewed first second)) 0) short
        ∙ then-passed 0 _ refl
        ∙ sym (then-assoc (file_number first) (file_number second) (18 when eqb (length (viewed first second)) 0))

    pub files-refused : {number : ℕ} → number ≡ file_number first then file_number second → 0 < number
        → record { number = number; values = figures [] } ≡ view_rule first second
    files-refused {number} e h =
        refused (sym (rest ∙ ap (λ (n : ℕ). n then 18 when eqb (length (viewed first second)) 0) (sym e) ∙ then-refused number _ h)) h

    module _ (z : file_number first then file_number second ≡ 0) (f : Figures) (e : f ≡ figures (viewed first second)) where
      -- the count tells whether there is a pair
      count-is : lt_z f.pairs (pos 1) ≡ ltb (length (viewed first second)) 1
      unfolding figures
      count-is = ap (λ (x : Figures). lt_z x.pairs (pos 1)) e

      number_is : {b : Bool} → eqb (length (viewed first second)) 0 ≡ b → view_number_lem first second ≡ 18 when b
      number_is p = rest ∙ then-passed _ _ z ∙ ap (λ (b : Bool). 18 when b) p

      pub no-pair : lt_z f.pairs (pos 1) ≡ true → record { number = 18; values = figures [] } ≡ view_rule first second
      unfolding ◌when◌
      no-pair t = refused (sym (number_is (eq-eqb (length (viewed first second)) 0 (none (ltb-true (length (viewed first second)) 1 (sym count-is ∙ t)))))) (lit< tt)
        where
          none : {n : ℕ} → n < 1 → n ≡ 0
          none h = omega arith

      pub reported : lt_z f.pairs (pos 1) ≡ false → record { number = 0; values = f } ≡ view_rule first second
      unfolding view_rule ◌when◌
      reported t =
          ap (λ (x : Figures). record { number = 0; values = x }) e
          ∙ sym (reply-accepted (figures []) (figures (viewed first second)) (number_is (ne_eqb (length (viewed first second)) 0 (some (ltb-false (length (viewed first second)) 1 (sym count-is ∙ t))))))
        where
          some : {n : ℕ} → 1 ≤ n → n ≡ 0 → ⊥
          some h e = omega arith
