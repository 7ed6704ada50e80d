-- Columns put into a line one behind the other make one text.
-- Assumes nothing.
use mathlib.Core.Path.{◌≡◌, refl, sym, ap, ap₂, ◌∙◌}
use mathlib.Core.List.{List, [], ◌∷◌, ◌++◌, append_assoc, append-nil}
use Prim.Native.Nat.{ℕ, suc, ◌+◌, ◌≤◌}
use native.Mathlib.Omega.{arith}
use lib.ListN.{length, length-append}
use Rattle.lent.specs.Placed.{placed}
use Rattle.lent.proofs.Placing.{placed-none, placed-onto}
use Rattle.columns.specs.Placed.{with_space}
use Rattle.columns.specs.Text.{line_length, spaced}

-- two calls, the second behind the first
pub onto : (d : List ℕ) {d₁ d₂ : List ℕ} {at at₁ : ℕ} (s t : List ℕ) → length d ≡ line_length → at ≤ line_length → at + length s ≡ at₁ → d₁ ≡ placed d at s
    → d₂ ≡ placed d₁ at₁ t → d₂ ≡ placed d at (s ++ t)
onto d {at = at} s t l h n p q =
    q ∙ ap₂ (λ (x : List ℕ) (k : ℕ). placed x k t) p (sym n) ∙ placed-onto d at s t (rw l h)

-- What is written of columns that begin at an offset: d holds them up to `at`, and the columns `left` are still to be written.
pub record Sofar (columns : List (List ℕ)) (d₀ : List ℕ) (start : ℕ) (d : List ℕ) (at : ℕ) (left : List (List ℕ)) : Type 0 where
  pub room : start ≤ length d₀
  pub text : List ℕ
  pub is : d ≡ placed d₀ start text
  pub long : at ≡ start + length text
  pub whole : text ++ spaced left ≡ spaced columns

pub begin : (columns : List (List ℕ)) (d₀ : List ℕ) (start : ℕ) → length d₀ ≡ line_length → start ≤ line_length → Sofar columns d₀ start d₀ start columns
begin columns d₀ start l h = record { room = rw l h; text = []; is = placed-none d₀ start; long = omega arith; whole = refl }

-- a column of a known width, and its space
pub column : {columns : List (List ℕ)} {d₀ d d₁ : List ℕ} {start at width : ℕ} {c : List ℕ} {cs : List (List ℕ)} → length c ≡ width
    → Sofar columns d₀ start d at (c ∷ cs) → d₁ ≡ placed d at (with_space c) → Sofar columns d₀ start d₁ (at + suc width) cs
unfolding spaced
column {columns} {d₀} {d} {d₁} {start} {at} {width} {c} {cs} w f p =
    record {
      room = f.room;
      text = f.text ++ with_space c;
      is = p ∙ ap₂ (λ (x : List ℕ) (n : ℕ). placed x n (with_space c)) f.is f.long ∙ placed-onto d₀ start f.text (with_space c) f.room;
      long = longer (length f.text) (length c) (length (with_space c)) (length (f.text ++ with_space c)) f.long w (length-append c (32 ∷ [])) (length-append f.text (with_space c));
      whole = append_assoc f.text (with_space c) (spaced cs) ∙ ap (λ (x : List ℕ). f.text ++ x) (append_assoc c (32 ∷ []) (spaced cs)) ∙ f.whole;
    }
  where
    longer : (t n e te : ℕ) → at ≡ start + t → n ≡ width → e ≡ n + 1 → te ≡ t + e → at + suc width ≡ start + te
    longer t n e te h₁ h₂ h₃ h₄ = omega arith

pub end : {columns : List (List ℕ)} {d₀ d : List ℕ} {start at : ℕ} → Sofar columns d₀ start d at [] → d ≡ placed d₀ start (spaced columns)
unfolding spaced
end {columns} {d₀} {d} {start} f = f.is ∙ ap (placed d₀ start) (sym (append-nil f.text) ∙ f.whole)
