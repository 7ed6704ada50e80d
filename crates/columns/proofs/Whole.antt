-- The three groups of columns and the checksum, written one behind the other, are the text of a line.
-- Assumes nothing.
use mathlib.Core.Path.{◌≡◌, sym, ap, ◌∙◌, subst}
use mathlib.Core.List.{List, ◌++◌}
use Prim.Native.Nat.{ℕ, ◌+◌}
use native.Mathlib.Omega.{arith}
use lib.ListN.{length, take, length-append}
use Rattle.fields.specs.Text.{hexadecimal, checksum}
use Rattle.fields.proofs.Laws.{length-hexadecimal}
use Rattle.labels.specs.declared.Labels.{Labels}
use Rattle.limits.specs.declared.Numbers.{Numbers}
use Rattle.lent.specs.Placed.{placed}
use Rattle.columns.specs.Text.{line_length, track_columns, clock_columns, delay_columns, columns, spaced, line_text}
use Rattle.lent.proofs.Placing.{placed-whole, placed-front, length-placed}
use Rattle.columns.proofs.Placing.{onto}
use Rattle.columns.proofs.Widths.{width, track-sized, clock-columns-sized, columns-width, groups}

module _ (l : Labels) (n : Numbers) (blank : List ℕ) (long : length blank ≡ line_length) where
  -- columns 1 to 111
  all-columns : {d₁ d₂ d₃ : List ℕ} → d₁ ≡ placed blank 0 (spaced (track_columns l n.trkl)) → d₂ ≡ placed d₁ 34 (spaced (clock_columns n))
      → d₃ ≡ placed d₂ 77 (spaced (delay_columns l n)) → d₃ ≡ placed blank 0 (spaced (columns l n))
  all-columns {d₁} {d₂} {d₃} p q r =
      subst (λ (t : List ℕ). d₃ ≡ placed blank 0 t) (groups l n)
      (onto _ _ _ long (omega arith) (ap (λ (k : ℕ). 0 + k) (width (track-sized l n.trkl))) p
      (onto _ _ _ (ap length p ∙ length-placed blank 0 _ (omega (arith, width (track-sized l n.trkl), long)) ∙ long) (omega arith) (ap (λ (k : ℕ). 34 + k) (width (clock-columns-sized n))) q r))

  pub text-is : {d₁ d₂ d₃ d₄ : List ℕ} {sum : ℕ} → d₁ ≡ placed blank 0 (spaced (track_columns l n.trkl)) → d₂ ≡ placed d₁ 34 (spaced (clock_columns n))
      → d₃ ≡ placed d₂ 77 (spaced (delay_columns l n)) → sum ≡ checksum (take 111 d₃) → d₄ ≡ placed d₃ 111 (hexadecimal sum) → d₄ ≡ line_text l n
  unfolding line_text
  text-is {d₃ = d₃} {d₄ = d₄} {sum = sum} p q r e s =
      (onto _ _ _ long (omega arith) (ap (λ (k : ℕ). 0 + k) (columns-width l n)) front s)
      ∙ placed-whole blank (spaced (columns l n) ++ hexadecimal sum) (length-append (spaced (columns l n)) (hexadecimal sum) ∙ full ∙ sym long)
      ∙ ap (λ (k : ℕ). spaced (columns l n) ++ hexadecimal k) (e ∙ ap checksum (ap (take 111) front ∙ placed-front blank (spaced (columns l n)) 111 (columns-width l n)))
    where
      front : d₃ ≡ placed blank 0 (spaced (columns l n))
      front = all-columns p q r

      full : length (spaced (columns l n)) + length (hexadecimal sum) ≡ line_length
      full = omega (arith, columns-width l n, length-hexadecimal sum)
