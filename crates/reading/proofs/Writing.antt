-- What Line writes in a column may stand in it.
-- Assumes nothing.
use mathlib.Core.Path.{◌≡◌, refl, sym, ap, ap₂, ◌∙◌}
use mathlib.Core.Bool.{Bool, true, false, ◌&&◌, ◌||◌, or-true}
use mathlib.Core.List.{List, [], ◌∷◌, ◌++◌, append_assoc}
use Prim.Native.Nat.{ℕ, zero, suc, ◌+◌, ◌-◌, ◌/◌, ◌%◌, ◌≤◌, ◌<◌}
use native.Mathlib.Omega.{arith}
use lib.Dec.{ltb}
use lib.IntN.{ℤ, pos, negsuc, nat_abs}
use lib.ListN.{length, length-replicate, replicate-append-replicate}
use borrow.Author.Tests.{ltb-true, ltb-false, le-leb}
use Rattle.fields.specs.Text.{decimal, sign, signed, hex_digit_lem, hexadecimal}
use Rattle.fields.proofs.Laws.{length-decimal, length-signed, length-hexadecimal}
use Rattle.labels.specs.declared.Labels.{Labels}
use Rattle.limits.specs.declared.Numbers.{Numbers}
use Rattle.labels.specs.Labels.{labels_fit_lem}
use Rattle.labels.proofs.Digits.{ranged}
use Rattle.columns.specs.Text.{time_of_day, track_columns, clock_columns, delay_columns, columns, spaced}
use Rattle.columns.proofs.Widths.{length-time}
use Rattle.characters.specs.Kinds.{within, allows, kinds, allowed}
use Rattle.reading.specs.Fields.{digits, hex_digits}
use Rattle.limits.proofs.Laws.{and-true-both}
use Rattle.characters.proofs.Allowed.{letter-is, digit-is, hexadecimal-is, code_is, space-is, allowed-append}
use Rattle.characters.proofs.Picture.{letter-fits}
use Rattle.reading.proofs.AcceptedLine.{field_kinds, kinds-spaced}

digit-allowed : (n : ℕ) → allows 57 (48 + n % 10) ≡ true
digit-allowed n = digit-is (48 + n % 10) ∙ ap₂ ◌&&◌ (le-leb 48 (48 + n % 10) (omega arith)) (le-leb (48 + n % 10) 57 (omega arith))

pub decimal-allowed : (columns n : ℕ) → allowed (digits columns) (decimal columns n) ≡ true
unfolding decimal allowed
decimal-allowed zero n = refl
decimal-allowed (suc columns) n =
    ap (λ (k : List ℕ). allowed k (decimal columns (n / 10) ++ (48 + n % 10) ∷ [])) (one_more columns)
    ∙ allowed-append (digits columns) (digits 1) (decimal columns (n / 10)) ((48 + n % 10) ∷ []) (length-replicate columns 57 ∙ sym (length-decimal columns (n / 10)))
    (decimal-allowed columns (n / 10))
    (and-true-both (digit-allowed n) refl)
  where
    one_more : (n : ℕ) → digits (suc n) ≡ digits n ++ digits 1
    one_more n = ap digits (more n) ∙ sym (replicate-append-replicate n 1 57)
      where
        more : (n : ℕ) → suc n ≡ n + 1
        more n = omega arith

sign-allowed : (z : ℤ) → allows 43 (sign z) ≡ true
unfolding allows sign
sign-allowed (pos n) = refl
sign-allowed (negsuc n) = refl

signed-allowed : (columns : ℕ) (z : ℤ) → allowed (43 ∷ digits columns) (signed (suc columns) z) ≡ true
unfolding signed allowed
signed-allowed columns z = and-true-both (sign-allowed z) (decimal-allowed columns (nat_abs z))

figure-allowed : (d : ℕ) → d < 10 → allows 70 (48 + d) ≡ true
figure-allowed d h =
    hexadecimal-is (48 + d)
    ∙ ap (λ (t : Bool). t || within 65 70 (48 + d)) (and-true-both (le-leb 48 (48 + d) (omega arith)) (le-leb (48 + d) 57 (omega arith)))

letter-allowed : (d : ℕ) → 10 ≤ d → d < 16 → allows 70 (65 + d - 10) ≡ true
letter-allowed d h k =
    hexadecimal-is (65 + d - 10)
    ∙ ap (λ (t : Bool). within 48 57 (65 + d - 10) || t) (and-true-both (le-leb 65 (65 + d - 10) (omega arith)) (le-leb (65 + d - 10) 70 (omega arith)))
    ∙ or-true (within 48 57 (65 + d - 10))

hex-allowed : (n : ℕ) → allows 70 (hex_digit_lem n) ≡ true
unfolding hex_digit_lem
hex-allowed n = elim (ltb (n % 16) 10) as (λ t. ltb (n % 16) 10 ≡ t → allows 70 (hex_digit_lem n) ≡ true) [
  | true ↦ λ e. simp e (figure-allowed (n % 16) (ltb-true (n % 16) 10 e))
  | false ↦ λ e. simp e (letter-allowed (n % 16) (ltb-false (n % 16) 10 e) (omega arith))
] refl

hexadecimal-allowed : (n : ℕ) → allowed (hex_digits 2) (hexadecimal n) ≡ true
unfolding hexadecimal allowed
hexadecimal-allowed n = and-true-both (hex-allowed (n / 16)) (and-true-both (hex-allowed n) refl)

time-allowed : (second : ℕ) → allowed (digits 6) (time_of_day second) ≡ true
unfolding time_of_day
time-allowed second =
    allowed-append (digits 2) (digits 4) (decimal 2 _) _ (sym (length-decimal 2 _)) (decimal-allowed 2 _)
    (allowed-append (digits 2) (digits 2) (decimal 2 _) _ (sym (length-decimal 2 _)) (decimal-allowed 2 _) (decimal-allowed 2 _))

-- ---- all columns

-- Columns that may stand in fields of these kinds.
pub data Fitting : (fields texts : List (List ℕ)) → Type 0 where
  none : Fitting [] []
  one : {k c : List ℕ} {ks cs : List (List ℕ)} → length k ≡ length c → allowed k c ≡ true → Fitting ks cs → Fitting (k ∷ ks) (c ∷ cs)

pub spaced-allowed : {ks cs : List (List ℕ)} → Fitting ks cs → (rest : List ℕ) → allowed (spaced ks) (spaced cs ++ rest) ≡ true
unfolding spaced allowed
spaced-allowed none rest = refl
spaced-allowed (one {k} {c} {ks} {cs} l e f) rest =
    ap (allowed (k ++ 32 ∷ spaced ks)) (append_assoc c (32 ∷ spaced cs) rest)
    ∙ allowed-append k (32 ∷ spaced ks) c (32 ∷ (spaced cs ++ rest)) l e (and-true-both space (spaced-allowed f rest))
  where
    space : allows 32 32 ≡ true
    space = space-is 32

fitting : (l : Labels) (n : Numbers) → labels_fit_lem l ≡ true → Fitting field_kinds (columns l n)
unfolding columns track_columns clock_columns delay_columns allowed
fitting l n e =
    let f = ranged l e in
    one (ap suc (sym (length-decimal 2 _))) (and-true-both (letter-is _ ∙ letter-fits l.constellation l.ioe l.fr f.letter) (decimal-allowed 2 _))
    (one (sym (length-hexadecimal _)) (hexadecimal-allowed _)
    (one (sym (length-decimal 5 _)) (decimal-allowed 5 _)
    (one (sym (length-time _)) (time-allowed _)
    (one (sym (length-decimal 4 _)) (decimal-allowed 4 _)
    (one (sym (length-decimal 3 _)) (decimal-allowed 3 _)
    (one (sym (length-decimal 4 _)) (decimal-allowed 4 _)
    (one (sym (length-signed 11 _)) (signed-allowed 10 _)
    (one (sym (length-signed 6 _)) (signed-allowed 5 _)
    (one (sym (length-signed 11 _)) (signed-allowed 10 _)
    (one (sym (length-signed 6 _)) (signed-allowed 5 _)
    (one (sym (length-decimal 4 _)) (decimal-allowed 4 _)
    (one (sym (length-decimal 3 _)) (decimal-allowed 3 _)
    (one (sym (length-decimal 4 _)) (decimal-allowed 4 _)
    (one (sym (length-signed 4 _)) (signed-allowed 3 _)
    (one (sym (length-decimal 4 _)) (decimal-allowed 4 _)
    (one (sym (length-signed 4 _)) (signed-allowed 3 _)
    (one (sym (length-decimal 2 _)) (decimal-allowed 2 _)
    (one (sym (length-decimal 2 _)) (decimal-allowed 2 _)
    (one refl (and-true-both (code_is _ ∙ f.codes.0) (and-true-both (code_is _ ∙ f.codes.1) (and-true-both (code_is _ ∙ f.codes.2) refl))) none)))))))))))))))))))

pub columns-allowed : (l : Labels) (n : Numbers) (rest : List ℕ) → labels_fit_lem l ≡ true → allowed kinds (spaced (columns l n) ++ rest) ≡ true
columns-allowed l n rest e =
    ap (λ (k : List ℕ). allowed k (spaced (columns l n) ++ rest)) kinds-spaced ∙ spaced-allowed (fitting l n e) rest
