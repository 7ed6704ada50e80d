-- What is printed of a refusal and of a line, and how long it can be.
-- Assumes nothing.
use Rattle.std.proofs.Common.{◌≡◌, ℕ, ◌+◌, ◌/◌, ◌%◌, ◌≤◌, ◌<◌, List, [], ◌∷◌, ◌++◌, refl, sym, ap, ◌∙◌, subst, append_assoc, append-nil, length, drop, drop_of_length-le, arith}
use native.Mathlib.Nat.{le_of_eq}
use native.Mathlib.Decide.{dec_lt, ℕ_discrete}
use lib.Dec.{lit≤}
use borrow.Author.Tests.{lt-ltb, le-ltb, eq-eqb, ne_eqb}
use Rattle.limits.proofs.Laws.{after-accepted}
use Rattle.fields.specs.Text.{decimal}
use Rattle.columns.specs.Text.{line_length}
use Rattle.hire.specs.Hire.{block_labels}
use Rattle.line.specs.Block.{block_numbers, block_line, block_answer, block_after, block_number}
use Rattle.columns.proofs.Widths.{line-width}
use Rattle.trackline.specs.Printed.{refusal_text, answer, printed}

-- ---- the refusal

-- what stands before the number
abbrev pub refused_text : List ℕ
refused_text = 114 ∷ 101 ∷ 102 ∷ 117 ∷ 115 ∷ 101 ∷ 100 ∷ 32 ∷ []

pub one-digit : (number : ℕ) → number < 10 → refused_text ++ (48 + number % 10) ∷ [] ≡ refusal_text number
unfolding refusal_text decimal
one-digit number h = rw (lt-ltb number 10 h)

pub two_digits : (number : ℕ) → 10 ≤ number → (refused_text ++ (48 + number / 10 % 10) ∷ []) ++ (48 + number % 10) ∷ [] ≡ refusal_text number
unfolding refusal_text decimal
two_digits number h = rw (le-ltb number 10 h)

refusal-length : (number : ℕ) → length (refusal_text number) ≤ 10
refusal-length number = go (dec_lt number 10)
  where
    go : Dec (number < 10) → length (refusal_text number) ≤ 10
    go (yes h) = subst (λ (x : List ℕ). length x ≤ 10) (one-digit number h) (lit≤ tt)
    go (no h) = subst (λ (x : List ℕ). length x ≤ 10) (two_digits number (omega arith)) (lit≤ tt)

-- ---- the answer

pub refused-answer : (b : List ℕ) (number : ℕ) → number ≡ block_number b → (number ≡ 0 → ⊥) → refusal_text number ≡ answer b
unfolding answer
refused-answer b number e h = rw (← e, ne_eqb number 0 h)

pub accepted-answer : (b : List ℕ) → block_number b ≡ 0 → answer b ≡ block_line b
unfolding answer
accepted-answer b e = rw (eq-eqb (block_number b) 0 e)

pub written-answer : (b lent after : List ℕ) → length lent ≡ line_length → block_answer b (length lent) ≡ 0 → after ≡ block_after b lent
    → after ≡ answer b
unfolding block_after
written-answer b lent after l e a =
    a
    ∙ after-accepted (block_line b ++ drop line_length lent) lent e
    ∙ ap (λ (x : List ℕ). block_line b ++ x) (drop_of_length-le lent (le_of_eq l))
    ∙ append-nil (block_line b)
    ∙ sym (accepted-answer b (ap (block_answer b) (sym l) ∙ e))

pub answer-length : (b : List ℕ) → length (answer b) ≤ line_length
answer-length b = go (ℕ_discrete (block_number b) 0)
  where
    go : Dec (block_number b ≡ 0) → length (answer b) ≤ line_length
    go (yes e) = omega (arith, ap length (accepted-answer b e) ∙ line-width (block_labels b) (block_numbers b))
    go (no h) =
        omega (arith, ap length (refused-answer b (block_number b) refl h), refusal-length (block_number b))

pub printed-is : (b : List ℕ) → (answer b ++ 13 ∷ []) ++ 10 ∷ [] ≡ printed b
unfolding printed
printed-is b = append_assoc (answer b) (13 ∷ []) (10 ∷ [])
