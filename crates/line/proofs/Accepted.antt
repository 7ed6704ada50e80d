-- What an answer 0 of Line tells, and the lent line afterwards (specs/Line.antt).
-- Assumes nothing.
use mathlib.Core.Path.{◌≡◌, sym, ◌∙◌}
use mathlib.Core.List.{List, ◌++◌}
use Prim.Native.Nat.{ℕ, ◌≤◌, ◌<◌}
use native.Mathlib.Omega.{arith}
use lib.ListN.{length, drop}
use borrow.Author.Tests.{le-ltb, lt-ltb}
use Rattle.limits.specs.Refusal.{◌when◌, ◌then◌}
use Rattle.limits.proofs.Laws.{then-zero, then-refused, after-accepted, after-refused, room-passed}
use Rattle.limits.specs.Numbers.{paper_number}
use Rattle.limits.specs.declared.refusal.Refusal.{Refusal}
use Rattle.limits.proofs.Cases.{paper_above_zero}
use Rattle.labels.specs.declared.Labels.{Labels}
use Rattle.limits.specs.declared.Numbers.{Numbers}
use Rattle.labels.specs.Content.{content_number}
use Rattle.lent.specs.Placed.{placed_within}
use Rattle.lent.proofs.Placing.{within, placed_first}
use Rattle.line.specs.Line.{line_answer, line_after}
use Rattle.columns.specs.Text.{line_length, line_text}
use Rattle.columns.proofs.Widths.{line-width}

-- the content is not refused, and there is room
pub content-accepted : (l : Labels) (n : Numbers) (room : ℕ) → line_answer l n room ≡ 0 → content_number l n ≡ 0
unfolding line_answer
content-accepted l n room e = (then-zero _ _ e).0

pub has_room : (l : Labels) (n : Numbers) (room : ℕ) → line_answer l n room ≡ 0 → line_length ≤ room
unfolding line_answer
has_room l n room e = room-passed room line_length (then-zero _ _ e).1

-- and the other way round
pub answer-zero : (l : Labels) (n : Numbers) (room : ℕ) → content_number l n ≡ 0 → line_length ≤ room → line_answer l n room ≡ 0
unfolding line_answer ◌when◌ ◌then◌
answer-zero l n room e h = simp (e, le-ltb room line_length h)

-- a content that is refused is refused first, and then a line with no room
pub content-refused : (l : Labels) (n : Numbers) (room : ℕ) (r : Refusal) → paper_number r ≡ content_number l n → paper_number r ≡ line_answer l n room
unfolding line_answer
content-refused l n room r e = rw (← e) (sym (then-refused _ _ (paper_above_zero r)))

pub room-refused : (l : Labels) (n : Numbers) (room : ℕ) → content_number l n ≡ 0 → room < line_length → 9 ≡ line_answer l n room
unfolding line_answer ◌when◌ ◌then◌
room-refused l n room e h = simp (e, lt-ltb room line_length h)

-- ---- the lent line afterwards

pub kept : (l : Labels) (n : Numbers) (lent : List ℕ) → (line_answer l n (length lent) ≡ 0 → ⊥) → lent ≡ line_after l n lent
unfolding line_after
kept l n lent h = sym (after-refused (line_text l n ++ drop line_length lent) lent h)

pub after_is : (l : Labels) (n : Numbers) (lent : List ℕ) → line_answer l n (length lent) ≡ 0 → line_after l n lent ≡ line_text l n ++ drop line_length lent
unfolding line_after
after_is l n lent e = after-accepted (line_text l n ++ drop line_length lent) lent e

pub written : (l : Labels) (n : Numbers) (lent after : List ℕ) → line_answer l n (length lent) ≡ 0 → after ≡ placed_within lent 0 (line_text l n)
    → after ≡ line_after l n lent
written l n lent after e a =
    a
    ∙ within lent 0 (line_text l n) (omega (arith, line-width l n, has_room l n (length lent) e))
    ∙ placed_first lent (line_text l n) (line-width l n)
    ∙ sym (after_is l n lent e)
