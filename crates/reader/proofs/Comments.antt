-- The comment (specs/Comment.antt): where it begins, that an accepted line ends with it, and that the one that was written is handed back (document
-- 02, Job 1). A refused line has no comment.
-- Assumes nothing.
use mathlib.Core.Path.{◌≡◌, refl, sym, ap, ap₂, ◌∙◌}
use mathlib.Core.Bool.{true}
use mathlib.Core.List.{List, [], ◌++◌}
use Prim.Native.Nat.{ℕ, zero, suc, ◌≤◌, ◌<◌}
use native.Mathlib.Omega.{arith}
use lib.ListN.{length, drop, take-append-drop}
use lib.Seq.{drop_at, drop-length}
use borrow.Author.Tests.{eq-eqb, ne_eqb}
use Rattle.limits.specs.Limits.{no_numbers}
use Rattle.limits.specs.Reply.{Reply}
use Rattle.limits.proofs.Replies.{reply-number}
use Rattle.labels.specs.declared.Labels.{Labels}
use Rattle.limits.specs.declared.Numbers.{Numbers}
use Rattle.labels.specs.Content.{content_number}
use Rattle.columns.specs.Text.{line_length, line_text}
use Rattle.columns.specs.Columns.{read_labels, read_numbers}
use Rattle.columns.proofs.Widths.{line-width}
use Rattle.characters.specs.Kinds.{printable}
use Rattle.reading.specs.Read.{read_number, no_labels, read_rule}
use Rattle.reading.proofs.Refusals.{accepted}
use Rattle.reading.proofs.AcceptedLine.{accepted-columns}
use Rattle.reading.proofs.WrittenLine.{text-reads-back, comment-length}
use Rattle.reader.specs.Comment.{comment_offset}

module _ (line : List ℕ) where
  pub offset-accepted : read_number line ≡ 0 → comment_offset line ≡ line_length
  unfolding comment_offset
  offset-accepted e = simp (eq-eqb (read_number line) 0 e)

  pub offset-refused : 0 < read_number line → comment_offset line ≡ length line
  unfolding comment_offset
  offset-refused h = simp (ne_eqb (read_number line) 0 (some h))
    where
      some : 0 < read_number line → read_number line ≡ 0 → ⊥
      some h e = omega arith

  -- it lies within the line
  pub offset-within : comment_offset line ≤ length line
  offset-within = by_number (read_number line) refl
    where
      by_number : (n : ℕ) → read_number line ≡ n → comment_offset line ≤ length line
      by_number zero e = omega (arith, offset-accepted e, (accepted line e).0.least)
      by_number (suc n) e = omega (arith, offset-refused (omega arith))

-- ---- the theorems

-- The comment of an accepted line is what stands behind the columns, up to 27 printable bytes: the text and it are the line.
pub accepted-comment : (line : List ℕ) → read_number line ≡ 0
    → let comment = drop (comment_offset line) line in
    (line ≡ line_text (read_labels line) (read_numbers line) ++ comment) × (printable comment ≡ true) × (length comment ≤ 27)
accepted-comment line e =
    let s = (accepted line e).0 in
    let behind : drop (comment_offset line) line ≡ drop line_length line = ap (λ (n : ℕ). drop n line) (offset-accepted line e) in (
      sym (take-append-drop line_length line) ∙ ap₂ ◌++◌ (accepted-columns line e) (sym behind),
      ap printable behind ∙ s.comment,
      rw behind (comment-length line s.most),
    )

-- The comment of a refused line is empty.
pub refused-comment : (line : List ℕ) → 0 < read_number line → drop (comment_offset line) line ≡ []
refused-comment line h = ap (λ (n : ℕ). drop n line) (offset-refused line h) ∙ drop-length line

-- The comment that was written behind the columns is the one that is handed back.
pub written-comment : (l : Labels) (n : Numbers) (comment : List ℕ) → content_number l n ≡ 0 → l.cl < 256 → printable comment ≡ true → length comment ≤ 27
    → let line = line_text l n ++ comment in drop (comment_offset line) line ≡ comment
unfolding read_rule
written-comment l n comment e cl p few =
    let line = line_text l n ++ comment in
    let zero : read_number line ≡ 0 = sym (reply-number (no_labels, no_numbers) (read_labels line, read_numbers line) (read_number line)) ∙ ap (λ (r : Reply (Labels × Numbers)). r.number) (text-reads-back l n comment e cl p few) in
    ap (λ (k : ℕ). drop k line) (offset-accepted line zero) ∙ drop_at (line_text l n) comment line_length (line-width l n)
