-- Line and its reader undo each other (document 02, Job 1), in a lent line.
-- Assumes nothing.
use mathlib.Core.Path.{◌≡◌, refl, sym, ap, ◌∙◌}
use mathlib.Core.Bool.{true}
use mathlib.Core.List.{List, [], ◌++◌, append-nil}
use Prim.Native.Nat.{ℕ, ◌≤◌, ◌<◌, zero-le}
use lib.Dec.{lit<}
use lib.ListN.{length, take, drop}
use Rattle.limits.specs.declared.Numbers.{Numbers}
use Rattle.fields.specs.Text.{bytes_of}
use Rattle.labels.specs.declared.Labels.{Labels}
use Rattle.columns.specs.Text.{line_length, line_text}
use Rattle.columns.specs.Columns.{read_labels, read_numbers}
use Rattle.line.specs.Line.{line_answer, line_after}
use Rattle.line.proofs.Accepted.{content-accepted, answer-zero, after_is}
use Rattle.line.proofs.Sample as sample
use Rattle.characters.specs.Kinds.{printable}
use Rattle.reading.specs.Read.{read_number, read_rule}
use Rattle.reading.proofs.AcceptedLine.{accepted-columns, accepted-content}
use Rattle.reading.proofs.WrittenLine.{text-reads-back, comment-length}

-- A lent line in which Line wrote reads to what was written, where it is at most 140 bytes long and what stands behind the columns may be a comment.
pub written-reads-back : (l : Labels) (n : Numbers) (lent : List ℕ) → line_answer l n (length lent) ≡ 0 → l.cl < 256 → length lent ≤ 140
    → printable (drop line_length lent) ≡ true → read_rule (line_after l n lent) ≡ record { number = 0; values = (l, n) }
written-reads-back l n lent e cl most p =
    ap read_rule (after_is l n lent e)
    ∙ text-reads-back l n (drop line_length lent) (content-accepted l n (length lent) e) cl p (comment-length lent most)

-- The sample line of document 01 reads to its labels and numbers.
pub sample-reads : read_rule (bytes_of "G05 FF 50722 000200 0780 450 1800 +0000000010 +00000 +0000000010 +00000 0000 007 0000 +000 0000 +000 00 00 L1C 26")
    ≡ record { number = 0; values = (sample.labels, sample.numbers) }
unfolding printable
sample-reads =
    ap read_rule (sym (append-nil (line_text sample.labels sample.numbers) ∙ sample.sample))
    ∙ text-reads-back sample.labels sample.numbers [] (content-accepted sample.labels sample.numbers line_length sample.sample-accepted) (lit< tt) refl zero-le

-- Of a line that is read, lent a line with room, Line answers 0 and writes the same columns again.
pub accepted-written-again : (line lent : List ℕ) → read_number line ≡ 0 → line_length ≤ length lent
    → (line_answer (read_labels line) (read_numbers line) (length lent) ≡ 0)
    × (line_after (read_labels line) (read_numbers line) lent ≡ take line_length line ++ drop line_length lent)
accepted-written-again line lent e h =
    let z = answer-zero (read_labels line) (read_numbers line) (length lent) (accepted-content line e) h in (
      z,
      after_is (read_labels line) (read_numbers line) lent z ∙ ap (λ (t : List ℕ). t ++ drop line_length lent) (sym (accepted-columns line e)),
    )
