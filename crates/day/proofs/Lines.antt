-- The lines of hire blocks and the file that they are (specs/Day.antt): a line is read back to the block's labels and numbers, and is accepted in a
-- file.
-- Assumes nothing.
use mathlib.Core.Path.{◌≡◌, refl, sym, ap, ◌∙◌}
use mathlib.Core.Bool.{not}
use mathlib.Core.List.{List, [], ◌∷◌, ◌++◌, map, map-append, append-nil}
use Prim.Native.Nat.{ℕ, ◌+◌, ◌*◌, ◌<◌, zero-le}
use lib.ListN.{length, length-append, length-map}
use lib.Seq.{take_at, drop_at}
use Rattle.limits.specs.Limits.{no_numbers}
use Rattle.limits.specs.Refusal.{◌when◌}
use Rattle.limits.proofs.Laws.{then-zero, then-passed}
use Rattle.limits.proofs.Replies.{reply-values}
use Rattle.limits.specs.declared.Numbers.{Numbers}
use Rattle.labels.specs.declared.Labels.{Labels}
use Rattle.columns.specs.Text.{line_length, ended_length, line_end}
use Rattle.columns.specs.Columns.{read_labels, read_numbers}
use Rattle.columns.proofs.Widths.{line-width}
use Rattle.hire.specs.Hire.{block_labels}
use Rattle.line.specs.Line.{line_answer}
use Rattle.line.specs.Block.{block_numbers, block_line, block_number}
use Rattle.line.proofs.AcceptedBlocks.{line-accepts}
use Rattle.characters.specs.Kinds.{printable}
use Rattle.reading.specs.Read.{read_number, no_labels, read_rule}
use Rattle.reading.proofs.WrittenLine.{text-reads-back}
use Rattle.linefile.specs.Files.{lines, columns_of, same, has_line_end, keys_of, keys, ended_number, joined}
use Rattle.linefile.proofs.Ascending.{All}
use Rattle.linefile.proofs.Lines.{Long}
use Rattle.linefile.proofs.Joined.{lines-joined, length-joined, joined-append}
use Rattle.day.specs.Day.{block_keys, ended_line, file_of}

-- ---- the line of an accepted block

module _ (b : List ℕ) (e : block_number b ≡ 0) (cl : (block_labels b).cl < 256) where
  line-columns : columns_of (ended_line b) ≡ block_line b
  line-columns = take_at (block_line b) line_end line_length (line-width (block_labels b) (block_numbers b))

  -- what is read of it is what it was made of
  line_read : (read_number (block_line b) ≡ 0) × (block_labels b ≡ read_labels (block_line b)) × (block_numbers b ≡ read_numbers (block_line b))
  unfolding read_rule printable line_answer
  line_read =
      let r = reply-values (no_labels, no_numbers) (read_labels (block_line b), read_numbers (block_line b)) (read_number (block_line b))
      (sym (ap read_rule (sym (append-nil (block_line b))) ∙ text-reads-back (block_labels b) (block_numbers b) [] (then-zero _ _ (line-accepts b line_length e)).0 cl refl zero-le)) in
      (r.0, ap (λ (p : Labels × Numbers). p.0) r.1, ap (λ (p : Labels × Numbers). p.1) r.1)

  pub labels-are : read_labels (columns_of (ended_line b)) ≡ block_labels b
  labels-are = ap read_labels line-columns ∙ sym line_read.1

  pub numbers-are : read_numbers (columns_of (ended_line b)) ≡ block_numbers b
  numbers-are = ap read_numbers line-columns ∙ sym line_read.2

  pub keys-are : keys (ended_line b) ≡ block_keys b
  unfolding keys
  keys-are = ap keys_of labels-are

  pub line-accepted : ended_number (ended_line b) ≡ 0
  unfolding ended_number has_line_end same ◌when◌
  line-accepted =
      then-passed _ _ (ap read_number line-columns ∙ line_read.0)
      ∙ ap (λ (t : List ℕ). 13 when not (same t line_end)) (drop_at (block_line b) line_end line_length (line-width (block_labels b) (block_numbers b)))

-- ---- the file of some blocks

pub all-long : (bs : List (List ℕ)) → All Long (map ended_line bs)
all-long [] = tt
all-long (b ∷ bs) = (
  length-append (block_line b) line_end ∙ ap (λ (n : ℕ). n + 2) (line-width (block_labels b) (block_numbers b)),
  all-long bs,
)

-- it has a line for each
pub lines-of : (bs : List (List ℕ)) → lines (file_of bs) ≡ map ended_line bs
unfolding file_of
lines-of bs = lines-joined (map ended_line bs) (all-long bs)

pub length-of : (bs : List (List ℕ)) → length (file_of bs) ≡ ended_length * length bs
unfolding file_of
length-of bs = length-joined (map ended_line bs) (all-long bs) ∙ ap (λ (n : ℕ). ended_length * n) (length-map bs ended_line)

pub file-none : file_of [] ≡ []
unfolding file_of joined
file-none = refl

pub file-one : (b : List ℕ) → file_of (b ∷ []) ≡ ended_line b
unfolding file_of joined
file-one b = append-nil (ended_line b)

-- the file of some and of more is both files, one behind the other
pub file-append : (xs ys : List (List ℕ)) → file_of (xs ++ ys) ≡ file_of xs ++ file_of ys
unfolding file_of
file-append xs ys = ap joined (map-append ended_line xs ys) ∙ joined-append (map ended_line xs) (map ended_line ys)
