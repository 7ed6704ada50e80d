-- The column table (document 01, "The line's columns"): what stands in the lent line after Line accepted, and what a reader finds there. Fill, sign
-- and capitals are those of the text, by `decimal`, `signed` and `hexadecimal`.
-- Assumes nothing.
use mathlib.Core.Path.{◌≡◌, sym, ap, ◌∙◌, subst}
use mathlib.Core.List.{List, map}
use Prim.Native.Nat.{ℕ, ◌<◌}
use Prim.Native.Char.{code}
use lib.ListN.{length, take, drop, replicate}
use lib.Seq.{take_at}
use Rattle.fields.specs.Text.{checksum}
use Rattle.fields.specs.Read.{read_hexadecimal}
use Rattle.labels.specs.declared.Labels.{Labels}
use Rattle.limits.specs.declared.Numbers.{Numbers}
use Rattle.columns.specs.Text.{line_length, line_text}
use Rattle.columns.specs.Columns.{byte_in, field, space_columns, read_labels, read_numbers}
use Rattle.columns.proofs.Spaces.{spaces, checksum-back}
use Rattle.columns.proofs.Widths.{line-width}
use Rattle.line.specs.Line.{line_answer, line_after}
use Rattle.line.proofs.Accepted.{after_is}
use Rattle.line.proofs.ReadBack.{read_back}

pub record ColumnTable (l : Labels) (n : Numbers) (line : List ℕ) : Type 0 where
  -- its 113 columns are the text of the labels and the numbers
  pub text : take line_length line ≡ line_text l n
  -- single spaces stand at the twenty columns
  pub spaces : map (λ (c : ℕ). byte_in c line) space_columns ≡ replicate 20 (code " ")
  -- every other column but the last two is read as the label or number that was given
  pub labels : read_labels line ≡ l
  pub numbers : read_numbers line ≡ n
  -- CK is the sum of columns 1 to 111 modulo 256
  pub ck : read_hexadecimal (field 112 113 line) ≡ checksum (field 1 111 line)

pub column-table : (l : Labels) (n : Numbers) (lent : List ℕ) → line_answer l n (length lent) ≡ 0 → l.cl < 256 → ColumnTable l n (line_after l n lent)
column-table l n lent e cl =
    let is = sym (after_is l n lent e) in
    let rest = drop line_length lent in
    let back = read_back l n lent e cl in
    record {
      text = ap (take line_length) (after_is l n lent e) ∙ take_at (line_text l n) rest line_length (line-width l n);
      spaces = subst (λ (t : List ℕ). map (λ (c : ℕ). byte_in c t) space_columns ≡ replicate 20 (code " ")) is (spaces l n rest);
      labels = back.0;
      numbers = back.1;
      ck = subst (λ (t : List ℕ). read_hexadecimal (field 112 113 t) ≡ checksum (field 1 111 t)) is (checksum-back l n rest);
    }
