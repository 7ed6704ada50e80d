-- The row of refusals of the characters (specs/Characters.antt) for any form of line: what it tells where it is 0, and what makes it 0.
-- Assumes nothing.
use mathlib.Core.Path.{◌≡◌, ap, ap₂, ◌∙◌}
use mathlib.Core.Bool.{Bool, true, not, ◌||◌}
use mathlib.Core.List.{List}
use Prim.Native.Nat.{ℕ, ◌+◌, ◌≤◌}
use lib.Dec.{ltb}
use lib.ListN.{length, drop}
use borrow.Author.Tests.{ltb-false, le-ltb, not-false}
use Rattle.limits.specs.Refusal.{◌when◌, ◌then◌}
use Rattle.limits.proofs.Laws.{then-zero, when-zero, when-either, or-false}
use Rattle.characters.specs.Kinds.{kinds, allowed, printable, checked}
use Rattle.characters.specs.Characters.{characters_number}
use Rattle.characters.specs.Forms.{columns_of, longest_of, kinds_of, form_number}
use Rattle.characters.specs.declared.Form.{Form}

pub record SpelledAs (width longest : ℕ) (kinds line : List ℕ) : Type 0 where
  pub least : width + 2 ≤ length line
  pub most : length line ≤ longest
  pub check : checked width line ≡ true
  pub columns : allowed kinds line ≡ true
  pub comment : printable (drop (width + 2) line) ≡ true

-- a line of ours
abbrev pub Spelled : List ℕ → Type 0
Spelled line = SpelledAs 111 140 kinds line

pub spelled : {columns longest : ℕ} {kinds : List ℕ} (line : List ℕ) → characters_number columns longest kinds line ≡ 0 → SpelledAs columns longest kinds line
unfolding characters_number
spelled {columns} {longest} line e =
    let twelve = then-zero _ _ e in
    let fourteen = then-zero _ _ twelve.1 in
    let thirteen = then-zero _ _ fourteen.1 in
    let long = or-false (ltb (length line) (columns + 2)) (ltb longest (length line)) (when-zero 11 _ twelve.0) in
    record {
      least = ltb-false (length line) (columns + 2) long.0;
      most = ltb-false longest (length line) long.1;
      check = not-false _ (when-zero 13 _ fourteen.0);
      columns = not-false _ (when-zero 12 _ thirteen.0);
      comment = not-false _ (when-zero 12 _ thirteen.1);
    }

pub spelled-zero : {columns longest : ℕ} {kinds : List ℕ} (line : List ℕ) → SpelledAs columns longest kinds line → characters_number columns longest kinds line ≡ 0
unfolding characters_number ◌when◌ ◌then◌
spelled-zero {columns} {longest} line s =
    simp (le-ltb (length line) (columns + 2) s.least, le-ltb longest (length line) s.most, s.check, s.columns, s.comment)

-- ---- the row by the answers of the tests

-- the tests made with what the form says, and the last two joined
pub row_is : {long wrong other : Bool} {columns longest : ℕ} (form : Form) (line : List ℕ) → columns ≡ columns_of form → longest ≡ longest_of form
    → long ≡ ltb (length line) (columns + 2) || ltb longest (length line) → wrong ≡ not (checked columns line)
    → other ≡ not (allowed (kinds_of form) line) || not (printable (drop (columns + 2) line))
    → 12 when long then 14 when wrong then 13 when other ≡ form_number form line
unfolding characters_number
row_is form line p q e f g =
    let l = e ∙ ap₂ (λ (m n : ℕ). ltb (length line) (m + 2) || ltb n (length line)) p q in
    let w = f ∙ ap (λ (m : ℕ). not (checked m line)) p in
    let o =
    ap (λ (t : Bool). 13 when t) (g ∙ ap (λ (m : ℕ). not (allowed (kinds_of form) line) || not (printable (drop (m + 2) line))) p)
    ∙ when-either 13 (not (allowed (kinds_of form) line)) (not (printable (drop (columns_of form + 2) line))) in
    λ i. 12 when l i then 14 when w i then o i
