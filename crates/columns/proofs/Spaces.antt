-- What a reader finds between and behind the fields of a line (document 01, "The line's columns"): a single space at each of the twenty
-- columns named, and CK, the sum of columns 1 to 111 modulo 256. It holds for all labels and numbers, whatever stands behind the line.
-- Assumes nothing.
use mathlib.Core.Path.{◌≡◌, refl, sym, ap, ap₂, ◌∙◌}
use mathlib.Core.List.{List, [], ◌∷◌, ◌++◌, append_assoc, map}
use Prim.Native.Nat.{ℕ, suc, ◌+◌, ◌-◌}
use Prim.Native.Char.{code}
use native.Mathlib.Omega.{arith}
use lib.ListN.{length, take, drop, replicate, length-append}
use lib.Seq.{take_at, drop_at, get_or_at}
use Rattle.fields.specs.Text.{hexadecimal, checksum}
use Rattle.fields.specs.Read.{read_hexadecimal}
use Rattle.fields.proofs.Laws.{length-hexadecimal, read-hexadecimal}
use Rattle.labels.specs.declared.Labels.{Labels}
use Rattle.limits.specs.declared.Numbers.{Numbers}
use Rattle.columns.specs.Text.{columns, spaced, line_text}
use Rattle.columns.specs.Columns.{byte_in, field, space_columns}
use Rattle.columns.proofs.Widths.{Sized, none, one, columns-sized, columns-width}

-- where the spaces stand that end fields of these widths, behind so many columns
abbrev spaces_behind : ℕ → List ℕ → List ℕ
spaces_behind behind [] = []
spaces_behind behind (w ∷ ws) = (behind + suc w) ∷ spaces_behind (behind + suc w) ws

fields-closed : {cs : List (List ℕ)} {ws : List ℕ} → Sized cs ws → (before rest : List ℕ) (behind : ℕ) → length before ≡ behind
    → map (λ (c : ℕ). byte_in c (before ++ (spaced cs ++ rest))) (spaces_behind behind ws) ≡ replicate (length ws) (code " ")
unfolding spaced byte_in
fields-closed none before rest behind e = refl
fields-closed (one {c} {cs} {w} {ws} e r) before rest behind f =
    ap (λ (t : List ℕ). map (λ (k : ℕ). byte_in k t) (spaces_behind behind (w ∷ ws))) text
    ∙ ap₂ ◌∷◌ (get_or_at front (code " ") (spaced cs ++ rest) 0 (behind + suc w - 1) (length-append before c ∙ omega (arith, e, f)))
    (ap (λ (t : List ℕ). map (λ (k : ℕ). byte_in k t) (spaces_behind (behind + suc w) ws)) (sym (append_assoc front (code " " ∷ []) (spaced cs ++ rest)))
    ∙ fields-closed r (front ++ code " " ∷ []) rest (behind + suc w) longer)
  where
    front : List ℕ
    front = before ++ c

    text : before ++ ((c ++ code " " ∷ spaced cs) ++ rest) ≡ front ++ code " " ∷ (spaced cs ++ rest)
    text =
        ap (λ (t : List ℕ). before ++ t) (append_assoc c (code " " ∷ spaced cs) rest)
        ∙ sym (append_assoc before c (code " " ∷ (spaced cs ++ rest)))

    longer : length (front ++ code " " ∷ []) ≡ behind + suc w
    longer = length-append front (code " " ∷ []) ∙ omega (arith, length-append before c, e, f)

module _ (l : Labels) (n : Numbers) (rest : List ℕ) where
  abbrev fields : List ℕ
  fields = spaced (columns l n)

  abbrev ck : List ℕ
  ck = hexadecimal (checksum fields)

  text-is : line_text l n ++ rest ≡ fields ++ (ck ++ rest)
  unfolding line_text
  text-is = append_assoc fields ck rest

  pub spaces : map (λ (c : ℕ). byte_in c (line_text l n ++ rest)) space_columns ≡ replicate 20 (code " ")
  unfolding space_columns
  spaces = ap (λ (t : List ℕ). map (λ (c : ℕ). byte_in c t) space_columns) text-is ∙ fields-closed (columns-sized l n) [] (ck ++ rest) 0 refl

  pub checksum-back : read_hexadecimal (field 112 113 (line_text l n ++ rest)) ≡ checksum (field 1 111 (line_text l n ++ rest))
  unfolding field checksum
  checksum-back =
      ap (λ (t : List ℕ). read_hexadecimal (take 2 (drop 111 t))) text-is
      ∙ ap (λ (t : List ℕ). read_hexadecimal (take 2 t)) (drop_at fields (ck ++ rest) 111 (columns-width l n))
      ∙ ap read_hexadecimal (take_at ck rest 2 (length-hexadecimal (checksum fields)))
      ∙ read-hexadecimal (checksum fields) (omega arith)
      ∙ ap checksum (sym (ap (take 111) text-is ∙ take_at fields (ck ++ rest) 111 (columns-width l n)))
