-- Laws of CK behind any number of columns (specs/Kinds.antt): what is written with it is right, and where it is right it is what is written.
-- Assumes nothing.
use mathlib.Core.Path.{◌≡◌, sym, ap, ap₂, ◌∙◌}
use mathlib.Core.Bool.{true, ◌&&◌}
use mathlib.Core.List.{List, [], ◌∷◌, ◌++◌}
use Prim.Native.Nat.{ℕ, suc, ◌+◌, ◌-◌, ◌/◌, ◌≤◌}
use native.Mathlib.Omega.{arith}
use lib.Dec.{eqb}
use lib.ListN.{length, take, get_or}
use lib.Seq.{take-add, take_at, drop_at, get_or-drop}
use borrow.Author.Tests.{eq-eqb, eqb-true}
use Rattle.limits.proofs.Laws.{both}
use Rattle.fields.specs.Text.{hex_digit_lem, hexadecimal, checksum}
use Rattle.fields.proofs.Lists.{two_bytes}
use Rattle.columns.specs.Text.{with_check}
use Rattle.columns.specs.Columns.{byte_in}
use Rattle.characters.specs.Kinds.{checked}

-- the places of CK, counted from 0
place : (n : ℕ) → n + 1 - 1 ≡ n + 0
place n = omega arith

pub next : (n : ℕ) → n + 2 - 1 ≡ n + 1
next n = omega arith

-- ---- CK

-- columns with their CK, and whatever stands behind it
pub check-closes : (columns : ℕ) (t rest : List ℕ) → length t ≡ columns → checked columns (t ++ (hexadecimal (checksum t) ++ rest)) ≡ true
unfolding checked byte_in hexadecimal
check-closes columns t rest e =
    let behind = hexadecimal (checksum t) ++ rest in
    let after = drop_at t behind columns e in
    let s = ap checksum (take_at t behind columns e) in
    let first = ap (λ (n : ℕ). get_or (t ++ behind) n 0) (place columns) ∙ sym (get_or-drop columns (t ++ behind) 0 0) ∙ ap (λ (u : List ℕ). get_or u 0 0) after in
    let second = ap (λ (n : ℕ). get_or (t ++ behind) n 0) (next columns) ∙ sym (get_or-drop columns (t ++ behind) 1 0) ∙ ap (λ (u : List ℕ). get_or u 1 0) after in
    ap₂ ◌&&◌ (eq-eqb _ _ (first ∙ ap (λ (k : ℕ). hex_digit_lem (k / 16)) (sym s))) (eq-eqb _ _ (second ∙ ap hex_digit_lem (sym s)))

-- a line whose CK is right is its columns with their CK
pub closed-by-check : (columns : ℕ) (line : List ℕ) → checked columns line ≡ true → columns + 2 ≤ length line → take (columns + 2) line ≡ with_check (take columns line)
unfolding checked byte_in hexadecimal
closed-by-check columns line e h =
    let p = both (eqb (get_or line (columns + 1 - 1) 0) (hex_digit_lem (checksum (take columns line) / 16))) _ e in
    take-add columns 2 line
    ∙ ap (λ (t : List ℕ). take columns line ++ t)
    (two_bytes columns line (omega (arith, h))
    ∙ ap₂ (λ (a b : ℕ). a ∷ b ∷ []) (ap (λ (n : ℕ). get_or line n 0) (here columns) ∙ eqb-true _ _ p.0) (ap (λ (n : ℕ). get_or line n 0) (behind columns) ∙ eqb-true _ _ p.1))
  where
    here : (n : ℕ) → n ≡ n + 1 - 1
    here n = omega arith

    behind : (n : ℕ) → suc n ≡ n + 2 - 1
    behind n = omega arith
