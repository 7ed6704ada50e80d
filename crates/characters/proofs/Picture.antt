-- The columns of the single spaces and the letters of the constellations, which stand in tables of their own, are those that `kinds` pictures,
-- and a line of these kinds has as many columns as it pictures.
-- Assumes nothing.
use mathlib.Core.Path.{◌≡◌, refl, sym, ap, ◌∙◌, subst}
use mathlib.Core.Bool.{Bool, true, cond, ◌&&◌, ◌||◌, or-true}
use mathlib.Core.List.{List, [], ◌∷◌}
use Prim.Native.Nat.{ℕ, suc, ◌≤◌}
use Prim.Native.Char.{code}
use lib.Dec.{leb, eqb}
use lib.ListN.{length}
use borrow.Author.Tests.{eqb-true}
use Rattle.limits.proofs.Laws.{both, either}
use Rattle.fields.specs.Text.{bytes_of}
use Rattle.labels.specs.Labels.{constellation_fits_lem}
use Rattle.columns.specs.Columns.{space_columns}
use Rattle.characters.specs.Kinds.{letter_fits_lem, kinds, allowed}
use Rattle.characters.proofs.Allowed.{allowed-length}

-- The columns of one kind among some, the first of which is given.
abbrev pub columns_with : (kind column : ℕ) → List ℕ → List ℕ
columns_with kind column [] = []
columns_with kind column (k ∷ rest) = cond (eqb k kind) (column ∷ columns_with kind (suc column) rest) (columns_with kind (suc column) rest)

pub spaces-pictured : columns_with (code " ") 1 kinds ≡ space_columns
unfolding kinds bytes_of space_columns
spaces-pictured = refl

-- each column that is pictured is there
pub column-count : (line : List ℕ) → allowed kinds line ≡ true → 111 ≤ length line
unfolding kinds bytes_of
column-count line e = allowed-length kinds line e

-- Every letter that a column may hold has ranges of IOE and FR: IOE 1 is in all of them, FR is 1 for R and 0 for the others.
pub letter-has-ranges : (letter : ℕ) → letter_fits_lem letter ≡ true → constellation_fits_lem letter 1 (cond (eqb letter (code "R")) 1 0) ≡ true
unfolding letter_fits_lem constellation_fits_lem
letter-has-ranges letter e =
    either (g || r || e' || c) j e
    (λ s. either (g || r || e') c s (λ t. either (g || r) e' t (λ u. either g r u (at (code "G") refl) (at (code "R") refl)) (at (code "E") refl)) (at (code "C") refl))
    (at (code "J") refl)
  where
    g : Bool
    g = eqb letter (code "G")

    r : Bool
    r = eqb letter (code "R")

    e' : Bool
    e' = eqb letter (code "E")

    c : Bool
    c = eqb letter (code "C")

    j : Bool
    j = eqb letter (code "J")

    at : (x : ℕ) → constellation_fits_lem x 1 (cond (eqb x (code "R")) 1 0) ≡ true → eqb letter x ≡ true
        → constellation_fits_lem letter 1 (cond (eqb letter (code "R")) 1 0) ≡ true
    at x h f = subst (λ (k : ℕ). constellation_fits_lem k 1 (cond (eqb k (code "R")) 1 0) ≡ true) (sym (eqb-true letter x f)) h

-- one of two tests, each of which tells one of two others
either-of : {a b c d : Bool} → (a ≡ true → c ≡ true) → (b ≡ true → d ≡ true) → a || b ≡ true → c || d ≡ true
either-of {a} {b} {c} {d} f g e =
    either a b e (λ t. ap (λ (x : Bool). x || d) (f t)) (λ t. ap (λ (x : Bool). c || x) (g t) ∙ or-true c)

-- And no other letter has ranges.
pub letter-fits : (letter ioe fr : ℕ) → constellation_fits_lem letter ioe fr ≡ true → letter_fits_lem letter ≡ true
unfolding constellation_fits_lem letter_fits_lem
letter-fits letter ioe fr =
    either-of (either-of (either-of (either-of (other 71 255) glonass) (other 69 999)) (other 67 23)) (other 74 255)
  where
    other : (c most : ℕ) → eqb letter c && leb ioe most && eqb fr 0 ≡ true → eqb letter c ≡ true
    other c most e = (both (eqb letter c) _ (both (eqb letter c && leb ioe most) _ e).0).0

    glonass : eqb letter 82 && leb 1 ioe && leb ioe 96 && leb 1 fr && leb fr 24 ≡ true → eqb letter 82 ≡ true
    glonass e =
        (both (eqb letter 82) _
        (both (eqb letter 82 && leb 1 ioe) _
        (both (eqb letter 82 && leb 1 ioe && leb ioe 96) _
        (both (eqb letter 82 && leb 1 ioe && leb ioe 96 && leb 1 fr) _ e).0).0).0).0
