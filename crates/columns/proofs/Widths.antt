-- The columns' widths, where a column stands in the text, and how wide a field is.
-- Assumes nothing.
use mathlib.Core.Path.{◌≡◌, refl, sym, ap, ap₂, ◌∙◌}
use mathlib.Core.List.{List, [], ◌∷◌, ◌++◌, append_assoc}
use Prim.Native.Nat.{ℕ, zero, suc, ◌+◌, ◌-◌, ◌/◌, ◌%◌, ◌≤◌, ◌<◌}
use native.Mathlib.Nat.{not-suc-le-zero, le_of_suc-le-suc}
use native.Mathlib.Omega.{arith}
use lib.ListN.{length, take, drop, get_or, length-append}
use lib.Seq.{take_at, drop-append-add}
use lib.IntN.{ℤ}
use Rattle.fields.specs.Text.{decimal, hexadecimal, checksum}
use Rattle.fields.proofs.Laws.{length-decimal, length-signed, length-hexadecimal}
use Rattle.labels.specs.declared.Labels.{Labels}
use Rattle.limits.specs.declared.Numbers.{Numbers}
use Rattle.columns.specs.Text.{line_length, time_of_day, track_columns, clock_columns, delay_columns, columns, spaced, line_text}
use Rattle.columns.specs.Columns.{field}

pub length-time : (second : ℕ) → length (time_of_day second) ≡ 6
unfolding time_of_day
length-time second =
    length-append (decimal 2 (second / 3600)) (decimal 2 (second / 60 % 60) ++ decimal 2 (second % 60))
    ∙ ap₂ ◌+◌ (length-decimal 2 _) (length-append (decimal 2 (second / 60 % 60)) (decimal 2 (second % 60)) ∙ ap₂ ◌+◌ (length-decimal 2 _) (length-decimal 2 _))

-- Columns and their widths.
pub data Sized : List (List ℕ) → List ℕ → Type 0 where
  none : Sized [] []
  one : {c : List ℕ} {cs : List (List ℕ)} {w : ℕ} {ws : List ℕ} → length c ≡ w → Sized cs ws → Sized (c ∷ cs) (w ∷ ws)

-- the bytes of columns and their spaces, all and those before a column
abbrev pub span : List ℕ → ℕ
span [] = 0
span (w ∷ ws) = w + suc (span ws)

abbrev pub offset : List ℕ → ℕ → ℕ
offset [] k = 0
offset (w ∷ ws) zero = 0
offset (w ∷ ws) (suc k) = w + suc (offset ws k)

pub width : {cs : List (List ℕ)} {ws : List ℕ} → Sized cs ws → length (spaced cs) ≡ span ws
unfolding spaced
width none = refl
width (one {c} {cs} e r) = length-append c (32 ∷ spaced cs) ∙ ap₂ (λ (a b : ℕ). a + suc b) e (width r)

pub track-sized : (l : Labels) (trkl : ℤ) → Sized (track_columns l trkl) (3 ∷ 2 ∷ 5 ∷ 6 ∷ 4 ∷ 3 ∷ 4 ∷ [])
unfolding track_columns
track-sized l trkl =
    one (ap suc (length-decimal 2 _))
    (one (length-hexadecimal _)
    (one (length-decimal 5 _)
    (one (length-time _)
    (one (length-decimal 4 _)
    (one (length-decimal 3 _)
    (one (length-decimal 4 _) none))))))

pub clock-columns-sized : (n : Numbers) → Sized (clock_columns n) (11 ∷ 6 ∷ 11 ∷ 6 ∷ 4 ∷ [])
unfolding clock_columns
clock-columns-sized n =
    one (length-signed 11 _)
    (one (length-signed 6 _)
    (one (length-signed 11 _)
    (one (length-signed 6 _)
    (one (length-decimal 4 _) none))))

pub delay-sized : (l : Labels) (n : Numbers) → Sized (delay_columns l n) (3 ∷ 4 ∷ 4 ∷ 4 ∷ 4 ∷ 2 ∷ 2 ∷ 3 ∷ [])
unfolding delay_columns
delay-sized l n =
    one (length-decimal 3 _)
    (one (length-decimal 4 _)
    (one (length-signed 4 _)
    (one (length-decimal 4 _)
    (one (length-signed 4 _)
    (one (length-decimal 2 _)
    (one (length-decimal 2 _)
    (one refl none)))))))

sized-append : {cs ds : List (List ℕ)} {ws vs : List ℕ} → Sized cs ws → Sized ds vs → Sized (cs ++ ds) (ws ++ vs)
sized-append none q = q
sized-append (one e r) q = one e (sized-append r q)

-- the widths of all columns
abbrev pub widths : List ℕ
widths = 3 ∷ 2 ∷ 5 ∷ 6 ∷ 4 ∷ 3 ∷ 4 ∷ 11 ∷ 6 ∷ 11 ∷ 6 ∷ 4 ∷ 3 ∷ 4 ∷ 4 ∷ 4 ∷ 4 ∷ 2 ∷ 2 ∷ 3 ∷ []

pub columns-sized : (l : Labels) (n : Numbers) → Sized (columns l n) widths
unfolding columns
columns-sized l n = sized-append (track-sized l n.trkl) (sized-append (clock-columns-sized n) (delay-sized l n))

-- a column stands behind those before it and their spaces
pub column-at : {cs : List (List ℕ)} {ws : List ℕ} → Sized cs ws → (k : ℕ) → k < length ws → (rest : List ℕ)
    → take (get_or ws k 0) (drop (offset ws k) (spaced cs ++ rest)) ≡ get_or cs k []
unfolding spaced
column-at none k h rest = absurd (not-suc-le-zero h)
column-at (one {c} {cs} {w} e r) zero h rest =
    ap (take w) (append_assoc c (32 ∷ spaced cs) rest) ∙ take_at c (32 ∷ (spaced cs ++ rest)) w e
column-at (one {c} {cs} {w} {ws} e r) (suc k) h rest =
    ap (take (get_or ws k 0))
    (ap₂ (λ (n : ℕ) (t : List ℕ). drop (n + suc (offset ws k)) t) (sym e) (append_assoc c (32 ∷ spaced cs) rest)
    ∙ drop-append-add c (32 ∷ (spaced cs ++ rest)) (suc (offset ws k)))
    ∙ column-at r k (le_of_suc-le-suc h) rest

pub spaced-append : (xs ys : List (List ℕ)) → spaced (xs ++ ys) ≡ spaced xs ++ spaced ys
unfolding spaced
spaced-append [] ys = refl
spaced-append (x ∷ xs) ys = ap (λ (t : List ℕ). x ++ 32 ∷ t) (spaced-append xs ys) ∙ sym (append_assoc x (32 ∷ spaced xs) (spaced ys))

-- the three groups are all of the columns
pub groups : (l : Labels) (n : Numbers) → spaced (track_columns l n.trkl) ++ (spaced (clock_columns n) ++ spaced (delay_columns l n)) ≡ spaced (columns l n)
unfolding columns
groups l n =
    sym (spaced-append (track_columns l n.trkl) (clock_columns n ++ delay_columns l n)
    ∙ ap (λ (t : List ℕ). spaced (track_columns l n.trkl) ++ t) (spaced-append (clock_columns n) (delay_columns l n)))

pub columns-width : (l : Labels) (n : Numbers) → length (spaced (columns l n)) ≡ 111
columns-width l n = width (columns-sized l n)

pub line-width : (l : Labels) (n : Numbers) → length (line_text l n) ≡ line_length
unfolding line_text
line-width l n =
    length-append (spaced (columns l n)) (hexadecimal (checksum (spaced (columns l n))))
    ∙ ap₂ ◌+◌ (columns-width l n) (length-hexadecimal _)

-- a field has as many columns as its numbers say
pub field_is : (first last : ℕ) (line : List ℕ) → 1 ≤ first → take (last - (first - 1)) (drop (first - 1) line) ≡ field first last line
unfolding field
field_is first last line h = ap (λ (n : ℕ). take n (drop (first - 1) line)) (counted first last h)
  where
    counted : (first last : ℕ) → 1 ≤ first → last - (first - 1) ≡ last + 1 - first
    counted first last h = omega arith
