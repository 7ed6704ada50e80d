-- Accepted lines ascend by their rank (specs/Walk.antt) as they do by their keys.
-- Assumes nothing.
use mathlib.Core.Path.{◌≡◌, sym, ap, ap₂, ◌∙◌}
use mathlib.Core.List.{List, [], ◌∷◌}
use Prim.Native.Nat.{ℕ, ◌+◌, ◌*◌, ◌<◌}
use native.Mathlib.Nat.{le_of_lt}
use native.Mathlib.Omega.{arith}
use lib.Dec.{ltb, lit<, lit≤}
use lib.ListN.{get_or}
use lib.Seq.{get_or-take}
use borrow.Author.Tests.{lt-ltb, le-ltb}
use Rattle.fields.specs.Read.{read_decimal}
use Rattle.fields.specs.Raw.{two_digits_lem}
use Rattle.columns.specs.Columns.{byte_in, field, labels_with_lem, read_labels}
use Rattle.characters.proofs.Allowed.{letter-is, letter-bound}
use Rattle.reading.proofs.Columns.{field_bound, holds_at}
use Rattle.linefile.specs.Files.{columns_of, keys_of, keys, before}
use Rattle.linefile.specs.Walk.{rank}
use Rattle.linefile.proofs.Keys.{Heads, less, equal, more, heads, before-below, before_above, before-level, before-irrefl}
use Rattle.linefile.proofs.Ascending.{Accepted}
use Rattle.linefile.proofs.Digits.{letter-holds, raw_from, excess, row, columns, digits-raw}
use Rattle.columns.specs.Text.{line_length}

-- ---- the keys as one number

-- The rank by the keys themselves, which are less than their digits as they stand by as much for each line.
abbrev value : (mjd start letter satellite : ℕ) → ℕ
value m s c t = (((m + 533328) * 4000000 + (s + 1933008)) * 256 + c) * 1000 + (t + 528)

record Inside (s c t : ℕ) : Type 0 where
  pub start : s < 400000
  pub letter : c < 256
  pub satellite : t < 100

-- by the first of two keys, where the others decide if it is the same
by_first : (m n : ℕ) (a b : List ℕ) (v w : ℕ) → (m < n → v < w) → (n < m → w < v) → (m ≡ n → before a b ≡ ltb v w)
    → before (m ∷ a) (n ∷ b) ≡ ltb v w
by_first m n a b v w f g h = by_heads (heads m n)
  where
    by_heads : Heads m n → before (m ∷ a) (n ∷ b) ≡ ltb v w
    by_heads (less k) = before-below m n a b k ∙ sym (lt-ltb v w (f k))
    by_heads (equal e) = ap (λ (l : ℕ). before (l ∷ a) (n ∷ b)) e ∙ before-level n a b ∙ h e
    by_heads (more k) = before_above m n a b k ∙ sym (le-ltb v w (le_of_lt (g k)))

value_before : (m s c t m' s' c' t' : ℕ) → Inside s c t → Inside s' c' t'
    → before (m ∷ s ∷ c ∷ t ∷ []) (m' ∷ s' ∷ c' ∷ t' ∷ []) ≡ ltb (value m s c t) (value m' s' c' t')
value_before m s c t m' s' c' t' i j =
    by_first m m' (s ∷ c ∷ t ∷ []) (s' ∷ c' ∷ t' ∷ []) v w (λ h. omega arith) (λ h. omega arith)
    (λ e. by_first s s' (c ∷ t ∷ []) (c' ∷ t' ∷ []) v w (λ h. omega arith) (λ h. omega arith)
    (λ f. by_first c c' (t ∷ []) (t' ∷ []) v w (λ h. omega arith) (λ h. omega arith)
    (λ g. by_first t t' [] [] v w (λ h. omega arith) (λ h. omega arith) (λ h. before-irrefl [] ∙ sym (le-ltb v w (omega arith))))))
  where
    v : ℕ
    v = value m s c t

    w : ℕ
    w = value m' s' c' t'

-- ---- an accepted line

module _ (x : List ℕ) (e : Accepted x) where
  letter-is-first : get_or x 0 0 ≡ get_or (columns_of x) 0 0
  letter-is-first = sym (get_or-take line_length x 0 0 (lit< tt))

  mjd-is : 1000 * two_digits_lem 7 x + 10 * two_digits_lem 9 x + get_or x 11 0 ≡ read_decimal (field 8 12 (columns_of x)) + 533328
  unfolding field raw_from excess row
  mjd-is = omega (arith, digits-raw x e 5 7 (lit≤ tt) (columns x e).mjd.holds)

  start_is : 3600 * two_digits_lem 13 x + 60 * two_digits_lem 15 x + two_digits_lem 17 x ≡ (read_labels (columns_of x)).start + 1933008
  unfolding read_labels labels_with_lem field raw_from excess row
  start_is =
      omega (
        arith,
        digits-raw x e 2 13 (lit≤ tt) (columns x e).hour.holds,
        digits-raw x e 2 15 (lit≤ tt) (columns x e).minute.holds,
        digits-raw x e 2 17 (lit≤ tt) (columns x e).second.holds,
      )

  satellite-is : two_digits_lem 1 x ≡ read_decimal (field 2 3 (columns_of x)) + 528
  unfolding field raw_from excess row
  satellite-is = omega (arith, digits-raw x e 2 1 (lit≤ tt) (columns x e).satellite.holds)

  rank_is : rank x ≡ value (read_labels (columns_of x)).mjd (read_labels (columns_of x)).start (read_labels (columns_of x)).constellation (read_labels (columns_of x)).satellite
  unfolding rank read_labels labels_with_lem byte_in field
  rank_is =
      λ i. ((mjd-is i * 4000000 + start_is i) * 256 + letter-is-first i) * 1000 + satellite-is i

  inside : Inside (read_labels (columns_of x)).start (read_labels (columns_of x)).constellation (read_labels (columns_of x)).satellite
  unfolding read_labels labels_with_lem byte_in
  inside =
      record {
        start = omega (arith, field_bound (columns x e).hour, field_bound (columns x e).minute, field_bound (columns x e).second);
        letter = letter-bound _ (sym (letter-is _) ∙ holds_at 1 (76 ∷ []) (columns_of x) (letter-holds x e) 0 (lit< tt));
        satellite = field_bound (columns x e).satellite;
      }

pub rank-before : (x y : List ℕ) → Accepted x → Accepted y → before (keys x) (keys y) ≡ ltb (rank x) (rank y)
unfolding keys keys_of
rank-before x y e f =
    value_before _ _ _ _ _ _ _ _ (inside x e) (inside y f)
    ∙ ap₂ ltb (sym (rank_is x e)) (sym (rank_is y f))

-- the rank of an accepted line is not 0
pub rank-some : (x : List ℕ) → Accepted x → 0 < rank x
rank-some x e = omega (arith, rank_is x e)
