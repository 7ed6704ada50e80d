-- Laws of the limit test that stops at the first number outside (specs/Scan.antt).
-- Assumes nothing.
use mathlib.Core.Path.{◌≡◌, refl, sym, ap, ◌∙◌}
use mathlib.Core.Bool.{Bool, true, false, true≢false, cond, ◌||◌}
use mathlib.Core.List.{List, [], ◌∷◌}
use Prim.Native.Nat.{ℕ, zero, suc, min, ◌+◌, ◌≤◌, ◌<◌}
use native.Mathlib.Numerals.{add-one}
use native.Mathlib.Nat.{suc-min-suc, zero-min, min-zero, min-eq_left, add-zero, zero-add, not-suc-le-zero, le_of_suc-le-suc}
use native.Mathlib.Omega.{arith}
use lib.IntN.{ℤ, pos}
use lib.ListN.{length, take, drop, get_or, drop_of_length-le}
use lib.Seq.{drop-cons}
use Rattle.limits.specs.Limits.{outside}
use Rattle.limits.proofs.Laws.{or-false}
use Rattle.limits.proofs.Lists.{any-from}
use Rattle.limits.specs.Lists.{any_outside_lem}
use Rattle.limits.specs.Scan.{first_outside, read_to, scan_rule}
use Rattle.std.specs.Prelude.{Ok, Err}
use Rattle.std.specs.Result.{is_err}

read_more : (b : Bool) (f n : ℕ) → min (suc (cond b 0 (suc f))) (suc n) ≡ suc (cond b 0 (min (suc f) n))
read_more true f n = suc-min-suc 0 n ∙ ap suc (zero-min n)
read_more false f n = suc-min-suc (suc f) n

-- what is read of a list: its first number, and where that is inside, what is read of the rest
read-cons : (low high z : ℤ) (l : List ℤ) → read_to low high (z ∷ l) ≡ suc (cond (outside low high z) 0 (read_to low high l))
unfolding read_to first_outside
read-cons low high z l = read_more (outside low high z) (first_outside low high l) (length l)

pub read-empty : (low high : ℤ) → read_to low high [] ≡ 0
unfolding read_to first_outside
read-empty low high = min-zero 1

-- the first i numbers are read and none of them is outside: the rest tells
abbrev pub Left : (low high : ℤ) (l : List ℤ) (i : ℕ) → Type 0
Left low high l i = (any_outside_lem low high l ≡ any_outside_lem low high (drop i l)) × (read_to low high l ≡ i + read_to low high (drop i l))

module _ (low high : ℤ) (l : List ℤ) (i : ℕ) (so_far : Left low high l i) where
  any_step : i < length l → any_outside_lem low high l ≡ outside low high (get_or l i (pos 0)) || any_outside_lem low high (drop (i + 1) l)
  any_step h = so_far.0 ∙ any-from low high l i h

  read_step : i < length l
      → read_to low high l ≡ i + suc (cond (outside low high (get_or l i (pos 0))) 0 (read_to low high (drop (i + 1) l)))
  read_step h = so_far.1 ∙ ap (λ m. i + m) (rw (add-one, drop-cons l i (pos 0) h, read-cons low high))

  pub found : i < length l → outside low high (get_or l i (pos 0)) ≡ true → scan_rule low high l ≡ Err (i + 1)
  unfolding scan_rule
  found h t =
      let any : any_outside_lem low high l ≡ true = any_step h ∙ ap (λ (b : Bool). b || any_outside_lem low high (drop (i + 1) l)) t in
      let read : read_to low high l ≡ i + 1 = read_step h ∙ rw (t) in
      rw (any, read)

  pub passed : i < length l → outside low high (get_or l i (pos 0)) ≡ false
      → Left low high l (i + 1)
  passed h t = (any_step h ∙ ap (λ (b : Bool). b || any_outside_lem low high (drop (i + 1) l)) t, read_step h ∙ ap (λ b. i + suc (cond b 0 (read_to low high (drop (i + 1) l)))) t ∙ omega arith)

  pub none_left : length l ≤ i → scan_rule low high l ≡ Ok i
  unfolding scan_rule any_outside_lem
  none_left h =
      let any : any_outside_lem low high l ≡ false = so_far.0 ∙ rw (drop_of_length-le l h) in
      let read : read_to low high l ≡ i = so_far.1 ∙ ap (λ m. i + read_to low high m) (drop_of_length-le l h) ∙ rw (read-empty low high) (add-zero i) in
      rw (any, read)

-- i is the index of the first number outside low to high: that number is outside, and those before it are inside
abbrev pub IsFirst : (low high : ℤ) (l : List ℤ) (i : ℕ) → Type 0
IsFirst low high l i =
    (i < length l)
    × (outside low high (get_or l i (pos 0)) ≡ true)
    × ((j : ℕ) → j < i → outside low high (get_or l j (pos 0)) ≡ false)

first_of : (low high z : ℤ) (l : List ℤ) (b : Bool) → outside low high z ≡ b
    → (any_outside_lem low high l ≡ true → IsFirst low high l (first_outside low high l))
    → b || any_outside_lem low high l ≡ true → IsFirst low high (z ∷ l) (cond b 0 (suc (first_outside low high l)))
first_of low high z l true t rest e = (omega arith, t, λ j h. absurd (not-suc-le-zero h))
first_of low high z l false t rest e = let r = rest e in (omega (arith, r.0), r.1, before)
  where
    before : (j : ℕ) → j < suc (first_outside low high l) → outside low high (get_or (z ∷ l) j (pos 0)) ≡ false
    before zero h = t
    before (suc j) h = (rest e).2 j (le_of_suc-le-suc h)

pub first-outside : (low high : ℤ) (l : List ℤ) → any_outside_lem low high l ≡ true → IsFirst low high l (first_outside low high l)
unfolding first_outside any_outside_lem
first-outside low high [] e = absurd (true≢false (sym e))
first-outside low high (z ∷ l) e = first_of low high z l (outside low high z) refl (first-outside low high l) e

-- where a number is outside, the first one that is ends what is read
pub read_first : (low high : ℤ) (l : List ℤ) → any_outside_lem low high l ≡ true → read_to low high l ≡ suc (first_outside low high l)
unfolding read_to
read_first low high l e = min-eq_left (first-outside low high l e).0

-- where none is, all are read
pub read_all : (low high : ℤ) (l : List ℤ) → any_outside_lem low high l ≡ false → read_to low high l ≡ length l
unfolding any_outside_lem
read_all low high [] e = read-empty low high
read_all low high (z ∷ l) e =
    let o = or-false (outside low high z) (any_outside_lem low high l) e in
    read-cons low high z l ∙ rw (o.0, read_all low high l o.1)

-- and the first index outside is the length
pub none-outside : (low high : ℤ) (l : List ℤ) → any_outside_lem low high l ≡ false → first_outside low high l ≡ length l
unfolding any_outside_lem first_outside
none-outside low high [] e = refl
none-outside low high (z ∷ l) e =
    let o = or-false (outside low high z) (any_outside_lem low high l) e in
    rw (o.0, none-outside low high l o.1)

-- `scan` answers `Err` where some number is outside
pub scan_is_err : (low high : ℤ) (l : List ℤ) → is_err (scan_rule low high l) ≡ any_outside_lem low high l
unfolding scan_rule
scan_is_err low high l = by (any_outside_lem low high l)
  where
    by : (b : Bool) → is_err {T = ℕ} (cond b (Err (read_to low high l)) (Ok (read_to low high l))) ≡ b
    by true = refl
    by false = refl

-- ---- part by part: where the first k numbers are inside, the rest tells; else they do

module _ (low high : ℤ) where
  -- the first k numbers are inside
  pub inside-front : (k : ℕ) (l : List ℤ) → k ≤ length l → any_outside_lem low high (take k l) ≡ false
      → (any_outside_lem low high l ≡ any_outside_lem low high (drop k l)) × (first_outside low high l ≡ k + first_outside low high (drop k l))
  unfolding any_outside_lem first_outside
  inside-front zero l h e = (refl, sym (zero-add _))
  inside-front (suc k) [] h e = absurd (not-suc-le-zero h)
  inside-front (suc k) (z ∷ l) h e =
      let o = or-false (outside low high z) (any_outside_lem low high (take k l)) e in
      let r = inside-front k l (le_of_suc-le-suc h) o.1 in
      (ap (λ (b : Bool). b || any_outside_lem low high l) o.0 ∙ r.0, ap (λ (b : Bool). cond b 0 (suc (first_outside low high l))) o.0 ∙ ap suc r.1 ∙ omega arith)

  -- one of them is outside
  pub beyond-front : (k : ℕ) (l : List ℤ) → any_outside_lem low high (take k l) ≡ true
      → (any_outside_lem low high l ≡ true) × (first_outside low high l ≡ first_outside low high (take k l))
  unfolding any_outside_lem first_outside
  beyond-front zero l e = absurd (true≢false (sym e))
  beyond-front (suc k) [] e = absurd (true≢false (sym e))
  beyond-front (suc k) (z ∷ l) e = by (outside low high z) (beyond-front k l) e
    where
      by : (b : Bool) → (any_outside_lem low high (take k l) ≡ true → (any_outside_lem low high l ≡ true) × (first_outside low high l ≡ first_outside low high (take k l)))
          → b || any_outside_lem low high (take k l) ≡ true
          → (b || any_outside_lem low high l ≡ true)
          × (cond b 0 (suc (first_outside low high l)) ≡ cond b 0 (suc (first_outside low high (take k l))))
      by true r e = (refl, refl)
      by false r e = ((r e).0, ap suc (r e).1)
