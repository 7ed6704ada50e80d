-- The places 2j - (n - 1) of n values (module Weights). Value j lies 15 / 2 times its place, in seconds, from the mean date. The places add up to 0, their squares to n (n² - 1) / 3, and their magnitudes to at most n² / 2.
-- Assumes nothing.
use Rattle.std.specs.Prelude.{◌≡◌, refl, [], ◌∷◌, ℕ, zero, suc, ◌+◌, ◌*◌, ◌-◌, ◌≤◌, ◌<◌, ℤ, neg_ℤ, ◌+ℤ◌, ◌-ℤ◌, ◌*ℤ◌}
use Rattle.std.proofs.Common.{sym, ap₂, ◌∙◌, subst₂, arith}
use Rattle.std.proofs.Math.Path.{ap}
use Rattle.std.proofs.Math.Nat.{one-le-mul}
use Rattle.std.proofs.Math.IntN.{pos}
use Rattle.whole.specs.Square.{squared, magnitude}
use Rattle.whole.specs.Sum.{sum}
use Rattle.whole.proofs.Identity.{identity, quote}
use Rattle.whole.specs.Order.{◌⩽◌}
use Rattle.whole.proofs.Order.{le_refl, le-shift, pos-sub}
use Rattle.whole.proofs.Magnitudes.{magnitude-neg}
use Rattle.whole.proofs.Sums.{sum-cong, sum_first}
use Rattle.exact.specs.Line.{twice_mean_date, twice_seconds}
use Rattle.exact.specs.Weights.{place}

-- the mean date of 52 values is second 389.5
pub mean-date-52 : twice_mean_date 52 ≡ pos 779
unfolding twice_mean_date
mean-date-52 = refl

-- twice the seconds from the mean date
pub seconds-place : (n j : ℕ) → twice_seconds n j ≡ pos 15 *ℤ place n j
unfolding twice_seconds twice_mean_date place
seconds-place n j = dates (pos j) (pos (n - 1))
  where
    dates : (j m : ℤ) → pos 2 *ℤ (pos 7 +ℤ pos 15 *ℤ j) -ℤ (pos 14 +ℤ pos 15 *ℤ m) ≡ pos 15 *ℤ (pos 2 *ℤ j -ℤ m)
    dates j m = identity (j ∷ m ∷ []) (search quote depth 20) tt

-- n (n² - 1), three times the sum of the squared places
abbrev pub span : ℕ → ℕ
span n = n * (n * n - 1)

-- as a whole number, with no natural subtraction
pub span-is : (n : ℕ) → 1 ≤ n → pos (span n) ≡ pos n *ℤ (pos n *ℤ pos n -ℤ pos 1)
span-is n h = ap (λ (z : ℤ). pos n *ℤ z) (sym (pos-sub (n * n) 1 (one-le-mul h h)))

one_more : (n : ℕ) → pos (suc n) ≡ pos n +ℤ pos 1
one_more n = ap pos (omega arith)

two-more : (n : ℕ) → pos (suc (suc n)) ≡ pos n +ℤ pos 2
two-more n = ap pos {x = suc (suc n)} {y = n + 2} (omega arith)

-- ---- sums over 2j - c, for any c

sum-from : (n : ℕ) (c : ℤ) → sum n (λ j. pos (2 * j) -ℤ c) ≡ pos n *ℤ (pos n -ℤ pos 1) -ℤ pos n *ℤ c
unfolding sum
sum-from zero c = identity (c ∷ []) (search quote depth 20) tt
sum-from (suc n) c =
    ap (λ (z : ℤ). z +ℤ (pos (2 * n) -ℤ c)) (sum-from n c)
    ∙ step (pos n) c
    ∙ ap (λ (N : ℤ). N *ℤ (N -ℤ pos 1) -ℤ N *ℤ c) (sym (one_more n))
  where
    step : (N c : ℤ)
        → N *ℤ (N -ℤ pos 1) -ℤ N *ℤ c +ℤ (pos 2 *ℤ N -ℤ c)
        ≡ (N +ℤ pos 1) *ℤ (N +ℤ pos 1 -ℤ pos 1) -ℤ (N +ℤ pos 1) *ℤ c
    step N c = identity (N ∷ c ∷ []) (search quote depth 20 fits 4000) tt

squares-from : (n : ℕ) (c : ℤ)
    → pos 3 *ℤ sum n (λ j. squared (pos (2 * j) -ℤ c))
    ≡ pos 2 *ℤ pos n *ℤ (pos n -ℤ pos 1) *ℤ (pos 2 *ℤ pos n -ℤ pos 1) -ℤ pos 6 *ℤ c *ℤ pos n *ℤ (pos n -ℤ pos 1)
    +ℤ pos 3 *ℤ pos n *ℤ squared c
unfolding sum
squares-from zero c = identity (c ∷ []) (search quote depth 20 fits 4000) tt
squares-from (suc n) c =
    apart (sum n (λ j. squared (pos (2 * j) -ℤ c))) (squared (pos (2 * n) -ℤ c))
    ∙ ap (λ (z : ℤ). z +ℤ pos 3 *ℤ squared (pos (2 * n) -ℤ c)) (squares-from n c)
    ∙ step (pos n) c
    ∙ ap
    (λ (N : ℤ).
    pos 2 *ℤ N *ℤ (N -ℤ pos 1) *ℤ (pos 2 *ℤ N -ℤ pos 1) -ℤ pos 6 *ℤ c *ℤ N *ℤ (N -ℤ pos 1) +ℤ pos 3 *ℤ N *ℤ squared c)
    (sym (one_more n))
  where
    apart : (a b : ℤ) → pos 3 *ℤ (a +ℤ b) ≡ pos 3 *ℤ a +ℤ pos 3 *ℤ b
    apart a b = identity (a ∷ b ∷ []) (search quote depth 20) tt

    step : (N c : ℤ)
        → pos 2 *ℤ N *ℤ (N -ℤ pos 1) *ℤ (pos 2 *ℤ N -ℤ pos 1) -ℤ pos 6 *ℤ c *ℤ N *ℤ (N -ℤ pos 1) +ℤ pos 3 *ℤ N *ℤ squared c
        +ℤ pos 3 *ℤ squared (pos 2 *ℤ N -ℤ c)
        ≡ pos 2 *ℤ (N +ℤ pos 1) *ℤ (N +ℤ pos 1 -ℤ pos 1) *ℤ (pos 2 *ℤ (N +ℤ pos 1) -ℤ pos 1)
        -ℤ pos 6 *ℤ c *ℤ (N +ℤ pos 1) *ℤ (N +ℤ pos 1 -ℤ pos 1) +ℤ pos 3 *ℤ (N +ℤ pos 1) *ℤ squared c
    step N c = identity (N ∷ c ∷ []) (search quote depth 30 fits 8000) tt

-- ---- sums over the places

module _ (n : ℕ) (h : 1 ≤ n) where
  place-from : (j : ℕ) → place n j ≡ pos (2 * j) -ℤ (pos n -ℤ pos 1)
  unfolding place
  place-from j = ap (λ (c : ℤ). pos (2 * j) -ℤ c) (sym (pos-sub n 1 h))

  pub sum-place : sum n (place n) ≡ pos 0
  sum-place =
      sum-cong n (λ j k. place-from j)
      ∙ sum-from n (pos n -ℤ pos 1)
      ∙ even (pos n)
    where
      even : (N : ℤ) → N *ℤ (N -ℤ pos 1) -ℤ N *ℤ (N -ℤ pos 1) ≡ pos 0
      even N = identity (N ∷ []) (search quote depth 20) tt

  -- Σ (2j - (n - 1))² = n (n² - 1) / 3
  pub sum-place² : pos 3 *ℤ sum n (λ j. squared (place n j)) ≡ pos (span n)
  sum-place² =
      ap (λ (z : ℤ). pos 3 *ℤ z) (sum-cong n (λ j k. ap squared (place-from j)))
      ∙ squares-from n (pos n -ℤ pos 1)
      ∙ closed (pos n)
      ∙ sym (span-is n h)
    where
      closed : (N : ℤ)
          → pos 2 *ℤ N *ℤ (N -ℤ pos 1) *ℤ (pos 2 *ℤ N -ℤ pos 1) -ℤ pos 6 *ℤ (N -ℤ pos 1) *ℤ N *ℤ (N -ℤ pos 1)
          +ℤ pos 3 *ℤ N *ℤ squared (N -ℤ pos 1)
          ≡ N *ℤ (N *ℤ N -ℤ pos 1)
      closed N = identity (N ∷ []) (search quote depth 30 fits 4000) tt

-- the places of n + 2 values are those of n values with one more at each end
place_inside : (n j : ℕ) → j < n → place (suc (suc n)) (suc j) ≡ place n j
place_inside n j h = place-from (suc (suc n)) (omega arith) (suc j) ∙ shifted ∙ sym (place-from n (omega arith) j)
  where
    J : pos (2 * suc j) ≡ pos (2 * j) +ℤ pos 2
    J = ap pos {x = 2 * suc j} {y = 2 * j + 2} (omega arith)

    cancel : (j n : ℤ) → j +ℤ pos 2 -ℤ (n +ℤ pos 2 -ℤ pos 1) ≡ j -ℤ (n -ℤ pos 1)
    cancel j n = identity (j ∷ n ∷ []) (search quote depth 20) tt

    shifted : pos (2 * suc j) -ℤ (pos (suc (suc n)) -ℤ pos 1) ≡ pos (2 * j) -ℤ (pos n -ℤ pos 1)
    shifted = ap₂ (λ (a b : ℤ). a -ℤ (b -ℤ pos 1)) J (two-more n) ∙ cancel (pos (2 * j)) (pos n)

magnitude-first : (n : ℕ) → magnitude (place (suc (suc n)) 0) ≡ pos (suc n)
magnitude-first n =
    ap magnitude {x = place (suc (suc n)) 0} {y = neg_ℤ (pos (suc n))} (place-from (suc (suc n)) (omega arith) 0 ∙ first)
    ∙ magnitude-neg (pos (suc n))
  where
    cancel : (n : ℤ) → pos 0 -ℤ (n +ℤ pos 1 -ℤ pos 1) ≡ neg_ℤ n
    cancel n = identity (n ∷ []) (search quote depth 20) tt

    first : pos (2 * 0) -ℤ (pos (suc (suc n)) -ℤ pos 1) ≡ neg_ℤ (pos (suc n))
    first = ap (λ (z : ℤ). pos 0 -ℤ (z -ℤ pos 1)) (one_more (suc n)) ∙ cancel (pos (suc n))

magnitude-last : (n : ℕ) → magnitude (place (suc (suc n)) (suc n)) ≡ pos (suc n)
magnitude-last n = ap magnitude {x = place (suc (suc n)) (suc n)} {y = pos (suc n)} (place-from (suc (suc n)) (omega arith) (suc n) ∙ last)
  where
    cancel : (n : ℤ) → pos 2 *ℤ n -ℤ (n +ℤ pos 1 -ℤ pos 1) ≡ n
    cancel n = identity (n ∷ []) (search quote depth 20) tt

    last : pos (2 * suc n) -ℤ (pos (suc (suc n)) -ℤ pos 1) ≡ pos (suc n)
    last = ap (λ (z : ℤ). pos (2 * suc n) -ℤ (z -ℤ pos 1)) (one_more (suc n)) ∙ cancel (pos (suc n))

-- 2 Σ |2j - (n - 1)| ≤ n², in steps of two
pub sum-magnitude-place : (n : ℕ) → pos 2 *ℤ sum n (λ j. magnitude (place n j)) ⩽ pos n *ℤ pos n
unfolding sum place
sum-magnitude-place zero = le_refl (pos 0)
sum-magnitude-place (suc zero) = record { le = tt }
sum-magnitude-place (suc (suc n)) =
    subst₂ (λ (u N : ℤ). pos 2 *ℤ u ⩽ N *ℤ N) (sym both_ends) (sym (two-more n)) (grown (pos n) (sum n (λ j. magnitude (place n j))) (sum-magnitude-place n))
  where
    both_ends : sum (suc (suc n)) (λ j. magnitude (place (suc (suc n)) j))
        ≡ pos n +ℤ pos 1 +ℤ sum n (λ j. magnitude (place n j)) +ℤ (pos n +ℤ pos 1)
    both_ends =
        ap₂ ◌+ℤ◌
        (sum_first n (λ j. magnitude (place (suc (suc n)) j))
        ∙ ap₂ ◌+ℤ◌ (magnitude-first n ∙ one_more n) (sum-cong n (λ j h. ap magnitude (place_inside n j h))))
        (magnitude-last n ∙ one_more n)

    grown : (n u : ℤ) → pos 2 *ℤ u ⩽ n *ℤ n → pos 2 *ℤ (n +ℤ pos 1 +ℤ u +ℤ (n +ℤ pos 1)) ⩽ (n +ℤ pos 2) *ℤ (n +ℤ pos 2)
    grown n u h = le-shift h (identity (n ∷ u ∷ []) (search quote depth 20 fits 4000) tt)
