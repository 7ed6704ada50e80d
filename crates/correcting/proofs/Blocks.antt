-- Laws of smoothing a part of the measurements (specs/Smooth.antt of series).
-- Assumes nothing.
use mathlib.Core.Path.{◌≡◌, sym, ap, ◌∙◌, subst}
use mathlib.Core.Bool.{false}
use mathlib.Core.List.{List}
use Prim.Native.Nat.{ℕ, ◌+◌, ◌≤◌}
use native.Mathlib.Nat.{ne_of_gt}
use native.Mathlib.Omega.{arith}
use Rattle.std.specs.Prelude.{Result, Ok, Err}
use Rattle.std.specs.Result.{MatchResult}
use lib.IntN.{ℤ, pos, nat_abs, ◌*ℤ◌}
use lib.ListN.{length, take, drop, length-drop}
use lib.Seq.{length-take-le, get_or-take, get_or-drop}
use Rattle.whole.specs.Nearest.{nearest}
use Rattle.whole.proofs.Sums.{sum-cong}
use Rattle.whole.specs.Table.{at}
use Rattle.exact.specs.Corrected.{steps}
use Rattle.exact.specs.Weights.{weights}
use Rattle.limits.specs.Limits.{measurement_limit}
use Rattle.limits.specs.Lists.{any_beyond_lem}
use Rattle.limits.specs.Numbers.{paper_number, reply_of}
use Rattle.limits.specs.declared.refusal.Refusal.{Refusal}
use Rattle.series.specs.Smooth.{smoothed, smooth_rule}
use Rattle.limits.proofs.Cases.{paper_above_zero, value_of_reply}
use Rattle.limits.proofs.Lists.{list-passes, counts, within-limit}
use Rattle.series.proofs.Weights.{most_smoothed, smoothed-bound}

module _ (m : List ℤ) (from : ℕ) (fits : from + 15 ≤ length m) where
  part_length : length (take 15 (drop from m)) ≡ 15
  part_length = length-take-le 15 (drop from m) (rw length-drop (omega arith))

  -- the part's smoothed value, by the measurements themselves
  part-smoothed : smoothed (at (take 15 (drop from m))) ≡ smoothed (λ i. at m (from + i))
  unfolding smoothed
  part-smoothed =
      ap (λ (z : ℤ). nearest (pos steps *ℤ z) 1105)
      (sum-cong 15 (λ i h. ap (λ (z : ℤ). at weights i *ℤ z) (get_or-take 15 (drop from m) i (pos 0) h ∙ get_or-drop from m i (pos 0))))

  -- the part within its limits
  module _ (e : any_beyond_lem measurement_limit (take 15 (drop from m)) ≡ false) where
    -- Smooth answers with it
    pub part-value : (r : Result ℤ Refusal) → reply_of (pos 0) r ≡ smooth_rule (take 15 (drop from m)) → r ≡ Ok (smoothed (λ i. at m (from + i)))
    unfolding smooth_rule
    part-value r a =
        by (list-passes _ _ _ _ (counts 15 (take 15 (drop from m)) part_length) e) r (value_of_reply (pos 0) r _ _ a)
      where
        by : {n : ℕ} → n ≡ 0 → (r : Result ℤ Refusal)
            → MatchResult r (λ z. (n ≡ 0) × (z ≡ smoothed (at (take 15 (drop from m))))) (λ q. n ≡ paper_number q)
            → r ≡ Ok (smoothed (λ i. at m (from + i)))
        by zero (Ok z) h = ap Ok (h.1 ∙ part-smoothed)
        by zero (Err q) h = absurd (ne_of_gt (paper_above_zero q) (sym h ∙ zero))

    -- and it is as large as measurements within their limits allow
    pub part-bound : nat_abs (smoothed (λ i. at m (from + i))) ≤ most_smoothed
    part-bound = subst (λ (z : ℤ). nat_abs z ≤ most_smoothed) part-smoothed (smoothed-bound (at (take 15 (drop from m))) (λ i. within-limit measurement_limit (take 15 (drop from m)) e i))
