-- `Series::summed` meets its contract: after j turns the first j values are inside, and the sums are those of them.
-- Assumes nothing.
use borrow.Author.Rules.{rules}
use mathlib.Core.Path.{◌≡◌, refl, sym, ap, ◌∙◌, subst}
use mathlib.Core.Bool.{false}
use mathlib.Core.List.{List}
use Prim.Native.Nat.{ℕ, ◌≤◌, ◌-◌}
use native.Mathlib.Nat.{le_antisymm, le_trans}
use native.Mathlib.Numerals.{add-one}
use native.Mathlib.Omega.{arith}
use lib.IntN.{ℤ, pos, ◌-ℤ◌, ◌*ℤ◌}
use lib.ListN.{length}
use mir.Syntax.{w64}
use mir.Val.{SFits, to_z, of_z}
use mir.Facts.{to_z-of_z}
use Rattle.whole.specs.Sum.{sum}
use Rattle.whole.proofs.Sums.{sum-suc}
use Rattle.whole.proofs.Words.{Word, known, count-read, equal, fits, plain-is, bounds}
use Rattle.whole.specs.Table.{at}
use Rattle.limits.specs.Limits.{beyond}
use Rattle.limits.specs.Lists.{any_beyond_lem}
use Rattle.limits.specs.Refusal.{◌when◌}
use Rattle.limits.proofs.Laws.{magnitude-within}
use Rattle.series.specs.Fit.{total, moment, value_limit}
use Rattle.series.proofs.Running.{totals, moment-running, Inside, total-so-far, totals-so-far, inside-more, outside-found, all-inside}
use Rattle.series.proofs.sums.Series.summed.Goals.{After-loop-value, After-outside, At-loop-value, Else-outside}
use Rattle.series.proofs.sums.Series.summed.Goals as goal

few : (c : At-loop-value) → c.loop-value.value-index ≤ 52
few c = le_trans c.loop-value.auto.value-index-end c.requires.1

-- what is known of the two sums so far, and of a value that is inside
abbrev s-word : (c : At-loop-value) → Word (to_z w64 c.loop-value.s-bits)
s-word c = equal c.loop-value.invariant.s_is (known (total-so-far c.args.values.now c.loop-value.value-index (few c) c.loop-value.invariant.inside))

abbrev sums-word : (c : At-loop-value) → Word (to_z w64 c.loop-value.sums-bits)
sums-word c = equal c.loop-value.invariant.sums_is (known (totals-so-far c.args.values.now c.loop-value.value-index (few c) c.loop-value.invariant.inside))

-- the test says whether the value is outside
tested : (c : After-outside) → c.outside.result ≡ beyond value_limit (at c.args.values.now c.loop-value.value-index)
tested c =
    let z = at c.args.values.now c.loop-value.value-index in
    let fits : SFits w64 z = search rules in
    let e : to_z w64 (of_z w64 z) ≡ z = to_z-of_z fits in
    c.outside.ensures ∙ ap (beyond value_limit) e

passed : (c : Else-outside) → beyond value_limit (at c.args.values.now c.loop-value.value-index) ≡ false
passed c = sym (tested (goal.at.Else-outside c).After-outside) ∙ c.if-outside.false

abbrev value-word : (c : Else-outside) → Word (at c.args.values.now c.loop-value.value-index)
value-word c = known (magnitude-within value_limit _ (passed c))

pub loop-value-init : goal.loop-value-init
unfolding sum
loop-value-init c = record { inside = λ i h. absurd (omega (arith, h)); s_is = refl; sums_is = refl }

pub returns-then-outside-clause-number : goal.returns-then-outside-clause-number
unfolding ◌when◌
returns-then-outside-clause-number c =
    rw (sym (outside-found c.args.values.now c.loop-value.value-index (sym (tested (goal.at.returns-then-outside-clause-number c).After-outside) ∙ c.if-outside.true))) refl

pub loop-value-preserved : goal.loop-value-preserved
loop-value-preserved c =
    let s = s-word (goal.at.loop-value-preserved c).At-loop-value in
    let w = sums-word (goal.at.loop-value-preserved c).At-loop-value in
    let v = value-word c in record {
      inside = inside-more c.args.values.now c.loop-value.value-index (few (goal.at.loop-value-preserved c).At-loop-value) c.loop-value.invariant.inside (passed c);
      s_is = plain-is (search bounds depth 9) tt ∙ rw (add-one, sum-suc);
      sums_is = plain-is (search bounds depth 9) tt ∙ rw (add-one, sum-suc);
    }

pub overflow_add-sums : goal.overflow_add-sums
overflow_add-sums c =
    let s = s-word (goal.at.overflow_add-sums c).At-loop-value in
    let w = sums-word (goal.at.overflow_add-sums c).At-loop-value in
    let v = value-word (goal.at.overflow_add-sums c).Else-outside in
    fits (search bounds depth 9) tt

pub overflow_add-s : goal.overflow_add-s
overflow_add-s c =
    let s = s-word (goal.at.overflow_add-s c).At-loop-value in
    let v = value-word (goal.at.overflow_add-s c).Else-outside in
    fits (search bounds depth 9) tt

-- all values are summed, and inside
all : (c : After-loop-value) → c.loop-value.value-index ≡ length c.args.values.now
all c = le_antisymm c.loop-value.auto.value-index-end c.loop-value-test.false

inside : (c : After-loop-value) → any_beyond_lem value_limit c.args.values.now ≡ false
inside c = all-inside c.args.values.now (subst (Inside c.args.values.now) (all c) c.loop-value.invariant.inside)

most : (c : After-loop-value) → length c.args.values.now - 1 ≤ 51
most c = omega (arith, c.requires)

s-is : (l : List ℤ) (j : ℕ) {z : ℤ} → j ≡ length l → z ≡ sum j (at l) → z ≡ total (length l) (at l)
unfolding total
s-is l j e h = h ∙ ap (λ (k : ℕ). sum k (at l)) e

t-is : (c : After-loop-value)
    → to_z w64 (of_z w64 (to_z w64 (of_z w64 (to_z w64 (length c.args.values.now - 1) *ℤ to_z w64 c.loop-value.s-bits)) -ℤ to_z w64 (of_z w64 (pos 2 *ℤ to_z w64 c.loop-value.sums-bits))))
    ≡ moment (length c.args.values.now) (at c.args.values.now)
unfolding total
t-is c =
    let l = c.args.values.now in
    let n = count-read (most c) in
    let s = s-word (goal.at.After-loop-value c).At-loop-value in
    let w = sums-word (goal.at.After-loop-value c).At-loop-value in
    plain-is (search bounds depth 12) tt
    ∙ ap (λ (k : ℕ). pos (length l - 1) *ℤ sum k (at l) -ℤ pos 2 *ℤ totals k (at l)) (all c)
    ∙ sym (moment-running (length l) (at l) (omega (arith, c.requires)))

pub invariant_of-result : goal.invariant_of-result
invariant_of-result c =
    let e = all (goal.at.invariant_of-result c).After-loop-value in
    let S : to_z w64 c.loop-value.s-bits ≡ total (length c.args.values.now) (at c.args.values.now) = s-is c.args.values.now _ e c.loop-value.invariant.s_is in record {
      count = c.requires;
      inside = inside (goal.at.invariant_of-result c).After-loop-value;
      sums = (S, t-is (goal.at.invariant_of-result c).After-loop-value);
    }

pub returns-clause-number : goal.returns-clause-number
unfolding ◌when◌
returns-clause-number c = rw (inside (goal.at.returns-clause-number c).After-loop-value) refl

-- and every step fits
pub overflow_mul-t : goal.overflow_mul-t
overflow_mul-t c =
    let n = count-read (most (goal.at.overflow_mul-t c).After-loop-value) in
    let s = s-word (goal.at.overflow_mul-t c).At-loop-value in
    fits (search bounds depth 12) tt

pub overflow_mul-t-2 : goal.overflow_mul-t-2
overflow_mul-t-2 c =
    let n = count-read (most (goal.at.overflow_mul-t-2 c).After-loop-value) in
    let s = s-word (goal.at.overflow_mul-t-2 c).At-loop-value in
    let w = sums-word (goal.at.overflow_mul-t-2 c).At-loop-value in
    fits (search bounds depth 12) tt

pub overflow_sub-t-2 : goal.overflow_sub-t-2
overflow_sub-t-2 c =
    let n = count-read (most (goal.at.overflow_sub-t-2 c).After-loop-value) in
    let s = s-word (goal.at.overflow_sub-t-2 c).At-loop-value in
    let w = sums-word (goal.at.overflow_sub-t-2 c).At-loop-value in
    fits (search bounds depth 12) tt
