-- `viewing::pairs::count` meets its contract: what is counted so far leaves room for one difference more.
-- Assumes nothing.
use mathlib.Core.Path.{◌≡◌, refl, sym, ap, ◌∙◌}
use mathlib.Core.Bool.{Bool, cond, ◌||◌}
use lib.IntN.{ℤ, pos, ◌+ℤ◌}
use lib.Signed.{lt_z}
use mir.Syntax.{w64}
use mir.Val.{SFits, to_z, of_z}
use mir.Facts.{to_z-of_z}
use Rattle.whole.proofs.Words.{Word, known, literal, sum_of, fits}
use Rattle.viewing.specs.Gather.{counted}
use Rattle.viewing.proofs.Gathering.{Fits}
use borrow.Author.Rules.{rules}
use Rattle.viewing.proofs.pairs.count.Goals.{Start}
use Rattle.viewing.proofs.pairs.count.Goals as goal

-- what is given reads back from its bits
figures-fit : (c : Start) → Fits c.args.figures
figures-fit c = search rules

-- and is as small as so few pairs make it
abbrev pairs-word : (c : Start) → Word (c.args.figures.pairs +ℤ pos 1)
pairs-word c = sum_of {x = c.args.figures.pairs} (known c.requires.bounded.pairs) (literal 1 refl)

abbrev sum-word : (c : Start) → Word (c.args.figures.sum +ℤ c.args.difference)
sum-word c = sum_of {x = c.args.figures.sum} {y = c.args.difference} (known c.requires.bounded.sum) (known c.requires.difference_bound)

pub returns-then-figures-lt1 : goal.returns-then-figures-lt1
unfolding counted
returns-then-figures-lt1 c =
    let f = figures-fit (goal.at.returns-then-figures-lt1 c).Start in
    let n = to_z-of_z f.pairs in
    let d = to_z-of_z c.ranges.difference in
    let pairs : to_z w64 (of_z w64 (to_z w64 (of_z w64 c.args.figures.pairs) +ℤ pos 1)) ≡ c.args.figures.pairs +ℤ pos 1 = rw n (to_z-of_z (fits (pairs-word (goal.at.returns-then-figures-lt1 c).Start) tt)) in
    let sum : to_z w64 (of_z w64 (to_z w64 (of_z w64 c.args.figures.sum) +ℤ to_z w64 (of_z w64 c.args.difference))) ≡ c.args.figures.sum +ℤ c.args.difference = rw (to_z-of_z f.sum, d) (to_z-of_z (fits (sum-word (goal.at.returns-then-figures-lt1 c).Start) tt)) in
    let none = ap (λ (z : ℤ). lt_z z (pos 1)) (sym n) ∙ c.if-figures-lt1.true in
    let smallest = d ∙ sym (ap (λ (b : Bool). cond (b || lt_z c.args.difference c.args.figures.smallest) c.args.difference c.args.figures.smallest) none) in
    let largest = d ∙ sym (ap (λ (b : Bool). cond (b || lt_z c.args.figures.largest c.args.difference) c.args.difference c.args.figures.largest) none) in
    λ i. record { pairs = pairs i; sum = sum i; smallest = smallest i; largest = largest i }

pub returns : goal.returns
unfolding counted
returns c =
    let f = figures-fit (goal.at.returns c).Start in
    let n = to_z-of_z f.pairs in
    let d = to_z-of_z c.ranges.difference in
    let s = to_z-of_z f.smallest in
    let l = to_z-of_z f.largest in
    let pairs : to_z w64 (of_z w64 (to_z w64 (of_z w64 c.args.figures.pairs) +ℤ pos 1)) ≡ c.args.figures.pairs +ℤ pos 1 = rw n (to_z-of_z (fits (pairs-word (goal.at.returns c).Start) tt)) in
    let sum : to_z w64 (of_z w64 (to_z w64 (of_z w64 c.args.figures.sum) +ℤ to_z w64 (of_z w64 c.args.difference))) ≡ c.args.figures.sum +ℤ c.args.difference = rw (to_z-of_z f.sum, d) (to_z-of_z (fits (sum-word (goal.at.returns c).Start) tt)) in
    let some = ap (λ (z : ℤ). lt_z z (pos 1)) (sym n) ∙ c.if-figures-lt1.false in
    let min_fits : SFits w64 c.min.result = search rules in
    let max_fits : SFits w64 c.max.result = search rules in
    let smallest = to_z-of_z min_fits ∙ c.min.ensures.value ∙ (λ i. cond (lt_z (d i) (s i)) (d i) (s i)) ∙ sym (ap (λ (b : Bool). cond (b || lt_z c.args.difference c.args.figures.smallest) c.args.difference c.args.figures.smallest) some) in
    let largest = to_z-of_z max_fits ∙ c.max.ensures.value ∙ (λ i. cond (lt_z (l i) (d i)) (d i) (l i)) ∙ sym (ap (λ (b : Bool). cond (b || lt_z c.args.figures.largest c.args.difference) c.args.difference c.args.figures.largest) some) in
    (λ i. record { pairs = to_z w64 (of_z w64 (pairs i)); sum = to_z w64 (of_z w64 (sum i)); smallest = smallest i; largest = largest i })
    ∙ (λ i. record { pairs = to_z-of_z (fits (pairs-word (goal.at.returns c).Start) tt) i; sum = to_z-of_z (fits (sum-word (goal.at.returns c).Start) tt) i; smallest = cond (lt_z c.args.figures.pairs (pos 1) || lt_z c.args.difference c.args.figures.smallest) c.args.difference c.args.figures.smallest; largest = cond (lt_z c.args.figures.pairs (pos 1) || lt_z c.args.figures.largest c.args.difference) c.args.difference c.args.figures.largest })
