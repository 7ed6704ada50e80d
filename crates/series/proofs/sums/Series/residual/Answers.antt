-- `Series::residual` meets its contract: without the value the numerator stays below 8 × 10^18 for up to 52 values in tenths.
-- Assumes nothing.
use mathlib.Core.List.{List}
use mathlib.Core.Path.{◌≡◌, sym, ap, ◌∙◌}
use Prim.Native.Nat.{ℕ, ◌*◌, ◌-◌, ◌^◌, ◌≤◌, ◌<◌}
use native.Mathlib.Nat.{le_trans, mul-le-mul_left, one-mul}
use native.Mathlib.Omega.{arith}
use lib.Dec.{lit<, lit≤}
use lib.IntN.{ℤ, pos, ◌-ℤ◌, ◌*ℤ◌}
use lib.ListN.{length}
use mir.Syntax.{w64}
use mir.Val.{to_z}
use Rattle.whole.specs.Nearest.{nearest}
use Rattle.whole.specs.Table.{at}
use Rattle.whole.specs.Words.{Within}
use Rattle.whole.proofs.Rounding.{nearest-bound, value-apart}
use Rattle.whole.proofs.Words.{Word, known, count-read, equal, fits, bound, plain-is, bounds}
use Rattle.exact.specs.Weights.{place}
use Rattle.series.specs.Fit.{total, moment}
use Rattle.series.specs.Scatter.{residual}
use Rattle.series.specs.declared.sums.Series.{Series}
use Rattle.series.proofs.Fitting.{square-bound, span-some, total-bound, moment-bound}
use Rattle.series.proofs.Bounds.{s-word, t-word, square-word, value-word, place-word}
use Rattle.series.proofs.sums.Series.residual.Goals.{After-place, After-over_span}
use Rattle.series.proofs.sums.Series.residual.Goals as goal

-- what is known of the place, of the two sums and of n² - 1
abbrev words : (c : After-place) → Word c.place.result × Word c.args.self.now.s × Word c.args.self.now.t
    × Word (to_z w64 (length c.args.self.now.values.now * length c.args.self.now.values.now - 1))
words c =
    let q = c.args.self.now in (
      equal c.place.ensures (place-word q c.args.j c.requires),
      s-word q,
      t-word q,
      count-read (square-bound (length q.values.now) q.count.1),
    )

-- what the line takes off, times n (n² - 1), and how large it can be
abbrev taken : List ℤ → ℕ → ℤ
taken l j = pos 0 -ℤ pos (length l * length l - 1) *ℤ total (length l) (at l) -ℤ pos 3 *ℤ (place (length l) j *ℤ moment (length l) (at l))

module _ (q : Series) (j : ℕ) (h : j < length q.values.now) where
  taken-bound : Within (8 * 10 ^ 18) (taken q.values.now j)
  taken-bound =
      let m = square-word q in
      let p = place-word q j h in
      let s : Word (total (length q.values.now) (at q.values.now)) = known (total-bound q.values.now q.inside (length q.values.now) q.count.1) in
      let t : Word (moment (length q.values.now) (at q.values.now)) = known (moment-bound q.values.now q.inside (length q.values.now) q.count.1) in
      bound (search bounds depth 12) tt

  some : 1 ≤ length q.values.now * (length q.values.now * length q.values.now - 1)
  some = span-some (length q.values.now) (omega (arith, q.count.0))

pub overflow_mul-slant : goal.overflow_mul-slant
overflow_mul-slant c = let w = words (goal.at.overflow_mul-slant c).After-place in fits (search bounds depth 12) tt

pub overflow_mul-slant-2 : goal.overflow_mul-slant-2
overflow_mul-slant-2 c = let w = words (goal.at.overflow_mul-slant-2 c).After-place in fits (search bounds depth 12) tt

pub overflow_mul-m-2 : goal.overflow_mul-m-2
overflow_mul-m-2 c = let w = words (goal.at.overflow_mul-m-2 c).After-place in fits (search bounds depth 12) tt

pub overflow_sub-m-2 : goal.overflow_sub-m-2
overflow_sub-m-2 c = let w = words (goal.at.overflow_sub-m-2 c).After-place in fits (search bounds depth 12) tt

pub overflow_sub-m-3 : goal.overflow_sub-m-3
overflow_sub-m-3 c = let w = words (goal.at.overflow_sub-m-3 c).After-place in fits (search bounds depth 12) tt

pub over_span-requires : goal.over_span-requires
over_span-requires c =
    let w = words (goal.at.over_span-requires c).After-place in
    (bound (search bounds depth 12) tt, lit< tt, lit≤ tt)

-- the nearest to it, which is no larger
nearest-is : (c : After-over_span) → c.over_span.result
    ≡ nearest (taken c.args.self.now.values.now c.args.j) (length c.args.self.now.values.now * (length c.args.self.now.values.now * length c.args.self.now.values.now - 1))
nearest-is c =
    let w = words (goal.at.After-over_span c).After-place in
    let k = length c.args.self.now.values.now in
    c.over_span.ensures
    ∙ ap (λ (z : ℤ). nearest z (1 * (k * (k * k - 1)))) (plain-is (search bounds depth 12) tt)
    ∙ ap (nearest (taken c.args.self.now.values.now c.args.j)) (one-mul (k * (k * k - 1)))

abbrev nearest-word : (c : After-over_span) → Word c.over_span.result
nearest-word c =
    let q = c.args.self.now in
    let k = length q.values.now in
    equal (nearest-is c)
    (known (nearest-bound (taken q.values.now c.args.j) (k * (k * k - 1)) (8 * 10 ^ 18) (some q c.args.j c.requires)
    (le_trans (taken-bound q c.args.j c.requires).within (mul-le-mul_left (8 * 10 ^ 18) (some q c.args.j c.requires)))))

pub overflow_add-result : goal.overflow_add-result
overflow_add-result c = let v = value-word c.args.self.now c.args.j in let r = nearest-word c in fits (search bounds depth 12) tt

pub returns : goal.returns
unfolding residual
returns c =
    let q = c.args.self.now in
    let l = q.values.now in
    let k = length l in
    let v = value-word q c.args.j in
    let r = nearest-word (goal.at.returns c).After-over_span in
    plain-is (search bounds depth 12) tt
    ∙ sym (value-apart (k * (k * k - 1)) (some q c.args.j c.requires) (at l c.args.j) (pos (k * k - 1) *ℤ total k (at l)) (pos 3 *ℤ (place k c.args.j *ℤ moment k (at l))))
