-- `fit::packed::track_packed` meets its contract: what the two loops leave is what Track makes of the lists.
-- Assumes nothing.
use borrow.Author.Tests.{ne_eqb}
use mathlib.Core.Path.{◌≡◌, refl, sym, ap, ap₂, ◌∙◌, subst}
use mathlib.Core.Bool.{Bool, true, false, not, ◌||◌}
use mathlib.Core.List.{List, []}
use Prim.Native.Nat.{ℕ, ◌*◌, ◌/◌, ◌≤◌, ◌<◌}
use native.Mathlib.Nat.{ne_of_gt}
use native.Mathlib.Omega.{arith}
use lib.IntN.{ℤ}
use lib.ListN.{length}
use Rattle.std.specs.Result.{IfOk}
use Rattle.std.proofs.lemmas.Result.{err_from_is_err_and}
use Rattle.limits.specs.Limits.{measurement_limit}
use Rattle.limits.specs.Blocks.{blocks_fit_lem}
use Rattle.limits.specs.Lists.{any_beyond_lem}
use Rattle.limits.proofs.Blocks.{blocks-within}
use Rattle.limits.proofs.Cases.{paper_above_zero}
use Rattle.limits.proofs.Laws.{when-zero, when-some}
use Rattle.decode.specs.Number.{signeds_at}
use Rattle.decode.proofs.Signeds.{length-signeds}
use Rattle.exact.specs.Accurate.{AccurateTrack}
use Rattle.whole.specs.Table.{at}
use Rattle.exact.specs.Corrected.{Given, steps}
use Rattle.correcting.specs.Correct.{wrong_sizes, out_of_limits}
use Rattle.correcting.specs.Answer.{others_beyond}
use Rattle.correcting.proofs.Refusals.{measurements-refused, measurements-values}
use Rattle.fit.specs.Found.{judged_rule}
use Rattle.fit.specs.Packed.{grouped, packed, smoothed_of}
use Rattle.fit.proofs.Held.{AreHeld, held-inside}
use Rattle.fit.proofs.Unpacked.{smoothed-at, smoothed-inside, found-accurate, sizes-found, limits-found, judged-found, packed-blocks, unfit-sizes, miscounted-sizes, sizes-right, limits-are, a-row, b-row, c-row, d-row, packed-results}
use Rattle.fit.proofs.packed.track_packed.Goals.{Else-measurements-n, Else-not-blocks_fit, In_ok-smooth_blocks, In_ok-correct_groups, Start}
use Rattle.fit.proofs.packed.track_packed.Goals as goal

-- what is given
abbrev g : Start → Given
g c = packed c.args.measurements.now c.args.delays c.args.corrections.now

abbrev n : Start → ℕ
n c = length c.args.corrections.now / 40

-- the sizes have passed
fit : (c : Else-not-blocks_fit) → not (blocks_fit_lem (n (goal.at.Else-not-blocks_fit c).Start)) ≡ false
fit c = ap not (sym c.blocks_fit.ensures ∙ c.if-not-blocks_fit.false)

few : (c : Else-not-blocks_fit) → (4 ≤ n (goal.at.Else-not-blocks_fit c).Start) × (n (goal.at.Else-not-blocks_fit c).Start ≤ 52)
few c = blocks-within (n (goal.at.Else-not-blocks_fit c).Start) (fit c)

-- the measurements
abbrev list : Start → List ℤ
list s = signeds_at s.args.measurements.now 0 8 (15 * n s)

list_length : (s : Start) → length (list s) ≡ 15 * n s
list_length s = length-signeds s.args.measurements.now 0 8 (15 * n s)

sizes : (c : Else-measurements-n) → wrong_sizes (g (goal.at.Else-measurements-n c).Start) ≡ false
sizes c =
    sizes-right c.args.measurements.now c.args.corrections.now c.args.delays (fit (goal.at.Else-measurements-n c).Else-not-blocks_fit) c.if-measurements-n.false

-- the delays and corrections
abbrev others : Start → Given
others s = grouped (n s) [] s.args.delays s.args.corrections.now

-- what 2 says, by its parts
limits-by : (c : Else-measurements-n) (p q : Bool) → any_beyond_lem measurement_limit (list (goal.at.Else-measurements-n c).Start) ≡ p
    → others_beyond (others (goal.at.Else-measurements-n c).Start) ≡ q → out_of_limits (g (goal.at.Else-measurements-n c).Start) ≡ p || q
limits-by c p q e f =
    limits-are c.args.measurements.now c.args.corrections.now c.args.delays (fit (goal.at.Else-measurements-n c).Else-not-blocks_fit) c.if-measurements-n.false ∙ ap₂ ◌||◌ e f

inside : (c : In_ok-smooth_blocks) → any_beyond_lem measurement_limit (list (goal.at.In_ok-smooth_blocks c).Start) ≡ false
inside c = measurements-values (list (goal.at.In_ok-smooth_blocks c).Start) c.in_ok-smooth_blocks.ensures.answer

-- where nothing is refused, the rows have the places of the record
module _ (c : In_ok-correct_groups) where
  abbrev e : Else-measurements-n
  e = (goal.at.In_ok-correct_groups c).Else-measurements-n

  abbrev s : Start
  s = (goal.at.In_ok-correct_groups c).Start

  fits : not (blocks_fit_lem (n s)) ≡ false
  fits = fit (goal.at.In_ok-correct_groups c).Else-not-blocks_fit

  in_limits : any_beyond_lem measurement_limit (list s) ≡ false
  in_limits = inside (goal.at.In_ok-correct_groups c).In_ok-smooth_blocks

  limits-left : out_of_limits (g s) ≡ false
  limits-left = limits-by e false false in_limits (when-zero 1 (others_beyond (others s)) (sym c.in_ok-correct_groups.ensures.answer))

  row_at : (j : ℕ) → j < n s → at c.smooth_blocks.new.row j ≡ smoothed_of (list s) j
  row_at = smoothed-at (list s) (n s) (list_length s) (few (goal.at.In_ok-correct_groups c).Else-not-blocks_fit).1 in_limits c.in_ok-smooth_blocks.ensures.row_after

  held : AreHeld (g s) (n s) c.correct_groups.new.rows
  held =
      let m = c.args.measurements.now in
      let k = c.args.corrections.now in
      let d = c.args.delays in
      let count = c.if-measurements-n.false in
      let r = c.in_ok-correct_groups.ensures.rows_after in record {
        a_is = r.0 ∙ a-row m k d fits count c.smooth_blocks.new.row row_at;
        b_is = r.1 ∙ b-row m k d fits count c.smooth_blocks.new.row row_at;
        c_is = r.2 ∙ c-row m k d fits count;
        d_is = r.3 ∙ d-row m k d fits count;
      }

pub returns-then-not-blocks_fit-clause-answer : goal.returns-then-not-blocks_fit-clause-answer
returns-then-not-blocks_fit-clause-answer c =
    sizes-found (g (goal.at.returns-then-not-blocks_fit-clause-answer c).Start) (unfit-sizes _ _ _ (ap not (sym c.blocks_fit.ensures ∙ c.if-not-blocks_fit.true)))

pub returns-then-measurements-n-clause-answer : goal.returns-then-measurements-n-clause-answer
returns-then-measurements-n-clause-answer c =
    let a = goal.at.returns-then-measurements-n-clause-answer c in
    sizes-found (g a.Start) (miscounted-sizes _ _ _ (fit a.Else-not-blocks_fit) (ne_eqb _ _ c.if-measurements-n.true))

pub smooth_blocks-requires : goal.smooth_blocks-requires
smooth_blocks-requires c = ((few (goal.at.smooth_blocks-requires c).Else-not-blocks_fit).1, omega (arith, c.if-measurements-n.false))

pub returns-in_err-smooth_blocks-clause-answer : goal.returns-in_err-smooth_blocks-clause-answer
returns-in_err-smooth_blocks-clause-answer c =
    let p = err_from_is_err_and c.from_residual.result c.from_residual.ensures.1 in
    let a = goal.at.returns-in_err-smooth_blocks-clause-answer c in
    let r = measurements-refused (list a.Start) _ c.in_err-smooth_blocks.ensures.answer in
    rw (p.1, p.2) (limits-found (g a.Start) (sizes a.Else-measurements-n) (limits-by a.Else-measurements-n true (others_beyond (others a.Start)) r.1 refl) _ r.0)

pub correct_groups-requires : goal.correct_groups-requires
correct_groups-requires c =
    let a = goal.at.correct_groups-requires c in
    let most = (few a.Else-not-blocks_fit).1 in
    (most, omega arith, smoothed-inside (list a.Start) (n a.Start) (list_length a.Start) most (inside a.In_ok-smooth_blocks) c.in_ok-smooth_blocks.ensures.row_after)

pub returns-in_err-correct_groups-clause-answer : goal.returns-in_err-correct_groups-clause-answer
returns-in_err-correct_groups-clause-answer c =
    let p = err_from_is_err_and c.from_residual-in_err-correct_groups.result c.from_residual-in_err-correct_groups.ensures.1 in
    let a = goal.at.returns-in_err-correct_groups-clause-answer c in
    let r = when-some 2 (others_beyond (others a.Start)) c.in_err-correct_groups.ensures.answer (λ z. ne_of_gt (paper_above_zero _) z) in
    rw (p.1, p.2) (limits-found (g a.Start) (sizes a.Else-measurements-n) (limits-by a.Else-measurements-n false true (inside a.In_ok-smooth_blocks) r.1) _ r.0)

pub ten_numbers-requires : goal.ten_numbers-requires
ten_numbers-requires c =
    let o = (goal.at.ten_numbers-requires c).In_ok-correct_groups in record {
      few_blocks = few (goal.at.ten_numbers-requires c).Else-not-blocks_fit;
      inside = held-inside (g (s o)) (limits-left o) (held o);
    }

pub returns : goal.returns
returns c =
    let o = (goal.at.returns c).In_ok-correct_groups in
    let h = held o in
    let m = c.args.measurements.now in
    let k = c.args.corrections.now in
    let d = c.args.delays in
    let answer =
    c.ten_numbers.ensures
    ∙ ap judged_rule (packed-results m k d (fits o) c.if-measurements-n.false h.a_is h.b_is h.c_is h.d_is)
    ∙ judged-found (g (s o)) (sizes (e o)) (limits-left o) in record {
      answer = answer;
      accurate =
          subst (λ (b : ℕ). IfOk c.ten_numbers.result (AccurateTrack steps b (g (s o)))) (packed-blocks m k d)
          (found-accurate (g (s o)) c.ten_numbers.result answer);
    }
