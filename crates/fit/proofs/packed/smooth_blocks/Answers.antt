-- `fit::packed::smooth_blocks` meets its contract: after j turns the first j blocks are read and inside, and their smoothed values stand in the row.
-- Assumes nothing.
use borrow.Author.Rules.{rules}
use mathlib.Core.Path.{◌≡◌, refl, sym, ap, ◌∙◌, subst}
use mathlib.Core.Bool.{true, false}
use mathlib.Core.List.{List}
use Prim.Native.Nat.{ℕ, ◌+◌, ◌*◌, ◌-◌, ◌≤◌}
use native.Mathlib.Omega.{arith}
use lib.IntN.{ℤ}
use lib.ListN.{length, take, drop}
use mir.Syntax.{w64}
use mir.Val.{SFits}
use mir.Facts.{to_z-of_z}
use Rattle.std.specs.Prelude.{Ok, Err}
use Rattle.limits.specs.Limits.{measurement_limit, measurement_least, measurement_most}
use Rattle.limits.specs.Lists.{any_beyond_lem}
use Rattle.limits.specs.Scan.{read_to, scan_rule}
use Rattle.series.specs.Smooth.{smooth_rule}
use Rattle.decode.specs.Number.{signeds_at}
use Rattle.correcting.specs.Answer.{filled}
use Rattle.correcting.proofs.Arrays.{filled_none, filled_more}
use Rattle.correcting.proofs.Blocks.{part-value}
use Rattle.correcting.proofs.Parts.{Passed, scan_tells, part-read, part-most, none_passed, passed, found, found-blocks, done, done-blocks}
use Rattle.fit.specs.Packed.{smoothed_of}
use Rattle.fit.proofs.Unpacked.{unpacked-length, unpacked-part}
use Rattle.fit.proofs.packed.smooth_blocks.Goals.{After-fifteen-numbers, After-smooth, At-loop-j, In-Err, In-Ok, In-loop-j}
use Rattle.fit.proofs.packed.smooth_blocks.Goals as goal

abbrev list : At-loop-j → List ℤ
list c = signeds_at c.args.measurements.now 0 8 (15 * c.args.n)

abbrev part : At-loop-j → List ℤ
part c = take 15 (drop (15 * c.loop-j.j) (list c))

list_length : (c : At-loop-j) → length (list c) ≡ 15 * c.args.n
list_length c = unpacked-length c.args.measurements.now c.args.n c.requires.1

-- the block lies within the measurements
room : (c : In-loop-j) → 15 * c.loop-j.j + 15 ≤ length (list (goal.at.In-loop-j c).At-loop-j)
room c = omega (arith, list_length (goal.at.In-loop-j c).At-loop-j, c.loop-j-test.true)

-- the fifteen that are read are its own
numbers-are : (c : After-fifteen-numbers) → c.fifteen-numbers.result ≡ part (goal.at.After-fifteen-numbers c).At-loop-j
numbers-are c =
    let e : 120 * c.loop-j.j + 120 - 120 * c.loop-j.j ≡ 120 = omega arith in
    subst (λ (k : ℕ). c.fifteen-numbers.result ≡ signeds_at (take k (drop (120 * c.loop-j.j) c.args.measurements.now)) 0 8 15) e c.fifteen-numbers.ensures
    ∙ unpacked-part c.args.measurements.now c.args.n c.requires.1 c.loop-j.j c.loop-j-test.true

-- what the scan has read where it stops
stopped : (c : In-Err)
    → let p = part (goal.at.In-Err c).At-loop-j in
    (any_beyond_lem measurement_limit p ≡ true) × (c.in-Err.seen ≡ read_to measurement_least measurement_most p)
stopped c =
    scan_tells _ _ (part (goal.at.In-Err c).At-loop-j) {r = Err c.in-Err.seen}
    (c.in-Err.ensures ∙ ap (scan_rule measurement_least measurement_most) (numbers-are (goal.at.In-Err c).After-fifteen-numbers))

-- and where it passes
passes : (c : In-Ok)
    → let p = part (goal.at.In-Ok c).At-loop-j in
    (any_beyond_lem measurement_limit p ≡ false) × (c.in-Ok.seen ≡ read_to measurement_least measurement_most p)
passes c =
    scan_tells _ _ (part (goal.at.In-Ok c).At-loop-j) {r = Ok c.in-Ok.seen}
    (c.in-Ok.ensures ∙ ap (scan_rule measurement_least measurement_most) (numbers-are (goal.at.In-Ok c).After-fifteen-numbers))

all_read : (c : In-Ok) → c.in-Ok.seen ≡ 15
all_read c =
    let p = goal.at.In-Ok c in
    (passes c).1 ∙ part-read (list p.At-loop-j) c.loop-j.j (room p.In-loop-j) (passes c).0

inside : (c : After-smooth) → any_beyond_lem measurement_limit (part (goal.at.After-smooth c).At-loop-j) ≡ false
inside c = (passes (goal.at.After-smooth c).In-Ok).0

answered : (c : After-smooth) → c.smooth.result ≡ Ok (smoothed_of (list (goal.at.After-smooth c).At-loop-j) c.loop-j.j)
unfolding smoothed_of
answered c =
    let p = goal.at.After-smooth c in
    part-value (list p.At-loop-j) (15 * c.loop-j.j) (room p.In-loop-j) (inside c) c.smooth.result
    (c.smooth.ensures.answer ∙ ap smooth_rule (numbers-are p.After-fifteen-numbers))

pub loop-j-init : goal.loop-j-init
loop-j-init c = record { count = refl; inside = none_passed _; row = filled_none _ _ }

pub overflow_add-read : goal.overflow_add-read
overflow_add-read c = record { fits = omega (arith, c.loop-j.invariant.count, all_read (goal.at.overflow_add-read c).In-Ok, c.requires.0) }

pub overflow_add-result : goal.overflow_add-result
overflow_add-result c =
    let p = goal.at.overflow_add-result c in
    let most = part-most (list p.At-loop-j) c.loop-j.j in
    let seen : c.in-Err.seen ≤ 15 = subst (λ (k : ℕ). k ≤ 15) (sym (stopped p.In-Err).1) most in
    record { fits = omega (arith, c.loop-j.invariant.count, c.requires.0) }

pub returns-in-Err : goal.returns-in-Err
returns-in-Err c =
    let p = goal.at.returns-in-Err c in
    let s = stopped p.In-Err in
    let i = c.loop-j.invariant in
    let l = list p.At-loop-j in record {
      answer = (λ z. (2, i.count z + s.1 z)) ∙ found l c.loop-j.j (room p.In-loop-j) i.inside s.0;
      row_after = i.row ∙ ap (λ (m : ℕ). filled m (smoothed_of l) c.args.row.now) (sym (found-blocks l c.loop-j.j (room p.In-loop-j) i.inside s.0));
    }

pub unwrap-requires : goal.unwrap-requires
unwrap-requires c = rw (answered (goal.at.unwrap-requires c).After-smooth) refl

pub loop-j-preserved : goal.loop-j-preserved
loop-j-preserved c =
    let p = goal.at.loop-j-preserved c in
    let l = list p.At-loop-j in
    let fits : SFits w64 c.unwrap.result = search rules in
    let value : c.unwrap.result ≡ smoothed_of l c.loop-j.j = cc (answered p.After-smooth, c.unwrap.ensures) in record {
      count = omega (arith, c.loop-j.invariant.count, all_read p.In-Ok);
      inside = passed l c.loop-j.j (room p.In-loop-j) c.loop-j.invariant.inside (inside p.After-smooth);
      row = filled_more (smoothed_of l) c.args.row.now c.loop-j.row c.loop-j.j c.loop-j.invariant.row (to_z-of_z fits ∙ value);
    }

pub returns : goal.returns
returns c =
    let l = list (goal.at.returns c).At-loop-j in
    let all = list_length (goal.at.returns c).At-loop-j in
    let e : c.loop-j.j ≡ c.args.n = omega (arith, c.loop-j.auto.j-end, c.loop-j-test.false) in
    let passed = subst (Passed l) e c.loop-j.invariant.inside in record {
      answer = ap (λ (k : ℕ). (0, k)) (c.loop-j.invariant.count ∙ ap (λ (m : ℕ). 15 * m) e) ∙ done l c.args.n all passed;
      row_after = c.loop-j.invariant.row ∙ ap (λ (m : ℕ). filled m (smoothed_of l) c.args.row.now) (e ∙ sym (done-blocks l c.args.n all passed));
    }
