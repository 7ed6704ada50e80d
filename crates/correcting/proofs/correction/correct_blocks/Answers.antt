-- `correcting::correction::correct_blocks` meets its contract: after so many turns the blocks so far are read and inside, and their values stand in the rows.
-- Assumes nothing.
use mathlib.Core.Path.{◌≡◌, refl, sym, ap, ap₂, ◌∙◌, subst}
use mathlib.Core.Bool.{true, false}
use mathlib.Core.List.{List}
use mathlib.Core.Logic.{inl}
use Prim.Native.Nat.{ℕ, ◌+◌, ◌*◌, ◌/◌, ◌^◌, ◌≤◌, ◌<◌}
use native.Mathlib.Nat.{div-le_self}
use native.Mathlib.Omega.{arith}
use lib.IntN.{ℤ, pos}
use lib.ListN.{length, take, drop, length-drop}
use mir.Syntax.{w64}
use mir.Val.{to_z, of_z}
use Rattle.std.specs.Prelude.{Result, Ok, Err}
use Rattle.std.specs.Result.{MatchResult}
use Rattle.std.specs.Iterator.Adapters.{enumerate_source, enumerate_count}
use Rattle.std.specs.Slice.Iter.{chunks_exact_rest, chunks_exact_size}
use Rattle.limits.specs.Limits.{delay_limit, measurement_limit, measurement_least, measurement_most}
use Rattle.limits.specs.Lists.{any_beyond_lem}
use Rattle.limits.specs.Numbers.{reply_of}
use Rattle.limits.specs.Scan.{read_to, scan_rule}
use Rattle.series.specs.Smooth.{smoothed, smooth_rule}
use Rattle.whole.specs.Table.{at}
use Rattle.exact.specs.Corrected.{Given}
use Rattle.limits.proofs.Lists.{within-limit}
use Rattle.correcting.specs.declared.correction.Values.{Values}
use Rattle.correcting.specs.declared.inputs.Group.{Group}
use Rattle.correcting.specs.Correct.{blocks, geometry_limit, value_a, value_b, value_c, value_d}
use Rattle.correcting.specs.Given.{given_of}
use Rattle.correcting.specs.Block.{values_of}
use Rattle.whole.proofs.Words.{Word, known, equal, read, back, bound}
use Rattle.correcting.proofs.Arrays.{filled_none, filled_more}
use Rattle.correcting.proofs.Groups.{block-values}
use Rattle.correcting.proofs.Blocks.{part-value, part-bound}
use Rattle.correcting.proofs.Parts.{Passed, none_passed, passed, cut, scan_tells, found, found-blocks, done, done-blocks, part-read, part-most}
use Rattle.correcting.proofs.Refusals.{Sized, sized, others}
use Rattle.correcting.proofs.correction.correct_blocks.Invariants.{AreFilled}
use Rattle.correcting.proofs.correction.correct_blocks.Goals.{After-corrected, After-smooth, After-unwrap-smoothed, In-Err, In-Ok, In-Some, Start}
use Rattle.correcting.proofs.correction.correct_blocks.Goals as goal

-- what the track is given
abbrev g : Start → Given
g c = given_of c.args.measurements.now c.args.delays c.args.corrections

sizes : (c : Start) → Sized (g c)
sizes c = sized (g c) c.requires.sizes_right

-- few chunks are left
left : (count rest size : ℕ) → count + rest < 2 ^ 64 → count + rest / size < 2 ^ 64
left count rest size h = omega (arith, div-le_self rest size)

-- the block of this turn, its place, and what the turns before have left
record Here (c : In-Some) : Type 0 where
  is : c.in-Some.block.now ≡ take 15 (drop (15 * c.in-Some.j) c.args.measurements.now)
  room : 15 * c.in-Some.j + 15 ≤ length c.args.measurements.now
  count : c.loop-j.read ≡ 15 * c.in-Some.j
  before : Passed c.args.measurements.now c.in-Some.j
  rows : AreFilled (g (goal.at.In-Some c).Start) c.in-Some.j c.args.rows.now c.loop-j.rows

here : (c : In-Some) → Here c
here c =
    let s = c.in-Some.ensures.steps in
    let i = c.loop-j.invariant in
    let j : enumerate_count c.loop-j.j-iterator ≡ c.in-Some.j = sym s.1 in
    let t = cut c.args.measurements.now c.in-Some.block.now _ (enumerate_count c.loop-j.j-iterator) (sym i.rest ∙ s.0.1.0) (s.0.1.1 ∙ i.size) i.few in
    record {
      is = t.0 ∙ ap (λ (k : ℕ). take 15 (drop (15 * k) c.args.measurements.now)) j;
      room = subst (λ (k : ℕ). 15 * k + 15 ≤ length c.args.measurements.now) j t.2;
      count = i.count ∙ ap (λ (k : ℕ). 15 * k) j;
      before = subst (Passed c.args.measurements.now) j i.inside;
      rows = subst (λ (k : ℕ). AreFilled (g (goal.at.In-Some c).Start) k c.args.rows.now c.loop-j.rows) j i.rows;
    }

-- the scan of it: what is asked of the block is asked of its place
scanned : (c : In-Some) {r : Result ℕ ℕ} → r ≡ scan_rule measurement_least measurement_most c.in-Some.block.now
    → let p = take 15 (drop (15 * c.in-Some.j) c.args.measurements.now) in
    MatchResult r (λ read. (any_beyond_lem measurement_limit p ≡ false) × (read ≡ read_to measurement_least measurement_most p))
    (λ read. (any_beyond_lem measurement_limit p ≡ true) × (read ≡ read_to measurement_least measurement_most p))
scanned c e = scan_tells _ _ _ (e ∙ ap (scan_rule measurement_least measurement_most) (here c).is)

-- what it has read where it stops
stopped : (c : In-Err)
    → let p = take 15 (drop (15 * c.in-Some.j) c.args.measurements.now) in
    (any_beyond_lem measurement_limit p ≡ true) × (c.in-Err.seen ≡ read_to measurement_least measurement_most p)
stopped c = scanned (goal.at.In-Err c).In-Some {r = Err c.in-Err.seen} c.in-Err.ensures

-- and where it passes
passes : (c : In-Ok)
    → let p = take 15 (drop (15 * c.in-Some.j) c.args.measurements.now) in
    (any_beyond_lem measurement_limit p ≡ false) × (c.in-Ok.seen ≡ read_to measurement_least measurement_most p)
passes c = scanned (goal.at.In-Ok c).In-Some {r = Ok c.in-Ok.seen} c.in-Ok.ensures

all_read : (c : In-Ok) → c.in-Ok.seen ≡ 15
all_read c =
    (passes c).1 ∙ part-read c.args.measurements.now c.in-Some.j (here (goal.at.In-Ok c).In-Some).room (passes c).0

inside : (c : After-smooth)
    → any_beyond_lem measurement_limit (take 15 (drop (15 * c.in-Some.j) c.args.measurements.now)) ≡ false
inside c = (passes (goal.at.After-smooth c).In-Ok).0

-- its smoothed value
abbrev value : (c : In-Some) → ℤ
value c = smoothed (λ i. at c.args.measurements.now (15 * c.in-Some.j + i))

answered : (c : After-smooth) → c.smooth.result ≡ Ok (value (goal.at.After-smooth c).In-Some)
answered c =
    let h = here (goal.at.After-smooth c).In-Some in
    part-value c.args.measurements.now (15 * c.in-Some.j) h.room (inside c) c.smooth.result
    (subst (λ (l : List ℤ). reply_of (pos 0) c.smooth.result ≡ smooth_rule l) h.is c.smooth.ensures.answer)

unwrapped : (c : After-unwrap-smoothed) → c.unwrap-smoothed.result ≡ value (goal.at.After-unwrap-smoothed c).In-Some
unwrapped c = cc (answered (goal.at.After-unwrap-smoothed c).After-smooth, c.unwrap-smoothed.ensures)

abbrev value-word : (c : After-unwrap-smoothed) → Word c.unwrap-smoothed.result
value-word c =
    let s = (goal.at.After-unwrap-smoothed c).After-smooth in
    equal (unwrapped c) (known (part-bound c.args.measurements.now (15 * c.in-Some.j) (here (goal.at.After-smooth s).In-Some).room (inside s)))

pub loop-j-init : goal.loop-j-init
loop-j-init c =
    let e = c.into_iter-j-iterator.ensures.into_iter_gives in
    let count : enumerate_count c.into_iter-j-iterator.result ≡ 0 = ap enumerate_count e ∙ c.enumerate-j-items.ensures.count in
    let source : enumerate_source c.into_iter-j-iterator.result ≡ c.chunks_exact.result = ap enumerate_source e ∙ c.enumerate-j-items.ensures.source in
    let size : chunks_exact_size (enumerate_source c.into_iter-j-iterator.result) ≡ 15 = ap chunks_exact_size source ∙ c.chunks_exact.ensures.size in
    let rest : chunks_exact_rest (enumerate_source c.into_iter-j-iterator.result) ≡ c.args.measurements.now = ap chunks_exact_rest source ∙ c.chunks_exact.ensures.rest in
    record {
      next = (omega arith, tt, inl (left _ _ _ (omega (arith, ap length rest, sizes (goal.at.loop-j-init c).Start))));
      finite = tt;
      size = size;
      rest = rest ∙ ap (λ (k : ℕ). drop (15 * k) c.args.measurements.now) (sym count);
      few = omega (arith, count);
      count = omega (arith, count);
      inside = subst (Passed c.args.measurements.now) (sym count) (none_passed c.args.measurements.now);
      rows =
          subst (λ (k : ℕ). AreFilled (g (goal.at.loop-j-init c).Start) k c.args.rows.now c.args.rows.now) (sym count) (record {
            a_is = filled_none _ _;
            b_is = filled_none _ _;
            c_is = filled_none _ _;
            d_is = filled_none _ _;
          });
    }

pub overflow_add-read : goal.overflow_add-read
overflow_add-read c =
    let p = goal.at.overflow_add-read c in
    let z = sizes p.Start in
    let h = here p.In-Some in record { fits = omega (arith, h.count, h.room, all_read p.In-Ok, z.size-measurements, z.size-blocks) }

pub overflow_add-result : goal.overflow_add-result
overflow_add-result c =
    let p = goal.at.overflow_add-result c in
    let z = sizes p.Start in
    let h = here p.In-Some in
    let seen : c.in-Err.seen ≤ 15 = subst (λ (k : ℕ). k ≤ 15) (sym (stopped p.In-Err).1) (part-most c.args.measurements.now c.in-Some.j) in
    record { fits = omega (arith, h.count, h.room, z.size-measurements, z.size-blocks) }

pub returns-in-Err : goal.returns-in-Err
returns-in-Err c =
    let p = goal.at.returns-in-Err c in
    let h = here p.In-Some in
    let s = stopped p.In-Err in
    let e = found-blocks c.args.measurements.now c.in-Some.j h.room h.before s.0 in
    let rows = subst (λ (k : ℕ). AreFilled (g p.Start) k c.args.rows.now c.loop-j.rows) (sym e) h.rows in record {
      answer = (λ z. (2, h.count z + s.1 z)) ∙ found c.args.measurements.now c.in-Some.j h.room h.before s.0;
      a_after = rows.a_is;
      b_after = rows.b_is;
      c_after = rows.c_is;
      d_after = rows.d_is;
    }

pub unwrap-smoothed-requires : goal.unwrap-smoothed-requires
unwrap-smoothed-requires c = rw (answered (goal.at.unwrap-smoothed-requires c).After-smooth) refl

pub group-requires : goal.group-requires
group-requires c =
    let z = sizes (goal.at.group-requires c).Start in
    let room = (here (goal.at.group-requires c).In-Some).room in (omega arith, omega arith, omega arith, omega arith, omega arith)

pub corrected-requires : goal.corrected-requires
corrected-requires c =
    let o = others (g (goal.at.corrected-requires c).Start) c.requires.others_inside in
    let k = c.args.corrections in
    let j = c.in-Some.j in
    record {
      smoothed_and_delays = (
        bound (read (value-word (goal.at.corrected-requires c).After-unwrap-smoothed)) tt,
        record { within = o.in-int },
        record { within = o.in-cab },
        record { within = o.in-refdly },
        record { within = o.in-gd },
      );
      corrections =
          rw c.group.ensures (
            record { within = within-limit geometry_limit k.geometry.now o.in-geometry j },
            record { within = within-limit delay_limit k.relativity.now o.in-relativity j },
            record { within = within-limit delay_limit k.ionosphere.now o.in-ionosphere j },
            record { within = within-limit delay_limit k.troposphere.now o.in-troposphere j },
            record { within = within-limit delay_limit k.clock.now o.in-clock j },
          );
    }

-- the values of the block
valued : (c : After-corrected)
    → let t = g (goal.at.After-corrected c).Start in
    c.corrected.result ≡ record { a = value_a t c.in-Some.j; b = value_b t c.in-Some.j; c = value_c t c.in-Some.j; d = value_d t c.in-Some.j }
valued c =
    let u = (goal.at.After-corrected c).After-unwrap-smoothed in
    let y : to_z w64 (of_z w64 c.unwrap-smoothed.result) ≡ value (goal.at.After-unwrap-smoothed u).In-Some = back (value-word u) tt ∙ unwrapped u in
    c.corrected.ensures
    ∙ ap₂ (λ (z : ℤ) (group : Group). values_of z c.args.delays group) y c.group.ensures
    ∙ block-values c.args.measurements.now c.args.delays c.args.corrections c.in-Some.j

pub loop-j-preserved : goal.loop-j-preserved
loop-j-preserved c =
    let p = goal.at.loop-j-preserved c in
    let s = c.in-Some.ensures.steps in
    let i = c.loop-j.invariant in
    let h = here p.In-Some in
    let z = sizes p.Start in
    let j = c.in-Some.j in
    let count : enumerate_count c.next.new.self ≡ j + 1 = omega (arith, s.1, s.2) in
    let t = cut c.args.measurements.now c.in-Some.block.now _ (enumerate_count c.loop-j.j-iterator) (sym i.rest ∙ s.0.1.0) (s.0.1.1 ∙ i.size) i.few in
    let size : chunks_exact_size (enumerate_source c.next.new.self) ≡ 15 = s.0.0 ∙ i.size in
    let rest : chunks_exact_rest (enumerate_source c.next.new.self) ≡ drop (15 * enumerate_count c.next.new.self) c.args.measurements.now =
    t.1 ∙ ap (λ (k : ℕ). drop (15 * k) c.args.measurements.now) (sym s.2) in
    let v = valued p.After-corrected in
    record {
      next = (omega arith, tt, inl (left _ _ _ (omega (arith, ap length rest, length-drop (15 * enumerate_count c.next.new.self) c.args.measurements.now))));
      finite = tt;
      size = size;
      rest = rest;
      few = omega arith;
      count = omega (arith, h.count, count, all_read p.In-Ok);
      inside = subst (Passed c.args.measurements.now) (sym count) (passed c.args.measurements.now j h.room h.before (inside p.After-smooth));
      rows =
          subst (λ (k : ℕ). AreFilled (g p.Start) k c.args.rows.now c.put.new.self) (sym count) (record {
            a_is = c.put.ensures.a_after ∙ filled_more _ _ _ j h.rows.a_is (ap (λ (x : Values). x.a) v);
            b_is = c.put.ensures.b_after ∙ filled_more _ _ _ j h.rows.b_is (ap (λ (x : Values). x.b) v);
            c_is = c.put.ensures.c_after ∙ filled_more _ _ _ j h.rows.c_is (ap (λ (x : Values). x.c) v);
            d_is = c.put.ensures.d_after ∙ filled_more _ _ _ j h.rows.d_is (ap (λ (x : Values). x.d) v);
          });
    }

pub returns : goal.returns
returns c =
    let p = goal.at.returns c in
    let s = c.in-None.ensures.steps in
    let i = c.loop-j.invariant in
    let m = c.args.measurements.now in
    let all = (sizes p.Start).size-measurements in
    let k = enumerate_count c.loop-j.j-iterator in
    let n : k ≡ blocks (g p.Start) = omega (arith, all, s.0.1.0, ap length i.rest, length-drop (15 * k) m, i.size, i.few) in
    let passed = subst (Passed m) n i.inside in
    let rows = subst (λ (k : ℕ). AreFilled (g p.Start) k c.args.rows.now c.loop-j.rows) (n ∙ sym (done-blocks m (blocks (g p.Start)) all passed)) i.rows in
    record {
      answer = ap (λ (k : ℕ). (0, k)) (i.count ∙ ap (λ (k : ℕ). 15 * k) n) ∙ done m (blocks (g p.Start)) all passed;
      a_after = rows.a_is;
      b_after = rows.b_is;
      c_after = rows.c_is;
      d_after = rows.d_is;
    }
