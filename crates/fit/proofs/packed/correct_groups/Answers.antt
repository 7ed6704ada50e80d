-- `fit::packed::correct_groups` meets its contract: after j turns the first j groups are inside, and their values stand in the rows.
-- Assumes nothing.
use mathlib.Core.Path.{◌≡◌, refl, sym, ap, ap₂, ◌∙◌, subst}
use mathlib.Core.Bool.{Bool, true, false, ◌||◌, or-true}
use mathlib.Core.List.{List, []}
use Prim.Native.Nat.{ℕ, ◌+◌, ◌*◌, ◌-◌, ◌≤◌, ◌<◌}
use native.Mathlib.Omega.{arith}
use lib.Dec.{lit≤, lit<}
use lib.IntN.{ℤ, pos, ◌*ℤ◌}
use lib.ListN.{length, take, drop}
use mir.Syntax.{w64}
use mir.Val.{SFits, to_z, of_z}
use mir.Facts.{to_z-of_z}
use Rattle.std.proofs.lemmas.Result.{err_from_is_err_and}
use Rattle.whole.proofs.Words.{fits-of}
use Rattle.limits.specs.Limits.{beyond, delays_beyond_lem}
use Rattle.limits.specs.Refusal.{◌when◌}
use Rattle.limits.specs.declared.Delays.{Delays}
use Rattle.limits.proofs.Laws.{within-magnitude}
use Rattle.limits.proofs.Lists.{within-limit}
use Rattle.series.specs.Fit.{value_limit}
use Rattle.decode.specs.Number.{signed_at_lem}
use Rattle.decode.proofs.Signeds.{length-signeds}
use Rattle.whole.specs.Table.{at}
use Rattle.exact.specs.Corrected.{Given, steps, to_a, to_b}
use Rattle.correcting.specs.declared.correction.Values.{Values}
use Rattle.correcting.specs.declared.inputs.Group.{Group}
use Rattle.correcting.specs.Answer.{others_beyond}
use Rattle.correcting.specs.Block.{group_beyond, values_of, block_values_rule}
use Rattle.correcting.proofs.Arrays.{filled_none, filled_more}
use Rattle.correcting.proofs.Columns.{from_row, from-none}
use Rattle.correcting.proofs.Groups.{group-refused, group-values}
use Rattle.fit.specs.Packed.{grouped}
use Rattle.fit.proofs.Unpacked.{unpacked-group}
use Rattle.fit.proofs.packed.correct_groups.Invariants.{left}
use Rattle.fit.proofs.packed.correct_groups.Goals.{After-correct_block, Else-delays_beyond, Start}
use Rattle.fit.proofs.packed.correct_groups.Goals as goal

abbrev g : Start → Given
g c = grouped c.args.n [] c.args.delays c.args.corrections.now

-- the columns are as long as there are blocks
lengths : (c : Start)
    → let t = g c in
    (length t.relativity ≡ length t.geometry) × (length t.ionosphere ≡ length t.geometry) × (length t.troposphere ≡ length t.geometry)
    × (length t.clock ≡ length t.geometry)
lengths c =
    let e = length-signeds c.args.corrections.now 0 40 c.args.n in (
      length-signeds c.args.corrections.now 8 40 c.args.n ∙ sym e,
      length-signeds c.args.corrections.now 16 40 c.args.n ∙ sym e,
      length-signeds c.args.corrections.now 24 40 c.args.n ∙ sym e,
      length-signeds c.args.corrections.now 32 40 c.args.n ∙ sym e,
    )

-- the delays
delays-left : (c : Else-delays_beyond)
    → delays_beyond_lem c.args.delays.int c.args.delays.cab c.args.delays.refdly c.args.delays.gd ≡ false
delays-left c = sym c.delays_beyond.ensures ∙ c.if-delays_beyond.false

-- what is refused of all but the measurements, by its parts
others_by : (t : Given) (p q : Bool) → left t 0 ≡ p → delays_beyond_lem t.int t.cab t.refdly t.gd ≡ q → others_beyond t ≡ p || q
unfolding others_beyond
others_by t p q e f = ap₂ ◌||◌ e f

two : {b : Bool} → b ≡ true → 2 ≡ 2 when b
unfolding ◌when◌
two e = rw e

none : {b : Bool} → b ≡ false → 0 ≡ 2 when b
unfolding ◌when◌
none e = rw e

-- the five corrections of a turn
abbrev own : (t : Given) (j : ℕ) → Group
own t j =
    record {
      geometry = at t.geometry j;
      relativity = at t.relativity j;
      ionosphere = at t.ionosphere j;
      troposphere = at t.troposphere j;
      clock = at t.clock j;
    }

-- and their values
own-values : (n : ℕ) (delays : Delays) (k : List ℕ) (j : ℕ) (y : ℤ)
    → let t = grouped n [] delays k in
    values_of y delays (own t j)
    ≡ record { a = to_a t (pos steps) j y; b = to_b t (pos steps) j y; c = pos steps *ℤ at t.troposphere j; d = pos steps *ℤ at t.ionosphere j }
unfolding to_a to_b
own-values n delays k j y = refl

-- what is asked of them
asked : (c : After-correct_block)
    → block_values_rule (to_z w64 (of_z w64 (at c.args.smoothed.now c.loop-j.j))) c.args.delays c.group-group.result
    ≡ block_values_rule (at c.args.smoothed.now c.loop-j.j) c.args.delays (own (g (goal.at.After-correct_block c).Start) c.loop-j.j)
asked c =
    let fits : SFits w64 (at c.args.smoothed.now c.loop-j.j) = fits-of (within-limit value_limit c.args.smoothed.now c.requires.2 c.loop-j.j) (lit< tt) in
    let e : 40 * c.loop-j.j + 40 - 40 * c.loop-j.j ≡ 40 = omega arith in
    let read = unpacked-group c.args.corrections.now c.args.n c.loop-j.j in
    let h = c.loop-j-test.true in
    let group = subst (λ (m : ℕ). c.group-group.result ≡ unpacked (take m (drop (40 * c.loop-j.j) c.args.corrections.now))) e c.group-group.ensures in
    ap₂ (λ (y : ℤ) (group : Group). block_values_rule y c.args.delays group) (to_z-of_z fits)
    (group
    ∙ (λ z. record {
      geometry = read 0 c.requires.1 h (lit≤ tt) z;
      relativity = read 8 c.requires.1 h (lit≤ tt) z;
      ionosphere = read 16 c.requires.1 h (lit≤ tt) z;
      troposphere = read 24 c.requires.1 h (lit≤ tt) z;
      clock = read 32 c.requires.1 h (lit≤ tt) z;
    }))
  where
    unpacked : List ℕ → Group
    unpacked part =
        record {
          geometry = signed_at_lem part 0;
          relativity = signed_at_lem part 8;
          ionosphere = signed_at_lem part 16;
          troposphere = signed_at_lem part 24;
          clock = signed_at_lem part 32;
        }

-- the smoothed value is inside
inside : (c : After-correct_block) → beyond value_limit (at c.args.smoothed.now c.loop-j.j) ≡ false
inside c = within-magnitude value_limit _ (within-limit value_limit c.args.smoothed.now c.requires.2 c.loop-j.j)

-- what is left of the columns tells with this group
row_is : (c : After-correct_block)
    → let t = g (goal.at.After-correct_block c).Start in
    left t c.loop-j.j ≡ group_beyond (own t c.loop-j.j) || left t (c.loop-j.j + 1)
row_is c =
    let t = g (goal.at.After-correct_block c).Start in
    from_row t.geometry t.relativity t.ionosphere t.troposphere t.clock (lengths (goal.at.After-correct_block c).Start) c.loop-j.j
    (subst (λ (m : ℕ). c.loop-j.j < m) (sym (length-signeds c.args.corrections.now 0 40 c.args.n)) c.loop-j-test.true)

pub returns-then-delays_beyond-clause-answer : goal.returns-then-delays_beyond-clause-answer
returns-then-delays_beyond-clause-answer c =
    let t = g (goal.at.returns-then-delays_beyond-clause-answer c).Start in
    two (others_by t (left t 0) true refl (sym c.delays_beyond.ensures ∙ c.if-delays_beyond.true) ∙ or-true (left t 0))

pub loop-j-init : goal.loop-j-init
loop-j-init c = record { same = refl; rows = (filled_none _ _, filled_none _ _, filled_none _ _, filled_none _ _) }

pub returns-in_err-correct_block-clause-answer : goal.returns-in_err-correct_block-clause-answer
returns-in_err-correct_block-clause-answer c =
    let p = err_from_is_err_and c.from_residual.result c.from_residual.ensures.1 in
    let a = goal.at.returns-in_err-correct_block-clause-answer c in
    let t = g a.Start in
    let d = delays-left a.Else-delays_beyond in
    let r = group-refused _ _ _ (inside a.After-correct_block) d _ (c.in_err-correct_block.ensures ∙ asked a.After-correct_block) in
    let l : left t 0 ≡ true = c.loop-j.invariant.same ∙ row_is a.After-correct_block ∙ ap (λ (b : Bool). b || left t (c.loop-j.j + 1)) r.1 in
    rw (p.1, p.2) (r.0 ∙ two (others_by t true false l d))

pub loop-j-preserved : goal.loop-j-preserved
loop-j-preserved c =
    let a = goal.at.loop-j-preserved c in
    let t = g a.Start in
    let r = group-values _ _ _ (inside a.After-correct_block) (delays-left a.Else-delays_beyond) _ (c.in_ok-correct_block.ensures ∙ asked a.After-correct_block) in
    let v = r.1 ∙ own-values c.args.n c.args.delays c.args.corrections.now c.loop-j.j (at c.args.smoothed.now c.loop-j.j) in
    let i = c.loop-j.invariant in record {
      same = i.same ∙ row_is a.After-correct_block ∙ ap (λ (b : Bool). b || left t (c.loop-j.j + 1)) r.0;
      rows = (
        c.put.ensures.a_after ∙ filled_more _ _ _ c.loop-j.j i.rows.0 (ap (λ (x : Values). x.a) v),
        c.put.ensures.b_after ∙ filled_more _ _ _ c.loop-j.j i.rows.1 (ap (λ (x : Values). x.b) v),
        c.put.ensures.c_after ∙ filled_more _ _ _ c.loop-j.j i.rows.2 (ap (λ (x : Values). x.c) v),
        c.put.ensures.d_after ∙ filled_more _ _ _ c.loop-j.j i.rows.3 (ap (λ (x : Values). x.d) v),
      );
    }

pub returns-clause-answer : goal.returns-clause-answer
returns-clause-answer c =
    let a = goal.at.returns-clause-answer c in
    let t = g a.Start in
    let end : length t.geometry ≤ c.loop-j.j = omega (arith, length-signeds c.args.corrections.now 0 40 c.args.n, c.loop-j-test.false) in
    let l : left t 0 ≡ false = c.loop-j.invariant.same ∙ from-none t.geometry t.relativity t.ionosphere t.troposphere t.clock (lengths a.Start) c.loop-j.j end in
    none (others_by t false false l (delays-left a.Else-delays_beyond))
