-- `limits::scan` meets its contract: what is asked of the whole list is asked of what is left of it.
-- Assumes nothing.
use borrow.Author.Rules.{rules}
use mathlib.Core.Path.{◌≡◌, refl, sym, ◌∙◌}
use native.Mathlib.Nat.{zero-add}
use native.Mathlib.Omega.{arith}
use lib.IntN.{pos}
use lib.ListN.{get_or}
use mir.Syntax.{w64}
use mir.Val.{to_z, of_z, SFits}
use mir.Facts.{to_z-of_z}
use Rattle.limits.specs.Limits.{outside}
use Rattle.limits.proofs.Scans.{Left, found, passed, none_left}
use Rattle.limits.proofs.scan.Goals.{After-outside, At-loop-read, Start}
use Rattle.limits.proofs.scan.Goals as goal

-- the limits are those that were passed
limits : (c : Start)
    → (to_z w64 (of_z w64 c.args.low) ≡ c.args.low) × (to_z w64 (of_z w64 c.args.high) ≡ c.args.high)
limits c = (to_z-of_z c.ranges.low, to_z-of_z c.ranges.high)

-- what was found of the numbers before the next one, and of that one
so_far : (c : At-loop-read) → Left c.args.low c.args.high c.args.values.now c.loop-read.read
so_far c = let l = limits (goal.at.At-loop-read c).Start in simp (l.0, l.1) at c.loop-read.invariant.1

tested : (c : After-outside)
    → outside c.args.low c.args.high (get_or c.args.values.now c.loop-read.read (pos 0)) ≡ c.outside.result
tested c =
    let l = limits (goal.at.After-outside c).Start in
    let z = get_or c.args.values.now c.loop-read.read (pos 0) in
    let fits : SFits w64 z = search rules in
    let e : to_z w64 (of_z w64 z) ≡ z = to_z-of_z fits in
    sym (simp (l.0, l.1, e) at c.outside.ensures)

pub loop-read-init : goal.loop-read-init
loop-read-init c = (search rules, (refl, sym (zero-add _)))

pub returns-then-outside : goal.returns-then-outside
returns-then-outside c =
    sym (found _ _ _ _ (so_far (goal.at.returns-then-outside c).At-loop-read) (omega arith) (tested (goal.at.returns-then-outside c).After-outside ∙ c.if-outside.true))

pub loop-read-preserved : goal.loop-read-preserved
loop-read-preserved c =
    let l = limits (goal.at.loop-read-preserved c).Start in
    (search rules, simp (l.0, l.1) (passed _ _ _ _ (so_far (goal.at.loop-read-preserved c).At-loop-read) (omega arith) (tested (goal.at.loop-read-preserved c).After-outside ∙ c.if-outside.false)))

pub returns : goal.returns
returns c = sym (none_left _ _ _ _ (so_far (goal.at.returns c).At-loop-read) c.loop-read-test.false)
