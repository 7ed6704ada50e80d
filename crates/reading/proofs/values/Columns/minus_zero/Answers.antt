-- `reading::values::Columns::minus_zero` meets its contract: each sign stands in the first column of its field, and the numbers are those of the fields.
-- Assumes nothing.
use mathlib.Core.Path.{ap, ◌∙◌}
use mathlib.Core.Bool.{◌||◌}
use lib.ListN.{length, get_or}
use mir.Syntax.{w64}
use mir.Val.{SFits}
use mir.Facts.{to_z-of_z}
use Rattle.reading.specs.Read.{is_minus_zero_lem}
use Rattle.reading.proofs.Signs.{minus-zero-is}
use native.Mathlib.Omega.{arith}
use Prim.Native.Nat.{◌≤◌}
use Rattle.reading.proofs.Columns.{shared-count}
use borrow.Author.Rules.{rules}
use Rattle.reading.proofs.values.Columns.minus_zero.Goals.{Start}
use Rattle.reading.proofs.values.Columns.minus_zero.Goals as goal

long : (c : Start) → 101 ≤ length c.args.self.line.now
long c = shared-count c.args.self.line.now c.args.self.shared

-- each number reads back from its bits
numbers_fit : (c : Start) → SFits w64 c.args.numbers.refsv
    × SFits w64 c.args.numbers.srsv
    × SFits w64 c.args.numbers.refsys
    × SFits w64 c.args.numbers.srsys
    × SFits w64 c.args.numbers.smdt
    × SFits w64 c.args.numbers.smdi
numbers_fit c = (search rules, search rules, search rules, search rules, search rules, search rules)

pub bounds-self-34 : goal.bounds-self-34
bounds-self-34 c = omega (arith, long (goal.at.bounds-self-34 c).Start)

pub bounds-self-46 : goal.bounds-self-46
bounds-self-46 c = omega (arith, long (goal.at.bounds-self-46 c).Start)

pub bounds-self-53 : goal.bounds-self-53
bounds-self-53 c = omega (arith, long (goal.at.bounds-self-53 c).Start)

pub bounds-self-65 : goal.bounds-self-65
bounds-self-65 c = omega (arith, long (goal.at.bounds-self-65 c).Start)

pub bounds-self-86 : goal.bounds-self-86
bounds-self-86 c = omega (arith, long (goal.at.bounds-self-86 c).Start)

pub bounds-self-96 : goal.bounds-self-96
bounds-self-96 c = omega (arith, long (goal.at.bounds-self-96 c).Start)

pub returns : goal.returns
returns c =
    let f = numbers_fit (goal.at.returns c).Start in
    (λ i. (c.is_minus_zero.ensures ∙ ap (is_minus_zero_lem (get_or c.args.self.line.now 34 0)) (to_z-of_z f.0)) i
    || (c.is_minus_zero-2.ensures ∙ ap (is_minus_zero_lem (get_or c.args.self.line.now 46 0)) (to_z-of_z f.1)) i
    || (c.is_minus_zero-3.ensures ∙ ap (is_minus_zero_lem (get_or c.args.self.line.now 53 0)) (to_z-of_z f.2)) i
    || (c.is_minus_zero-4.ensures ∙ ap (is_minus_zero_lem (get_or c.args.self.line.now 65 0)) (to_z-of_z f.3)) i
    || (c.is_minus_zero-5.ensures ∙ ap (is_minus_zero_lem (get_or c.args.self.line.now 86 0)) (to_z-of_z f.4)) i
    || (c.is_minus_zero-6.ensures ∙ ap (is_minus_zero_lem (get_or c.args.self.line.now 96 0)) (to_z-of_z f.5)) i)
    ∙ minus-zero-is c.args.self.line.now c.args.numbers c.requires
