-- `viewing::pairs::count_pair` meets its contract: TRKL is compared as its digits stand.
-- Assumes nothing.
use mathlib.Core.Path.{◌≡◌, sym, ap, ap₂, subst, ◌∙◌}
use mathlib.Core.Bool.{Bool, cond}
use Prim.Native.Nat.{◌≤◌}
use lib.Dec.{lit<}
use lib.IntN.{ℤ, nat_abs, ◌-ℤ◌}
use mir.Syntax.{w64}
use mir.Val.{SFits, to_z, of_z}
use mir.Facts.{to_z-of_z}
use Rattle.whole.proofs.Words.{fits-of}
use Rattle.viewing.specs.View.{refsys_of}
use Rattle.viewing.specs.Gather.{counted, widest}
use Rattle.viewing.proofs.Values.{refsys-bound, trkl-same, trkl-other}
use Rattle.viewing.proofs.Gathering.{difference-bound}
use borrow.Author.Rules.{rules}
use Rattle.viewing.proofs.pairs.count_pair.Goals.{After-refsys-then-trkl}
use Rattle.viewing.proofs.pairs.count_pair.Goals as goal

-- the difference as the machine has it
abbrev difference : After-refsys-then-trkl → ℤ
difference c =
    refsys_of c.args.line.now -ℤ refsys_of c.args.other.now

difference-is : (c : After-refsys-then-trkl) → to_z w64 (of_z w64 c.refsys.result) -ℤ to_z w64 (of_z w64 c.refsys-then-trkl.result) ≡ difference c
difference-is c =
    let line_fits : SFits w64 c.refsys.result = search rules in
    let other_fits : SFits w64 c.refsys-then-trkl.result = search rules in
    ap₂ ◌-ℤ◌ (to_z-of_z line_fits ∙ c.refsys.ensures) (to_z-of_z other_fits ∙ c.refsys-then-trkl.ensures)

small : (c : After-refsys-then-trkl) → nat_abs (difference c) ≤ widest
small c =
    difference-bound (refsys_of c.args.line.now) (refsys_of c.args.other.now) (refsys-bound _ c.requires.line_value) (refsys-bound _ c.requires.other_value)

passed : (c : After-refsys-then-trkl)
    → to_z w64 (of_z w64 (to_z w64 (of_z w64 c.refsys.result) -ℤ to_z w64 (of_z w64 c.refsys-then-trkl.result))) ≡ difference c
passed c = ap (λ (z : ℤ). to_z w64 (of_z w64 z)) (difference-is c) ∙ to_z-of_z (fits-of (small c) (lit< tt))

pub overflow_sub-refsys : goal.overflow_sub-refsys
overflow_sub-refsys c = subst (SFits w64) (sym (difference-is c)) (fits-of (small c) (lit< tt))

pub count-requires-clause-difference_bound : goal.count-requires-clause-difference_bound
count-requires-clause-difference_bound c = subst (λ (z : ℤ). nat_abs z ≤ widest) (sym (passed c)) (small c)

pub returns-then-trkl : goal.returns-then-trkl
returns-then-trkl c =
    c.count.ensures
    ∙ ap (counted c.args.figures) (passed (goal.at.returns-then-trkl c).After-refsys-then-trkl)
    ∙ ap (λ (b : Bool). cond b (counted c.args.figures (refsys_of c.args.line.now -ℤ refsys_of c.args.other.now)) c.args.figures)
    (sym (trkl-same c.args.line.now c.args.other.now c.trkl.ensures c.trkl-2.ensures c.if-trkl.true))

pub returns : goal.returns
returns c =
    ap (λ (b : Bool). cond b (counted c.args.figures (refsys_of c.args.line.now -ℤ refsys_of c.args.other.now)) c.args.figures)
    (sym (trkl-other c.args.line.now c.args.other.now c.trkl.ensures c.trkl-2.ensures c.if-trkl.false))
