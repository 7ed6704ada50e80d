-- `delays::write::put_group` meets its contract: one delay behind the other, as many as the version has.
-- Assumes nothing.
use Rattle.delays.proofs.Writing.{first-delay, next-delay}
use Rattle.delays.proofs.Stores.{wide-one, wide-two, three-wide}
use Rattle.delays.specs.Append.{group_bytes}
use Rattle.lent.specs.Placed.{placed}
use mir.Facts.{to_z-of_z}
use mir.Syntax.{w64}
use mir.Val.{SFits}
use borrow.Author.Rules.{rules}
use Rattle.limits.specs.declared.Delays.{Delays}
use native.Mathlib.Omega.{arith}
use lib.ListN.{length, take}
use Prim.Native.Nat.{ℕ, ◌≤◌}
use mathlib.Core.List.{[], ◌∷◌}
use mathlib.Core.Path.{◌≡◌, sym, ap, ◌∙◌}
use Rattle.delays.proofs.write.put_group.Goals.{After-put_delay-3, Start}
use Rattle.delays.proofs.write.put_group.Goals as goal

pub put_delay-requires : goal.put_delay-requires
put_delay-requires c = omega (arith, three-wide c.args.version)

pub put_delay-requires-2 : goal.put_delay-requires-2
put_delay-requires-2 c = omega (arith, three-wide c.args.version, c.put_delay.auto.file)

pub put_delay-requires-3 : goal.put_delay-requires-3
put_delay-requires-3 c = omega (arith, three-wide c.args.version, c.put_delay.auto.file, c.put_delay-2.auto.file)

pub put_delay-requires-then-version-ne1 : goal.put_delay-requires-then-version-ne1
put_delay-requires-then-version-ne1 c = omega (arith, wide-two c.args.version c.if-version-ne1.true, c.put_delay.auto.file, c.put_delay-2.auto.file, c.put_delay-3.auto.file)

-- each delay reads back from its bits
record Fits (d : Delays) : Type 0 where
  int : SFits w64 d.int
  cab : SFits w64 d.cab
  refdly : SFits w64 d.refdly
  gd : SFits w64 d.gd

fits : (a : Start) → Fits a.args.delays
fits a = record { int = search rules; cab = search rules; refdly = search rules; gd = search rules }

-- the offset lies within the buffer
room : (a : Start) → a.args.at ≤ length a.args.file.now
room a = omega arith

-- after three delays
three : (c : After-put_delay-3)
    → c.put_delay-3.new.file ≡ placed c.args.file.now c.args.at (group_bytes (c.args.delays.int ∷ c.args.delays.cab ∷ c.args.delays.refdly ∷ []))
three c =
    next-delay c.args.file.now c.args.at (room (goal.at.After-put_delay-3 c).Start) (c.args.delays.int ∷ c.args.delays.cab ∷ [])
    (next-delay c.args.file.now c.args.at (room (goal.at.After-put_delay-3 c).Start) (c.args.delays.int ∷ [])
    (first-delay c.args.file.now c.args.at (room (goal.at.After-put_delay-3 c).Start) c.put_delay.ensures (to_z-of_z {w = w64} (fits (goal.at.After-put_delay-3 c).Start).int))
    c.put_delay-2.ensures (to_z-of_z {w = w64} (fits (goal.at.After-put_delay-3 c).Start).cab))
    c.put_delay-3.ensures (to_z-of_z {w = w64} (fits (goal.at.After-put_delay-3 c).Start).refdly)

pub returns-then-version-ne1 : goal.returns-then-version-ne1
returns-then-version-ne1 c = next-delay c.args.file.now c.args.at (room (goal.at.returns-then-version-ne1 c).Start) (c.args.delays.int ∷ c.args.delays.cab ∷ c.args.delays.refdly ∷ []) (three (goal.at.returns-then-version-ne1 c).After-put_delay-3) c.put_delay-then-version-ne1.ensures (to_z-of_z {w = w64} (fits (goal.at.returns-then-version-ne1 c).Start).gd)
    ∙ ap (λ (w : ℕ). placed c.args.file.now c.args.at (group_bytes (take w (c.args.delays.int ∷ c.args.delays.cab ∷ c.args.delays.refdly ∷ c.args.delays.gd ∷ [])))) (sym (wide-two c.args.version c.if-version-ne1.true))

pub returns-else-version-ne1 : goal.returns-else-version-ne1
returns-else-version-ne1 c = three (goal.at.returns-else-version-ne1 c).After-put_delay-3 ∙ ap (λ (w : ℕ). placed c.args.file.now c.args.at (group_bytes (take w (c.args.delays.int ∷ c.args.delays.cab ∷ c.args.delays.refdly ∷ c.args.delays.gd ∷ [])))) (sym (wide-one c.args.version c.if-version-ne1.false))
