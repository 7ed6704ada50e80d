-- `delays::store::gd` meets its contract: by its two cases.
-- Assumes nothing.
use mathlib.Core.Path.{◌∙◌}
use mir.Facts.{to_z-of_z}
use mir.Syntax.{w64}
use mir.Val.{SFits}
use borrow.Author.Tests.{eq-eqb, ne_eqb}
use borrow.Author.Rules.{rules}
use Rattle.delays.proofs.store.gd.Goals as goal

pub returns-then-version-eq1 : goal.returns-then-version-eq1
returns-then-version-eq1 c = simp (eq-eqb _ _ c.if-version-eq1.true)

pub returns-else-version-eq1 : goal.returns-else-version-eq1
returns-else-version-eq1 c =
    let fits : SFits w64 c.signed64.result = search rules in
    simp (ne_eqb _ _ c.if-version-eq1.false) (to_z-of_z {w = w64} fits ∙ c.signed64.ensures)
