-- `reading::values::Columns::labels` meets its contract: the labels that only a line of ours has a column for, and the others.
-- Assumes nothing.
use mathlib.Core.Path.{ap₂, ◌∙◌}
use Prim.Native.Nat.{ℕ, ◌≤◌}
use native.Mathlib.Omega.{arith}
use lib.Dec.{lit≤}
use lib.ListN.{length, get_or}
use Rattle.columns.specs.Columns.{byte_in, labels_with_lem, read_labels}
use Rattle.characters.proofs.Picture.{column-count}
use Rattle.reading.proofs.Columns.{own-columns, at_most}
use Rattle.reading.proofs.values.Columns.labels.Goals.{Start}
use Rattle.reading.proofs.values.Columns.labels.Goals as goal

pub decimal-fr-requires : goal.decimal-fr-requires
decimal-fr-requires c = at_most 10 (lit≤ tt) (own-columns c.args.self.line.now c.requires).fr

pub decimal-requires : goal.decimal-requires
decimal-requires c = at_most 10 (lit≤ tt) (own-columns c.args.self.line.now c.requires).hc

long : (c : Start) → 111 ≤ length c.args.self.line.now
long c = column-count c.args.self.line.now c.requires

pub bounds-self-0 : goal.bounds-self-0
bounds-self-0 c = omega (arith, long (goal.at.bounds-self-0 c).Start)

pub bounds-self-107 : goal.bounds-self-107
bounds-self-107 c = omega (arith, long (goal.at.bounds-self-107 c).Start)

pub bounds-self-108 : goal.bounds-self-108
bounds-self-108 c = omega (arith, long (goal.at.bounds-self-108 c).Start)

pub bounds-self-109 : goal.bounds-self-109
bounds-self-109 c = omega (arith, long (goal.at.bounds-self-109 c).Start)

pub returns : goal.returns
unfolding read_labels byte_in
returns c =
    c.labels_with.ensures
    ∙ ap₂ (λ (x y : ℕ). labels_with_lem (get_or c.args.self.line.now 0 0) x y (get_or c.args.self.line.now 107 0) (get_or c.args.self.line.now 108 0) (get_or c.args.self.line.now 109 0) c.args.self.line.now) c.decimal-fr.ensures.value c.decimal.ensures.value
