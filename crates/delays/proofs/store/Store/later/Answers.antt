-- `delays::store::Store::later` meets its contract: by its two cases.
-- Assumes nothing.
use mathlib.Core.Path.{sym, ap, ◌∙◌}
use Prim.Native.Nat.{ℕ}
use Rattle.delays.specs.Store.{start, later}
use Rattle.delays.proofs.Stores.{later-none, later-last}
use Rattle.delays.proofs.store.Store.later.Goals as goal

pub returns-then-entries-eq0 : goal.returns-then-entries-eq0
returns-then-entries-eq0 c = later-none _ _ _ (sym c.count-entries.ensures.value ∙ c.if-entries-eq0.true)

pub returns : goal.returns
returns c =
    later-last c.args.self.bytes.now c.count-entries.result c.args.mjd c.unsigned32.ensures c.if-entries-eq0.false
    ∙ ap (λ (n : ℕ). later (start c.args.self.bytes.now) n c.args.mjd) c.count-entries.ensures.value
