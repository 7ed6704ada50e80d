-- `delays::store::Store::longer_length` meets its contract: by version and count.
-- Assumes nothing.
use mathlib.Core.Path.{ap, ap₂, ◌∙◌}
use Prim.Native.Nat.{suc}
use native.Mathlib.Numerals.{add-one}
use Rattle.delays.specs.Store.{store_length_lem}
use Rattle.delays.proofs.store.Store.longer_length.Goals as goal

pub returns : goal.returns
returns c = c.store_length.ensures ∙ ap₂ store_length_lem c.version.ensures (add-one _ ∙ ap suc c.count.ensures.value)
