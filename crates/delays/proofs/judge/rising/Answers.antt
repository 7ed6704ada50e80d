-- `delays::judge::rising` meets its contract: a turn looks at a start and the one before.
-- Assumes nothing.
use Rattle.delays.proofs.Stores.{start-part, rising-one, rising-turn, rising-done}
use Rattle.delays.specs.Store.{start}
use native.Mathlib.Omega.{arith}
use Prim.Native.Nat.{ℕ, ◌+◌, ◌*◌, ◌-◌, ◌≤◌}
use mathlib.Core.Path.{◌≡◌, ◌∙◌}
use borrow.Author.Rules.{rules}
use Rattle.delays.proofs.judge.rising.Goals as goal

pub loop-k-init : goal.loop-k-init
loop-k-init c = (search rules, (omega arith, rising-one (start c.args.store.now)))

pair-before : {k : ℕ} → 1 ≤ k → 4 * k + 0 ≡ 4 + 4 * (k - 1)
pair-before h = omega arith

pair-this : (k : ℕ) → 4 * k + 4 ≡ 4 + 4 * k
pair-this k = omega arith

pub loop-k-preserved : goal.loop-k-preserved
loop-k-preserved c = (
  search rules,
  (
    search rules,
    rising-turn (start c.args.store.now) c.loop-k.k c.loop-k.invariant.0 c.loop-k.invariant.1.1
        (c.unsigned32.ensures ∙ start-part c.args.store.now (4 * c.loop-k.k) 8 0 (c.loop-k.k - 1) (search rules) (search rules) (pair-before c.loop-k.invariant.0))
        (c.unsigned32-in-loop-k.ensures ∙ start-part c.args.store.now (4 * c.loop-k.k) 8 4 c.loop-k.k (search rules) (search rules) (pair-this c.loop-k.k)),
  ),
)

pub returns : goal.returns
returns c = c.loop-k.invariant.1.1 ∙ rising-done (start c.args.store.now) c.args.n c.loop-k.k c.loop-k.invariant.0 c.loop-k.invariant.1.0 (search rules)
