-- `delays::store::Store::in_force` meets its contract: what lies behind the walk starts after the date.
-- Assumes nothing.
use Rattle.delays.proofs.Stores.{start-part, in-force-none, in-force-here, in-force-before}
use Rattle.delays.specs.Store.{start}
use Rattle.delays.specs.Lookup.{in_force_lem}
use native.Mathlib.Omega.{arith}
use lib.ListN.{length}
use Prim.Native.Nat.{ℕ, ◌+◌, ◌*◌, ◌-◌, ◌≤◌, ◌<◌}
use mathlib.Core.Path.{◌≡◌, sym, ap, subst, ◌∙◌}
use borrow.Author.Rules.{rules}
use Rattle.delays.proofs.store.Store.in_force.Goals.{After-unsigned32}
use Rattle.delays.proofs.store.Store.in_force.Goals as goal

pub loop-k-init : goal.loop-k-init
loop-k-init c =
    let n = c.count-k.ensures in
    record { few = n.upper_bound; dates_in_bounds = n.dates_in_bounds; same = ap (in_force_lem (start c.args.self.bytes.now) c.args.mjd) (sym n.value) }

-- what is read is the start of the last entry that is left
read : (c : After-unsigned32)
    → (0 < c.loop-k.k) × (4 + 4 * c.loop-k.k ≤ length c.args.self.bytes.now) → c.unsigned32.result ≡ start c.args.self.bytes.now (c.loop-k.k - 1)
read c h =
    c.unsigned32.ensures ∙ start-part c.args.self.bytes.now (4 + 4 * (c.loop-k.k - 1)) 4 0 (c.loop-k.k - 1) (omega (arith, h.0, h.1)) (omega arith) (omega arith)

pub returns-then-unsigned32-mjd-clause-value : goal.returns-then-unsigned32-mjd-clause-value
returns-then-unsigned32-mjd-clause-value c = let left : 0 < c.loop-k.k = search rules in
    let here : start c.args.self.bytes.now (c.loop-k.k - 1) ≤ c.args.mjd = subst (λ (x : ℕ). x ≤ c.args.mjd) (read (goal.at.returns-then-unsigned32-mjd-clause-value c).After-unsigned32 (search rules)) c.if-unsigned32-mjd.true in
    let same : c.loop-k.k - 1 + 1 ≡ c.loop-k.k = omega (arith, left) in
    same ∙ in-force-here (start c.args.self.bytes.now) c.args.mjd c.loop-k.k left here ∙ sym c.loop-k.invariant.same

pub loop-k-preserved : goal.loop-k-preserved
loop-k-preserved c = let past : c.args.mjd < start c.args.self.bytes.now (c.loop-k.k - 1) = subst (λ (x : ℕ). c.args.mjd < x) (read (goal.at.loop-k-preserved c).After-unsigned32 (search rules)) (search rules) in
    record { few = search rules; dates_in_bounds = search rules; same = c.loop-k.invariant.same ∙ in-force-before (start c.args.self.bytes.now) c.args.mjd c.loop-k.k (search rules) past }

pub returns-clause-value : goal.returns-clause-value
returns-clause-value c = in-force-none (start c.args.self.bytes.now) c.args.mjd c.loop-k.k (search rules) ∙ sym c.loop-k.invariant.same
