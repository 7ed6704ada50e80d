-- `delays::judge::any_beyond` meets its contract: a turn tests one delay more.
-- Assumes nothing.
use Rattle.limits.specs.Limits.{beyond, delay_limit}
use mir.Facts.{to_z-of_z}
use mir.Syntax.{w64}
use mir.Val.{SFits}
use Rattle.delays.proofs.Stores.{beyond-turn, beyond-done}
use Rattle.decode.specs.Number.{signed_at_lem, signeds_at}
use Rattle.decode.proofs.Pieces.{signed_part}
use Rattle.limits.specs.Lists.{any_beyond_lem}
use native.Mathlib.Omega.{arith}
use lib.ListN.{length}
use Prim.Native.Nat.{ℕ, ◌-◌, ◌+◌, ◌*◌, ◌≤◌}
use mathlib.Core.Bool.{Bool, ◌||◌}
use mathlib.Core.Path.{◌≡◌, sym, ap, ap₂, ◌∙◌}
use borrow.Author.Rules.{rules}
use Rattle.delays.proofs.judge.any_beyond.Goals.{After-delay_beyond-found}
use Rattle.delays.proofs.judge.any_beyond.Goals as goal

pub loop-i-init : goal.loop-i-init
loop-i-init c = (search rules, ap₂ (λ (p m : ℕ). any_beyond_lem delay_limit (signeds_at c.args.store.now p 8 m)) (omega arith) (omega arith))

-- the test is on the delay of this turn
tested : (c : After-delay_beyond-found)
    → c.args.at + 8 * c.loop-i.i + 8 ≤ length c.args.store.now
    → c.delay_beyond-found.result ≡ beyond delay_limit (signed_at_lem c.args.store.now (c.args.at + 8 * c.loop-i.i))
tested c h =
    let fits : SFits w64 c.signed64.result = search rules in
    c.delay_beyond-found.ensures
    ∙ ap (beyond delay_limit) (to_z-of_z {w = w64} fits ∙ c.signed64.ensures ∙ signed_part c.args.store.now (c.args.at + 8 * c.loop-i.i) h)

pub loop-i-preserved : goal.loop-i-preserved
loop-i-preserved c = (
  search rules,
  c.loop-i.invariant.1
      ∙ beyond-turn c.args.store.now c.args.at c.args.n c.loop-i.i c.loop-i.found (search rules)
      ∙ ap (λ (b : Bool). (c.loop-i.found || b) || any_beyond_lem delay_limit (signeds_at c.args.store.now (c.args.at + 8 * (c.loop-i.i + 1)) 8 (c.args.n - (c.loop-i.i + 1)))) (sym (tested c (search rules))),
)

pub returns : goal.returns
returns c = sym (c.loop-i.invariant.1 ∙ beyond-done c.args.store.now c.args.at c.args.n c.loop-i.i c.loop-i.found (search rules))
