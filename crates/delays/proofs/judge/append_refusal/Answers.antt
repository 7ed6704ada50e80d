-- `delays::judge::append_refusal` meets its contract: the tests are those of the rule, in its order.
-- Assumes nothing.
use mathlib.Core.Path.{sym, ◌∙◌}
use borrow.Author.Tests.{lt-ltb, le-ltb}
use Rattle.limits.specs.Refusal.{◌when◌, ◌then◌}
use Rattle.delays.specs.Append.{append_number}
use Rattle.delays.proofs.judge.append_refusal.Goals as goal

pub returns-then-new_beyond : goal.returns-then-new_beyond
unfolding append_number ◌when◌ ◌then◌
returns-then-new_beyond c =
    let n = simp c.version.ensures at (sym c.new_beyond.ensures ∙ c.if-new_beyond.true) in
    simp (c.args.store.accepted, n)

pub returns-then-later-count : goal.returns-then-later-count
unfolding append_number ◌when◌ ◌then◌
returns-then-later-count c =
    let n = simp c.version.ensures at (sym c.new_beyond.ensures ∙ c.if-new_beyond.false) in
    let f = simp (c.later.ensures, c.count.ensures.value) at c.if-later-count.true in
    simp (c.args.store.accepted, n, f)

pub returns-then-room-longer_length : goal.returns-then-room-longer_length
unfolding append_number ◌when◌ ◌then◌
returns-then-room-longer_length c =
    let n = simp c.version.ensures at (sym c.new_beyond.ensures ∙ c.if-new_beyond.false) in
    let f = simp (c.later.ensures, c.count.ensures.value) at c.if-later-count.false in
    let g = simp c.longer_length.ensures at c.if-room-longer_length.true in
    simp (c.args.store.accepted, n, f, lt-ltb _ _ g)

pub returns : goal.returns
unfolding append_number ◌when◌ ◌then◌
returns c =
    let n = simp c.version.ensures at (sym c.new_beyond.ensures ∙ c.if-new_beyond.false) in
    let f = simp (c.later.ensures, c.count.ensures.value) at c.if-later-count.false in
    let g = simp c.longer_length.ensures at c.if-room-longer_length.false in
    simp (c.args.store.accepted, n, f, le-ltb _ _ g)
