-- `delays::judge::judge` meets its contract: the tests are those of the rule, and entries are looked at where the head is right.
-- Assumes nothing.
use mathlib.Core.Path.{◌≡◌, refl, sym, ap, ap₂, ◌∙◌}
use mathlib.Core.Bool.{Bool, false, not, ◌||◌}
use Prim.Native.Nat.{ℕ, ◌+◌, ◌*◌, ◌≤◌}
use native.Mathlib.Omega.{arith}
use lib.Dec.{ltb, eqb}
use lib.ListN.{length}
use Rattle.limits.specs.Refusal.{◌when◌}
use Rattle.limits.specs.Limits.{delay_limit}
use Rattle.limits.specs.Lists.{any_beyond_lem}
use Rattle.delays.specs.Store.{most_entries, version, count, group_width_lem, store_length_lem, start, delays, rising, store_number}
use Rattle.delays.proofs.Stores.{width-times}
use Rattle.limits.proofs.Laws.{or-false}
use borrow.Author.Tests.{eqb-true, not-false}
use borrow.Author.Rules.{rules}
use Rattle.delays.proofs.judge.judge.Goals.{After-any_beyond, After-group_width, After-head_wrong}
use Rattle.delays.proofs.judge.judge.Goals as goal

-- the three tests of the head
abbrev Head : (length version count : ℕ) → Bool
Head l v n = not (eqb v 1 || eqb v 2) || ltb most_entries n || not (eqb l (store_length_lem v n))

head : (c : After-head_wrong)
    → c.head_wrong.result ≡ Head (length c.args.bytes.now) (version c.args.bytes.now) (count c.args.bytes.now)
head c =
    c.head_wrong.ensures ∙ ap₂ (Head (length c.args.bytes.now)) c.unsigned16-version.ensures c.count-entries.ensures.value

pub returns-then-head_wrong-clause-answer : goal.returns-then-head_wrong-clause-answer
unfolding store_number ◌when◌
returns-then-head_wrong-clause-answer c =
    sym (ap (λ (t : Bool). 20 when (t || not (rising (start c.args.bytes.now) (count c.args.bytes.now)) || any_beyond_lem delay_limit (delays c.args.bytes.now))) (sym (head (goal.at.returns-then-head_wrong-clause-answer c).After-head_wrong) ∙ c.if-head_wrong.true))

-- the length is that of so many entries
long : (l v n : ℕ) → Head l v n ≡ false → l ≡ store_length_lem v n
long l v n e = eqb-true l (store_length_lem v n) (not-false _ (or-false (not (eqb v 1 || eqb v 2) || ltb most_entries n) (not (eqb l (store_length_lem v n))) e).1)

groups-in : (l v n w m : ℕ) → l ≡ store_length_lem v n → w ≡ group_width_lem v → m ≡ n → 4 + 4 * m + 8 * (w * m) ≤ l
unfolding store_length_lem
groups-in l v n w m e f g = inside w m (e ∙ ap₂ (λ (w n : ℕ). 4 + (4 + 8 * w) * n) (sym f) (sym g))
  where
    inside : (w m : ℕ) → l ≡ 4 + (4 + 8 * w) * m → 4 + 4 * m + 8 * (w * m) ≤ l
    inside w m e = omega arith

dates-in : (l v n m : ℕ) → l ≡ store_length_lem v n → m ≡ n → 4 + 4 * m ≤ l
dates-in l v n m e g = omega (arith, groups-in l v n (group_width_lem v) m e refl g)

pub rising-requires : goal.rising-requires
rising-requires c = record {
  n_bound = search rules;
  n_in_bounds = dates-in (length c.args.bytes.now) (version c.args.bytes.now) (count c.args.bytes.now) c.count-entries.result (long (length c.args.bytes.now) (version c.args.bytes.now) (count c.args.bytes.now) (sym (head (goal.at.rising-requires c).After-head_wrong) ∙ c.if-head_wrong.false)) c.count-entries.ensures.value;
}

product : (c : After-group_width) → c.group_width.result * c.count-entries.result ≤ 262144
product c = width-times c.group_width.ensures.upper_bound (omega arith)

room : (c : After-group_width)
    → 4 + 4 * c.count-entries.result + 8 * (c.group_width.result * c.count-entries.result) ≤ length c.args.bytes.now
room c =
    let s = c.args.bytes.now in
    let e = long (length s) (version s) (count s) (sym (head (goal.at.After-group_width c).After-head_wrong) ∙ c.if-head_wrong.false) in
    groups-in (length s) (version s) (count s) c.group_width.result c.count-entries.result e (c.group_width.ensures.value ∙ ap group_width_lem c.unsigned16-version.ensures) c.count-entries.ensures.value

pub overflow_mul-group_width : goal.overflow_mul-group_width
overflow_mul-group_width c = omega (arith, product c)

pub any_beyond-requires : goal.any_beyond-requires
any_beyond-requires c = record {
  at_bound = omega arith;
  n_bound = omega (arith, product c);
  n_in_bounds = omega (arith, room c);
}

-- all that is asked of the entries
entries : (c : After-any_beyond)
    → store_number c.args.bytes.now ≡ 20 when (not c.rising.result || c.any_beyond.result)
unfolding store_number delays
entries c =
    simp (
      c.any_beyond.ensures,
      c.group_width.ensures.value,
      c.rising.ensures,
      c.count-entries.ensures.value,
      c.unsigned16-version.ensures,
      sym (head (goal.at.After-any_beyond c).After-head_wrong) ∙ c.if-head_wrong.false,
    )

pub returns-then-rising-any_beyond-clause-answer : goal.returns-then-rising-any_beyond-clause-answer
unfolding ◌when◌
returns-then-rising-any_beyond-clause-answer c = sym (entries (goal.at.returns-then-rising-any_beyond-clause-answer c).After-any_beyond ∙ ap (λ (t : Bool). 20 when t) c.if-rising-any_beyond.true)

pub invariant_of-result : goal.invariant_of-result
unfolding ◌when◌
invariant_of-result c = record { accepted = entries (goal.at.invariant_of-result c).After-any_beyond ∙ ap (λ (t : Bool). 20 when t) c.if-rising-any_beyond.false }
