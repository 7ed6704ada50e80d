-- `delays::lookup` meets its contract: a store is judged before it is walked, and where there is an entry in force its set is answered.
-- Assumes nothing.
use mathlib.Core.Path.{◌≡◌, sym, ap, ◌∙◌}
use mathlib.Core.List.{List}
use Prim.Native.Nat.{ℕ, ◌+◌, ◌-◌}
use native.Mathlib.Omega.{arith}
use lib.IntN.{ℤ}
use Rattle.std.proofs.lemmas.Result.{err_from_is_err_and}
use Rattle.limits.proofs.Cases.{paper_above_zero}
use Rattle.delays.specs.Store.{start, count}
use Rattle.delays.specs.Lookup.{in_force_lem, set_of_lem}
use Rattle.delays.proofs.Answers.{lookup-bad, lookup-none, lookup-found}
use Rattle.delays.proofs.lookup.Goals as goal

pub returns-in_err-store : goal.returns-in_err-store
returns-in_err-store c =
    let p = err_from_is_err_and c.from_residual.result c.from_residual.ensures.1 in
    rw (p.1, p.2) (record { answer = lookup-bad c.args.store.now c.args.mjd c.in_err-store.ensures.answer (paper_above_zero _) })

-- the store that was judged is the one that was given
judged : (mjd : ℕ) {given bytes : List ℕ} → bytes ≡ given → in_force_lem (start bytes) mjd (count bytes) ≡ in_force_lem (start given) mjd (count given)
judged mjd e = ap (λ (s : List ℕ). in_force_lem (start s) mjd (count s)) e

pub returns-in_default : goal.returns-in_default
returns-in_default c = record {
  answer = lookup-none c.args.store.now c.args.mjd (sym c.in_ok-store.ensures.answer) (sym (c.in_default.ensures.value ∙ judged c.args.mjd c.in_ok-store.ensures.store));
}

pub returns : goal.returns
returns c =
    let found : c.in-Some.k + 1 ≡ in_force_lem (start c.args.store.now) c.args.mjd (count c.args.store.now) = c.in-Some.ensures.value ∙ judged c.args.mjd c.in_ok-store.ensures.store in
    let k : c.in-Some.k ≡ in_force_lem (start c.args.store.now) c.args.mjd (count c.args.store.now) - 1 = omega (arith, found) in record {
      answer = ap (λ (v : List ℤ). record { number = 0; values = v })
          (c.set_of.ensures ∙ ap (λ (s : List ℕ). set_of_lem s c.in-Some.k) c.in_ok-store.ensures.store ∙ ap (set_of_lem c.args.store.now) k)
          ∙ lookup-found c.args.store.now c.args.mjd (sym c.in_ok-store.ensures.answer) (λ z. none c.in-Some.k (found ∙ z));
    }
  where
    none : (k : ℕ) → k + 1 ≡ 0 → ⊥
    none k h = omega arith
