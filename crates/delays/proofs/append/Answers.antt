-- `delays::append` meets its contract: each test tells what is answered and whether anything is written.
-- Assumes nothing.
use mathlib.Core.Path.{refl, sym, ap, ◌∙◌}
use mathlib.Core.List.{List}
use Prim.Native.Nat.{ℕ, zero}
use native.Mathlib.Omega.{arith}
use lib.ListN.{length}
use Rattle.std.proofs.lemmas.Result.{err_from_is_err_and}
use Rattle.limits.proofs.Cases.{paper_above_zero}
use Rattle.lent.proofs.Placing.{placed_first}
use Rattle.delays.specs.Store.{count}
use Rattle.delays.specs.Append.{longer_store, append_number, append_rule, append_after}
use Rattle.delays.proofs.Answers.{store-refused, append-refused, append-done, Fitting, fitting}
use Rattle.delays.proofs.Writing.{length-longer}
use Rattle.delays.proofs.append.Goals.{In_ok-append_refusal}
use Rattle.delays.proofs.append.Goals as goal

pub returns-in_err-store : goal.returns-in_err-store
returns-in_err-store c =
    let p = err_from_is_err_and c.from_residual.result c.from_residual.ensures.1 in
    let d = c.args.delays in
    let e = store-refused c.args.store.now c.args.mjd d.int d.cab d.refdly d.gd c.args.longer.now _ c.in_err-store.ensures.answer in
    let r = append-refused c.args.store.now c.args.mjd d.int d.cab d.refdly d.gd c.args.longer.now e (paper_above_zero _) in
    rw (p.1, p.2) (record { answer = r.0; written = r.1 })

pub returns-in_err-append_refusal : goal.returns-in_err-append_refusal
returns-in_err-append_refusal c =
    let p = err_from_is_err_and c.from_residual-in_err-append_refusal.result c.from_residual-in_err-append_refusal.ensures.1 in
    let d = c.args.delays in
    let e = c.in_err-append_refusal.ensures ∙ ap (λ (s : List ℕ). append_number s c.args.mjd d.int d.cab d.refdly d.gd (length c.args.longer.now)) c.in_ok-store.ensures.store in
    let r = append-refused c.args.store.now c.args.mjd d.int d.cab d.refdly d.gd c.args.longer.now e (paper_above_zero _) in
    rw (p.1, p.2) (record { answer = r.0; written = r.1 })

fits : (c : In_ok-append_refusal) → Fitting c.in_ok-store.store.bytes.now c.args.longer.now
fits c =
    let d = c.args.delays in
    fitting c.in_ok-store.store.bytes.now c.args.mjd d.int d.cab d.refdly d.gd c.args.longer.now (sym c.in_ok-append_refusal.ensures)

pub longer-requires : goal.longer-requires
longer-requires c =
    let f = fits (goal.at.longer-requires c).In_ok-append_refusal in
    omega (arith, f.long, f.room)

pub returns : goal.returns
returns c =
    let d = c.args.delays in
    let s = c.in_ok-store.store.bytes.now in
    let f = fits (goal.at.returns c).In_ok-append_refusal in
    let r = append-done s c.args.mjd d.int d.cab d.refdly d.gd c.args.longer.now (sym c.in_ok-append_refusal.ensures) in
    record {
      answer = ap (λ (n : ℕ). record { number = zero; values = n }) c.longer_length.ensures ∙ r.0
          ∙ ap (λ (t : List ℕ). append_rule t c.args.mjd d.int d.cab d.refdly d.gd (length c.args.longer.now)) c.in_ok-store.ensures.store;
      written = c.longer.ensures
          ∙ placed_first c.args.longer.now (longer_store s c.args.mjd d.int d.cab d.refdly d.gd) (length-longer s (count s) refl f.groups c.args.mjd d.int d.cab d.refdly d.gd ∙ f.long)
          ∙ r.1
          ∙ ap (λ (t : List ℕ). append_after t c.args.mjd d.int d.cab d.refdly d.gd c.args.longer.now) c.in_ok-store.ensures.store;
    }
