-- `boundary::trackline_delays` meets its contract: the case of the answer tells what is put.
-- Assumes nothing.
use mathlib.Core.Path.{◌≡◌, sym, ap, ◌∙◌}
use mathlib.Core.List.{List, [], ◌∷◌, map}
use native.Mathlib.Omega.{arith}
use lib.IntN.{ℤ}
use mir.Syntax.{w64}
use mir.Val.{to_z, of_z, SFits}
use mir.Facts.{to_z-of_z}
use borrow.Author.Rules.{rules}
use Rattle.limits.specs.Reply.{Reply}
use Rattle.limits.specs.Numbers.{number_of}
use Rattle.limits.proofs.Replies.{reply-number, reply-values}
use Rattle.delays.specs.Lookup.{set_of_lem, set_in_force, lookup_number, lookup_rule, no_set}
use Rattle.delays.specs.Answers.{delays_reply, set_values}
use Rattle.boundary.specs.Values.{delays_answer, delays_after}
use Rattle.boundary.proofs.Rows.{above_zero, row-refused, row_put}
use Rattle.boundary.proofs.trackline_delays.Goals.{In-Ok}
use Rattle.boundary.proofs.trackline_delays.Goals as goal

pub returns-in_default : goal.returns-in_default
unfolding delays_answer delays_after lookup_rule set_of_lem
returns-in_default c =
    let s = set_in_force c.args.store.now c.args.mjd in
    let k = lookup_number c.args.store.now c.args.mjd in
    let number = c.reply_number.ensures ∙ ap number_of c.in_default.is
    ∙ ap (λ (t : Reply (List ℤ)). t.number) (sym (ap delays_reply c.in_default.is) ∙ c.lookup-answer.ensures.answer) ∙ reply-number no_set s k in
    let e = row-refused k s c.args.lent.now number (omega (arith, c.reply_number.ensures, above_zero c.in_default.is)) in
    record { answer = e.0; written = e.1 }

-- the set reads back from its bits
row_is : (c : In-Ok) → map (λ z. to_z w64 (of_z w64 z)) (set_values c.in-Ok.delays) ≡ set_values c.in-Ok.delays
row_is c =
    let int : SFits w64 c.in-Ok.delays.int = search rules in
    let cab : SFits w64 c.in-Ok.delays.cab = search rules in
    let refdly : SFits w64 c.in-Ok.delays.refdly = search rules in
    let gd : SFits w64 c.in-Ok.delays.gd = search rules in
    λ i. to_z-of_z {w = w64} int i ∷ to_z-of_z {w = w64} cab i ∷ to_z-of_z {w = w64} refdly i ∷ to_z-of_z {w = w64} gd i ∷ []

pub returns : goal.returns
unfolding delays_answer delays_after lookup_rule set_of_lem
returns c =
    let s = set_in_force c.args.store.now c.args.mjd in
    let k = lookup_number c.args.store.now c.args.mjd in
    let v = reply-values no_set s k (sym (ap delays_reply c.in-Ok.is) ∙ c.lookup-answer.ensures.answer) in
    let e = row_put k s c.args.lent.now v.0 (row_is (goal.at.returns c).In-Ok ∙ v.1) c.put.ensures.answer c.put.ensures.written in
    record { answer = c.reply_number-2.ensures ∙ e.0; written = e.1 }
