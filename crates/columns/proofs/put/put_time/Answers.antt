-- `columns::put::put_time` meets its contract: hours, minutes and seconds, one behind the other.
-- Assumes nothing.
use mathlib.Core.Path.{◌≡◌, sym, ap, ap₂, ◌∙◌, subst}
use mathlib.Core.List.{List, [], ◌∷◌, ◌++◌, append_assoc}
use Prim.Native.Nat.{ℕ, ◌+◌, ◌/◌, ◌%◌}
use lib.ListN.{length-append}
use native.Mathlib.Omega.{arith}
use Rattle.fields.specs.Text.{decimal}
use Rattle.lent.specs.Placed.{placed}
use Rattle.fields.proofs.Laws.{length-decimal}
use Rattle.columns.specs.Placed.{with_space}
use Rattle.columns.specs.Text.{time_of_day}
use Rattle.columns.proofs.Placing.{onto}
use Rattle.columns.proofs.put.put_time.Goals as goal

pub returns : goal.returns
unfolding time_of_day
returns c =
    let hour = decimal 2 (c.args.second / 3600) in
    let minute = decimal 2 (c.args.second / 60 % 60) in
    let second = decimal 2 (c.args.second % 60) in
    subst (λ (t : List ℕ). c.put_decimal.new.line ≡ placed c.args.line.now 13 t)
    (append_assoc hour minute (with_space second)
    ∙ ap (λ (t : List ℕ). hour ++ t) (sym (append_assoc minute second (32 ∷ [])))
    ∙ sym (append_assoc hour (minute ++ second) (32 ∷ [])))
    (onto _ _ _ c.told-line (omega arith) (ap (λ (n : ℕ). 13 + n) (length-append hour minute ∙ ap₂ ◌+◌ (length-decimal 2 _) (length-decimal 2 _)))
    (onto _ _ _ c.told-line (omega arith) (ap (λ (n : ℕ). 13 + n) (length-decimal 2 _)) c.put_digits.ensures c.put_digits-2.ensures)
    c.put_decimal.ensures)
