-- Laws of what an answer stands for (specs/Numbers.antt): no refusal has the number 0, so the number of an answer tells its case, and its reply too.
-- Assumes nothing.
use mathlib.Core.Path.{◌≡◌, refl, sym, ap, subst, ◌∙◌}
use Prim.Native.Nat.{ℕ, ◌<◌}
use native.Mathlib.Nat.{ne_of_gt}
use native.Mathlib.Omega.{arith}
use Rattle.std.specs.Prelude.{Result, Ok, Err}
use Rattle.std.specs.Result.{MatchResult, IsOk, IsErr}
use Rattle.limits.specs.Reply.{Reply, reply}
use Rattle.limits.specs.Numbers.{paper_number, number_of, reply_of}
use Rattle.limits.specs.declared.refusal.Refusal.{Refusal}
use Rattle.limits.proofs.Replies.{reply-number, reply-accepted}
use Rattle.limits.proofs.Laws.{then-refused, then-passed}
use Rattle.limits.specs.Refusal.{◌then◌}

-- no refusal has the number 0
pub paper_above_zero : (r : Refusal) → 0 < paper_number r
paper_above_zero Refusal.Count = omega arith
paper_above_zero Refusal.Limit = omega arith
paper_above_zero Refusal.Midpoint = omega arith
paper_above_zero Refusal.Slope = omega arith
paper_above_zero Refusal.Delay = omega arith
paper_above_zero Refusal.Scatter = omega arith
paper_above_zero Refusal.Label = omega arith
paper_above_zero Refusal.Start = omega arith
paper_above_zero Refusal.Lent = omega arith
paper_above_zero Refusal.Length = omega arith
paper_above_zero Refusal.LineLength = omega arith
paper_above_zero Refusal.Character = omega arith
paper_above_zero Refusal.Checksum = omega arith
paper_above_zero Refusal.Differ = omega arith
paper_above_zero Refusal.Order = omega arith
paper_above_zero Refusal.Room = omega arith
paper_above_zero Refusal.NoPair = omega arith
paper_above_zero Refusal.FileLength = omega arith
paper_above_zero Refusal.Store = omega arith
paper_above_zero Refusal.NotYet = omega arith
paper_above_zero Refusal.NotLater = omega arith
paper_above_zero Refusal.NotWhole = omega arith
paper_above_zero Refusal.Coordinate = omega arith
paper_above_zero Refusal.NotGps = omega arith

-- the number of an answer is 0 exactly where it is `Ok`
pub number_tells : {A : Type 0} (answer : Result A Refusal) → MatchResult answer (λ _. number_of answer ≡ 0) (λ _. 0 < number_of answer)
number_tells (Ok x) = refl
number_tells (Err r) = paper_above_zero r

pub ok_at_zero : {A : Type 0} (answer : Result A Refusal) → number_of answer ≡ 0 → IsOk answer
ok_at_zero (Ok x) e = refl
ok_at_zero (Err r) e = absurd (ne_of_gt (paper_above_zero r) e)

pub err_above_zero : {A : Type 0} (answer : Result A Refusal) → (number_of answer ≡ 0 → ⊥) → IsErr answer
err_above_zero (Ok x) n = absurd (n refl)
err_above_zero (Err r) n = refl

-- the same where the case is known
pub number_at_ok : {A : Type 0} {answer : Result A Refusal} {x : A} → answer ≡ Ok x → number_of answer ≡ 0
number_at_ok e = ap number_of e

pub number_at_err : {A : Type 0} {answer : Result A Refusal} {r : Refusal} → answer ≡ Err r → number_of answer ≡ paper_number r
number_at_err e = ap number_of e

-- the number of a reply is that of its answer
pub reply_of-number : {A : Type 0} (zeros : A) (answer : Result A Refusal) → (reply_of zeros answer).number ≡ number_of answer
reply_of-number zeros (Ok x) = refl
reply_of-number zeros (Err r) = refl

-- an answer without a value has its number as its reply
pub number_of_reply : {A : Type 0} (zeros : A) (answer : Result A Refusal) (number : ℕ) (values : A)
    → reply_of zeros answer ≡ reply zeros number values → number_of answer ≡ number
number_of_reply zeros answer number values e =
    sym (reply_of-number zeros answer) ∙ ap (λ (t : Reply _). t.number) e ∙ reply-number zeros values number

-- and its value, where nothing is refused
pub value_of_reply : {A : Type 0} (zeros : A) (answer : Result A Refusal) (number : ℕ) (values : A)
    → reply_of zeros answer ≡ reply zeros number values → MatchResult answer (λ x. (number ≡ 0) × (x ≡ values)) (λ r. number ≡ paper_number r)
value_of_reply zeros (Ok x) number values e =
    let z = sym (number_of_reply zeros (Ok x) number values e) in
    (z, ap (λ (t : Reply _). t.values) (e ∙ reply-accepted zeros values z))
value_of_reply zeros (Err r) number values e = sym (number_of_reply zeros (Err r) number values e)

-- two answers with the same number are both `Ok` or both `Err`
pub same_case : {A B : Type 0} (a : Result A Refusal) (b : Result B Refusal) → number_of a ≡ number_of b → MatchResult a (λ _. IsOk b) (λ _. IsErr b)
same_case (Ok x) b e = ok_at_zero b (sym e)
same_case (Err r) b e = err_above_zero b (λ z. ne_of_gt (paper_above_zero r) (e ∙ z))

-- so are two with the same reply
pub same_case_of_replies : {A : Type 0} (zeros : A) (a b : Result A Refusal) → reply_of zeros a ≡ reply_of zeros b
    → MatchResult a (λ _. IsOk b) (λ _. IsErr b)
same_case_of_replies zeros a b e =
    same_case a b (sym (reply_of-number zeros a) ∙ ap (λ (t : Reply _). t.number) e ∙ reply_of-number zeros b)

-- ---- the order of refusals, where one function passes on the refusal of another

pub refused_here : (r : Refusal) {first : ℕ} (next : ℕ) → paper_number r ≡ first → paper_number r ≡ first then next
refused_here r next e = e ∙ sym (then-refused _ next (subst (λ (n : ℕ). 0 < n) e (paper_above_zero r)))

pub passed_here : {first next n : ℕ} → 0 ≡ first → n ≡ next → n ≡ first then next
passed_here z e = e ∙ sym (then-passed _ _ (sym z))
