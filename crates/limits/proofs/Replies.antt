-- Laws of the replies (specs/Reply.antt).
-- Assumes nothing.
use mathlib.Core.Path.{◌≡◌, refl, sym, ap, subst, ◌∙◌}
use Prim.Native.Nat.{ℕ, zero, suc, ◌<◌}
use native.Mathlib.Nat.{not-suc-le-zero}
use native.Mathlib.Omega.{arith}
use Rattle.limits.specs.Refusal.{after}
use Rattle.limits.specs.Reply.{Reply, reply}
use Rattle.limits.proofs.Laws.{lent-kept}

pub reply-accepted : {A : Type 0} (zeros values : A) {number : ℕ} → number ≡ 0
    → reply zeros number values ≡ record { number = 0; values = values }
reply-accepted zeros values e = ap (λ (n : ℕ). reply zeros n values) e

pub reply-refused : {A : Type 0} (zeros values : A) {number : ℕ} → 0 < number
    → reply zeros number values ≡ record { number = number; values = zeros }
reply-refused zeros values {number = zero} h = absurd (not-suc-le-zero h)
reply-refused zeros values {number = suc n} h = refl

-- a refusal that is answered, and what was lent beside it
pub refused-reply : {A B : Type 0} (zeros values : A) (written lent : B) {number n : ℕ} → number ≡ n → 0 < number
    → (record { number = number; values = zeros } ≡ reply zeros n values) × (lent ≡ after n written lent)
refused-reply zeros values written lent {number} {n} e h = (
  sym (ap (λ (m : ℕ). reply zeros m values) (sym e) ∙ reply-refused zeros values h),
  lent-kept n written lent (subst (λ (m : ℕ). 0 < m) e h),
)

pub reply-number : {A : Type 0} (zeros values : A) (number : ℕ) → (reply zeros number values).number ≡ number
reply-number zeros values zero = refl
reply-number zeros values (suc n) = refl

-- what a reply without a refusal tells
pub reply-values : {A : Type 0} (zeros values : A) (number : ℕ) {v : A} → record { number = 0; values = v } ≡ reply zeros number values
    → (number ≡ 0) × (v ≡ values)
reply-values zeros values zero e = (refl, ap (λ (t : Reply _). t.values) e)
reply-values zeros values (suc n) e = absurd (never (ap (λ (t : Reply _). t.number) e))
  where
    never : 0 ≡ suc n → ⊥
    never e = omega arith
