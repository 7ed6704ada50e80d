-- Refusal numbers and their order (document 01, "Each operation and its refusals, in order"). 0 stands for "not refused".
-- Assumes nothing.
use Rattle.std.specs.Prelude.{ℕ, Bool, cond, eqb}

infix 30 ◌when◌
infixr 20 ◌then◌
-- The number where its condition holds, 0 where it does not.
unfoldable pub ◌when◌ : ℕ → Bool → ℕ
number when condition = cond condition number 0

-- The first answer where it is a refusal, and the next one where it is 0.
unfoldable pub ◌then◌ : ℕ → ℕ → ℕ
first then next = cond (eqb first 0) next first

-- What was lent, afterwards: what is written where the number is 0, and what was lent where it is a refusal's. Laws `after-accepted` and
-- `after-refused` of proofs/Laws.antt.
abbrev pub after : {A : Type 0} (number : ℕ) (written lent : A) → A
after number written lent = cond (eqb number 0) written lent
