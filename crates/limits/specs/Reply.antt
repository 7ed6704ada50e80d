-- What an answer stands for: the number of the refusal, 0 where there is none, and the values, 0 throughout where there is a refusal (document 01,
-- "Each operation and its refusals, in order").
-- Assumes nothing.
use Rattle.std.specs.Prelude.{ℕ, zero, suc}

pub record Reply (A : Type 0) : Type 0 where
  pub number : ℕ
  pub values : A

-- The reply of this number: the values where it is 0, the zeros where it is a refusal's.
abbrev pub reply : {A : Type 0} → A → ℕ → A → Reply A
reply zeros zero values = record { number = 0; values = values }
reply zeros (suc number) values = record { number = suc number; values = zeros }
