-- What functions ask of signed numbers: a bound on their magnitude. The laws of machine words are those of proofs/Words.antt.
-- Assumes nothing.
use Rattle.std.specs.Prelude.{ℕ, ◌≤◌, ℤ, nat_abs}

-- The magnitude of z is at most b. A record, so that z can be read off it: what a function asks of its arguments is stated so.
pub record Within (b : ℕ) (z : ℤ) : Type 0 where
  pub within : nat_abs z ≤ b
