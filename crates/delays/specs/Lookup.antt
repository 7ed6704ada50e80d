-- The delays in force at a date (document 02, Job 9): the set of the latest start that is not after it.
-- Assumes nothing.
use Rattle.std.specs.Prelude.{ℕ, zero, suc, ◌-◌, cond, List, [], ◌∷◌, leb, eqb, ℤ, pos}
use Rattle.limits.specs.Refusal.{◌when◌, ◌then◌}
use Rattle.limits.specs.Reply.{Reply, reply}
use Rattle.delays.specs.Store.{version, count, start, delay, store_number}

-- Of the first n entries, how many there are up to and with the latest one that starts not after the date; 0 where none does. Laws
-- `latest-answered` and `latest-only` of crate `inforce` say that it is the latest, and the only one.
unfoldable pub in_force_lem : (start : ℕ → ℕ) (mjd n : ℕ) → ℕ
in_force_lem start mjd zero = 0
in_force_lem start mjd (suc n) = cond (leb (start n) mjd) (suc n) (in_force_lem start mjd n)

-- The set of entry k: INT, CAB, REF and GD. GD reads as 0 from version 1.
unfoldable pub set_of_lem : (store : List ℕ) (k : ℕ) → List ℤ
set_of_lem store k =
    delay store k 0 ∷ delay store k 1 ∷ delay store k 2 ∷ cond (eqb (version store) 1) (pos 0) (delay store k 3) ∷ []

-- The set in force.
abbrev pub set_in_force : (store : List ℕ) (mjd : ℕ) → List ℤ
set_in_force store mjd = set_of_lem store (in_force_lem (start store) mjd (count store) - 1)

-- 20 for the store. 21: no start is early enough.
unfoldable pub lookup_number : (store : List ℕ) (mjd : ℕ) → ℕ
lookup_number store mjd = store_number store then 21 when eqb (in_force_lem (start store) mjd (count store)) 0

-- That number, and the set in force; four zeros where there is a refusal.
abbrev pub no_set : List ℤ
no_set = pos 0 ∷ pos 0 ∷ pos 0 ∷ pos 0 ∷ []

unfoldable pub lookup_rule : (store : List ℕ) (mjd : ℕ) → Reply (List ℤ)
lookup_rule store mjd = reply no_set (lookup_number store mjd) (set_in_force store mjd)
