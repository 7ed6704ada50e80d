-- Worked examples of linear arithmetic.
-- Assumes nothing.
use Rattle.std.specs.Prelude.{◌≡◌, List, [], ◌∷◌, ℤ, pos, ◌+ℤ◌, ◌-ℤ◌, ◌*ℤ◌, ◌≤ℤ◌, ◌<ℤ◌}
use Rattle.std.proofs.Common.{arith}
use Rattle.whole.proofs.Identity.{quote}
use Rattle.whole.proofs.Linear.{le-by, lt_by, eq-by, le_is, lt-is, eq_is}

-- from a ≤ b and b < c: 2a - 3 < b + c
chain : (a b c : ℤ) → a ≤ℤ b → b <ℤ c → (pos 2 *ℤ a -ℤ pos 3) <ℤ (b +ℤ c)
chain a b c h k =
    let ρ : List ℤ = a ∷ b ∷ c ∷ [] in
    lt_by ρ (search quote depth 20) (omega (arith, le_is ρ (search quote depth 20) h, lt-is ρ (search quote depth 20) k))

-- from a + b = 10 and a - b = 4: a = 7
solved : (a b : ℤ) → a +ℤ b ≡ pos 10 → a -ℤ b ≡ pos 4 → a ≡ pos 7
solved a b h k =
    let ρ : List ℤ = a ∷ b ∷ [] in
    eq-by ρ (search quote depth 20) (omega (arith, eq_is ρ (search quote depth 20) h, eq_is ρ (search quote depth 20) k))

-- a product of two atoms is one unknown: from ab ≤ c follows 3ba - c ≤ 2c
product : (a b c : ℤ) → (a *ℤ b) ≤ℤ c → (pos 3 *ℤ (b *ℤ a) -ℤ c) ≤ℤ (pos 2 *ℤ c)
product a b c h =
    let ρ : List ℤ = a ∷ b ∷ c ∷ [] in
    le-by ρ (search quote depth 20) (omega (arith, le_is ρ (search quote depth 20) h))
