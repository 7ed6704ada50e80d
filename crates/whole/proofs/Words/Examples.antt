-- Worked examples of bounds on machine words.
-- Assumes nothing.
use Rattle.std.specs.Prelude.{◌≡◌, ◌*◌, ◌^◌, ◌≤◌, ℤ, pos, nat_abs, ◌+ℤ◌, ◌-ℤ◌, ◌*ℤ◌}
use Rattle.std.specs.Int.{w64}
use Rattle.std.proofs.Common.{SFits, to_z, of_z}
use Rattle.whole.specs.Words.{Within}
use Rattle.whole.proofs.Words.{Word, known, fits, bound, plain-is, bounds}

-- a product and a difference of numbers that are known to within a bound fit 64 bits
product-fits : (a b : ℤ) → nat_abs a ≤ 2 * 10 ^ 12 → nat_abs b ≤ 10 ^ 17 → SFits w64 (pos 46852 *ℤ a -ℤ b)
product-fits a b h k = let v : Word a = known h in let w : Word b = known k in fits (search bounds depth 12) tt

-- and it is known to within what is asked
product-bound : (a b : ℤ) → nat_abs a ≤ 2 * 10 ^ 12 → nat_abs b ≤ 10 ^ 17 → Within (2 * 10 ^ 17) (pos 46852 *ℤ a -ℤ b)
product-bound a b h k = let v : Word a = known h in let w : Word b = known k in bound (search bounds depth 12) tt

-- what is read back in between is the value
read_back : (a b : ℤ) → nat_abs a ≤ 10 ^ 12 → nat_abs b ≤ 10 ^ 12
    → to_z w64 (of_z w64 (a +ℤ b)) -ℤ b ≡ a +ℤ b -ℤ b
read_back a b h k = let v : Word a = known h in let w : Word b = known k in plain-is (search bounds depth 12) tt
