-- A product of numbers up to 2^38, taken in two parts of one of them, 2^20 apart: each part stays below 2^58, and so within a word.
-- Assumes nothing.
use mathlib.Core.Path.{◌≡◌, sym, ap, ◌∙◌}
use Prim.Native.Nat.{ℕ, ◌+◌, ◌*◌, ◌/◌, ◌%◌, ◌^◌, ◌≤◌}
use native.Mathlib.Nat.{mul-le-mul, mul-add, mul_assoc}
use native.Mathlib.Omega.{arith}
use Rattle.path.specs.Between.{factor_limit}

-- where a factor is parted
abbrev pub radix : ℕ
radix = 2 ^ 20

module _ (a b : ℕ) where
  pub rest-bound : a ≤ factor_limit → a * (b % radix) ≤ 288230376151711744
  rest-bound h = let k : b % radix ≤ radix = omega arith in omega (arith, mul-le-mul h k)

  pub high-bound : a ≤ factor_limit → b ≤ factor_limit → a * (b / radix) ≤ 72057594037927936
  high-bound h i = let k : b / radix ≤ 262144 = omega arith in omega (arith, mul-le-mul h k)

  parted : b ≡ b / radix * radix + b % radix
  parted = omega arith

  -- the product is that of its parts, and so has no more room than they have
  products : a * b ≡ a * (b / radix) * radix + a * (b % radix)
  products =
      ap (λ (e : ℕ). a * e) parted
      ∙ mul-add a (b / radix * radix) (b % radix)
      ∙ ap (λ (x : ℕ). x + a * (b % radix)) (sym (mul_assoc a (b / radix) radix))

  pub product-bound : a ≤ factor_limit → b ≤ factor_limit → a * b ≤ 72057594037927936 * radix + 288230376151711744
  product-bound h i = omega (arith, products, high-bound h i, rest-bound h)
