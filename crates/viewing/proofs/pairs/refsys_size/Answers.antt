-- `viewing::pairs::refsys_size` meets its contract: ten digits as they stand are as much more for every line.
-- Assumes nothing.
use mathlib.Core.Path.{◌≡◌, sym, ap, subst, ◌∙◌}
use mathlib.Core.List.{List}
use lib.IntN.{pos}
use Prim.Native.Nat.{ℕ, ◌+◌, ◌*◌, ◌-◌, ◌≤◌}
use native.Mathlib.Omega.{arith}
use Rattle.whole.proofs.Words.{count, count-read, fits, plain-is}
use Rattle.fields.specs.Read.{read_decimal}
use Rattle.columns.specs.Columns.{field}
use Rattle.linefile.specs.Files.{columns_of}
use Rattle.viewing.proofs.Values.{refsys-raw, size-bound}
use Rattle.viewing.proofs.pairs.refsys_size.Goals.{After-two_digits-5}
use Rattle.viewing.proofs.pairs.refsys_size.Goals as goal

-- the digits as they stand
abbrev raw : After-two_digits-5 → ℕ
raw c =
    100 * (1000000 * c.two_digits.result + 10000 * c.two_digits-2.result + 100 * c.two_digits-3.result + c.two_digits-4.result) + c.two_digits-5.result

abbrev text : After-two_digits-5 → List ℕ
text c = c.args.line.now

raw-is : (c : After-two_digits-5) → raw c ≡ read_decimal (field 55 64 (columns_of (text c))) + 53333333328
raw-is c =
    refsys-raw (text c) c.requires c.two_digits.ensures.0 c.two_digits-2.ensures.0 c.two_digits-3.ensures.0
    c.two_digits-4.ensures.0 c.two_digits-5.ensures.0

size_is : (c : After-two_digits-5) → raw c - 53333333328 ≡ read_decimal (field 55 64 (columns_of (text c)))
size_is c = less (raw-is c)
  where
    less : {m n : ℕ} → m ≡ n + 53333333328 → m - 53333333328 ≡ n
    less e = omega arith

few : (c : After-two_digits-5) → raw c - 53333333328 ≤ 9999999999
few c = subst (λ (n : ℕ). n ≤ 9999999999) (sym (size_is c)) (size-bound (text c) c.requires)

pub overflow_sub-result : goal.overflow_sub-result
overflow_sub-result c = omega (arith, raw-is c)

pub overflow_cast-result : goal.overflow_cast-result
overflow_cast-result c = fits (count {b = 9999999999} (few c)) tt

pub returns : goal.returns
returns c = plain-is (count-read {b = 9999999999} (few c)) tt ∙ ap pos (size_is c)
