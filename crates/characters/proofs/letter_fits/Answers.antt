-- `characters::letter_fits` meets its contract: the letters are those of the definition.
-- Assumes nothing.
use mathlib.Core.Path.{◌≡◌, sym, ap}
use mathlib.Core.Bool.{true}
use mathlib.Core.Logic.{◌⊎◌, inl, inr}
use Prim.Native.Nat.{ℕ}
use borrow.Author.Rules.{rules}
use borrow.Author.Tests.{tests}
use Rattle.characters.specs.Kinds.{letter_fits_lem}
use Rattle.characters.proofs.letter_fits.Goals as goal

letter-of : {b : ℕ} → b ≡ 67 ⊎ (b ≡ 69 ⊎ (b ≡ 71 ⊎ (b ≡ 74 ⊎ b ≡ 82))) → true ≡ letter_fits_lem b
unfolding letter_fits_lem
letter-of (inl e) = ap letter_fits_lem (sym e)
letter-of (inr (inl e)) = ap letter_fits_lem (sym e)
letter-of (inr (inr (inl e))) = ap letter_fits_lem (sym e)
letter-of (inr (inr (inr (inl e)))) = ap letter_fits_lem (sym e)
letter-of (inr (inr (inr (inr e)))) = ap letter_fits_lem (sym e)

pub returns-in-71 : goal.returns-in-71
returns-in-71 c = letter-of c.in-71.is

pub returns-in_default : goal.returns-in_default
unfolding letter_fits_lem
returns-in_default c = search (rules, tests)
