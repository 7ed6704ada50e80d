-- Laws of tabulate (module Table): its length and its elements.
-- Assumes nothing.
use Rattle.std.specs.Prelude.{◌≡◌, length}
use Rattle.std.proofs.Math.Path.{refl, sym, ap}
use Rattle.std.proofs.Common.{ap₂, ◌∙◌, subst, arith}
use mathlib.Core.List.{[], ◌∷◌, ◌++◌}
use Prim.Native.Nat.{ℕ, zero, suc, ◌+◌, ◌<◌}
use Rattle.std.proofs.Math.Decide.{ℕ_discrete}
use Rattle.std.proofs.Math.Numerals.{add-one}
use Rattle.std.proofs.Math.ListN.{get_or, length-append, get_or-append}
use Rattle.std.proofs.Math.Seq.{get_or_at}
use Rattle.whole.specs.Table.{tabulate}

module _ {ℓ} {A : Type ℓ} (f : ℕ → A) where
  pub tabulate-length : (n : ℕ) → length (tabulate f n) ≡ n
  unfolding tabulate
  tabulate-length zero = refl
  tabulate-length (suc n) =
      length-append (tabulate f n) _ ∙ ap (λ (k : ℕ). k + 1) (tabulate-length n) ∙ add-one n

  pub tabulate-get_or : (n i : ℕ) (d : A) → i < n → get_or (tabulate f n) i d ≡ f i
  unfolding tabulate
  tabulate-get_or zero i d h = absurd (omega arith)
  tabulate-get_or (suc n) i d h = go (λ k. tabulate-get_or n i d k) (ℕ_discrete i n)
    where
      go : (i < n → get_or (tabulate f n) i d ≡ f i) → Dec (i ≡ n) → get_or (tabulate f n ++ (f n ∷ [])) i d ≡ f i
      go before (yes e) = get_or_at (tabulate f n) (f n) [] d i (tabulate-length n ∙ sym e) ∙ ap f (sym e)
      go before (no e) =
          get_or-append (tabulate f n) (f n ∷ []) d i (subst (λ (k : ℕ). i < k) (sym (tabulate-length n)) (omega arith))
          ∙ before (omega arith)

  -- one element more
  pub tabulate-suc : (n : ℕ) → tabulate f (suc n) ≡ tabulate f n ++ (f n ∷ [])
  unfolding tabulate
  tabulate-suc n = refl

-- functions that agree below n have the same table
pub tabulate-cong {ℓ} : {A : Type ℓ} (f g : ℕ → A) (n : ℕ) → ((i : ℕ) → i < n → f i ≡ g i) → tabulate f n ≡ tabulate g n
unfolding tabulate
tabulate-cong f g zero h = refl
tabulate-cong f g (suc n) h =
    ap₂ (λ xs x. xs ++ (x ∷ [])) (tabulate-cong f g n (λ i k. h i (omega arith))) (h n (omega arith))
