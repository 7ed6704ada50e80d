-- What the answer to one block tells (specs/Block.antt), where its smoothed value and the delays are inside their limits.
-- Assumes nothing.
use mathlib.Core.Path.{◌≡◌, refl, sym, ap, ◌∙◌}
use mathlib.Core.Bool.{Bool, true, false, ◌||◌, or-false}
use native.Mathlib.Nat.{ne_of_gt}
use mathlib.Core.List.{List}
use Prim.Native.Nat.{ℕ, ◌+◌, ◌*◌}
use lib.IntN.{ℤ}
use Rattle.std.specs.Prelude.{Ok, Err}
use Rattle.limits.specs.Refusal.{◌when◌}
use Rattle.limits.specs.Limits.{beyond, delays_beyond_lem}
use Rattle.limits.specs.Reply.{reply}
use Rattle.limits.specs.Numbers.{paper_number, reply_of}
use Rattle.limits.specs.declared.Delays.{Delays}
use Rattle.limits.specs.declared.refusal.Refusal.{Refusal}
use Rattle.limits.proofs.Cases.{paper_above_zero, value_of_reply}
use Rattle.limits.proofs.Laws.{when-zero, when-some}
use Rattle.series.specs.Fit.{value_limit}
use Rattle.series.specs.Smooth.{smoothed}
use Rattle.whole.specs.Table.{at}
use Rattle.exact.specs.Corrected.{block, to_a, to_b}
use Rattle.correcting.specs.declared.inputs.Corrections.{Corrections}
use Rattle.correcting.specs.Correct.{smoothed_at, value_a, value_b, value_c, value_d}
use Rattle.correcting.specs.Given.{given_of, group_at}
use Rattle.correcting.specs.declared.correction.Values.{Values}
use Rattle.correcting.specs.declared.inputs.Group.{Group}
use Rattle.correcting.specs.Block.{no_values, group_beyond, values_of, block_values_rule}

-- the values of block j of what a track is given
pub block-values : (l : List ℤ) (delays : Delays) (corrections : Corrections) (j : ℕ)
    → let g = given_of l delays corrections in
    values_of (smoothed (λ i. at l (15 * j + i))) delays (group_at corrections j)
    ≡ record { a = value_a g j; b = value_b g j; c = value_c g j; d = value_d g j }
unfolding value_a value_b value_c value_d smoothed_at block to_a to_b
block-values l delays corrections j = refl

module _ (y : ℤ) (delays : Delays) (group : Group) (inside : beyond value_limit y ≡ false)
    (passed : delays_beyond_lem delays.int delays.cab delays.refdly delays.gd ≡ false) where
  -- the rule by the group alone
  by-group : block_values_rule y delays group ≡ reply no_values (2 when group_beyond group) (values_of y delays group)
  unfolding block_values_rule
  by-group =
      ap (λ (b : Bool). reply no_values (2 when (group_beyond group || b)) (values_of y delays group)) (rw (inside, passed))
      ∙ ap (λ (b : Bool). reply no_values (2 when b) (values_of y delays group)) (or-false (group_beyond group))

  pub group-refused : (r : Refusal) → reply_of no_values (Err r) ≡ block_values_rule y delays group
      → (paper_number r ≡ 2) × (group_beyond group ≡ true)
  group-refused r e =
      when-some 2 (group_beyond group) (sym (value_of_reply no_values (Err r) _ _ (e ∙ by-group))) (λ z. ne_of_gt (paper_above_zero r) z)

  pub group-values : (v : Values) → reply_of no_values (Ok v) ≡ block_values_rule y delays group
      → (group_beyond group ≡ false) × (v ≡ values_of y delays group)
  group-values v e =
      let t = value_of_reply no_values (Ok v) _ _ (e ∙ by-group) in (when-zero 1 (group_beyond group) t.0, t.1)
