-- What the steps of a walk over the lines of two files make together: how long the result is, whether two lines differ, and what is left to write.
-- Assumes nothing.
use mathlib.Core.Path.{◌≡◌, refl, sym, ap, subst, ◌∙◌}
use mathlib.Core.Bool.{Bool, true, false, not, ◌||◌}
use mathlib.Core.List.{List, [], ◌∷◌, map}
use Prim.Native.Nat.{ℕ, ◌+◌, ◌*◌, ◌≤◌}
use native.Mathlib.Omega.{arith}
use lib.ListN.{length, length-map, length-append}
use denote.Bor.{Bor}
use Rattle.limits.specs.Refusal.{◌when◌}
use Rattle.limits.specs.Reply.{reply}
use Rattle.lent.specs.Placed.{placed_within}
use Rattle.lent.proofs.Placing.{within}
use Rattle.lent.proofs.Written.{Written, room, more-written}
use Rattle.columns.specs.Text.{ended_length}
use Rattle.linefile.specs.declared.step.Step.{Step}
use Rattle.linefile.specs.Files.{same, lines, joined}
use Rattle.linefile.specs.Partners.{partners}
use Rattle.linefile.specs.Walk.{step_map, line_of, pairs_in, steps}
use Rattle.linefile.proofs.Ascending.{All, Accepted, all_map}
use Rattle.linefile.proofs.Lines.{Long, lines_long, accepted-long}
use Rattle.linefile.proofs.Steps.{Unrefused, partners-steps}
use Rattle.linefile.proofs.Joined.{length-joined}
use Rattle.merging.specs.Merge.{any_differ, merged, merged_file, measure_rule}
use Rattle.merging.proofs.Steps.{all-merged, merged-steps}

module _ (xs ys : List (List ℕ)) (a : Unrefused xs) (b : Unrefused ys) where
  pub steps-differ : any_differ (partners xs ys) ≡ any_differ (pairs_in (steps xs ys))
  steps-differ = ap any_differ (partners-steps xs ys a b)

  pub steps-text : joined (merged xs ys) ≡ joined (map line_of (steps xs ys))
  steps-text = ap joined (merged-steps xs ys a b)

  pub steps-long : All Long (map line_of (steps xs ys))
  steps-long =
      subst (All Long) (merged-steps xs ys a b)
      (all-merged Long xs ys (all_map Accepted Long accepted-long xs a.1) (all_map Accepted Long accepted-long ys b.1))

  pub steps-length : length (joined (merged xs ys)) ≡ ended_length * length (steps xs ys)
  steps-length =
      ap length steps-text ∙ length-joined _ steps-long ∙ ap (λ (n : ℕ). ended_length * n) (length-map (steps xs ys) line_of)

-- ---- a step

-- what is made of the steps that are left, where the first one is of two lines that differ, of two that are the same, or of one line
module _ {left next : List (Step (List ℕ))} {step : Step (List ℕ)} {x y : List ℕ} (e : left ≡ step ∷ next) (b : step ≡ Step.Both x y) where
  one-more : any_differ (pairs_in left) ≡ not (same x y) || any_differ (pairs_in next)
  unfolding any_differ
  one-more = ap (λ (l : List (Step (List ℕ))). any_differ (pairs_in l)) (e ∙ ap (λ (s : Step (List ℕ)). s ∷ next) b)

  pub differ-found : not (same x y) ≡ true → any_differ (pairs_in left) ≡ true
  differ-found d = one-more ∙ ap (λ (t : Bool). t || any_differ (pairs_in next)) d

  pub differ-not : not (same x y) ≡ false → any_differ (pairs_in left) ≡ any_differ (pairs_in next)
  differ-not d = one-more ∙ ap (λ (t : Bool). t || any_differ (pairs_in next)) d

pub differ-alone : {A : Type 0} (view : A → List ℕ) {left next : List (Step (List ℕ))} (step : Step A) → left ≡ step_map view step ∷ next
    → ((x y : A) → step ≡ Step.Both x y → ⊥) → any_differ (pairs_in left) ≡ any_differ (pairs_in next)
differ-alone view (Step.First x) e n = ap (λ (l : List (Step (List ℕ))). any_differ (pairs_in l)) e
differ-alone view (Step.Second y) e n = ap (λ (l : List (Step (List ℕ))). any_differ (pairs_in l)) e
differ-alone view (Step.Both x y) e n = absurd (n x y refl)

-- the line that a step passes, behind its reference
pub line-of-map : (step : Step (Bor (List ℕ))) → (line_of step).now ≡ line_of (step_map (λ line. line.now) step)
line-of-map (Step.First x) = refl
line-of-map (Step.Second y) = refl
line-of-map (Step.Both x y) = refl

-- a line more is written
pub line-written : {whole lent now after line : List ℕ} {at : ℕ} {left next : List (List ℕ)} → length whole ≤ length lent → All Long left
    → Written whole lent now at (joined left) → left ≡ line ∷ next → after ≡ placed_within now at line
    → All Long next × Written whole lent after (at + ended_length) (joined next)
unfolding joined
line-written {whole} {lent} {now} {after} {line} {at} {left} {next} fits a w e p =
    let l = subst (All Long) e a in
    let t = subst (Written whole lent now at) (ap joined e) w in (
      l.1,
      subst (λ (n : ℕ). Written whole lent after (at + n) (joined next)) l.0
          (more-written fits line t (p ∙ within now at line (omega (arith, (room fits t).0, length-append line (joined next))))),
    )

-- ---- what is measured

module _ (xs ys : List (List ℕ)) where
  pub measured-differ : any_differ (partners xs ys) ≡ true → record { number = 15; values = 0 } ≡ measure_rule xs ys
  unfolding measure_rule ◌when◌
  measured-differ d = sym (ap (λ (b : Bool). reply 0 (15 when b) (length (joined (merged xs ys)))) d)

  pub measured-bytes : {left : List (Step (List ℕ))} {bytes : ℕ} → left ≡ [] → any_differ (partners xs ys) ≡ any_differ (pairs_in left)
      → bytes ≡ length (joined (merged xs ys)) → record { number = 0; values = bytes } ≡ measure_rule xs ys
  unfolding measure_rule any_differ ◌when◌
  measured-bytes e d b =
      ap (λ (n : ℕ). record { number = 0; values = n }) b
      ∙ sym (ap (λ (t : Bool). reply 0 (15 when t) (length (joined (merged xs ys)))) (d ∙ ap (λ (l : List (Step (List ℕ))). any_differ (pairs_in l)) e))

-- ---- two files

pub merged-long : (first second : List ℕ) → All Long (merged (lines first) (lines second))
merged-long first second = all-merged Long (lines first) (lines second) (lines_long first) (lines_long second)

pub length_merged : (first second : List ℕ) → length (merged_file first second) ≡ ended_length * length (merged (lines first) (lines second))
unfolding merged_file
length_merged first second = length-joined (merged (lines first) (lines second)) (merged-long first second)
