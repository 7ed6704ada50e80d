-- `hire::track` meets its contract: the two parts of a whole block are its packed lists.
-- Assumes nothing.
use borrow.Author.Rules.{rules}
use mathlib.Core.Path.{◌≡◌, sym, ap, ◌∙◌, subst}
use mathlib.Core.List.{List}
use Prim.Native.Nat.{ℕ, ◌+◌, ◌*◌, ◌-◌, ◌/◌}
use native.Mathlib.Omega.{arith}
use lib.IntN.{ℤ}
use lib.ListN.{length, take, drop}
use mir.Syntax.{w64}
use mir.Val.{SFits, to_z, of_z}
use mir.Facts.{to_z-of_z}
use Rattle.std.specs.Result.{IfOk}
use Rattle.limits.specs.declared.Delays.{Delays}
use Rattle.limits.proofs.Parts.{rest_part}
use Rattle.exact.specs.Accurate.{AccurateTrack}
use Rattle.exact.specs.Corrected.{Given, steps}
use Rattle.fit.specs.Found.{found_rule}
use Rattle.fit.specs.Packed.{packed}
use Rattle.hire.specs.Hire.{blocks_in, block_length, given_in, block_given}
use Rattle.hire.proofs.Lists.{delays_in, groups-are, packed-is, whole-found, other-found}
use Rattle.hire.proofs.track.Goals.{After-length, After-track_packed, After-unsigned16-n, Else-block-length}
use Rattle.hire.proofs.track.Goals as goal

-- the block, and where its length has been tested
abbrev bytes : After-length → List ℕ
bytes c = c.args.block.now

whole : (c : Else-block-length) → length (bytes (goal.at.Else-block-length c).After-length) ≡ block_length (blocks_in (bytes (goal.at.Else-block-length c).After-length))
whole c = c.if-block-length.false ∙ c.length.ensures

-- the second size
abbrev n : After-unsigned16-n → ℕ
n c = c.unsigned16-n.result

n-is : (c : After-unsigned16-n) → n c ≡ blocks_in (bytes (goal.at.After-unsigned16-n c).After-length)
unfolding blocks_in
n-is c = c.unsigned16-n.ensures

sized : (c : After-unsigned16-n) → length (bytes (goal.at.After-unsigned16-n c).After-length) ≡ block_length (n c)
sized c = whole (goal.at.After-unsigned16-n c).Else-block-length ∙ ap block_length (sym (n-is c))

module _ (c : After-track_packed) where
  abbrev u : After-unsigned16-n
  u = (goal.at.After-track_packed c).After-unsigned16-n

  abbrev b : List ℕ
  b = bytes (goal.at.After-track_packed c).After-length

  abbrev from : ℕ
  from = 58 + 120 * n u

  abbrev delays : Delays
  delays =
      record {
        int = to_z w64 (of_z w64 c.signed64.result);
        cab = to_z w64 (of_z w64 c.signed64-2.result);
        refdly = to_z w64 (of_z w64 c.signed64-3.result);
        gd = to_z w64 (of_z w64 c.signed64-4.result);
      }

  abbrev lent : Given
  lent = packed (take (from - 58) (drop 58 b)) delays (take (length b - from) (drop from b))

  read : {z w : ℤ} → SFits w64 z → z ≡ w → to_z w64 (of_z w64 z) ≡ w
  read f e = to_z-of_z f ∙ e

  delays-are : delays ≡ delays_in b
  delays-are =
      λ z. record {
        int = read (search rules) c.signed64.ensures z;
        cab = read (search rules) c.signed64-2.ensures z;
        refdly = read (search rules) c.signed64-3.ensures z;
        gd = read (search rules) c.signed64-4.ensures z;
      }

  given_is : lent ≡ block_given b
  unfolding block_given
  given_is =
      let e : 58 + 120 * n u - 58 ≡ 120 * n u = omega arith in
      (λ z. packed (take (e z) (drop 58 b)) (delays-are z) (rest_part b from z))
      ∙ packed-is b (n u) (sized u)
      ∙ ap (λ (k : ℕ). given_in k b) (n-is u)

  count-is : length (take (length b - from) (drop from b)) / 40 ≡ blocks_in b
  count-is = ap (λ (l : List ℕ). length l / 40) (rest_part b from) ∙ groups-are b (n u) (sized u) ∙ n-is u

pub returns-then-block-length-clause-answer : goal.returns-then-block-length-clause-answer
returns-then-block-length-clause-answer c = other-found _ (λ e. c.if-block-length.true (e ∙ sym c.length.ensures))

pub slice_bounds-track_packed-end : goal.slice_bounds-track_packed-end
slice_bounds-track_packed-end c = omega (arith, sized (goal.at.slice_bounds-track_packed-end c).After-unsigned16-n)

pub slice_bounds-track_packed-count-2 : goal.slice_bounds-track_packed-count-2
slice_bounds-track_packed-count-2 c = omega (arith, sized (goal.at.slice_bounds-track_packed-count-2 c).After-unsigned16-n)

pub slice_bounds-track_packed-start-2 : goal.slice_bounds-track_packed-start-2
slice_bounds-track_packed-start-2 c = omega (arith, sized (goal.at.slice_bounds-track_packed-start-2 c).After-unsigned16-n)

pub returns : goal.returns
returns c =
    let t = (goal.at.returns c).After-track_packed in record {
      answer = c.track_packed.ensures.answer ∙ ap found_rule (given_is t) ∙ whole-found (b t) (whole (goal.at.returns c).Else-block-length);
      accurate = subst (λ (G : Given). IfOk c.track_packed.result (AccurateTrack steps (blocks_in (b t)) G)) (given_is t)
          (subst (λ (k : ℕ). IfOk c.track_packed.result (AccurateTrack steps k (lent t))) (count-is t) c.track_packed.ensures.accurate);
    }
