-- `correcting::correct` meets its contract: each test tells what is answered, and how many blocks have their values in the rows.
-- Assumes nothing.
use mathlib.Core.Bool.{false, ◌||◌}
use mathlib.Core.Path.{◌≡◌, sym, ap₂, ◌∙◌}
use Rattle.exact.specs.Corrected.{Given}
use Rattle.correcting.specs.Correct.{wrong_sizes}
use Rattle.correcting.specs.Given.{given_of}
use Rattle.correcting.specs.Answer.{others_beyond}
use Rattle.correcting.proofs.Arrays.{filled_none}
use Rattle.correcting.proofs.Refusals.{sized, sizes-refused, others-refused, by-measurements}
use Rattle.correcting.proofs.correct.Goals.{After-delays_beyond, After-sizes_wrong, Else-sizes_wrong, Start}
use Rattle.correcting.proofs.correct.Goals as goal

-- what the track is given
abbrev g : Start → Given
g c = given_of c.args.measurements.now c.args.delays c.args.corrections

-- the lists' sizes are tested by the rule
sizes-are : (c : After-sizes_wrong) → c.sizes_wrong.result ≡ wrong_sizes (g (goal.at.After-sizes_wrong c).Start)
unfolding wrong_sizes
sizes-are c = c.sizes_wrong.ensures

-- where they have passed
sizes-fit : (c : Else-sizes_wrong) → wrong_sizes (g (goal.at.Else-sizes_wrong c).Start) ≡ false
sizes-fit c = sym (sizes-are (goal.at.Else-sizes_wrong c).After-sizes_wrong) ∙ c.if-sizes_wrong.false

-- and so are the limits of all but the measurements
others-are : (c : After-delays_beyond)
    → c.beyond.result || c.delays_beyond.result ≡ others_beyond (g (goal.at.After-delays_beyond c).Start)
unfolding others_beyond
others-are c = ap₂ ◌||◌ c.beyond.ensures c.delays_beyond.ensures

pub returns-then-sizes_wrong : goal.returns-then-sizes_wrong
returns-then-sizes_wrong c =
    let r = sizes-refused (g (goal.at.returns-then-sizes_wrong c).Start) (sym (sizes-are (goal.at.returns-then-sizes_wrong c).After-sizes_wrong) ∙ c.if-sizes_wrong.true) in record {
      answer = r.0;
      a_after = rw r.1 (filled_none _ _);
      b_after = rw r.1 (filled_none _ _);
      c_after = rw r.1 (filled_none _ _);
      d_after = rw r.1 (filled_none _ _);
    }

pub beyond-requires : goal.beyond-requires
beyond-requires c =
    let z = sized (g (goal.at.beyond-requires c).Start) (sizes-fit c) in
    (z.size-relativity, z.size-ionosphere, z.size-troposphere, z.size-clock)

pub returns-then-beyond-delays_beyond : goal.returns-then-beyond-delays_beyond
returns-then-beyond-delays_beyond c =
    let p = goal.at.returns-then-beyond-delays_beyond c in
    let r = others-refused (g p.Start) (sizes-fit p.Else-sizes_wrong) (sym (others-are p.After-delays_beyond) ∙ c.if-beyond-delays_beyond.true) in record {
      answer = r.0;
      a_after = rw r.1 (filled_none _ _);
      b_after = rw r.1 (filled_none _ _);
      c_after = rw r.1 (filled_none _ _);
      d_after = rw r.1 (filled_none _ _);
    }

pub correct_blocks-requires : goal.correct_blocks-requires
correct_blocks-requires c =
    let p = goal.at.correct_blocks-requires c in record {
      sizes_right = sizes-fit p.Else-sizes_wrong;
      others_inside = sym (others-are p.After-delays_beyond) ∙ c.if-beyond-delays_beyond.false;
    }

pub returns : goal.returns
returns c =
    let p = goal.at.returns c in
    let r = by-measurements (g p.Start) (sizes-fit p.Else-sizes_wrong) (sym (others-are p.After-delays_beyond) ∙ c.if-beyond-delays_beyond.false) in record {
      answer = c.correct_blocks.ensures.answer ∙ r.0;
      a_after = rw r.1 c.correct_blocks.ensures.a_after;
      b_after = rw r.1 c.correct_blocks.ensures.b_after;
      c_after = rw r.1 c.correct_blocks.ensures.c_after;
      d_after = rw r.1 c.correct_blocks.ensures.d_after;
    }
