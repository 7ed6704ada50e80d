-- `correcting::correction::correct_blocks` meets its contract: after so many turns the blocks so far are read and inside, and their values stand in the rows.
-- Assumes nothing.
use mathlib.Core.Path.{◌≡◌}
use Prim.Native.Nat.{ℕ, ◌*◌, ◌≤◌}
use lib.ListN.{length, drop}
use Rattle.std.specs.Iterator.Adapters.{enumerate_source, enumerate_count}
use Rattle.std.specs.Slice.Iter.{chunks_exact_rest, chunks_exact_size}
use Rattle.exact.specs.Corrected.{Given}
use Rattle.correcting.specs.declared.correction.Rows.{Rows}
use Rattle.correcting.specs.Correct.{value_a, value_b, value_c, value_d}
use Rattle.correcting.specs.Given.{given_of}
use Rattle.correcting.specs.Answer.{filled}
use Rattle.correcting.proofs.Parts.{Passed}
use Rattle.correcting.proofs.correction.correct_blocks.Given as goal

-- the rows after k blocks
pub record AreFilled (g : Given) (k : ℕ) (old new : Rows) : Type 0 where
  pub a_is : new.a ≡ filled k (value_a g) old.a
  pub b_is : new.b ≡ filled k (value_b g) old.b
  pub c_is : new.c ≡ filled k (value_c g) old.c
  pub d_is : new.d ≡ filled k (value_d g) old.d

abbrev pub invariant-loop-j : goal.invariant-loop-j
invariant-loop-j l =
    let chunks = enumerate_source l.j-iterator in
    let k = enumerate_count l.j-iterator in record {
      next : (goal.iterator-loop-j).can_next l.j-iterator;
      finite : (goal.iterator-loop-j).is_finite l.j-iterator;
      size : chunks_exact_size chunks ≡ 15;
      rest : chunks_exact_rest chunks ≡ drop (15 * k) l.measurements;
      few : 15 * k ≤ length l.measurements;
      count : l.read ≡ 15 * k;
      inside : Passed l.measurements k;
      rows : AreFilled (given_of l.measurements l.delays l.corrections) k l.initial.rows l.rows;
    }
