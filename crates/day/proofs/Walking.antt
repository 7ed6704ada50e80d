-- The walk over the blocks (specs/Walk.antt): a step, a walk after another, and where it ends.
-- Assumes nothing.
use mathlib.Core.Path.{◌≡◌, refl, sym, ap, ap₂, subst, ◌∙◌}
use mathlib.Core.Bool.{Bool, true, false}
use mathlib.Core.List.{List, [], ◌∷◌, ◌++◌, append_assoc}
use Prim.Native.Nat.{ℕ, ◌+◌, ◌-◌, ◌*◌, ◌≤◌, ◌<◌}
use native.Mathlib.Omega.{arith}
use lib.Dec.{leb}
use lib.ListN.{length, take, drop, length-drop, length-append, drop_of_length-le}
use lib.Seq.{drop-drop, drop-length, length-take-le, take_all}
use native.Mathlib.Nat.{le_refl, ne_of_gt}
use borrow.Author.Tests.{leb-true, leb-false, ltb-false}
use Rattle.lent.specs.Placed.{placed}
use Rattle.lent.proofs.Placing.{placed-none, placed-onto}
use Rattle.columns.specs.Text.{ended_length}
use Rattle.day.specs.Day.{own_length_lem, blocks_of, judged, ended_line, file_of}
use Rattle.day.specs.Answers.{rejects}
use Rattle.day.specs.Walk.{last_keys, next_block, next_number, behind_next, WithinBytes, left, verdict, Walked, goes_on, Wrote}
use Rattle.day.specs.declared.walk.State.{State}
use Rattle.day.specs.declared.Rejected.{Rejected}
use Rattle.day.proofs.Blocks.{blocks-cut, no_blocks}
use Rattle.day.proofs.Verdicts.{judged-passed, judged-refused}
use Rattle.day.proofs.Lines.{length-of, file-none, file-one, file-append}
use Rattle.limits.specs.Numbers.{paper_number}
use Rattle.limits.proofs.Cases.{paper_above_zero}

-- ---- a walk, and one after another

pub walked_none : (bytes : List ℕ) (s : State) → WithinBytes bytes s → Walked bytes s s []
walked_none bytes s w = record { within = w; counted = omega arith; cut = refl; same = refl }

pub walked_on : (bytes : List ℕ) (s t r : State) {seen more : List (List ℕ)} → Walked bytes s t seen → Walked bytes t r more → Walked bytes s r (seen ++ more)
walked_on bytes s t r {seen} {more} w v =
    record {
      within = v.within;
      counted = omega (arith, w.counted, v.counted, length-append seen more);
      cut = w.cut ∙ ap (λ (l : List (List ℕ)). seen ++ l) v.cut ∙ sym (append_assoc seen more (left bytes r));
      same = w.same ∙ v.same;
    }

-- ---- one step

-- some bytes are taken, as far as there are any
record Taken (l : List ℕ) (n : ℕ) : Type 0 where
  pub some : 0 < length (take n l)
  pub most : length (take n l) ≤ length l
  pub rest : drop n l ≡ drop (length (take n l)) l

take-some : (l : List ℕ) (n : ℕ) → 0 < n → 0 < length l → Taken l n
take-some l n h k = by-test (leb n (length l)) refl
  where
    by-test : (b : Bool) → leb n (length l) ≡ b → Taken l n
    by-test true e =
        let t = length-take-le n l (leb-true n (length l) e) in
        record { some = rw t h; most = rw t (leb-true n (length l) e); rest = rw t }
    by-test false e =
        let f : length l ≤ n = lower (leb-false n (length l) e) in
        let t = ap length (take_all n l f) in
        record { some = rw t k; most = rw t (le_refl _); rest = drop_of_length-le l f ∙ sym (ap (λ (m : ℕ). drop m l) t ∙ drop-length l) }
      where
        lower : length l < n → length l ≤ n
        lower h = omega arith

module _ (bytes : List ℕ) (s : State) (w : WithinBytes bytes s) (h : s.at < length bytes) where
  -- what is left are the next block and those behind it
  left_cut : left bytes s ≡ next_block bytes s ∷ blocks_of (drop (own_length_lem (drop s.at bytes)) (drop s.at bytes))
  left_cut = blocks-cut (drop s.at bytes) (rw length-drop (omega arith))

  taken : Taken (drop s.at bytes) (own_length_lem (drop s.at bytes))
  taken = take-some (drop s.at bytes) (own_length_lem (drop s.at bytes)) (long _) (rw length-drop (omega arith))
    where
      long : (n : ℕ) → 0 < 58 + 160 * n
      long n = omega arith

  -- the blocks behind it
  left_behind : (r : State) → r.at ≡ s.at + length (next_block bytes s) → left bytes s ≡ next_block bytes s ∷ left bytes r
  left_behind r e =
      left_cut
      ∙ ap (λ (l : List ℕ). next_block bytes s ∷ blocks_of l)
      (taken.rest ∙ drop-drop (length (next_block bytes s)) s.at bytes ∙ ap (λ (n : ℕ). drop n bytes) (sym e))

  inside : s.at + length (next_block bytes s) ≤ length bytes
  inside = omega (arith, taken.most, length-drop s.at bytes, w.inside)

  -- the next block is passed
  step-passed : next_number bytes s ≡ 0 → Walked bytes s (behind_next bytes s) (next_block bytes s ∷ [])
  step-passed e =
      let behind = left_behind (behind_next bytes s) refl in
      record {
        within = record { inside = inside; few = omega (arith, taken.some, w.few) };
        counted = refl;
        cut = behind;
        same =
            ap (judged (last_keys s.last) s.count) behind
            ∙ judged-passed (last_keys s.last) s.count (next_block bytes s) (left bytes (behind_next bytes s)) e;
      }

  -- or it is refused
  pub step-refused : (r : Rejected) → (next_number bytes s ≡ paper_number r.refusal) × (r.block ≡ s.count) → verdict bytes s ≡ rejects r
  step-refused r e =
      ap (judged (last_keys s.last) s.count) left_cut
      ∙ judged-refused (last_keys s.last) s.count (next_block bytes s) _ (λ z. ne_of_gt (paper_above_zero r.refusal) (sym e.0 ∙ z))
      ∙ (λ i. record { refusal = e.0 i; block = sym e.1 i })

-- what a step does that is not refused
pub record Stepped (bytes : List ℕ) (s r : State) : Type 0 where
  pub walked : Walked bytes s r (next_block bytes s ∷ [])
  pub less : length bytes - r.at < length bytes - s.at

pub stepped : (bytes : List ℕ) (s r : State) → WithinBytes bytes s → s.at < length bytes → (next_number bytes s ≡ 0) × (r ≡ behind_next bytes s)
    → Stepped bytes s r
stepped bytes s r w h e =
    record {
      walked = subst (λ (t : State). Walked bytes s t (next_block bytes s ∷ [])) (sym e.1) (step-passed bytes s w h e.0);
      less = omega (arith, ap (λ (t : State). t.at) e.1, (taken bytes s w h).some);
    }

-- ---- lines written

-- no lines placed
nothing : (file : List ℕ) (at : ℕ) → file ≡ placed file at (file_of [])
nothing file at = placed-none file at ∙ ap (placed file at) (sym file-none)

pub wrote_none : (bytes : List ℕ) (s : State) (file : List ℕ) → WithinBytes bytes s → ended_length * s.count ≤ length file → Wrote bytes s s file file
wrote_none bytes s file w h =
    record { seen = []; walked = walked_none bytes s w; text = nothing file (ended_length * s.count); room = h }

pub wrote_on : (bytes : List ℕ) (s t r : State) (lent file kept line : List ℕ) → ended_length * s.count ≤ length lent
    → Wrote bytes s t lent file → Walked bytes t r (next_block bytes t ∷ []) → line ≡ ended_line (next_block bytes t)
    → kept ≡ placed file (ended_length * t.count) line → ended_length * r.count ≤ length lent → Wrote bytes s r lent kept
wrote_on bytes s t r lent file kept line h w v l e k =
    record {
      seen = w.seen ++ more;
      walked = walked_on bytes s t r w.walked v;
      text =
          e
          ∙ ap (placed file (ended_length * t.count)) (l ∙ sym (file-one (next_block bytes t)))
          ∙ ap₂ (λ (f : List ℕ) (n : ℕ). placed f n (file_of more)) w.text behind
          ∙ placed-onto lent (ended_length * s.count) (file_of w.seen) (file_of more) h
          ∙ ap (placed lent (ended_length * s.count)) (sym (file-append w.seen more));
      room = k;
    }
  where
    more : List (List ℕ)
    more = next_block bytes t ∷ []

    behind : ended_length * t.count ≡ ended_length * s.count + length (file_of w.seen)
    behind = omega (arith, w.walked.counted, length-of w.seen)

-- ---- where a walk ends

pub none-left : (bytes : List ℕ) (r : State) → goes_on bytes r ≡ false → left bytes r ≡ []
none-left bytes r e = ap blocks_of (drop_of_length-le bytes (ltb-false _ _ e)) ∙ no_blocks

pub verdict-end : (bytes : List ℕ) (r : State) → goes_on bytes r ≡ false → verdict bytes r ≡ record { refusal = 0; block = r.count }
unfolding judged
verdict-end bytes r e = ap (judged (last_keys r.last) r.count) (none-left bytes r e)
