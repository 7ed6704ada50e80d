-- A shared offset drops out of the common view report (document 02, Job 7): the line files that `day` makes of hire blocks that are shifted alike.
-- Assumes nothing.
use mathlib.Core.Path.{◌≡◌, refl, sym, ap, ap₂, ◌∙◌}
use mathlib.Core.Bool.{Bool, true, false, cond, ◌||◌}
use mathlib.Core.List.{List, [], ◌∷◌, ◌++◌, map}
use Prim.Native.Nat.{ℕ, suc, ◌*◌, ◌<◌}
use native.Mathlib.Omega.{arith}
use lib.Dec.{ltb, eqb}
use lib.IntN.{ℤ, nat_abs, ◌+ℤ◌, ◌-ℤ◌}
use lib.ListN.{length, get_or}
use Rattle.limits.specs.Refusal.{◌when◌, ◌then◌}
use Rattle.limits.specs.Reply.{reply}
use Rattle.limits.specs.declared.Numbers.{Numbers}
use Rattle.exact.specs.Corrected.{Given}
use Rattle.fit.specs.Track.{results}
use Rattle.columns.specs.Text.{line_length, ended_length}
use Rattle.hire.specs.Hire.{block_given}
use Rattle.line.proofs.AcceptedBlocks.{track-accepts}
use Rattle.linefile.specs.Files.{lines, same, keys_of, keys, file_number}
use Rattle.linefile.specs.Partners.{partners_of, partners}
use Rattle.viewing.specs.View.{trkl_of, refsys_of, same_trkl, pairs_of, differences, viewed, figures, longest, view_number_lem, view_rule}
use Rattle.viewing.proofs.Pairing.{view-append, firsts, seconds}
use Rattle.linefile.proofs.Ascending.{All}
use Rattle.day.specs.Day.{blocks_of, ended_line, day_file}
use Rattle.day.proofs.Lines.{labels-are, numbers-are, lines-of, length-of}
use Rattle.day.proofs.Verdicts.{AcceptedBlock, all-accepted}
use Rattle.day.proofs.DayFile.{Classed, all-classed, day-file}
use Rattle.offset.specs.Shifted.{ShiftedBlock, ShiftedDay}
use Rattle.offset.proofs.Tracks.{results-move, drops}

-- ---- two lines of which the second is that of the shifted block

-- A block before and after a shift by k, accepted both times.
record ShiftedPair (k : ℤ) (pair : List ℕ × List ℕ) : Type 0 where
  pub before : AcceptedBlock pair.0
  pub after : AcceptedBlock pair.1
  pub before_class : Classed pair.0
  pub after_class : Classed pair.1
  pub moved : ShiftedBlock k pair.0 pair.1

record Alike (k : ℤ) (lines : List ℕ × List ℕ) : Type 0 where
  pub keys : keys lines.1 ≡ keys lines.0
  pub trkl : trkl_of lines.1 ≡ trkl_of lines.0
  pub refsys : refsys_of lines.1 ≡ refsys_of lines.0 +ℤ k

abbrev lines_of : List ℕ × List ℕ → List ℕ × List ℕ
lines_of pair = (ended_line pair.0, ended_line pair.1)

alike : (k : ℤ) (pair : List ℕ × List ℕ) → ShiftedPair k pair → Alike k (lines_of pair)
unfolding keys trkl_of refsys_of
alike k pair s =
    let l = labels-are pair.0 s.before s.before_class in
    let l' = labels-are pair.1 s.after s.after_class in
    let n = numbers-are pair.0 s.before s.before_class in
    let n' = numbers-are pair.1 s.after s.after_class ∙ ap (λ (g : Given). (results g).numbers) s.moved.given in
    let m = results-move k (block_given pair.0) (track-accepts pair.0 line_length s.before) in
    record {
      keys = ap keys_of (l' ∙ s.moved.labels ∙ sym l);
      trkl = ap nat_abs (ap (λ (x : Numbers). x.trkl) n' ∙ m.trkl ∙ sym (ap (λ (x : Numbers). x.trkl) n));
      refsys = ap (λ (x : Numbers). x.refsys) n' ∙ m.refsys ∙ sym (ap (λ (x : Numbers). x.refsys +ℤ k) n);
    }

-- ---- lists of such lines

-- two lines of the same keys
level-viewed : (k : ℤ) (x y : List ℕ × List ℕ) → Alike k x → Alike k y
    → differences (same_trkl ((x.1, y.1) ∷ [])) ≡ differences (same_trkl ((x.0, y.0) ∷ []))
unfolding same_trkl differences
level-viewed k x y a b =
    ap₂ (λ (m n : ℕ). differences (cond (eqb m n) ((x.1, y.1) ∷ []) [] ++ [])) a.trkl b.trkl ∙ by-trkl (eqb (trkl_of x.0) (trkl_of y.0))
  where
    same-difference : refsys_of x.1 -ℤ refsys_of y.1 ≡ refsys_of x.0 -ℤ refsys_of y.0
    same-difference = ap₂ ◌-ℤ◌ a.refsys b.refsys ∙ drops (refsys_of x.0) (refsys_of y.0) k

    by-trkl : (t : Bool) → differences (cond t ((x.1, y.1) ∷ []) [] ++ []) ≡ differences (cond t ((x.0, y.0) ∷ []) [] ++ [])
    by-trkl true = ap (λ (d : ℤ). d ∷ []) same-difference
    by-trkl false = refl

-- two lines
pair-viewed : (k : ℤ) (x y : List ℕ × List ℕ) → Alike k x → Alike k y
    → differences (same_trkl (cond (same (keys x.1) (keys y.1)) ((x.1, y.1) ∷ []) [])) ≡ differences (same_trkl (cond (same (keys x.0) (keys y.0)) ((x.0, y.0) ∷ []) []))
pair-viewed k x y a b =
    ap₂ (λ (u v : List ℕ). differences (same_trkl (cond (same u v) ((x.1, y.1) ∷ []) []))) a.keys b.keys ∙ by-keys (same (keys x.0) (keys y.0))
  where
    by-keys : (t : Bool) → differences (same_trkl (cond t ((x.1, y.1) ∷ []) [])) ≡ differences (same_trkl (cond t ((x.0, y.0) ∷ []) []))
    by-keys true = level-viewed k x y a b
    by-keys false = refl

-- a line and its partners
one-viewed : (k : ℤ) (x : List ℕ × List ℕ) → Alike k x → (ys : List (List ℕ × List ℕ)) → All (Alike k) ys
    → differences (same_trkl (partners_of x.1 (seconds ys))) ≡ differences (same_trkl (partners_of x.0 (firsts ys)))
unfolding partners_of
one-viewed k x a [] b = refl
one-viewed k x a (y ∷ ys) b =
    view-append (cond (same (keys x.1) (keys y.1)) ((x.1, y.1) ∷ []) []) (partners_of x.1 (seconds ys))
    ∙ ap₂ ◌++◌ (pair-viewed k x y a b.0) (one-viewed k x a ys b.1)
    ∙ sym (view-append (cond (same (keys x.0) (keys y.0)) ((x.0, y.0) ∷ []) []) (partners_of x.0 (firsts ys)))

all-viewed : (k : ℤ) (xs ys : List (List ℕ × List ℕ)) → All (Alike k) xs → All (Alike k) ys
    → differences (same_trkl (partners (seconds xs) (seconds ys))) ≡ differences (same_trkl (partners (firsts xs) (firsts ys)))
unfolding partners
all-viewed k [] ys a b = refl
all-viewed k (x ∷ xs) ys a b =
    view-append (partners_of x.1 (seconds ys)) (partners (seconds xs) (seconds ys))
    ∙ ap₂ ◌++◌ (one-viewed k x a.0 ys b) (all-viewed k xs ys a.1 b)
    ∙ sym (view-append (partners_of x.0 (firsts ys)) (partners (firsts xs) (firsts ys)))

-- ---- the days

-- the blocks of two days, each with its own of the other
abbrev zipped : (xs ys : List (List ℕ)) → List (List ℕ × List ℕ)
zipped [] ys = []
zipped (x ∷ xs) [] = []
zipped (x ∷ xs) (y ∷ ys) = (x, y) ∷ zipped xs ys

-- What is known of two such lists of blocks.
record Shifted (k : ℤ) (xs ys : List (List ℕ)) : Type 0 where
  pub before : All AcceptedBlock xs
  pub after : All AcceptedBlock ys
  pub before_classes : All Classed xs
  pub after_classes : All Classed ys
  pub count : length ys ≡ length xs
  pub moved : (i : ℕ) → i < length xs → ShiftedBlock k (get_or xs i []) (get_or ys i [])

rest : (k : ℤ) (x y : List ℕ) (xs ys : List (List ℕ)) → Shifted k (x ∷ xs) (y ∷ ys) → Shifted k xs ys
rest k x y xs ys s =
    record {
      before = s.before.1;
      after = s.after.1;
      before_classes = s.before_classes.1;
      after_classes = s.after_classes.1;
      count = omega (arith, s.count);
      moved = λ i h. s.moved (suc i) (omega arith);
    }

lines-alike : (k : ℤ) (xs ys : List (List ℕ)) → Shifted k xs ys → All (Alike k) (map lines_of (zipped xs ys))
lines-alike k [] ys s = tt
lines-alike k (x ∷ xs) [] s = tt
lines-alike k (x ∷ xs) (y ∷ ys) s = (
  alike k (x, y)
      (record {
        before = s.before.0;
        after = s.after.0;
        before_class = s.before_classes.0;
        after_class = s.after_classes.0;
        moved = s.moved 0 (omega arith);
      }),
  lines-alike k xs ys (rest k x y xs ys s),
)

ended-first : (k : ℤ) (xs ys : List (List ℕ)) → Shifted k xs ys → map ended_line xs ≡ firsts (map lines_of (zipped xs ys))
ended-first k [] ys s = refl
ended-first k (x ∷ xs) [] s = absurd (omega (arith, s.count))
ended-first k (x ∷ xs) (y ∷ ys) s =
    ap (λ (t : List (List ℕ)). ended_line x ∷ t) (ended-first k xs ys (rest k x y xs ys s))

ended-second : (k : ℤ) (xs ys : List (List ℕ)) → Shifted k xs ys → map ended_line ys ≡ seconds (map lines_of (zipped xs ys))
ended-second k [] [] s = refl
ended-second k [] (y ∷ ys) s = absurd (omega (arith, s.count))
ended-second k (x ∷ xs) [] s = absurd (omega (arith, s.count))
ended-second k (x ∷ xs) (y ∷ ys) s =
    ap (λ (t : List (List ℕ)). ended_line y ∷ t) (ended-second k xs ys (rest k x y xs ys s))

module _ (k : ℤ) (before after : List ℕ) (s : ShiftedDay k before after) where
  shifted-blocks : Shifted k (blocks_of before) (blocks_of after)
  shifted-blocks =
      record {
        before = (all-accepted [] 0 (blocks_of before) s.before_accepted).0;
        after = (all-accepted [] 0 (blocks_of after) s.after_accepted).0;
        before_classes = all-classed before s.before_bytes;
        after_classes = all-classed after s.after_bytes;
        count = s.count;
        moved = s.moved;
      }

  abbrev pairs : List (List ℕ × List ℕ)
  pairs = map lines_of (zipped (blocks_of before) (blocks_of after))

  pairs-alike : All (Alike k) pairs
  pairs-alike = lines-alike k (blocks_of before) (blocks_of after) shifted-blocks

  lines-before : lines (day_file before) ≡ firsts pairs
  lines-before = lines-of (blocks_of before) ∙ ended-first k (blocks_of before) (blocks_of after) shifted-blocks

  lines_after : lines (day_file after) ≡ seconds pairs
  lines_after = lines-of (blocks_of after) ∙ ended-second k (blocks_of before) (blocks_of after) shifted-blocks

  length-stays : length (day_file after) ≡ length (day_file before)
  length-stays =
      length-of (blocks_of after) ∙ ap (λ (n : ℕ). ended_length * n) s.count ∙ sym (length-of (blocks_of before))

  -- both are line files
  file-stays : file_number (day_file after) ≡ file_number (day_file before)
  file-stays = day-file after s.after_bytes s.after_accepted ∙ sym (day-file before s.before_bytes s.before_accepted)

module _ (k : ℤ) (a a' b b' : List ℕ) (s : ShiftedDay k a a') (t : ShiftedDay k b b') where
  -- The list of the differences of the files of two days that are shifted alike stays.
  pub differences-stay : viewed (day_file a') (day_file b') ≡ viewed (day_file a) (day_file b)
  unfolding viewed pairs_of
  differences-stay =
      ap₂ (λ (x y : List (List ℕ)). differences (same_trkl (partners x y))) (lines_after k a a' s) (lines_after k b b' t)
      ∙ all-viewed k (pairs k a a' s) (pairs k b b' t) (pairs-alike k a a' s) (pairs-alike k b b' t)
      ∙ ap₂ (λ (x y : List (List ℕ)). differences (same_trkl (partners x y))) (sym (lines-before k a a' s)) (sym (lines-before k b b' t))

  number-stays : view_number_lem (day_file a') (day_file b') ≡ view_number_lem (day_file a) (day_file b)
  unfolding view_number_lem
  number-stays =
      λ i. 19 when (ltb longest (length-stays k a a' s i) || ltb longest (length-stays k b b' t i))
      then file-stays k a a' s i
      then file-stays k b b' t i
      then 18 when eqb (length (differences-stay i)) 0

  -- So the whole report stays, and where it is refused the refusal.
  pub report-stays : view_rule (day_file a') (day_file b') ≡ view_rule (day_file a) (day_file b)
  unfolding view_rule
  report-stays = λ i. reply (figures []) (number-stays i) (figures (differences-stay i))
