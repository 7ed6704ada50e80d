-- A day in parts (specs/Day.antt): a set that is accepted is accepted in parts, and their files one behind the other are its file; two parts that are
-- accepted and have one block in common make a set that is.
-- Assumes nothing.
use mathlib.Core.Path.{◌≡◌, refl, sym, ap, ap₂, subst, ◌∙◌}
use mathlib.Core.List.{List, [], ◌∷◌, ◌++◌}
use Prim.Native.Nat.{ℕ}
use lib.ListN.{drop}
use lib.Seq.{drop_at}
use Rattle.columns.specs.Text.{line_length, ended_length}
use Rattle.line.proofs.AcceptedBlocks.{sizes-accepted}
use Rattle.linefile.specs.Files.{joined}
use Rattle.linefile.proofs.Ascending.{All, all_map}
use Rattle.linefile.proofs.Joined.{joined-append}
use Rattle.day.specs.Day.{blocks_of, judged, day_verdict, ended_line, file_of, day_file}
use Rattle.day.proofs.Lines.{all-long, file-append}
use Rattle.day.proofs.Verdicts.{AcceptedBlock, Ascends, all-accepted, accepted-all, apart, overlapped}
use Rattle.day.proofs.Cutting.{Sized, blocks-joined, joined-blocks}

-- accepted blocks back to back are cut into themselves, and are accepted where they ascend
part-blocks : (bs : List (List ℕ)) → All AcceptedBlock bs → blocks_of (joined bs) ≡ bs
part-blocks bs a = joined-blocks bs (all_map AcceptedBlock Sized (λ b e. sizes-accepted b line_length e) bs a)

part-accepted : (bs : List (List ℕ)) → All AcceptedBlock bs → Ascends [] bs → (day_verdict (joined bs)).refusal ≡ 0
part-accepted bs a h =
    ap (λ (l : List (List ℕ)). (judged [] 0 l).refusal) (part-blocks bs a) ∙ accepted-all [] 0 bs a h

-- A day whose blocks are some and more, back to back.
module _ (bytes : List ℕ) (first second : List (List ℕ)) (cut : blocks_of bytes ≡ first ++ second) where
  pub parts-joined : joined first ++ joined second ≡ bytes
  parts-joined = sym (joined-append first second) ∙ ap joined (sym cut) ∙ blocks-joined bytes

  module _ (e : (day_verdict bytes).refusal ≡ 0) where
    parts : (All AcceptedBlock first × Ascends [] first) × (All AcceptedBlock second × Ascends [] second)
    parts =
        let a = all-accepted [] 0 (first ++ second) (subst (λ (l : List (List ℕ)). (judged [] 0 l).refusal ≡ 0) cut e) in
        apart [] first second a.0 a.1

    -- each part is accepted
    pub parts-accepted : ((day_verdict (joined first)).refusal ≡ 0) × ((day_verdict (joined second)).refusal ≡ 0)
    parts-accepted = (part-accepted first parts.0.0 parts.0.1, part-accepted second parts.1.0 parts.1.1)

    -- and their files make its file
    pub parts-file : day_file bytes ≡ day_file (joined first) ++ day_file (joined second)
    parts-file =
        ap file_of cut
        ∙ file-append first second
        ∙ ap₂ (λ (x y : List (List ℕ)). file_of x ++ file_of y) (sym (part-blocks first parts.0.0)) (sym (part-blocks second parts.1.0))

-- Two parts that are accepted, the last block of one being the first of the other.
module _ (xs : List (List ℕ)) (b : List ℕ) (ys : List (List ℕ)) (e : (judged [] 0 (xs ++ b ∷ [])).refusal ≡ 0) (f : (judged [] 0 (b ∷ ys)).refusal ≡ 0) where
  whole : All AcceptedBlock (xs ++ b ∷ ys) × Ascends [] (xs ++ b ∷ ys)
  whole =
      let p = all-accepted [] 0 (xs ++ b ∷ []) e in
      let q = all-accepted [] 0 (b ∷ ys) f in
      overlapped [] xs b ys p.0 p.1 q.0 q.1

  -- all blocks are accepted
  pub overlap-accepted : (day_verdict (joined (xs ++ b ∷ ys))).refusal ≡ 0
  overlap-accepted = part-accepted (xs ++ b ∷ ys) whole.0 whole.1

  -- and the file is that of the one part, then that of the other without its first line
  pub overlap-file : file_of (xs ++ b ∷ ys) ≡ file_of (xs ++ b ∷ []) ++ drop ended_length (file_of (b ∷ ys))
  unfolding file_of joined
  overlap-file =
      ap file_of (split xs)
      ∙ file-append (xs ++ b ∷ []) ys
      ∙ ap (λ (l : List ℕ). file_of (xs ++ b ∷ []) ++ l) (sym (drop_at (ended_line b) (file_of ys) ended_length (all-long (b ∷ [])).0))
    where
      split : (zs : List (List ℕ)) → zs ++ b ∷ ys ≡ (zs ++ b ∷ []) ++ ys
      split [] = refl
      split (z ∷ zs) = ap (λ (l : List (List ℕ)). z ∷ l) (split zs)
