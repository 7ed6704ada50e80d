-- What the result of two line files is (document 02, Job 5): a line file again, with each line of either exactly once, the same whichever file
-- is the first; a file merged with itself or with an empty one is itself.
-- Assumes nothing.
use mathlib.Core.Path.{◌≡◌, refl, sym, ap, ap₂, subst, ◌∙◌}
use mathlib.Core.Bool.{Bool, true, false, cond, ◌||◌}
use mathlib.Core.List.{List, [], ◌++◌}
use Prim.Native.Nat.{ℕ}
use lib.Dec.{ltb}
use lib.ListN.{length, drop}
use Rattle.limits.specs.Refusal.{◌when◌, ◌then◌, after}
use Rattle.limits.specs.Reply.{reply}
use Rattle.limits.proofs.Laws.{then-passed}
use Rattle.linefile.specs.Files.{lines, file_number, joined}
use Rattle.linefile.specs.Partners.{partners}
use Rattle.merging.specs.Merge.{any_differ, merged, merged_file, merge_number, merge_rule, merge_after}
use Rattle.linefile.proofs.Ascending.{Ascending, All, Accepted}
use Rattle.linefile.proofs.Holding.{holds, times}
use Rattle.linefile.proofs.Lines.{line-file, line-file-zero, whole-lines, no_lines, empty-file}
use Rattle.linefile.proofs.Partners.{partners-nothing}
use Rattle.linefile.proofs.Joined.{lines-joined, joined-lines}
use Rattle.merging.proofs.Steps.{all-merged, merged-ascends, merged-nothing}
use Rattle.merging.proofs.Walking.{merged-long, length_merged}
use Rattle.merging.proofs.Replies.{number_is}
use Rattle.merging.proofs.Merging.{merged-once, merged-swapped, merged-itself, differ-swapped}

-- the lines of the result are the merged ones
pub result-lines : (first second : List ℕ) → lines (merged_file first second) ≡ merged (lines first) (lines second)
unfolding merged_file
result-lines first second = lines-joined (merged (lines first) (lines second)) (merged-long first second)

module _ (first second : List ℕ) (f : file_number first ≡ 0) (g : file_number second ≡ 0) where
  -- it ascends strictly
  pub result-ascends : Ascending [] (lines (merged_file first second))
  result-ascends =
      subst (Ascending []) (sym (result-lines first second)) (merged-ascends [] (lines first) (lines second) (line-file first f).ascends (line-file second g).ascends)

  -- and is a line file, so that it can be merged again
  pub result-file : file_number (merged_file first second) ≡ 0
  result-file =
      line-file-zero (merged_file first second)
      (record {
        whole = whole-lines (length (merged (lines first) (lines second))) (length_merged first second);
        ascends = result-ascends;
        accepted = subst (All Accepted) (sym (result-lines first second)) (all-merged Accepted (lines first) (lines second) (line-file first f).accepted (line-file second g).accepted);
      })

  -- each line of either is in it exactly once, and no other
  pub result-once : any_differ (partners (lines first) (lines second)) ≡ false → (line : List ℕ)
      → times line (lines (merged_file first second)) ≡ cond (holds line (lines first) || holds line (lines second)) 1 0
  result-once e line =
      ap (times line) (result-lines first second)
      ∙ merged-once [] line (lines first) (lines second) (line-file first f).ascends (line-file second g).ascends e

  -- ---- whichever file is the first

  result-swapped : any_differ (partners (lines first) (lines second)) ≡ false → merged_file first second ≡ merged_file second first
  unfolding merged_file
  result-swapped e =
      ap joined (merged-swapped [] (lines first) (lines second) (line-file first f).ascends (line-file second g).ascends e)

  -- what is made of the number and of the result is the same, where 15 leaves the result out
  swapped : {A : Type 0} (made : ℕ → List ℕ → A) → ((a b : List ℕ) → made 15 a ≡ made 15 b) → (room : ℕ)
      → made (merge_number first second room) (merged_file first second) ≡ made (merge_number second first room) (merged_file second first)
  unfolding ◌when◌ ◌then◌
  swapped made refused room = by-test (any_differ (partners (lines first) (lines second))) refl
    where
      number : (one other : List ℕ) → file_number one ≡ 0 → file_number other ≡ 0 → (differ : Bool) → any_differ (partners (lines one) (lines other)) ≡ differ
          → merge_number one other room ≡ 15 when differ then 17 when ltb room (length (merged_file one other))
      number one other d e differ h =
          number_is one other room (then-passed _ (file_number other) d ∙ e) ∙ ap (λ (b : Bool). 15 when b then 17 when ltb room (length (merged_file one other))) h

      by-test : (differ : Bool) → any_differ (partners (lines first) (lines second)) ≡ differ
          → made (merge_number first second room) (merged_file first second) ≡ made (merge_number second first room) (merged_file second first)
      by-test true e =
          ap (λ (n : ℕ). made n (merged_file first second)) (number first second f g true e)
          ∙ refused (merged_file first second) (merged_file second first)
          ∙ ap (λ (n : ℕ). made n (merged_file second first)) (sym (number second first g f true (sym (differ-swapped (lines first) (lines second)) ∙ e)))
      by-test false e =
          ap (λ (n : ℕ). made n (merged_file first second)) (number first second f g false e)
          ∙ ap (λ (b : List ℕ). made (17 when ltb room (length b)) b) (result-swapped e)
          ∙ ap (λ (n : ℕ). made n (merged_file second first)) (sym (number second first g f false (sym (differ-swapped (lines first) (lines second)) ∙ e)))

  pub answer-swapped : (room : ℕ) → merge_rule first second room ≡ merge_rule second first room
  unfolding merge_rule
  answer-swapped room = swapped (λ number bytes. reply 0 number (length bytes)) (λ a b. refl) room

  pub after-swapped : (lent : List ℕ) → merge_after first second lent ≡ merge_after second first lent
  unfolding merge_after
  after-swapped lent =
      swapped (λ number bytes. after number (bytes ++ drop (length bytes) lent) lent) (λ a b. refl) (length lent)

-- ---- with itself, and with an empty file

-- What two files make is this one alone, and only the room is asked for.
pub record Makes (first second file : List ℕ) : Type 0 where
  pub bytes : merged_file first second ≡ file
  pub number : (room : ℕ) → merge_number first second room ≡ 17 when ltb room (length file)

makes : (first second file : List ℕ) → file_number first ≡ 0 → file_number second ≡ 0 → any_differ (partners (lines first) (lines second)) ≡ false
    → merged_file first second ≡ file → Makes first second file
unfolding ◌when◌ ◌then◌
makes first second file f g e b =
    record {
      bytes = b;
      number = λ room. number_is first second room (then-passed _ (file_number second) f ∙ g)
          ∙ ap₂ (λ (d : Bool) (t : List ℕ). 15 when d then 17 when ltb room (length t)) e b;
    }

module _ (file : List ℕ) (f : file_number file ≡ 0) where
  pub with_itself : Makes file file file
  unfolding merged_file
  with_itself =
      let m = merged-itself [] (lines file) (line-file file f).ascends in
      makes file file file f f m.1 (ap joined m.0 ∙ joined-lines file (line-file file f))

  pub with-empty : Makes file [] file
  unfolding merged_file any_differ
  with-empty =
      makes file [] file f empty-file
      (ap (λ (ls : List (List ℕ)). any_differ (partners (lines file) ls)) no_lines ∙ ap any_differ (partners-nothing (lines file)))
      (ap (λ (ls : List (List ℕ)). joined (merged (lines file) ls)) no_lines ∙ ap joined (merged-nothing [] (lines file) (line-file file f).ascends) ∙ joined-lines file (line-file file f))

  pub empty-with : Makes [] file file
  unfolding merged_file merged partners any_differ
  empty-with =
      makes [] file file empty-file f
      (ap (λ (ls : List (List ℕ)). any_differ (partners ls (lines file))) no_lines)
      (ap (λ (ls : List (List ℕ)). joined (merged ls (lines file))) no_lines ∙ joined-lines file (line-file file f))
