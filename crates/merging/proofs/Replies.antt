-- What merge answers, and what stands in the lent file afterwards (specs/Merge.antt), where it is refused and where it is not.
-- Assumes nothing.
use mathlib.Core.Path.{◌≡◌, sym, ap, ap₂, ◌∙◌}
use mathlib.Core.Bool.{Bool}
use mathlib.Core.List.{List, ◌++◌}
use native.Mathlib.Omega.{arith}
use Prim.Native.Nat.{ℕ, ◌≤◌, ◌<◌}
use lib.Dec.{ltb, lit<}
use lib.ListN.{length, drop}
use borrow.Author.Tests.{lt-ltb, le-ltb}
use Rattle.limits.specs.Refusal.{◌when◌, ◌then◌}
use Rattle.limits.specs.Reply.{Reply, reply}
use Rattle.limits.proofs.Laws.{then-refused, then-passed, then-assoc, after-accepted}
use Rattle.limits.proofs.Replies.{reply-accepted, refused-reply, reply-number, reply-values}
use Rattle.linefile.specs.Files.{lines, file_number}
use Rattle.linefile.specs.Partners.{partners}
use Rattle.merging.specs.Merge.{any_differ, merged_file, measure_rule, merge_number, merge_rule, merge_after}

-- 15 and 17, which are tried where both files are accepted
abbrev pub result_number : (first second : List ℕ) (room : ℕ) → ℕ
result_number first second room =
    15 when any_differ (partners (lines first) (lines second)) then 17 when ltb room (length (merged_file first second))

pub number_is : (first second : List ℕ) (room : ℕ) → file_number first then file_number second ≡ 0
    → merge_number first second room ≡ result_number first second room
unfolding merge_number
number_is first second room z =
    sym (then-assoc (file_number first) (file_number second) (result_number first second room)) ∙ then-passed _ (result_number first second room) z

-- what is measured of two files
pub measure-is : (first second : List ℕ) {xs ys : List (List ℕ)} {r : Reply ℕ} → (xs ≡ lines first) × (ys ≡ lines second) → r ≡ measure_rule xs ys
    → r ≡ reply 0 (15 when any_differ (partners (lines first) (lines second))) (length (merged_file first second))
unfolding measure_rule merged_file
measure-is first second l e = e ∙ ap₂ measure_rule l.0 l.1

module _ (first second lent : List ℕ) where
  -- the answer and the lent file of a refusal
  refused : {number : ℕ} → number ≡ merge_number first second (length lent) → 0 < number
      → (record { number = number; values = 0 } ≡ merge_rule first second (length lent)) × (lent ≡ merge_after first second lent)
  unfolding merge_rule merge_after
  refused e h = refused-reply 0 (length (merged_file first second)) _ lent e h

  pub files-refused : {number : ℕ} → number ≡ file_number first then file_number second → 0 < number
      → (record { number = number; values = 0 } ≡ merge_rule first second (length lent)) × (lent ≡ merge_after first second lent)
  unfolding merge_number
  files-refused {number} e h =
      refused
      (sym (sym (then-assoc (file_number first) (file_number second) (result_number first second (length lent))) ∙ ap (λ (n : ℕ). n then result_number first second (length lent)) (sym e) ∙ then-refused number (result_number first second (length lent)) h))
      h

  module _ (z : file_number first then file_number second ≡ 0) where
    pub differ-refused : {number : ℕ} → record { number = number; values = 0 }
        ≡ reply 0 (15 when any_differ (partners (lines first) (lines second))) (length (merged_file first second))
        → 0 < number → (record { number = number; values = 0 } ≡ merge_rule first second (length lent)) × (lent ≡ merge_after first second lent)
    differ-refused {number} e h =
        let n = ap (λ (t : Reply ℕ). t.number) e ∙ reply-number 0 _ (15 when any_differ (partners (lines first) (lines second))) in
        refused
        (sym (number_is first second (length lent) z ∙ ap (λ (k : ℕ). k then 17 when ltb (length lent) (length (merged_file first second))) (sym n) ∙ then-refused number _ h))
        h

    module _ {bytes : ℕ} (e : record { number = 0; values = bytes }
        ≡ reply 0 (15 when any_differ (partners (lines first) (lines second))) (length (merged_file first second))) where
      abbrev measured : (15 when any_differ (partners (lines first) (lines second)) ≡ 0) × (bytes ≡ length (merged_file first second))
      measured = reply-values 0 (length (merged_file first second)) _ e

      result-is : result_number first second (length lent) ≡ 17 when ltb (length lent) bytes
      result-is = then-passed _ _ measured.0 ∙ ap (λ (n : ℕ). 17 when ltb (length lent) n) (sym measured.1)

      pub room-refused : length lent < bytes
          → (record { number = 17; values = 0 } ≡ merge_rule first second (length lent)) × (lent ≡ merge_after first second lent)
      unfolding ◌when◌
      room-refused h =
          refused (sym (number_is first second (length lent) z ∙ result-is ∙ ap (λ (b : Bool). 17 when b) (lt-ltb (length lent) bytes h))) (lit< tt)

      pub result_fits : bytes ≤ length lent → length (merged_file first second) ≤ length lent
      result_fits h = omega (arith, measured.1)

      pub result-written : {after : List ℕ} → bytes ≤ length lent
          → after ≡ merged_file first second ++ drop (length (merged_file first second)) lent
          → (record { number = 0; values = bytes } ≡ merge_rule first second (length lent)) × (after ≡ merge_after first second lent)
      unfolding merge_rule merge_after ◌when◌
      result-written h w =
          let n = number_is first second (length lent) z ∙ result-is ∙ ap (λ (b : Bool). 17 when b) (le-ltb (length lent) bytes h) in (
            ap (λ (n : ℕ). record { number = 0; values = n }) measured.1 ∙ sym (reply-accepted 0 (length (merged_file first second)) n),
            w ∙ sym (after-accepted _ lent n),
          )
