-- 10 is retired, and no answer of a day at once changed (document 02, Job 14): its rule as it was while Track tried 10, and that it gives the same as
-- the rule of today, for all bytes and every lent file.
-- Assumes nothing.
use mathlib.Core.Path.{◌≡◌, refl, ap}
use mathlib.Core.Bool.{cond, not}
use mathlib.Core.List.{List, [], ◌∷◌, ◌++◌}
use Prim.Native.Nat.{ℕ, ◌+◌}
use lib.Dec.{ltb, eqb}
use lib.ListN.{length, drop}
use Rattle.limits.specs.Refusal.{◌when◌, ◌then◌, after}
use Rattle.columns.specs.Text.{line_length}
use Rattle.linefile.specs.Files.{before}
use Rattle.line.proofs.Retired.{block_answer_with_10, block-stays}
use Rattle.day.specs.Day.{Written, Bytes, Refused, blocks_of, block_keys, behind_number, Verdict, judged, day_file, day_number, day_rule, day_after}

abbrev behind_with_10 : (last block : List ℕ) → ℕ
behind_with_10 last b = block_answer_with_10 b line_length then 16 when not (before last (block_keys b))

unfoldable pub judged_with_10 : (last : List ℕ) (index : ℕ) → List (List ℕ) → Verdict
judged_with_10 last index [] = record { refusal = 0; block = index }
judged_with_10 last index (b ∷ rest) =
    cond (eqb (behind_with_10 last b) 0)
    (judged_with_10 (block_keys b) (index + 1) rest)
    (record { refusal = behind_with_10 last b; block = index })

-- What a verdict comes to: the number, the answer, and the lent file afterwards.
module _ (v : Verdict) (bytes : List ℕ) where
  abbrev number_by : (room : ℕ) → ℕ
  number_by room = v.refusal then 9 when ltb room (length (day_file bytes))

  abbrev rule_by : (room : ℕ) → Written
  rule_by room = cond (eqb (number_by room) 0) (Bytes (length (day_file bytes))) (Refused (number_by room) v.block)

  abbrev after_by : (lent : List ℕ) → List ℕ
  after_by lent = after (number_by (length lent)) (day_file bytes ++ drop (length (day_file bytes)) lent) lent

abbrev pub day_rule_with_10 : (bytes : List ℕ) (room : ℕ) → Written
day_rule_with_10 bytes room = rule_by (judged_with_10 [] 0 (blocks_of bytes)) bytes room

abbrev pub day_after_with_10 : (bytes lent : List ℕ) → List ℕ
day_after_with_10 bytes lent = after_by (judged_with_10 [] 0 (blocks_of bytes)) bytes lent

behind-stays : (last b : List ℕ) → behind_with_10 last b ≡ behind_number last b
behind-stays last b = ap (λ (k : ℕ). k then 16 when not (before last (block_keys b))) (block-stays b line_length)

pub verdict-stays : (last : List ℕ) (index : ℕ) (blocks : List (List ℕ)) → judged_with_10 last index blocks ≡ judged last index blocks
unfolding judged_with_10 judged
verdict-stays last index [] = refl
verdict-stays last index (b ∷ rest) =
    λ i. cond (eqb (behind-stays last b i) 0)
    (verdict-stays (block_keys b) (index + 1) rest i)
    (record { refusal = behind-stays last b i; block = index })

pub day-stays : (bytes : List ℕ) (room : ℕ) → day_rule_with_10 bytes room ≡ day_rule bytes room
unfolding day_rule day_number
day-stays bytes room = ap (λ (v : Verdict). rule_by v bytes room) (verdict-stays [] 0 (blocks_of bytes))

pub file-stays : (bytes lent : List ℕ) → day_after_with_10 bytes lent ≡ day_after bytes lent
unfolding day_after day_number
file-stays bytes lent = ap (λ (v : Verdict). after_by v bytes lent) (verdict-stays [] 0 (blocks_of bytes))
