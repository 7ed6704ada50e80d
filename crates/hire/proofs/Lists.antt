-- The lists that Track is given out of a block (specs/Hire.antt) are those of its two packed parts.
-- Assumes nothing.
use mathlib.Core.Path.{◌≡◌, ap, ◌∙◌}
use mathlib.Core.List.{List}
use Prim.Native.Nat.{ℕ, ◌+◌, ◌*◌, ◌-◌, ◌/◌, ◌≤◌, ◌<◌}
use native.Mathlib.Omega.{arith}
use borrow.Author.Tests.{eq-eqb, ne_eqb}
use lib.ListN.{length, take, drop, length-drop}
use lib.Seq.{length-take-le}
use Rattle.std.specs.Prelude.{Err}
use Rattle.limits.specs.Limits.{no_numbers}
use Rattle.limits.specs.Numbers.{reply_of}
use Rattle.limits.specs.declared.Delays.{Delays}
use Rattle.limits.specs.declared.refusal.Refusal.{Refusal}
use Rattle.decode.specs.Number.{signed_at_lem, signeds_at}
use Rattle.decode.proofs.Pieces.{signeds-piece, signeds-from}
use Rattle.fit.specs.Found.{found_rule}
use Rattle.fit.specs.Packed.{packed}
use Rattle.hire.specs.Hire.{blocks_in, block_length, delayed_in, given_in, block_given}
use Rattle.hire.specs.Found.{block_track_rule}

-- its delays
abbrev pub delays_in : List ℕ → Delays
delays_in b = record { int = signed_at_lem b 26; cab = signed_at_lem b 34; refdly = signed_at_lem b 42; gd = signed_at_lem b 50 }

-- a block of n that is as long as its sizes make it
module _ (b : List ℕ) (n : ℕ) (whole : length b ≡ block_length n) where
  room : 58 + 120 * n ≤ length b
  room = omega arith

  -- its measurements
  measurements-length : length (take (120 * n) (drop 58 b)) ≡ 120 * n
  measurements-length = let h : 120 * n ≤ length b - 58 = omega arith in length-take-le (120 * n) (drop 58 b) (rw (length-drop 58 b) h)

  measurements-are : signeds_at (take (120 * n) (drop 58 b)) 0 8 (length (take (120 * n) (drop 58 b)) / 8) ≡ signeds_at b 58 8 (15 * n)
  measurements-are =
      let count : length (take (120 * n) (drop 58 b)) / 8 ≡ 15 * n = rw measurements-length (omega arith) in
      ap (signeds_at (take (120 * n) (drop 58 b)) 0 8) count ∙ signeds-piece b 58 (120 * n) room 0 8 (15 * n) (λ i h. within i h)
    where
      within : (i : ℕ) → i < 15 * n → 0 + 8 * i + 8 ≤ 120 * n
      within i h = omega arith

  -- and its groups of corrections
  pub groups-are : length (drop (58 + 120 * n) b) / 40 ≡ n
  groups-are = let e : length b - (58 + 120 * n) ≡ 40 * n = omega arith in ap (λ (k : ℕ). k / 40) (length-drop (58 + 120 * n) b ∙ e) ∙ omega arith

  column-is : (at : ℕ) → signeds_at (drop (58 + 120 * n) b) at 40 (length (drop (58 + 120 * n) b) / 40) ≡ signeds_at b (58 + 120 * n + at) 40 n
  column-is at = ap (signeds_at (drop (58 + 120 * n) b) at 40) groups-are ∙ signeds-from b (58 + 120 * n) room at 40 n

  pub packed-is : packed (take (120 * n) (drop 58 b)) (delays_in b) (drop (58 + 120 * n) b) ≡ given_in n b
  unfolding packed given_in
  packed-is =
      let e : 58 + 120 * n + 0 ≡ 58 + 120 * n = omega arith in
      let first = column-is 0 ∙ ap (λ (k : ℕ). signeds_at b k 40 n) e in
      λ z. delayed_in b (measurements-are z) (first z) (column-is 8 z) (column-is 16 z) (column-is 24 z) (column-is 32 z)

-- the answer by the length
pub whole-found : (b : List ℕ) → length b ≡ block_length (blocks_in b) → found_rule (block_given b) ≡ block_track_rule b
unfolding block_track_rule
whole-found b e = rw (eq-eqb (length b) (block_length (blocks_in b)) e)

pub other-found : (b : List ℕ) → (length b ≡ block_length (blocks_in b) → ⊥) → reply_of no_numbers (Err Refusal.Length) ≡ block_track_rule b
unfolding block_track_rule
other-found b h = rw (ne_eqb (length b) (block_length (blocks_in b)) h)
