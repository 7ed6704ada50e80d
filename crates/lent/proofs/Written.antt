-- A whole written into lent bytes from the first on, one piece behind the other.
-- Assumes nothing.
use mathlib.Core.Path.{◌≡◌, refl, sym, ap, ap₂, subst, ◌∙◌}
use mathlib.Core.List.{List, [], ◌++◌, append_assoc, append-nil}
use Prim.Native.Nat.{ℕ, ◌+◌, ◌≤◌}
use native.Mathlib.Nat.{zero-add}
use native.Mathlib.Omega.{arith}
use lib.ListN.{length, drop, length-append}
use Rattle.lent.specs.Placed.{placed}
use Rattle.lent.proofs.Placing.{placed-none, placed-onto, length-placed}

-- The first of the lent bytes are written: `at` of them, and `left` is still to be written of the whole text.
pub record Written (whole lent now : List ℕ) (at : ℕ) (left : List ℕ) : Type 0 where
  pub text : List ℕ
  pub is : now ≡ placed lent 0 text
  pub long : length text ≡ at
  pub all : text ++ left ≡ whole

pub nothing_written : (whole lent : List ℕ) → Written whole lent lent 0 whole
nothing_written whole lent = record { text = []; is = placed-none lent 0; long = refl; all = refl }

module _ {whole lent now : List ℕ} {at : ℕ} (fits : length whole ≤ length lent) where
  -- what is left fits behind what is written
  pub room : {left : List ℕ} → Written whole lent now at left → (at + length left ≤ length now) × (length now ≡ length lent)
  room {left} w =
      let n = sym (length-append w.text left) ∙ ap length w.all in
      let l = ap length w.is ∙ length-placed lent 0 w.text (omega (arith, n)) in
      (omega (arith, n, l, w.long), l)

  pub more-written : (piece : List ℕ) {left next : List ℕ} → Written whole lent now at (piece ++ left) → next ≡ placed now at piece
      → Written whole lent next (at + length piece) left
  more-written piece {left} w e =
      record {
        text = w.text ++ piece;
        is = e ∙ ap₂ (λ (x : List ℕ) (n : ℕ). placed x n piece) w.is (sym (zero-add at) ∙ ap (λ (n : ℕ). 0 + n) (sym w.long)) ∙ placed-onto lent 0 w.text piece (omega arith);
        long = length-append w.text piece ∙ ap (λ (n : ℕ). n + length piece) w.long;
        all = append_assoc w.text piece left ∙ w.all;
      }

  pub all-written : Written whole lent now at [] → now ≡ whole ++ drop (length whole) lent
  unfolding placed
  all-written w =
      let t : w.text ≡ whole = sym (append-nil w.text) ∙ w.all in
      w.is ∙ ap₂ (λ (x : List ℕ) (n : ℕ). x ++ drop n lent) t (zero-add (length w.text) ∙ ap length t)

-- what is left is written in two pieces
pub rests-written : {whole lent now after last : List ℕ} {at : ℕ} (rest behind : List ℕ) → length whole ≤ length lent
    → Written whole lent now at (rest ++ behind) → after ≡ placed now at rest → last ≡ placed after (at + length rest) behind
    → last ≡ whole ++ drop (length whole) lent
rests-written {whole} {lent} {now} {after} {last} {at} rest behind fits w e f =
    all-written fits
    (more-written fits behind (subst (Written whole lent after (at + length rest)) (sym (append-nil behind)) (more-written fits rest w e)) f)
