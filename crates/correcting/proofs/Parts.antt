-- The limit test on a track's measurements, block by block (specs/Scan.antt of limits): where the first blocks are inside, the rest tells; else they do.
-- Assumes nothing.
use mathlib.Core.Path.{◌≡◌, refl, sym, ap, ◌∙◌}
use mathlib.Core.Bool.{Bool, true, false, cond}
use mathlib.Core.List.{List, [], ◌++◌}
use Prim.Native.Nat.{ℕ, ◌+◌, ◌*◌, ◌/◌, ◌≤◌, ◌<◌}
use native.Mathlib.Nat.{zero-add, le_trans, min-le_left, min-le_right}
use native.Mathlib.Omega.{arith}
use lib.IntN.{ℤ}
use lib.ListN.{length, take, drop, length-append, length-take, length-drop, drop_of_length-le}
use lib.Seq.{length-take-le, drop-drop, take-append_seam, drop-append_seam}
use Rattle.std.specs.Prelude.{Result, Ok, Err}
use Rattle.std.specs.Result.{MatchResult}
use Rattle.limits.specs.Lists.{any_outside_lem}
use Rattle.limits.specs.Scan.{first_outside, read_to, scan_rule}
use Rattle.limits.specs.Refusal.{◌when◌}
use Rattle.limits.specs.Limits.{measurement_least, measurement_most}
use Rattle.correcting.specs.Answer.{whole_blocks, measurements_rule}
use Rattle.limits.proofs.Scans.{first-outside, read_first, read_all, none-outside, inside-front, beyond-front}

-- the first j blocks of fifteen are inside: the rest tells
abbrev pub Passed : (l : List ℤ) (j : ℕ) → Type 0
Passed l j = (any_outside_lem measurement_least measurement_most l ≡ any_outside_lem measurement_least measurement_most (drop (15 * j) l)) × (first_outside measurement_least measurement_most l ≡ 15 * j + first_outside measurement_least measurement_most (drop (15 * j) l))

pub none_passed : (l : List ℤ) → Passed l 0
none_passed l = (refl, sym (zero-add _))

module _ (l : List ℤ) (j : ℕ) (room : 15 * j + 15 ≤ length l) (so_far : Passed l j) where
  abbrev rest : List ℤ
  rest = drop (15 * j) l

  abbrev part : List ℤ
  part = take 15 rest

  shift : drop 15 rest ≡ drop (15 * (j + 1)) l
  shift = let e : 15 * j + 15 ≡ 15 * (j + 1) = omega arith in drop-drop 15 (15 * j) l ∙ ap (λ (m : ℕ). drop m l) e

  left : 15 ≤ length rest
  left = rw (length-drop (15 * j) l) (omega arith)

  part_length : length part ≡ 15
  part_length = length-take-le 15 rest left

  -- this block is inside too
  pub passed : any_outside_lem measurement_least measurement_most part ≡ false → Passed l (j + 1)
  passed e =
      let r = inside-front measurement_least measurement_most 15 rest left e in (
        so_far.0 ∙ r.0 ∙ ap (any_outside_lem measurement_least measurement_most) shift,
        so_far.1 ∙ ap (λ (m : ℕ). 15 * j + m) (r.1 ∙ ap (λ (k : List ℤ). 15 + first_outside measurement_least measurement_most k) shift) ∙ omega arith,
      )

  -- a number of this block is outside
  module _ (e : any_outside_lem measurement_least measurement_most part ≡ true) where
    any : any_outside_lem measurement_least measurement_most l ≡ true
    any = so_far.0 ∙ (beyond-front measurement_least measurement_most 15 rest e).0

    first : first_outside measurement_least measurement_most l ≡ 15 * j + first_outside measurement_least measurement_most part
    first = so_far.1 ∙ ap (λ (m : ℕ). 15 * j + m) (beyond-front measurement_least measurement_most 15 rest e).1

    pub found : (2, 15 * j + read_to measurement_least measurement_most part) ≡ measurements_rule l
    unfolding measurements_rule ◌when◌
    found =
        let r = read_first measurement_least measurement_most l any in
        let p = read_first measurement_least measurement_most part e in
        let count : 15 * j + read_to measurement_least measurement_most part ≡ read_to measurement_least measurement_most l = rw (r, p, first) (omega arith) in
        let is : 2 ≡ 2 when any_outside_lem measurement_least measurement_most l = rw any in
        λ i. (is i, count i)

    pub found-blocks : whole_blocks l ≡ j
    unfolding whole_blocks
    found-blocks =
        let h = (first-outside measurement_least measurement_most part e).0 in
        rw first (within j (first_outside measurement_least measurement_most part) (rw part_length at h))
      where
        within : (j f : ℕ) → f < 15 → (15 * j + f) / 15 ≡ j
        within j f h = omega arith

-- what an iterator has left, cut into its first fifteen and the rest
pub cut : (l front more : List ℤ) (j : ℕ) → drop (15 * j) l ≡ front ++ more → length front ≡ 15 → 15 * j ≤ length l
    → (front ≡ take 15 (drop (15 * j) l)) × (more ≡ drop (15 * (j + 1)) l) × (15 * j + 15 ≤ length l)
cut l front more j e size few =
    let first : take 15 (drop (15 * j) l) ≡ front =
    ap (take 15) e ∙ ap (λ (k : ℕ). take k (front ++ more)) (sym size) ∙ take-append_seam front more in
    let rest : drop 15 (drop (15 * j) l) ≡ more =
    ap (drop 15) e ∙ ap (λ (k : ℕ). drop k (front ++ more)) (sym size) ∙ drop-append_seam front more in
    let next : 15 * j + 15 ≡ 15 * (j + 1) = omega arith in
    let left : length (drop (15 * j) l) ≡ 15 + length more = ap length e ∙ length-append front more ∙ ap (λ (k : ℕ). k + length more) size in
    (sym first, sym rest ∙ drop-drop 15 (15 * j) l ∙ ap (λ (m : ℕ). drop m l) next, omega (arith, length-drop (15 * j) l))

-- what a scan tells
pub scan_tells : (low high : ℤ) (l : List ℤ) {r : Result ℕ ℕ} → r ≡ scan_rule low high l
    → MatchResult r (λ read. (any_outside_lem low high l ≡ false) × (read ≡ read_to low high l))
    (λ read. (any_outside_lem low high l ≡ true) × (read ≡ read_to low high l))
unfolding scan_rule
scan_tells low high l {r} e = by (any_outside_lem low high l) refl e
  where
    by : (b : Bool) → any_outside_lem low high l ≡ b → r ≡ cond b (Err (read_to low high l)) (Ok (read_to low high l))
        → MatchResult r (λ read. (any_outside_lem low high l ≡ false) × (read ≡ read_to low high l))
        (λ read. (any_outside_lem low high l ≡ true) × (read ≡ read_to low high l))
    by true a e = rw e (a, refl)
    by false a e = rw e (a, refl)

-- no more is read of a block than it has
pub part-most : (l : List ℤ) (j : ℕ) → read_to measurement_least measurement_most (take 15 (drop (15 * j) l)) ≤ 15
unfolding read_to
part-most l j =
    le_trans (min-le_right _ (length (take 15 (drop (15 * j) l)))) (rw length-take (min-le_left 15 (length (drop (15 * j) l))))

-- where a block is inside, all of it is read
pub part-read : (l : List ℤ) (j : ℕ) → 15 * j + 15 ≤ length l → any_outside_lem measurement_least measurement_most (take 15 (drop (15 * j) l)) ≡ false
    → read_to measurement_least measurement_most (take 15 (drop (15 * j) l)) ≡ 15
part-read l j room e =
    let h : 15 ≤ length (drop (15 * j) l) = rw (length-drop (15 * j) l) (omega arith) in
    read_all measurement_least measurement_most (take 15 (drop (15 * j) l)) e ∙ length-take-le 15 (drop (15 * j) l) h

-- where nothing is outside, every block is whole
pub whole-blocks : (l : List ℤ) (n : ℕ) → length l ≡ 15 * n → any_outside_lem measurement_least measurement_most l ≡ false → whole_blocks l ≡ n
unfolding whole_blocks
whole-blocks l n all none = ap (λ (m : ℕ). m / 15) (none-outside measurement_least measurement_most l none ∙ all) ∙ whole n
  where
    whole : (n : ℕ) → 15 * n / 15 ≡ n
    whole n = omega arith

-- all blocks are inside
module _ (l : List ℤ) (n : ℕ) (all : length l ≡ 15 * n) (so_far : Passed l n) where
  nothing : drop (15 * n) l ≡ []
  nothing = let h : length l ≤ 15 * n = omega arith in drop_of_length-le l h

  none : any_outside_lem measurement_least measurement_most l ≡ false
  unfolding any_outside_lem
  none = so_far.0 ∙ ap (any_outside_lem measurement_least measurement_most) nothing

  pub done : (0, 15 * n) ≡ measurements_rule l
  unfolding measurements_rule ◌when◌
  done =
      let count : 15 * n ≡ read_to measurement_least measurement_most l = sym (read_all measurement_least measurement_most l none ∙ all) in
      let is : 0 ≡ 2 when any_outside_lem measurement_least measurement_most l = rw none in
      λ i. (is i, count i)

  pub done-blocks : whole_blocks l ≡ n
  done-blocks = whole-blocks l n all none
