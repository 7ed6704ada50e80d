-- Start minutes in natural numbers, and the modular test for the existence of a track.
-- Assumes nothing.
use mathlib.Core.Path.{◌≡◌, refl, sym, ap, ◌∙◌, subst}
use mathlib.Core.Bool.{Bool, true, false, ◌||◌, ◌&&◌}
use Prim.Native.Nat.{ℕ, zero, suc, ◌+◌, ◌*◌, ◌-◌, ◌/◌, ◌%◌, ◌≤◌, ◌<◌}
use native.Mathlib.Nat.{not-suc-le-zero, le_refl}
use native.Mathlib.Numerals.{sub-one}
use native.Mathlib.Omega.{arith}
use lib.Dec.{T, leb, ltb, eqb, eqb→eq, ltb→lt}
use lib.IntN.{pos, negsuc, sub_ℕ, neg_ℤ-neg_ℤ, ◌-ℤ◌}
use borrow.Author.Tests.{lt-ltb, le-ltb, eq-eqb, leb-true, leb-false, eqb-true, eqb-false, ltb-false, not-false}
use mir.Facts.{and_yes}
use Rattle.limits.proofs.Laws.{then-zero, when-zero, or-false}
use Rattle.schedule.specs.Schedule.{first_date, last_date, repeat_period, tracks, brought_in, start_minute, some, is_start_lem, start_number}

-- ---- differences of natural numbers

sub_is : (a b : ℕ) → pos a -ℤ pos b ≡ sub_ℕ a b
sub_is a zero = simp (le-ltb a 0 (omega arith)) (ap pos (omega arith))
sub_is a (suc b) = refl

sub-above : (a b : ℕ) → b ≤ a → sub_ℕ a b ≡ pos (a - b)
sub-above a b h = simp (le-ltb a b h)

sub-below : (a b : ℕ) → a < b → sub_ℕ a b ≡ negsuc (b - suc a)
sub-below a b h = simp (lt-ltb a b h)

-- ---- a difference brought in: repeat periods are added or taken

brought-above : (x : ℕ) → brought_in (pos x) ≡ x % repeat_period
unfolding brought_in
brought-above x =
    simp (sub_is x (repeat_period * (x / repeat_period)), sub-above x (repeat_period * (x / repeat_period)) (omega arith)) (omega arith)

brought-below : (y : ℕ) → brought_in (negsuc y) ≡ repeat_period * suc (y / repeat_period) - suc y
unfolding brought_in
brought-below y = simp (neg_ℤ-neg_ℤ, sub-above (repeat_period * suc (y / repeat_period)) (suc y) (omega arith))

brought-difference : (a b : ℕ) → brought_in (pos a -ℤ pos b) ≡ (a + (repeat_period - 1) * b) % repeat_period
brought-difference a b = ap brought_in (sub_is a b) ∙ elim (leb b a) as (λ t. leb b a ≡ t → brought_in (sub_ℕ a b) ≡ (a + (repeat_period - 1) * b) % repeat_period) [
  | true ↦ λ e. ap brought_in (sub-above a b (leb-true b a e)) ∙ brought-above (a - b) ∙ above a b (leb-true b a e)
  | false ↦ λ e. ap brought_in (sub-below a b (leb-false b a e)) ∙ brought-below (b - suc a) ∙ below a b (leb-false b a e)
] refl
  where
    above : (a b : ℕ) → b ≤ a → (a - b) % repeat_period ≡ (a + (repeat_period - 1) * b) % repeat_period
    above a b h = omega arith

    below : (a b : ℕ) → a < b → repeat_period * suc ((b - suc a) / repeat_period) - suc (b - suc a) ≡ (a + (repeat_period - 1) * b) % repeat_period
    below a b h = omega arith

pub start-minute : (n k : ℕ) → start_minute n (suc k) ≡ (2 + 16 * k + (repeat_period - 1) * (4 * n)) % repeat_period
unfolding start_minute
start-minute n k = simp (le-ltb (suc k) 1 (omega arith), sub-one) (brought-difference (2 + 16 * k) (4 * n))

-- ---- the search

or_left : (a b : Bool) → T a → T (a || b)
or_left true b t = tt
or_left false b t = absurd t

or_right : (a b : Bool) → T b → T (a || b)
or_right true b t = tt
or_right false b t = t

pub some_at : (limit k : ℕ) (test : ℕ → Bool) → k < limit → T (test (suc k)) → T (some limit test)
unfolding some
some_at zero k test h t = absurd (not-suc-le-zero h)
some_at (suc limit) k test h t = elim (eqb k limit) as (λ b. eqb k limit ≡ b → T (some (suc limit) test)) [
  | true ↦ λ e. or_left (test (suc limit)) (some limit test) (rw (eqb-true k limit e) at t)
  | false ↦ λ e. or_right (test (suc limit)) (some limit test) (some_at limit k test (below (eqb-false k limit e)) t)
] refl
  where
    below : (k ≡ limit → ⊥) → k < limit
    below ne = omega arith

pub some-found : (limit : ℕ) (test : ℕ → Bool) → T (some limit test) → (k : ℕ) × (k < limit) × T (test (suc k))
unfolding some
some-found zero test t = absurd t
some-found (suc limit) test t = elim (test (suc limit)) as (λ b. test (suc limit) ≡ b → (k : ℕ) × (k < suc limit) × T (test (suc k))) [
  | true ↦ λ e. (limit, le_refl (suc limit), subst T (sym e) tt)
  | false ↦ λ e. let f = some-found limit test (subst (λ (b : Bool). T (b || some limit test)) e t) in (f.0, le-suc-of f.1, f.2)
] refl
  where
    le-suc-of : {k : ℕ} → k < limit → k < suc limit
    le-suc-of {k} h = omega arith

-- ---- the modular test

-- What the program tests of a second: minute is second / 60, and since-first the time since the first track.
abbrev pub since_first : (n second : ℕ) → ℕ
since_first n second = (second / 60 + 4 * n + repeat_period - 2) % repeat_period

pub record Tests (n second : ℕ) : Type 0 where
  pub whole : second % 60 ≡ 0
  pub inside : second / 60 < repeat_period
  pub step : since_first n second % 16 ≡ 0
  pub track : since_first n second / 16 < tracks

-- they find the track
pub found : (n second : ℕ) → Tests n second → second ≡ 60 * ((2 + 16 * (since_first n second / 16) + (repeat_period - 1) * (4 * n)) % repeat_period)
found n second t = omega arith

since-first : (n second k : ℕ) → k < tracks → second ≡ 60 * ((2 + 16 * k + (repeat_period - 1) * (4 * n)) % repeat_period) → since_first n second ≡ 16 * k
since-first n second k h e = omega arith

-- and each track passes them
pub passes : (n second k : ℕ) → k < tracks → second ≡ 60 * ((2 + 16 * k + (repeat_period - 1) * (4 * n)) % repeat_period) → Tests n second
passes n second k h e = omega (arith, since-first n second k h e)

pub start-found : (n second : ℕ) → Tests n second → T (is_start_lem n second)
unfolding is_start_lem
start-found n second t =
    some_at tracks (since_first n second / 16) (λ i. eqb second (60 * start_minute n i)) t.track
    (subst T (sym (eq-eqb second (60 * start_minute n (suc (since_first n second / 16))) (found n second t ∙ ap (λ (m : ℕ). 60 * m) (sym (start-minute n (since_first n second / 16)))))) tt)

pub start-passes : (n second : ℕ) → T (is_start_lem n second) → Tests n second
unfolding is_start_lem
start-passes n second t =
    let f = some-found tracks (λ i. eqb second (60 * start_minute n i)) t in
    passes n second f.0 f.1 (eqb→eq second (60 * start_minute n (suc f.0)) f.2 ∙ ap (λ (m : ℕ). 60 * m) (start-minute n f.0))

-- ---- the row of tests

same : (a b : Bool) → (T a → T b) → (T b → T a) → a ≡ b
same true true f g = refl
same true false f g = absurd (f tt)
same false true f g = absurd (g tt)
same false false f g = refl

-- the tests in a row say whether there is a track
pub row : (n second : ℕ)
    → (eqb (second % 60) 0 && ltb (second / 60) repeat_period && eqb (since_first n second % 16) 0 && ltb (since_first n second / 16) tracks) ≡ is_start_lem n second
row n second = same (whole && inside && step && track) (is_start_lem n second) (λ t. start-found n second (tests t)) (λ t. flags (start-passes n second t))
  where
    whole : Bool
    whole = eqb (second % 60) 0

    inside : Bool
    inside = ltb (second / 60) repeat_period

    step : Bool
    step = eqb (since_first n second % 16) 0

    track : Bool
    track = ltb (since_first n second / 16) tracks

    tests : T (whole && inside && step && track) → Tests n second
    tests t =
        let u = and_yes (whole && inside && step) track t in
        let v = and_yes (whole && inside) step u.0 in
        let w = and_yes whole inside v.0 in
        record {
          whole = eqb→eq (second % 60) 0 w.0;
          inside = ltb→lt (second / 60) repeat_period w.1;
          step = eqb→eq (since_first n second % 16) 0 v.1;
          track = ltb→lt (since_first n second / 16) tracks u.1;
        }

    flags : Tests n second → T (whole && inside && step && track)
    flags t = simp (eq-eqb _ _ t.whole, lt-ltb _ _ t.inside, eq-eqb _ _ t.step, lt-ltb _ _ t.track) tt

-- an accepted date and start
pub accepted : (mjd second : ℕ) → start_number mjd second ≡ 0 → (mjd ≤ last_date) × (second < 60 * repeat_period)
unfolding start_number
accepted mjd second e =
    let f = then-zero _ _ e in
    let date = or-false (ltb mjd first_date) (ltb last_date mjd) (when-zero 6 _ f.0) in
    let start = not-false (is_start_lem (mjd - first_date) second) (when-zero 7 _ f.1) in
    let tests = start-passes (mjd - first_date) second (subst T (sym start) tt) in
    (ltb-false last_date mjd date.1, omega (arith, tests.inside))
