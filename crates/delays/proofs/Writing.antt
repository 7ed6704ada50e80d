-- Delays written one behind the other make a group, and the pieces of a longer store make it (specs/Append.antt).
-- Assumes nothing.
use mathlib.Core.Path.{◌≡◌, refl, sym, ap, ap₂, ◌∙◌}
use mathlib.Core.List.{List, [], ◌∷◌, ◌++◌, append_assoc, append-nil}
use Prim.Native.Nat.{ℕ, suc, ◌+◌, ◌*◌, ◌-◌, ◌≤◌}
use native.Mathlib.Numerals.{add-one}
use native.Mathlib.Omega.{arith}
use lib.IntN.{ℤ}
use lib.ListN.{length, take, drop, length-append, length-drop}
use lib.Seq.{length-take-le}
use Rattle.lent.specs.Placed.{placed, placed_within}
use Rattle.limits.proofs.Parts.{rest_part}
use Rattle.lent.proofs.Placing.{within, placed-onto, placed-behind, put-behind}
use Rattle.encode.specs.Encode.{little_bytes, pattern_of}
use Rattle.encode.proofs.Bytes.{length-bytes}
use Rattle.delays.specs.Append.{group_bytes, longer_dates, longer_groups, longer_store}
use Rattle.delays.specs.Store.{version, count, group_width_lem, groups}
use Rattle.delays.proofs.Stores.{four-wide}

-- the new delays, as many as the version has
abbrev pub new : (s : List ℕ) (int cab refdly gd : ℤ) → List ℤ
new s int cab refdly gd = take (group_width_lem (version s)) (int ∷ cab ∷ refdly ∷ gd ∷ [])

pub length-group : (zs : List ℤ) → length (group_bytes zs) ≡ 8 * length zs
unfolding group_bytes
length-group [] = refl
length-group (z ∷ zs) = length-append (little_bytes 8 (pattern_of z)) (group_bytes zs) ∙ ap₂ ◌+◌ (length-bytes 8 (pattern_of z)) (length-group zs) ∙ more (length zs)
  where
    more : (n : ℕ) → 8 + 8 * n ≡ 8 * suc n
    more n = omega arith

group-more : (zs : List ℤ) (z : ℤ) → group_bytes zs ++ little_bytes 8 (pattern_of z) ≡ group_bytes (zs ++ z ∷ [])
unfolding group_bytes
group-more [] z = sym (append-nil (little_bytes 8 (pattern_of z)))
group-more (y ∷ zs) z = append_assoc (little_bytes 8 (pattern_of y)) (group_bytes zs) (little_bytes 8 (pattern_of z)) ∙ ap (λ (x : List ℕ). little_bytes 8 (pattern_of y) ++ x) (group-more zs z)

-- the first delay, and one behind others; y is what the machine has for z
module _ (d : List ℕ) (at : ℕ) (room : at ≤ length d) where
  pub first-delay : {d₁ : List ℕ} {y z : ℤ} → d₁ ≡ placed d at (little_bytes 8 (pattern_of y)) → y ≡ z → d₁ ≡ placed d at (group_bytes (z ∷ []))
  unfolding group_bytes
  first-delay {z = z} e g = e ∙ ap (λ (x : ℤ). placed d at (little_bytes 8 (pattern_of x))) g ∙ ap (placed d at) (group-more [] z)

  pub next-delay : {d₁ d₂ : List ℕ} (zs : List ℤ) {y z : ℤ} → d₁ ≡ placed d at (group_bytes zs) → d₂ ≡ placed d₁ (at + 8 * length zs) (little_bytes 8 (pattern_of y)) → y ≡ z
      → d₂ ≡ placed d at (group_bytes (zs ++ z ∷ []))
  next-delay {d₁} zs {z = z} e f g =
      f
      ∙ ap (λ (x : ℤ). placed d₁ (at + 8 * length zs) (little_bytes 8 (pattern_of x))) g
      ∙ ap₂ (λ (x : List ℕ) (n : ℕ). placed x (at + n) (little_bytes 8 (pattern_of z))) e (sym (length-group zs))
      ∙ placed-onto d at (group_bytes zs) (little_bytes 8 (pattern_of z)) room
      ∙ ap (placed d at) (group-more zs z)

-- ---- the pieces of the longer store

module _ (s : List ℕ) (n : ℕ) (counted : n ≡ count s) (long : 4 + 4 * n ≤ length s) where
  pub two : length (take 2 s) ≡ 2
  two = length-take-le 2 s (omega arith)

  abbrev pub dates : List ℕ
  dates = take (4 * count s) (drop 4 s)

  pub dates-long : length dates ≡ 4 * n
  dates-long = length-take-le (4 * count s) (drop 4 s) (rw (← counted, length-drop) (omega arith)) ∙ ap (λ (m : ℕ). 4 * m) (sym counted)

  pub two-long : length (take 2 s ++ little_bytes 2 (suc (count s))) ≡ 4
  two-long = length-append (take 2 s) (little_bytes 2 (suc (count s))) ∙ ap₂ ◌+◌ two (length-bytes 2 (suc (count s)))

  pub three-long : length (take 2 s ++ little_bytes 2 (suc (count s)) ++ dates) ≡ 4 + 4 * n
  three-long = length-append (take 2 s ++ little_bytes 2 (suc (count s))) dates ∙ ap₂ ◌+◌ two-long dates-long

  pub length-dates : (mjd : ℕ) → length (longer_dates s mjd) ≡ 4 + 4 * n + 4
  unfolding longer_dates
  length-dates mjd = length-append (take 2 s ++ little_bytes 2 (suc (count s)) ++ dates) (little_bytes 4 mjd) ∙ ap₂ ◌+◌ three-long (length-bytes 4 mjd)

  pub dates-written : (mjd : ℕ) (d : List ℕ) → 8 + 4 * n ≤ length d → {d₁ d₂ d₃ d₄ : List ℕ} → d₁ ≡ placed_within d 0 (take 2 s) → d₂ ≡ placed d₁ 2 (little_bytes 2 (n + 1))
      → d₃ ≡ placed_within d₂ 4 (take (4 + 4 * n - 4) (drop 4 s)) → d₄ ≡ placed d₃ (4 + 4 * n) (little_bytes 4 mjd) → d₄ ≡ placed d 0 (longer_dates s mjd)
  unfolding longer_dates
  dates-written mjd d room {d₁ = d₁} {d₂ = d₂} e f g h =
      let first : d₂ ≡ placed d 0 (take 2 s ++ b) = placed-behind d (take 2 s) b two (e ∙ within d 0 (take 2 s) (omega (arith, two))) (f ∙ ap (λ (m : ℕ). placed d₁ 2 (little_bytes 2 m)) more) in
      placed-behind d ((take 2 s ++ b) ++ dates) (little_bytes 4 mjd) three-long
      (put-behind d (take 2 s ++ b) dates two-long (omega (arith, dates-long)) first
      (g ∙ ap (λ (m : ℕ). placed_within d₂ 4 (take m (drop 4 s))) less))
      h
    where
      b : List ℕ
      b = little_bytes 2 (suc (count s))

      more : n + 1 ≡ suc (count s)
      more = add-one n ∙ ap suc counted

      less : 4 + 4 * n - 4 ≡ 4 * count s
      less = rw (← counted) (omega arith)

  -- the whole store
  pub store-written : (mjd : ℕ) (int cab refdly gd : ℤ) (d : List ℕ) {v : ℕ} → v ≡ version s → length s + 4 + 8 * group_width_lem v ≤ length d → {d₁ d₂ d₃ : List ℕ}
      → d₁ ≡ placed d 0 (longer_dates s mjd)
      → d₂ ≡ placed_within d₁ (4 + 4 * n + 4) (take (length s - (4 + 4 * n)) (drop (4 + 4 * n) s))
      → d₃ ≡ placed d₂ (length s + 4) (group_bytes (take (group_width_lem v) (int ∷ cab ∷ refdly ∷ gd ∷ [])))
      → d₃ ≡ placed d 0 (longer_store s mjd int cab refdly gd)
  unfolding longer_store longer_groups
  store-written mjd int cab refdly gd d v room {d₁} {d₂} e f g =
      placed-behind d (longer_dates s mjd ++ rest) group both_long
      (put-behind d (longer_dates s mjd) rest (length-dates mjd) (omega (arith, rest-long)) e
      (f ∙ ap (placed_within d₁ (4 + 4 * n + 4)) (rest_part s (4 + 4 * n) ∙ ap (λ (m : ℕ). drop (4 + 4 * m) s) counted)))
      (g ∙ ap (λ (w : ℕ). placed d₂ (length s + 4) (group_bytes (take (group_width_lem w) (int ∷ cab ∷ refdly ∷ gd ∷ [])))) v)
      ∙ ap (placed d 0) (append_assoc (longer_dates s mjd) rest group)
    where
      rest : List ℕ
      rest = drop (groups s) s

      group : List ℕ
      group = group_bytes (new s int cab refdly gd)

      rest-long : length rest ≡ length s - (4 + 4 * n)
      rest-long = ap (λ (m : ℕ). length (drop (4 + 4 * m) s)) (sym counted) ∙ length-drop (4 + 4 * n) s

      both : (n l : ℕ) → 4 + 4 * n ≤ l → 4 + 4 * n + 4 + (l - (4 + 4 * n)) ≡ l + 4
      both n l h = omega arith

      both_long : length (longer_dates s mjd ++ rest) ≡ length s + 4
      both_long =
          length-append (longer_dates s mjd) rest
          ∙ ap₂ ◌+◌ (length-dates mjd) rest-long
          ∙ both n (length s) long

  pub length-longer : (mjd : ℕ) (int cab refdly gd : ℤ) → length (longer_store s mjd int cab refdly gd) ≡ length s + 4 + 8 * group_width_lem (version s)
  unfolding longer_store longer_groups
  length-longer mjd int cab refdly gd =
      length-append (longer_dates s mjd) (drop (groups s) s ++ group_bytes (new s int cab refdly gd))
      ∙ ap₂ ◌+◌ (length-dates mjd)
      (length-append (drop (groups s) s) (group_bytes (new s int cab refdly gd))
      ∙ ap₂ ◌+◌ (ap (λ (m : ℕ). length (drop (4 + 4 * m) s)) (sym counted) ∙ length-drop (4 + 4 * n) s)
      (length-group (new s int cab refdly gd) ∙ ap (λ (m : ℕ). 8 * m) (length-take-le (group_width_lem (version s)) (int ∷ cab ∷ refdly ∷ gd ∷ []) (four-wide (version s)))))
      ∙ all n (length s) (group_width_lem (version s)) long
    where
      all : (n l w : ℕ) → 4 + 4 * n ≤ l → 4 + 4 * n + 4 + (l - (4 + 4 * n) + 8 * w) ≡ l + 4 + 8 * w
      all n l w h = omega arith
