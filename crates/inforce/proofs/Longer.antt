-- The longer store, read back (Append of `delays`): what was there is there, and the new entry is behind it.
-- Assumes nothing.
use mathlib.Core.Path.{◌≡◌, refl, ap, ◌∙◌}
use mathlib.Core.List.{List, [], ◌∷◌, ◌++◌}
use Prim.Native.Nat.{ℕ, zero, suc, ◌+◌, ◌*◌, ◌-◌, ◌≤◌, ◌<◌}
use native.Mathlib.Nat.{not-suc-le-zero, le_of_suc-le-suc}
use native.Mathlib.Omega.{arith}
use lib.IntN.{ℤ, pos}
use lib.ListN.{length, take, drop, get_or, length-drop}
use mir.Syntax.{w64}
use mir.Val.{SFits}
use Rattle.decode.specs.Number.{unsigned_at, twos_complement_lem, signed_at_lem}
use Rattle.decode.proofs.Rows.{unsigned-before, unsigned-piece, unsigned-take, unsigned-drop}
use Rattle.encode.specs.Encode.{little_bytes, pattern_of}
use Rattle.encode.proofs.Bytes.{length-bytes}
use Rattle.encode.proofs.RoundTrip.{unsigned_bytes, signed-bytes}
use Rattle.delays.specs.Store.{version, count, start, groups}
use Rattle.delays.specs.Append.{group_bytes, longer_dates, longer_groups, longer_store}
use Rattle.delays.proofs.Writing.{new, two, two-long, three-long, length-dates}

-- ---- a group

-- every one of the delays fits
pub data AllFit : List ℤ → Type 0 where
  none : AllFit []
  more : {z : ℤ} {zs : List ℤ} → SFits w64 z → AllFit zs → AllFit (z ∷ zs)

pub group_at : (zs : List ℤ) → AllFit zs → (j : ℕ) → j < length zs → signed_at_lem (group_bytes zs) (8 * j) ≡ get_or zs j (pos 0)
unfolding group_bytes signed_at_lem
group_at [] f j h = absurd (not-suc-le-zero h)
group_at (z ∷ zs) (more f fs) zero h =
    ap twos_complement_lem (unsigned-before 8 (little_bytes 8 (pattern_of z)) (group_bytes zs) 0 (omega (arith, length-bytes 8 (pattern_of z)))) ∙ signed-bytes z f
group_at (z ∷ zs) (more f fs) (suc j) h =
    ap (λ (m : ℕ). twos_complement_lem (unsigned_at 8 (little_bytes 8 (pattern_of z) ++ group_bytes zs) m)) (next j)
    ∙ ap twos_complement_lem (unsigned-piece 8 (little_bytes 8 (pattern_of z)) (group_bytes zs) (8 * j) (length-bytes 8 (pattern_of z)))
    ∙ group_at zs fs j (le_of_suc-le-suc h)
  where
    next : (j : ℕ) → 8 * suc j ≡ 8 + 8 * j
    next j = omega arith

-- ---- the store

module _ (s : List ℕ) (long : 4 + 4 * count s ≤ length s) (mjd : ℕ) where
  abbrev head : List ℕ
  head = take 2 s ++ little_bytes 2 (suc (count s))

  abbrev old : List ℕ
  old = take (4 * count s) (drop 4 s)

  head-old : length (head ++ old) ≡ 4 + 4 * count s
  head-old = three-long s (count s) refl long

  -- a number of the head and the old dates
  dates-front : (width at : ℕ) → at + width ≤ 4 + 4 * count s → unsigned_at width (longer_dates s mjd) at ≡ unsigned_at width (head ++ old) at
  unfolding longer_dates
  dates-front width at h = unsigned-before width (head ++ old) (little_bytes 4 mjd) at (omega (arith, head-old))

  head-front : (width at : ℕ) → at + width ≤ 4 → unsigned_at width (longer_dates s mjd) at ≡ unsigned_at width head at
  head-front width at h = dates-front width at (omega arith) ∙ unsigned-before width head old at (omega (arith, two-long s (count s) refl long))

  dates-version : unsigned_at 2 (longer_dates s mjd) 0 ≡ version s
  dates-version =
      head-front 2 0 (omega arith)
      ∙ unsigned-before 2 (take 2 s) (little_bytes 2 (suc (count s))) 0 (omega (arith, two s (count s) refl long))
      ∙ unsigned-take 2 2 s 0 (omega arith) (omega arith)

  dates-count : suc (count s) < 65536 → unsigned_at 2 (longer_dates s mjd) 2 ≡ suc (count s)
  dates-count h =
      head-front 2 2 (omega arith)
      ∙ unsigned-piece 2 (take 2 s) (little_bytes 2 (suc (count s))) 0 (two s (count s) refl long)
      ∙ unsigned_bytes 2 (suc (count s)) h

  dates-start : (k : ℕ) → k < count s → unsigned_at 4 (longer_dates s mjd) (4 + 4 * k) ≡ unsigned_at 4 s (4 + 4 * k)
  dates-start k h =
      dates-front 4 (4 + 4 * k) (omega arith)
      ∙ unsigned-piece 4 head old (4 * k) (two-long s (count s) refl long)
      ∙ unsigned-take 4 (4 * count s) (drop 4 s) (4 * k) (rw length-drop (omega arith)) (omega arith)
      ∙ unsigned-drop 4 4 s (4 * k) (omega arith)

  dates-new : mjd < 4294967296 → unsigned_at 4 (longer_dates s mjd) (4 + 4 * count s) ≡ mjd
  unfolding longer_dates
  dates-new h =
      ap (unsigned_at 4 (head ++ old ++ little_bytes 4 mjd)) (omega arith)
      ∙ unsigned-piece 4 (head ++ old) (little_bytes 4 mjd) 0 head-old
      ∙ unsigned_bytes 4 mjd h

  module _ (int cab refdly gd : ℤ) where
    abbrev longer : List ℕ
    longer = longer_store s mjd int cab refdly gd

    in-dates : (width at : ℕ) → at + width ≤ 4 + 4 * count s + 4 → unsigned_at width longer at ≡ unsigned_at width (longer_dates s mjd) at
    unfolding longer_store
    in-dates width at h =
        unsigned-before width (longer_dates s mjd) (longer_groups s int cab refdly gd) at (omega (arith, length-dates s (count s) refl long mjd))

    pub longer-version : version longer ≡ version s
    longer-version = in-dates 2 0 (omega arith) ∙ dates-version

    pub longer-count : suc (count s) < 65536 → count longer ≡ suc (count s)
    longer-count h = in-dates 2 2 (omega arith) ∙ dates-count h

    pub longer-start : (k : ℕ) → k < count s → start longer k ≡ start s k
    unfolding start
    longer-start k h = in-dates 4 (4 + 4 * k) (omega arith) ∙ dates-start k h

    pub longer-date : mjd < 4294967296 → start longer (count s) ≡ mjd
    unfolding start
    longer-date h = in-dates 4 (4 + 4 * count s) (omega arith) ∙ dates-new h

    -- a number of the groups
    in-groups : (at : ℕ) → signed_at_lem longer (4 + 4 * count s + 4 + at) ≡ signed_at_lem (longer_groups s int cab refdly gd) at
    unfolding longer_store signed_at_lem
    in-groups at = ap twos_complement_lem (unsigned-piece 8 (longer_dates s mjd) (longer_groups s int cab refdly gd) at (length-dates s (count s) refl long mjd))

    pub longer-old : (at : ℕ) → 4 + 4 * count s + at + 8 ≤ length s → signed_at_lem longer (4 + 4 * count s + 4 + at) ≡ signed_at_lem s (4 + 4 * count s + at)
    unfolding longer_groups signed_at_lem
    longer-old at h =
        in-groups at
        ∙ ap twos_complement_lem
        (unsigned-before 8 (drop (groups s) s) (group_bytes (new s int cab refdly gd)) at (rw length-drop (omega arith))
        ∙ unsigned-drop 8 (groups s) s at (omega arith))

    pub longer-new : AllFit (new s int cab refdly gd) → (j : ℕ) → j < length (new s int cab refdly gd) → signed_at_lem longer (length s + 4 + 8 * j) ≡ get_or (new s int cab refdly gd) j (pos 0)
    unfolding longer_groups signed_at_lem
    longer-new f j h =
        ap (signed_at_lem longer) (place (length s) (count s) long)
        ∙ in-groups (length s - (4 + 4 * count s) + 8 * j)
        ∙ ap twos_complement_lem (unsigned-piece 8 (drop (groups s) s) (group_bytes (new s int cab refdly gd)) (8 * j) (length-drop (groups s) s))
        ∙ group_at (new s int cab refdly gd) f j h
      where
        place : (l c : ℕ) → 4 + 4 * c ≤ l → l + 4 + 8 * j ≡ 4 + 4 * c + 4 + (l - (4 + 4 * c) + 8 * j)
        place l c h = omega arith
