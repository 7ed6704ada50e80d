-- A store of delays by date (document 02, Job 9): what lies where, and what is refused. Numbers are little-endian: version (16 bits), count
-- (16 bits), an array of starting MJDs (32 bits), and a parallel array with a group of signed 64-bit delays for each of them. The version is a
-- parameter, so that one definition reads both.
-- Assumes nothing.
use Rattle.std.specs.Prelude.{ℕ, zero, suc, ◌+◌, ◌*◌, Bool, true, cond, not, ◌&&◌, ◌||◌, List, ltb, eqb, ℤ, length}
use Rattle.limits.specs.Refusal.{◌when◌}
use Rattle.limits.specs.Limits.{delay_limit}
use Rattle.limits.specs.Lists.{any_beyond_lem}
use Rattle.decode.specs.Number.{unsigned_at, signed_at_lem, signeds_at}

-- How many entries a store has at most.
abbrev pub most_entries : ℕ
most_entries = 1000

-- The first two numbers.
abbrev pub version : List ℕ → ℕ
version store = unsigned_at 2 store 0

abbrev pub count : List ℕ → ℕ
count store = unsigned_at 2 store 2

-- How many delays a group has: INT, CAB and REF; version 2 adds GD.
unfoldable pub group_width_lem : (version : ℕ) → ℕ
group_width_lem version = cond (eqb version 1) 3 4

-- The length of a store of this version with so many entries.
unfoldable pub store_length_lem : (version count : ℕ) → ℕ
store_length_lem version count = 4 + (4 + 8 * group_width_lem version) * count

-- The starting MJD of entry k.
unfoldable pub start : (store : List ℕ) (k : ℕ) → ℕ
start store k = unsigned_at 4 store (4 + 4 * k)

-- Where the groups begin.
abbrev pub groups : List ℕ → ℕ
groups store = 4 + 4 * count store

-- Delay j of entry k, in the order INT, CAB, REF, GD.
unfoldable pub delay : (store : List ℕ) (k j : ℕ) → ℤ
delay store k j = signed_at_lem store (groups store + 8 * (group_width_lem (version store) * k + j))

-- All delays.
unfoldable pub delays : List ℕ → List ℤ
delays store = signeds_at store (groups store) 8 (group_width_lem (version store) * count store)

-- A date is later than the last of the first n starts, or there is none.
unfoldable pub later : (start : ℕ → ℕ) (n mjd : ℕ) → Bool
later start zero mjd = true
later start (suc n) mjd = ltb (start n) mjd

-- Each of the first n starts is later than the one before.
unfoldable pub rising : (start : ℕ → ℕ) (n : ℕ) → Bool
rising start zero = true
rising start (suc n) = rising start n && later start n (start n)

-- 20: the version is neither 1 nor 2, the count is above 1000, the length is not that of the version and count, the dates do not rise strictly, or
-- some delay of some entry is beyond its limit.
unfoldable pub store_number : List ℕ → ℕ
store_number store =
    20
    when (not (eqb (version store) 1 || eqb (version store) 2)
    || ltb most_entries (count store)
    || not (eqb (length store) (store_length_lem (version store) (count store)))
    || not (rising (start store) (count store))
    || any_beyond_lem delay_limit (delays store))
