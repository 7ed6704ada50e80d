-- A store with one entry more (document 02, Job 9). It is put together from the bytes of the old one; of its entries none is read and written anew.
-- Assumes nothing.
use Rattle.std.specs.Prelude.{ℕ, suc, ◌*◌, not, ◌&&◌, ◌||◌, List, [], ◌∷◌, ◌++◌, ltb, eqb, ℤ, length, take, drop}
use Rattle.limits.specs.Refusal.{◌when◌, ◌then◌, after}
use Rattle.limits.specs.Reply.{Reply, reply}
use Rattle.limits.specs.Limits.{beyond, delays_beyond_lem}
use Rattle.encode.specs.Encode.{little_bytes, pattern_of}
use Rattle.delays.specs.Store.{most_entries, version, count, group_width_lem, store_length_lem, start, groups, later, store_number}

-- Delays as bytes, one behind the other.
unfoldable pub group_bytes : List ℤ → List ℕ
group_bytes [] = []
group_bytes (z ∷ zs) = little_bytes 8 (pattern_of z) ++ group_bytes zs

-- The longer store's version, count and dates: one entry more in the count, and the new date behind the others.
unfoldable pub longer_dates : (store : List ℕ) (mjd : ℕ) → List ℕ
longer_dates store mjd =
    take 2 store ++ little_bytes 2 (suc (count store)) ++ take (4 * count store) (drop 4 store) ++ little_bytes 4 mjd

-- Its groups: the new delays behind the others, as many as the version has.
unfoldable pub longer_groups : (store : List ℕ) (int cab refdly gd : ℤ) → List ℕ
longer_groups store int cab refdly gd =
    drop (groups store) store ++ group_bytes (take (group_width_lem (version store)) (int ∷ cab ∷ refdly ∷ gd ∷ []))

-- The new date lies between the two arrays.
unfoldable pub longer_store : (store : List ℕ) (mjd : ℕ) (int cab refdly gd : ℤ) → List ℕ
longer_store store mjd int cab refdly gd = longer_dates store mjd ++ longer_groups store int cab refdly gd

-- 20 for the store; then 20 for a new delay beyond its limit or a GD other than 0 in version 1. 22: the date is not later than the last, or the
-- store has 1000 entries. 9: the lent buffer is shorter than the result. `room` is its length.
unfoldable pub append_number : (store : List ℕ) (mjd : ℕ) (int cab refdly gd : ℤ) (room : ℕ) → ℕ
append_number store mjd int cab refdly gd room =
    store_number store
    then 20 when (delays_beyond_lem int cab refdly gd || (eqb (version store) 1 && beyond 0 gd))
    then 22 when (not (later (start store) (count store) mjd) || eqb (count store) most_entries)
    then 9 when ltb room (store_length_lem (version store) (suc (count store)))

-- That number, and how many bytes are written.
unfoldable pub append_rule : (store : List ℕ) (mjd : ℕ) (int cab refdly gd : ℤ) (room : ℕ) → Reply ℕ
append_rule store mjd int cab refdly gd room =
    reply 0 (append_number store mjd int cab refdly gd room) (store_length_lem (version store) (suc (count store)))

-- The lent buffer afterwards: the longer store in its first bytes where nothing is refused, and else as it was lent.
unfoldable pub append_after : (store : List ℕ) (mjd : ℕ) (int cab refdly gd : ℤ) (lent : List ℕ) → List ℕ
append_after store mjd int cab refdly gd lent =
    after (append_number store mjd int cab refdly gd (length lent))
    (longer_store store mjd int cab refdly gd ++ drop (store_length_lem (version store) (suc (count store))) lent)
    lent
