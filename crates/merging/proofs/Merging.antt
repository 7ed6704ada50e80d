-- What merged lines are (specs/Merge.antt): they ascend strictly, hold each line of either list exactly once and no other, and are the same
-- whichever list is the first. `merged-ascends` (Steps) is the first of these.
-- Assumes nothing.
use mathlib.Core.Path.{◌≡◌, refl, sym, ap, ap₂, subst, ◌∙◌}
use mathlib.Core.Bool.{Bool, true, false, cond, not, ◌||◌, or_comm, or_assoc, or_self_left}
use mathlib.Core.List.{List, [], ◌∷◌, ◌++◌}
use Prim.Native.Nat.{ℕ}
use borrow.Author.Tests.{not-false}
use Rattle.limits.proofs.Laws.{or-false, never}
use Rattle.linefile.specs.Files.{same, keys, before}
use Rattle.linefile.specs.Partners.{partners_of, partners}
use Rattle.merging.specs.Merge.{any_differ, inserted, merged}
use Rattle.linefile.proofs.Keys.{same_refl, same-eq, Order, below, level, above, order, before-irrefl, before-apart}
use Rattle.linefile.proofs.Ascending.{Ascending, All, Behind, all_map, all-behind}
use Rattle.linefile.proofs.Holding.{holds, times, ascending-once, ascending-only}
use Rattle.linefile.proofs.Partners.{level-partners}
use Rattle.merging.proofs.Steps.{all-merged, merged-ascends, level-merged}

-- ---- lines of the same keys that do not differ

-- A line is another one where it has the same keys.
abbrev Agrees : (x y : List ℕ) → Type 0
Agrees x y = same (keys x) (keys y) ≡ true → x ≡ y

differ-append : (ps qs : List (List ℕ × List ℕ)) → any_differ (ps ++ qs) ≡ any_differ ps || any_differ qs
unfolding any_differ
differ-append [] qs = refl
differ-append ((x, y) ∷ ps) qs = ap (λ (b : Bool). not (same x y) || b) (differ-append ps qs) ∙ sym (or_assoc (not (same x y)) (any_differ ps) (any_differ qs))

agree-with : (x : List ℕ) (ys : List (List ℕ)) → any_differ (partners_of x ys) ≡ false → All (Agrees x) ys
unfolding any_differ partners_of
agree-with x [] e = tt
agree-with x (y ∷ ys) e =
    let p = or-false (any_differ (cond (same (keys x) (keys y)) ((x, y) ∷ []) [])) (any_differ (partners_of x ys)) (sym (differ-append (cond (same (keys x) (keys y)) ((x, y) ∷ []) []) (partners_of x ys)) ∙ e) in
    (λ s. same-eq x y (not-false _ (or-false (not (same x y)) false (rw s at p.0)).0), agree-with x ys p.1)

with-agree : (x : List ℕ) (ys : List (List ℕ)) → All (Agrees x) ys → any_differ (partners_of x ys) ≡ false
unfolding any_differ partners_of
with-agree x [] a = refl
with-agree x (y ∷ ys) a = by-test (same (keys x) (keys y)) refl (with-agree x ys a.1)
  where
    by-test : (b : Bool) → same (keys x) (keys y) ≡ b → any_differ (partners_of x ys) ≡ false → any_differ (cond b ((x, y) ∷ []) [] ++ partners_of x ys) ≡ false
    by-test false e h = h
    by-test true e h = ap₂ (λ (s t : Bool). not s || t) (ap (same x) (sym (a.0 e)) ∙ same_refl x) h

agree : (xs ys : List (List ℕ)) → any_differ (partners xs ys) ≡ false → All (λ x. All (Agrees x) ys) xs
unfolding partners
agree [] ys e = tt
agree (x ∷ xs) ys e =
    let p = or-false (any_differ (partners_of x ys)) (any_differ (partners xs ys)) (sym (differ-append (partners_of x ys) (partners xs ys)) ∙ e) in
    (agree-with x ys p.0, agree xs ys p.1)

agreed : (xs ys : List (List ℕ)) → All (λ x. All (Agrees x) ys) xs → any_differ (partners xs ys) ≡ false
unfolding partners any_differ
agreed [] ys a = refl
agreed (x ∷ xs) ys a =
    differ-append (partners_of x ys) (partners xs ys) ∙ ap₂ ◌||◌ (with-agree x ys a.0) (agreed xs ys a.1)

turned : (xs ys : List (List ℕ)) → All (λ x. All (Agrees x) ys) xs → All (λ y. All (Agrees y) xs) ys
turned xs [] a = tt
turned xs (y ∷ ys) a = (
  all_map (λ x. All (Agrees x) (y ∷ ys)) (Agrees y) (λ x p s. sym (p.0 (same-turned y x s))) xs a,
  turned xs ys (all_map (λ x. All (Agrees x) (y ∷ ys)) (λ x. All (Agrees x) ys) (λ x p. p.1) xs a),
)
  where
    same-turned : (y x : List ℕ) → same (keys y) (keys x) ≡ true → same (keys x) (keys y) ≡ true
    same-turned y x s = subst (λ (k : List ℕ). same k (keys y) ≡ true) (same-eq (keys y) (keys x) s) (same_refl (keys y))

-- 15 is the same whichever file is the first
pub differ-swapped : (xs ys : List (List ℕ)) → any_differ (partners xs ys) ≡ any_differ (partners ys xs)
differ-swapped xs ys = by_tests (any_differ (partners xs ys)) (any_differ (partners ys xs)) refl refl
  where
    by_tests : (a b : Bool) → any_differ (partners xs ys) ≡ a → any_differ (partners ys xs) ≡ b → a ≡ b
    by_tests true true e f = refl
    by_tests false false e f = refl
    by_tests false true e f = absurd (never (agreed ys xs (turned xs ys (agree xs ys e))) f)
    by_tests true false e f = absurd (never (agreed xs ys (turned ys xs (agree ys xs f))) e)

-- ---- the merged lines

holds-inserted : (l x : List ℕ) (ls : List (List ℕ)) → All (Agrees x) ls → holds l (inserted x ls) ≡ same l x || holds l ls
unfolding holds inserted
holds-inserted l x [] a = refl
holds-inserted l x (o ∷ os) a = by_order (order (keys x) (keys o)) (holds-inserted l x os a.1)
  where
    swap : (a b c : Bool) → a || (b || c) ≡ b || (a || c)
    swap true true c = refl
    swap true false c = refl
    swap false b c = refl

    by_order : Order (keys x) (keys o) → holds l (inserted x os) ≡ same l x || holds l os → holds l (inserted x (o ∷ os)) ≡ same l x || (same l o || holds l os)
    by_order (below p q r) h = rw p
    by_order (level e p q r) h =
        rw (p, q) (subst (λ (t : List ℕ). same l x || holds l os ≡ same l x || (same l t || holds l os)) (a.0 r) (sym (or_self_left (same l x) (holds l os))))
    by_order (above p q r) h = rw (q, p) (ap (λ (t : Bool). same l o || t) h ∙ swap (same l o) (same l x) (holds l os))

agrees-behind : (x : List ℕ) (xs : List (List ℕ)) → Ascending (keys x) xs → All (Agrees x) xs
agrees-behind x xs a = all_map (Behind (keys x)) (Agrees x) (λ o h s. absurd (never (apart o h) s)) xs (all-behind (keys x) xs a)
  where
    apart : (o : List ℕ) → before (keys x) (keys o) ≡ true → same (keys x) (keys o) ≡ false
    apart o h = before-apart (keys x) (keys o) h

-- a line is among the merged ones where it is among those of either list
pub merged-holds : (k l : List ℕ) (xs ys : List (List ℕ)) → Ascending k xs → any_differ (partners xs ys) ≡ false
    → holds l (merged xs ys) ≡ holds l xs || holds l ys
unfolding holds merged
merged-holds k l xs ys a e = held k xs a (agree xs ys e)
  where
    held : (k : List ℕ) (xs : List (List ℕ)) → Ascending k xs → All (λ x. All (Agrees x) ys) xs → holds l (merged xs ys) ≡ holds l xs || holds l ys
    held k [] a g = refl
    held k (x ∷ xs) a g =
        holds-inserted l x (merged xs ys) (all-merged (Agrees x) xs ys (agrees-behind x xs a.1) g.0)
        ∙ ap (λ (t : Bool). same l x || t) (held (keys x) xs a.1 g.1)
        ∙ sym (or_assoc (same l x) (holds l xs) (holds l ys))

-- each line of either is there exactly once, and no other
pub merged-once : (k l : List ℕ) (xs ys : List (List ℕ)) → Ascending k xs → Ascending k ys → any_differ (partners xs ys) ≡ false
    → times l (merged xs ys) ≡ cond (holds l xs || holds l ys) 1 0
merged-once k l xs ys a b e =
    ascending-once l k (merged xs ys) (merged-ascends k xs ys a b) ∙ ap (λ (t : Bool). cond t 1 0) (merged-holds k l xs ys a e)

-- whichever list is the first
pub merged-swapped : (k : List ℕ) (xs ys : List (List ℕ)) → Ascending k xs → Ascending k ys → any_differ (partners xs ys) ≡ false → merged xs ys ≡ merged ys xs
merged-swapped k xs ys a b e =
    ascending-only k k (merged xs ys) (merged ys xs) (merged-ascends k xs ys a b) (merged-ascends k ys xs b a)
    (λ l. merged-holds k l xs ys a e ∙ or_comm (holds l xs) (holds l ys) ∙ sym (merged-holds k l ys xs b (sym (differ-swapped xs ys) ∙ e)))

-- a list with itself
pub merged-itself : (k : List ℕ) (xs : List (List ℕ)) → Ascending k xs → (merged xs xs ≡ xs) × (any_differ (partners xs xs) ≡ false)
unfolding merged partners any_differ
merged-itself k [] a = (refl, refl)
merged-itself k (x ∷ xs) a =
    let r = merged-itself (keys x) xs a.1 in (
      level-merged x x xs xs a.1 a.1 refl (before-irrefl (keys x)) (before-irrefl (keys x)) ∙ ap (λ (t : List (List ℕ)). x ∷ t) r.0,
      ap any_differ (level-partners x x xs xs a.1 a.1 refl (same_refl (keys x))) ∙ ap₂ (λ (s t : Bool). not s || t) (same_refl x) r.1,
    )
