-- Whether a line is among others, and how often; among ascending ones it is once at most.
-- Assumes nothing.
use mathlib.Core.Path.{◌≡◌, refl, sym, ap, ap₂, subst, ◌∙◌}
use mathlib.Core.Bool.{Bool, true, false, cond, ◌||◌, false≢true}
use mathlib.Core.List.{List, [], ◌∷◌, ◌++◌}
use Prim.Native.Nat.{ℕ, ◌+◌, ◌≤◌}
use native.Mathlib.Nat.{zero-add}
use native.Mathlib.Omega.{arith}
use Rattle.limits.proofs.Laws.{either, never}
use Rattle.linefile.specs.Files.{same, keys, before}
use Rattle.linefile.proofs.Keys.{same_refl, same-eq, before-irrefl, before-asym}
use Rattle.linefile.proofs.Ascending.{Ascending, All, Behind, all-behind}

-- Whether a line is among others, and how often.
unfoldable pub holds : (line : List ℕ) → List (List ℕ) → Bool
holds line [] = false
holds line (other ∷ others) = same line other || holds line others

unfoldable pub times : (line : List ℕ) → List (List ℕ) → ℕ
times line [] = 0
times line (other ∷ others) = cond (same line other) 1 0 + times line others

pub times-append : (l : List ℕ) (xs ys : List (List ℕ)) → times l (xs ++ ys) ≡ times l xs + times l ys
unfolding times
times-append l [] ys = sym (zero-add (times l ys))
times-append l (x ∷ xs) ys = omega (arith, times-append l xs ys)

-- ---- ascending lines

-- a line that is held is behind what all are behind
held-behind : (l k : List ℕ) (ls : List (List ℕ)) → All (Behind k) ls → holds l ls ≡ true → before k (keys l) ≡ true
unfolding holds
held-behind l k [] a e = absurd (false≢true e)
held-behind l k (o ∷ os) a e =
    either (same l o) (holds l os) e (λ s. subst (λ (t : List ℕ). before k (keys t) ≡ true) (sym (same-eq l o s)) a.0) (λ h. held-behind l k os a.1 h)

-- so the line itself is not behind it
not-held : (l : List ℕ) (ls : List (List ℕ)) → Ascending (keys l) ls → holds l ls ≡ false
not-held l ls a = by-test (holds l ls) refl
  where
    by-test : (b : Bool) → holds l ls ≡ b → b ≡ false
    by-test false e = refl
    by-test true e = absurd (never (before-irrefl (keys l)) (held-behind l (keys l) ls (all-behind (keys l) ls a) e))

-- an ascending list holds no line twice
pub ascending-once : (l k : List ℕ) (ls : List (List ℕ)) → Ascending k ls → times l ls ≡ cond (holds l ls) 1 0
unfolding holds times
ascending-once l k [] a = refl
ascending-once l k (o ∷ os) a = by-test (same l o) refl (ascending-once l (keys o) os a.1)
  where
    by-test : (b : Bool) → same l o ≡ b → times l os ≡ cond (holds l os) 1 0 → cond b 1 0 + times l os ≡ cond (b || holds l os) 1 0
    by-test true e h =
        let n = subst (λ (t : List ℕ). holds t os ≡ false) (sym (same-eq l o e)) (not-held o os a.1) in
        ap (λ (t : ℕ). 1 + t) (h ∙ ap (λ (t : Bool). cond t 1 0) n)
    by-test false e h = omega (arith, h)

pub ascending-few : (l k : List ℕ) (xs : List (List ℕ)) → Ascending k xs → times l xs ≤ 1
ascending-few l k xs a = rw (ascending-once l k xs a) (by-test (holds l xs))
  where
    by-test : (b : Bool) → cond b 1 0 ≤ 1
    by-test true = omega arith
    by-test false = omega arith

-- two ascending lists that hold the same lines are the same
pub ascending-only : (j k : List ℕ) (xs ys : List (List ℕ)) → Ascending j xs → Ascending k ys → ((l : List ℕ) → holds l xs ≡ holds l ys) → xs ≡ ys
unfolding holds
ascending-only j k [] [] a b h = refl
ascending-only j k [] (y ∷ ys) a b h = absurd (never (sym (h y)) (ap (λ (t : Bool). t || holds y ys) (same_refl y)))
ascending-only j k (x ∷ xs) [] a b h = absurd (never (h x) (ap (λ (t : Bool). t || holds x xs) (same_refl x)))
ascending-only j k (x ∷ xs) (y ∷ ys) a b h =
    ap₂ (λ (u : List ℕ) (v : List (List ℕ)). u ∷ v) first (ascending-only (keys x) (keys y) xs ys a.1 b.1 rest)
  where
    x-held : holds x (y ∷ ys) ≡ true
    x-held = sym (h x) ∙ ap (λ (t : Bool). t || holds x xs) (same_refl x)

    y-held : holds y (x ∷ xs) ≡ true
    y-held = h y ∙ ap (λ (t : Bool). t || holds y ys) (same_refl y)

    first : x ≡ y
    first =
        either (same x y) (holds x ys) x-held (same-eq x y)
        (λ p. either (same y x) (holds y xs) y-held (λ s. sym (same-eq y x s))
        (λ q. absurd (never (before-asym (keys y) (keys x) (held-behind x (keys y) ys (all-behind (keys y) ys b.1) p))
        (held-behind y (keys x) xs (all-behind (keys x) xs a.1) q))))

    rest : (l : List ℕ) → holds l xs ≡ holds l ys
    rest l = by-test (same l x) refl
      where
        by-test : (t : Bool) → same l x ≡ t → holds l xs ≡ holds l ys
        by-test true e =
            let at_x = same-eq l x e in
            subst (λ (t : List ℕ). holds t xs ≡ false) (sym at_x) (not-held x xs a.1)
            ∙ sym (subst (λ (t : List ℕ). holds t ys ≡ false) (sym (at_x ∙ first)) (not-held y ys b.1))
        by-test false e =
            ap (λ (t : Bool). t || holds l xs) (sym e)
            ∙ h l
            ∙ ap (λ (t : Bool). t || holds l ys) (ap (same l) (sym first) ∙ e)
