-- Linear arithmetic over the whole numbers, through omega. An expression read by `search quote` (module Identity) has a part above 0 and a part
-- below, natural numbers in the parts of its atoms; an order or an equation between whole numbers is one between these.
--     le-by ρ (search quote depth 20) (omega (arith, le_is ρ (search quote depth 20) h))
-- proves x ≤ℤ y from h : u ≤ℤ v, where ρ lists the atoms of all four. A product of two atoms is multiplied out and then an atom to omega.
-- Assumes nothing.
pub mod Examples
use Rattle.std.specs.Prelude.{◌≡◌, List, ℕ, suc, ◌+◌, ◌*◌, ◌≤◌, ◌<◌, ℤ, pos, negsuc, neg_ℤ, ◌+ℤ◌, ◌*ℤ◌, ◌≤ℤ◌, ◌<ℤ◌}
use Rattle.std.proofs.Common.{sym, ap, ap₂, ◌∙◌, subst₂}
use Rattle.whole.proofs.Differences.{above, below, dif, dif-of, dif-add, dif-mul, dif_neg, dif-eq, dif-eq-is, dif-le, dif-le-is, dif-lt, dif-lt-is}
use Rattle.whole.proofs.Identity.{Term, sum_of, product-of, negation-of, literal, minus-literal, atom, Sides, sides}

-- an expression's part above 0 and its part below
abbrev pub parts : {ρ : List ℤ} {z : ℤ} → Term ρ z → ℕ × ℕ
parts (sum_of a b) = ((parts a).0 + (parts b).0, (parts a).1 + (parts b).1)
parts (product-of a b) =
    ((parts a).0 * (parts b).0 + (parts a).1 * (parts b).1, (parts a).0 * (parts b).1 + (parts a).1 * (parts b).0)
parts (negation-of a) = ((parts a).1, (parts a).0)
parts (literal n e) = (n, 0)
parts (minus-literal n e) = (0, suc n)
parts (atom {x} m) = (above x, below x)

parts_is : {ρ : List ℤ} {z : ℤ} (t : Term ρ z) → z ≡ dif (parts t).0 (parts t).1
parts_is (sum_of a b) = ap₂ ◌+ℤ◌ (parts_is a) (parts_is b) ∙ dif-add (parts a).0 (parts a).1 (parts b).0 (parts b).1
parts_is (product-of a b) =
    ap₂ ◌*ℤ◌ (parts_is a) (parts_is b) ∙ dif-mul (parts a).0 (parts a).1 (parts b).0 (parts b).1
parts_is (negation-of a) = ap neg_ℤ (parts_is a) ∙ dif_neg (parts a).0 (parts a).1
parts_is (literal n e) = dif-of (pos n)
parts_is (minus-literal n e) = dif-of (negsuc n)
parts_is (atom {x} m) = dif-of x

-- the two sides of an order or an equation, as natural numbers
abbrev pub left : {ρ : List ℤ} {x y : ℤ} → Sides ρ x y → ℕ
left (sides a b) = (parts a).0 + (parts b).1

abbrev pub right : {ρ : List ℤ} {x y : ℤ} → Sides ρ x y → ℕ
right (sides a b) = (parts b).0 + (parts a).1

-- goals
pub le-by : (ρ : List ℤ) {x y : ℤ} (s : Sides ρ x y) → left s ≤ right s → x ≤ℤ y
le-by ρ (sides a b) h = subst₂ ◌≤ℤ◌ (sym (parts_is a)) (sym (parts_is b)) (dif-le _ _ _ _ h)

pub lt_by : (ρ : List ℤ) {x y : ℤ} (s : Sides ρ x y) → left s < right s → x <ℤ y
lt_by ρ (sides a b) h = subst₂ ◌<ℤ◌ (sym (parts_is a)) (sym (parts_is b)) (dif-lt _ _ _ _ h)

pub eq-by : (ρ : List ℤ) {x y : ℤ} (s : Sides ρ x y) → left s ≡ right s → x ≡ y
eq-by ρ (sides a b) h = parts_is a ∙ dif-eq _ _ _ _ h ∙ sym (parts_is b)

-- hypotheses
pub le_is : (ρ : List ℤ) {x y : ℤ} (s : Sides ρ x y) → x ≤ℤ y → left s ≤ right s
le_is ρ (sides a b) h = dif-le-is _ _ _ _ (subst₂ ◌≤ℤ◌ (parts_is a) (parts_is b) h)

pub lt-is : (ρ : List ℤ) {x y : ℤ} (s : Sides ρ x y) → x <ℤ y → left s < right s
lt-is ρ (sides a b) h = dif-lt-is _ _ _ _ (subst₂ ◌<ℤ◌ (parts_is a) (parts_is b) h)

pub eq_is : (ρ : List ℤ) {x y : ℤ} (s : Sides ρ x y) → x ≡ y → left s ≡ right s
eq_is ρ (sides a b) h = dif-eq-is _ _ _ _ (sym (parts_is a) ∙ h ∙ parts_is b)
