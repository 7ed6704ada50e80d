-- Identities between polynomials over the whole numbers, proved by computing. The author lists the atoms, whatever is no sum, product,
-- negation or literal, and writes
--     identity (a ∷ b ∷ []) (search quote depth 20) tt
-- for a goal x ≡ y. The search reads the two sides; each is brought to a polynomial in the atoms, and the test is that the coefficients of
-- their difference are all 0. The module Examples shows it at work.
-- Assumes nothing.
pub mod Examples
use Rattle.std.specs.Prelude.{◌≡◌, refl, Bool, true, false, ◌&&◌, List, [], ◌∷◌, map, ℕ, zero, suc, T, eqb, length, ℤ, pos, negsuc, neg_ℤ, ◌+ℤ◌, ◌*ℤ◌}
use Rattle.std.proofs.Common.{sym, ap, ap₂, ◌∙◌, eqb→eq}
use Rattle.std.proofs.Math.IntN.{+ℤ_idl, +ℤ_idr, *ℤ-zero, zero-*ℤ, *ℤ_comm}
use Rattle.std.proofs.Math.Facts.{and_yes}
use Rattle.whole.proofs.Ring.{one-*ℤ, negℤ-is, horner-*ℤ, horner-+ℤ, horner-scale, eq-of-sub}

-- ---- polynomials: in no variable a number; in one variable more, the list of coefficients, the constant's first

abbrev pub Pol : ℕ → Type 0
Pol zero = ℤ
Pol (suc n) = List (Pol n)

abbrev eval_list : {A : Type 0} → (A → ℤ) → ℤ → List A → ℤ
eval_list f x [] = pos 0
eval_list f x (p ∷ ps) = f p +ℤ x *ℤ eval_list f x ps

abbrev eval : (ρ : List ℤ) → Pol (length ρ) → ℤ
eval [] c = c
eval (x ∷ ρ) p = eval_list (eval ρ) x p

abbrev none : (n : ℕ) → Pol n
none zero = pos 0
none (suc n) = []

abbrev constant : (n : ℕ) → ℤ → Pol n
constant zero c = c
constant (suc n) c = constant n c ∷ []

abbrev add_list : {A : Type 0} → (A → A → A) → List A → List A → List A
add_list f [] q = q
add_list f (a ∷ p) [] = a ∷ p
add_list f (a ∷ p) (b ∷ q) = f a b ∷ add_list f p q

abbrev plus : (n : ℕ) → Pol n → Pol n → Pol n
plus zero p q = p +ℤ q
plus (suc n) p q = add_list (plus n) p q

abbrev minus : (n : ℕ) → Pol n → Pol n
minus zero p = neg_ℤ p
minus (suc n) p = map (minus n) p

abbrev mul_list : {A : Type 0} → (A → A → A) → (A → A → A) → A → List A → List A → List A
mul_list f g z [] q = []
mul_list f g z (a ∷ p) q = add_list f (map (g a) q) (z ∷ mul_list f g z p q)

abbrev times : (n : ℕ) → Pol n → Pol n → Pol n
times zero p q = p *ℤ q
times (suc n) p q = mul_list (plus n) (times n) (none n) p q

abbrev all_of : {A : Type 0} → (A → Bool) → List A → Bool
all_of f [] = true
all_of f (a ∷ p) = f a && all_of f p

abbrev is_zero : ℤ → Bool
is_zero (pos n) = eqb n 0
is_zero (negsuc n) = false

abbrev vanishes : (n : ℕ) → Pol n → Bool
vanishes zero p = is_zero p
vanishes (suc n) p = all_of (vanishes n) p

-- ---- each operation means what it says

none_is : (ρ : List ℤ) → eval ρ (none (length ρ)) ≡ pos 0
none_is [] = refl
none_is (x ∷ ρ) = refl

last : (a x : ℤ) → a +ℤ x *ℤ pos 0 ≡ a
last a x = ap (λ (z : ℤ). a +ℤ z) (*ℤ-zero x) ∙ +ℤ_idr a

constant-is : (ρ : List ℤ) (c : ℤ) → eval ρ (constant (length ρ) c) ≡ c
constant-is [] c = refl
constant-is (x ∷ ρ) c = last (eval ρ (constant (length ρ) c)) x ∙ constant-is ρ c

-- an atom stands in the list
pub data Among : List ℤ → ℤ → Type 0 where
  here : {x : ℤ} {ρ : List ℤ} → Among (x ∷ ρ) x
  there : {x y : ℤ} {ρ : List ℤ} → Among ρ x → Among (y ∷ ρ) x

abbrev variable : {ρ : List ℤ} {z : ℤ} → Among ρ z → Pol (length ρ)
variable (here {ρ = ρ}) = none (length ρ) ∷ constant (length ρ) (pos 1) ∷ []
variable (there m) = variable m ∷ []

variable-is : {ρ : List ℤ} {z : ℤ} (m : Among ρ z) → eval ρ (variable m) ≡ z
variable-is (here {x} {ρ}) =
    ap₂ (λ (a b : ℤ). a +ℤ x *ℤ b) (none_is ρ) (last (eval ρ (constant (length ρ) (pos 1))) x ∙ constant-is ρ (pos 1))
    ∙ +ℤ_idl (x *ℤ pos 1)
    ∙ *ℤ_comm x (pos 1)
    ∙ one-*ℤ x
variable-is (there {y = y} {ρ = ρ} m) = last (eval ρ (variable m)) y ∙ variable-is m

module _ {A : Type 0} (f : A → A → A) (ev : A → ℤ) (f-is : (a b : A) → ev (f a b) ≡ ev a +ℤ ev b) (x : ℤ) where
  add_list-is : (p q : List A) → eval_list ev x (add_list f p q) ≡ eval_list ev x p +ℤ eval_list ev x q
  add_list-is [] q = sym (+ℤ_idl (eval_list ev x q))
  add_list-is (a ∷ p) [] = sym (+ℤ_idr (ev a +ℤ x *ℤ eval_list ev x p))
  add_list-is (a ∷ p) (b ∷ q) =
      ap₂ (λ (y z : ℤ). y +ℤ x *ℤ z) (f-is a b) (add_list-is p q)
      ∙ horner-+ℤ (ev a) (ev b) x (eval_list ev x p) (eval_list ev x q)

plus-is : (ρ : List ℤ) (p q : Pol (length ρ)) → eval ρ (plus (length ρ) p q) ≡ eval ρ p +ℤ eval ρ q
plus-is [] p q = refl
plus-is (x ∷ ρ) p q = add_list-is (plus (length ρ)) (eval ρ) (plus-is ρ) x p q

-- one function on every coefficient that multiplies its value by m multiplies the polynomial's
module _ {A : Type 0} (g : A → A) (ev : A → ℤ) (m : ℤ) (g-is : (a : A) → ev (g a) ≡ m *ℤ ev a) (x : ℤ) where
  map_is : (p : List A) → eval_list ev x (map g p) ≡ m *ℤ eval_list ev x p
  map_is [] = sym (*ℤ-zero m)
  map_is (a ∷ p) = ap₂ (λ (y z : ℤ). y +ℤ x *ℤ z) (g-is a) (map_is p) ∙ horner-scale m (ev a) x (eval_list ev x p)

minus_is : (ρ : List ℤ) (p : Pol (length ρ)) → eval ρ (minus (length ρ) p) ≡ negsuc 0 *ℤ eval ρ p
minus_is [] p = negℤ-is p
minus_is (x ∷ ρ) p = map_is (minus (length ρ)) (eval ρ) (negsuc 0) (minus_is ρ) x p

module _ {A : Type 0} (f g : A → A → A) (z : A) (ev : A → ℤ) (f-is : (a b : A) → ev (f a b) ≡ ev a +ℤ ev b)
    (g-is : (a b : A) → ev (g a b) ≡ ev a *ℤ ev b) (z-is : ev z ≡ pos 0) (x : ℤ) where
  mul_list-is : (p q : List A) → eval_list ev x (mul_list f g z p q) ≡ eval_list ev x p *ℤ eval_list ev x q
  mul_list-is [] q = sym (zero-*ℤ (eval_list ev x q))
  mul_list-is (a ∷ p) q =
      add_list-is f ev f-is x (map (g a) q) (z ∷ mul_list f g z p q)
      ∙ ap₂ ◌+ℤ◌ (map_is (g a) ev (ev a) (g-is a) x q)
      (ap₂ (λ (s t : ℤ). s +ℤ x *ℤ t) z-is (mul_list-is p q))
      ∙ horner-*ℤ (ev a) x (eval_list ev x p) (eval_list ev x q)

times-is : (ρ : List ℤ) (p q : Pol (length ρ)) → eval ρ (times (length ρ) p q) ≡ eval ρ p *ℤ eval ρ q
times-is [] p q = refl
times-is (x ∷ ρ) p q =
    mul_list-is (plus (length ρ)) (times (length ρ)) (none (length ρ)) (eval ρ) (plus-is ρ) (times-is ρ) (none_is ρ) x p q

is_zero-is : (c : ℤ) → T (is_zero c) → c ≡ pos 0
is_zero-is (pos n) t = ap pos (eqb→eq n 0 t)
is_zero-is (negsuc n) t = absurd t

module _ {A : Type 0} (v : A → Bool) (ev : A → ℤ) (v-is : (a : A) → T (v a) → ev a ≡ pos 0) (x : ℤ) where
  all_of-is : (p : List A) → T (all_of v p) → eval_list ev x p ≡ pos 0
  all_of-is [] t = refl
  all_of-is (a ∷ p) t =
      let each = and_yes (v a) (all_of v p) t in
      ap₂ (λ (y z : ℤ). y +ℤ x *ℤ z) (v-is a each.0) (all_of-is p each.1) ∙ last (pos 0) x

vanishes-is : (ρ : List ℤ) (p : Pol (length ρ)) → T (vanishes (length ρ) p) → eval ρ p ≡ pos 0
vanishes-is [] p t = is_zero-is p t
vanishes-is (x ∷ ρ) p t = all_of-is (vanishes (length ρ)) (eval ρ) (vanishes-is ρ) x p t

-- ---- reading an expression

-- An expression over the atoms ρ whose value is z.
pub data Term (ρ : List ℤ) : ℤ → Type 0 where
  sum_of : {x y : ℤ} → Term ρ x → Term ρ y → Term ρ (x +ℤ y)
  product-of : {x y : ℤ} → Term ρ x → Term ρ y → Term ρ (x *ℤ y)
  negation-of : {x : ℤ} → Term ρ x → Term ρ (neg_ℤ x)
  literal : (n : ℕ) → eqb n n ≡ true → Term ρ (pos n)
  minus-literal : (n : ℕ) → eqb n n ≡ true → Term ρ (negsuc n)
  atom : {x : ℤ} → Among ρ x → Term ρ x

abbrev pub normal : {ρ : List ℤ} {z : ℤ} → Term ρ z → Pol (length ρ)
normal {ρ} (sum_of a b) = plus (length ρ) (normal a) (normal b)
normal {ρ} (product-of a b) = times (length ρ) (normal a) (normal b)
normal {ρ} (negation-of a) = minus (length ρ) (normal a)
normal {ρ} (literal n e) = constant (length ρ) (pos n)
normal {ρ} (minus-literal n e) = constant (length ρ) (negsuc n)
normal (atom m) = variable m

normal-is : {ρ : List ℤ} {z : ℤ} (t : Term ρ z) → eval ρ (normal t) ≡ z
normal-is {ρ} (sum_of a b) = plus-is ρ (normal a) (normal b) ∙ ap₂ ◌+ℤ◌ (normal-is a) (normal-is b)
normal-is {ρ} (product-of a b) = times-is ρ (normal a) (normal b) ∙ ap₂ ◌*ℤ◌ (normal-is a) (normal-is b)
normal-is {ρ} (negation-of a) = minus_is ρ (normal a) ∙ sym (negℤ-is (eval ρ (normal a))) ∙ ap neg_ℤ (normal-is a)
normal-is {ρ} (literal n e) = constant-is ρ (pos n)
normal-is {ρ} (minus-literal n e) = constant-is ρ (negsuc n)
normal-is (atom m) = variable-is m

-- Two expressions over the same atoms: the two sides of an equation or an order.
pub data Sides (ρ : List ℤ) : ℤ → ℤ → Type 0 where
  sides : {x y : ℤ} → Term ρ x → Term ρ y → Sides ρ x y

-- their difference has no coefficient but 0
abbrev pub agree : {ρ : List ℤ} {x y : ℤ} → Sides ρ x y → Bool
agree {ρ} (sides a b) = vanishes (length ρ) (plus (length ρ) (normal a) (minus (length ρ) (normal b)))

pub identity : (ρ : List ℤ) {x y : ℤ} (s : Sides ρ x y) → T (agree s) → x ≡ y
identity ρ (sides {x} {y} a b) t = eq-of-sub x y difference
  where
    difference : x +ℤ neg_ℤ y ≡ pos 0
    difference =
        ap₂ ◌+ℤ◌ (sym (normal-is a))
        (ap neg_ℤ (sym (normal-is b)) ∙ negℤ-is (eval ρ (normal b)) ∙ sym (minus_is ρ (normal b)))
        ∙ sym (plus-is ρ (normal a) (minus (length ρ) (normal b)))
        ∙ vanishes-is ρ (plus (length ρ) (normal a) (minus (length ρ) (normal b))) t

-- what `search` reads an expression by
pub ruleset quote = (sides, sum_of, product-of, negation-of, literal, minus-literal, atom, there, here)
