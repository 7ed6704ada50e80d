-- `decode::inside::chunk` meets its contract: each byte is the one that stands so far behind the offset.
-- Assumes nothing.
use mathlib.Core.Path.{◌≡◌, ap, subst, sym, ◌∙◌}
use mathlib.Core.List.{List}
use Prim.Native.Nat.{ℕ, zero, suc, ◌+◌, ◌≤◌, ◌<◌}
use native.Mathlib.Omega.{arith}
use denote.Param.Members.{Mut}
use lib.ListN.{get_or, length, take, drop, length-drop}
use lib.Seq.{get_or-take, get_or-drop, length-take-le}
use borrow.Author.Rules.{rules}
use Rattle.std.proofs.lemmas.List.{ext_get_or}
use Rattle.std.specs.Fn.{Called}
use Rattle.std.specs.Array.{IsFromFnResultFrom, IsFromFnResult}
use Rattle.decode.proofs.inside.chunk.Goals as goal

-- calls that leave the closure as it is, and answer the byte so far behind the offset
module _ {F : Type 0} (g : Mut F (ℕ × Unit {0}) ℕ) (f : F) (bytes : List ℕ) (at : ℕ)
    (says : (k y : ℕ) (q : F) → Called g f (k, tt) y q → (q ≡ f) × (y ≡ get_or bytes (at + k) 0)) where
  made : (ys : List ℕ) (i n : ℕ) → IsFromFnResultFrom g f ys i n → (k : ℕ) → k < n → get_or ys (i + k) 0 ≡ get_or bytes (at + (i + k)) 0
  made ys i zero r k l = absurd (omega arith)
  made ys i (suc n) r zero l =
      let j : i + 0 ≡ i = omega arith in
      ap (λ (j : ℕ). get_or ys j 0) j ∙ r.2.1 0 ∙ (says i r.1 r.0 r.3).1 ∙ ap (λ (j : ℕ). get_or bytes (at + j) 0) (sym j)
  made ys i (suc n) r (suc k) l =
      let j : i + suc k ≡ i + 1 + k = omega arith in
      ap (λ (j : ℕ). get_or ys j 0) j
      ∙ made ys (i + 1) n (subst (λ (q : F). IsFromFnResultFrom g q ys (i + 1) n) (says i r.1 r.0 r.3).0 r.4) k (omega arith)
      ∙ ap (λ (j : ℕ). get_or bytes (at + j) 0) (sym j)

  copied : (ys : List ℕ) (n : ℕ) → at + n ≤ length bytes → IsFromFnResult g f ys n → ys ≡ take n (drop at bytes)
  copied ys n room r =
      let long : length ys ≡ n = r.long in
      ext_get_or 0 ys (take n (drop at bytes)) (long ∙ sym (length-take-le n (drop at bytes) (rw (length-drop at bytes) (omega arith))))
      (λ i h. let l : i < n = omega (arith, long, h) in
      let j : 0 + i ≡ i = omega arith in
      ap (λ (k : ℕ). get_or ys k 0) (sym j)
      ∙ made ys 0 n r.each i l
      ∙ ap (λ (k : ℕ). get_or bytes (at + k) 0) j
      ∙ sym (get_or-take n (drop at bytes) i 0 l ∙ get_or-drop at bytes i 0))

pub returns : goal.returns
returns g c = copied _ _ c.args.bytes.now c.args.at (λ k y q s. (search rules, search rules)) c.from_fn.result g.row.N c.requires c.from_fn.ensures.items
