-- The characters of a line that was made of one of the other form.
-- Assumes nothing.
use mathlib.Core.Path.{◌≡◌, refl, sym, ap, ◌∙◌}
use mathlib.Core.Bool.{true}
use mathlib.Core.List.{List, [], ◌∷◌, ◌++◌, append_assoc, append-nil}
use Prim.Native.Nat.{ℕ, ◌+◌, ◌≤◌}
use native.Mathlib.Nat.{le_refl}
use native.Mathlib.Omega.{arith}
use lib.ListN.{length, drop}
use lib.Seq.{drop-length}
use Rattle.limits.proofs.Laws.{and-true-both}
use Rattle.fields.specs.Text.{bytes_of, decimal, hexadecimal, checksum}
use Rattle.fields.proofs.Laws.{length-decimal}
use Rattle.labels.specs.Labels.{code_fits_lem}
use Rattle.columns.specs.Text.{spaced, line_length}
use Rattle.columns.specs.Columns.{field}
use Rattle.characters.specs.Kinds.{letter_fits_lem, allows, kinds, shared_kinds, old_kinds, allowed, printable}
use Rattle.characters.proofs.Allowed.{code_is, letter-is, space-is, allowed-append, allowed-cut}
use Rattle.characters.proofs.Spelled.{SpelledAs, Spelled}
use Rattle.characters.proofs.Check.{check-closes}
use Rattle.reading.specs.Fields.{digits, Shared}
use Rattle.reading.proofs.Columns.{shared, old-shared}
use Rattle.reading.proofs.Writing.{decimal-allowed, Fitting, spaced-allowed}
use Rattle.version01.specs.Convert.{form_text, down_text, supplied, up_text, old_length}
use Rattle.version01.proofs.Forms.{shared-length, form_columns, columns-length, form-length}

-- ---- the columns

shared-allowed : (line : List ℕ) → Shared line → allowed shared_kinds (field 2 101 line) ≡ true
unfolding field kinds bytes_of
shared-allowed line e = allowed-cut shared_kinds (drop 1 line) e 100 (le_refl 100)

shared-kinds-length : length shared_kinds ≡ 100
unfolding kinds bytes_of
shared-kinds-length = refl

-- these kinds, and those of the columns behind, where the first column may stand
form-allowed : (first : ℕ) (line behind : List ℕ) (kind : ℕ) (ks : List ℕ) → 101 ≤ length line → allows kind first ≡ true → Shared line
    → ((rest : List ℕ) → allowed ks (behind ++ rest) ≡ true) → allowed (kind ∷ (shared_kinds ++ ks)) (form_text first line behind) ≡ true
unfolding form_text allowed
form-allowed first line behind kind ks long f s b =
    let rest = hexadecimal (checksum (first ∷ (field 2 101 line ++ behind))) in
    and-true-both f
    (ap (allowed (shared_kinds ++ ks)) (append_assoc (field 2 101 line) behind rest)
    ∙ allowed-append shared_kinds ks (field 2 101 line) (behind ++ rest) (shared-kinds-length ∙ sym (shared-length line long)) (shared-allowed line s) (b rest))

none_allowed : (rest : List ℕ) → allowed [] ([] ++ rest) ≡ true
unfolding allowed
none_allowed rest = refl

nothing-behind : (text : List ℕ) (n : ℕ) → length text ≡ n → printable (drop n text) ≡ true
unfolding printable
nothing-behind text n e = ap printable (ap (λ (k : ℕ). drop k text) (sym e) ∙ drop-length text)

pub old-spelled : (line : List ℕ) → Spelled line → SpelledAs 101 128 old_kinds (down_text line)
unfolding old_kinds form_text hexadecimal
old-spelled line s =
    let long : 101 ≤ length line = omega (arith, s.least) in
    let n = form-length 32 line [] [] long in
    record {
      least = omega (arith, n);
      most = omega (arith, n);
      check = check-closes 101 (form_columns 32 line [] [] long) [] (columns-length 32 line [] [] long);
      columns = ap (λ (k : List ℕ). allowed (32 ∷ k) (down_text line)) (sym (append-nil shared_kinds)) ∙ form-allowed 32 line [] 32 [] long (space-is 32) (shared line s.columns) none_allowed;
      comment = nothing-behind (down_text line) old_length n;
    }

-- the columns that are supplied
abbrev supplied-kinds : List ℕ
supplied-kinds = spaced (digits 2 ∷ digits 2 ∷ (90 ∷ 90 ∷ 90 ∷ []) ∷ [])

supplied-allowed : (hc frc1 frc2 frc3 : ℕ) → code_fits_lem frc1 ≡ true → code_fits_lem frc2 ≡ true → code_fits_lem frc3 ≡ true
    → (rest : List ℕ) → allowed supplied-kinds (supplied hc frc1 frc2 frc3 ++ rest) ≡ true
unfolding supplied allowed
supplied-allowed hc frc1 frc2 frc3 a b c rest =
    spaced-allowed
    (Fitting.one (sym (length-decimal 2 0)) (decimal-allowed 2 0)
    (Fitting.one (sym (length-decimal 2 hc)) (decimal-allowed 2 hc)
    (Fitting.one refl (and-true-both (code_is frc1 ∙ a) (and-true-both (code_is frc2 ∙ b) (and-true-both (code_is frc3 ∙ c) refl))) Fitting.none))) rest

kinds-are : kinds ≡ 76 ∷ (shared_kinds ++ supplied-kinds)
unfolding kinds bytes_of spaced
kinds-are = refl

pub supplied-length : (hc frc1 frc2 frc3 : ℕ) → length (supplied hc frc1 frc2 frc3) ≡ 10
unfolding supplied spaced decimal
supplied-length hc frc1 frc2 frc3 = refl

letter-allowed : allows 76 71 ≡ true
unfolding letter_fits_lem
letter-allowed = letter-is 71

pub our-spelled : (hc frc1 frc2 frc3 : ℕ) (old : List ℕ) → SpelledAs 101 128 old_kinds old → code_fits_lem frc1 ≡ true → code_fits_lem frc2 ≡ true → code_fits_lem frc3 ≡ true
    → Spelled (up_text hc frc1 frc2 frc3 old)
unfolding form_text hexadecimal
our-spelled hc frc1 frc2 frc3 old s a b c =
    let long : 101 ≤ length old = omega (arith, s.least) in
    let behind = supplied hc frc1 frc2 frc3 in
    let k = supplied-length hc frc1 frc2 frc3 in
    let n : length (up_text hc frc1 frc2 frc3 old) ≡ line_length = form-length 71 old behind [] long ∙ ap (λ (m : ℕ). old_length + m) k in
    record {
      least = omega (arith, n);
      most = omega (arith, n);
      check = check-closes 111 (form_columns 71 old behind [] long) [] (columns-length 71 old behind [] long ∙ ap (λ (m : ℕ). 101 + m) k);
      columns =
          ap (λ (ks : List ℕ). allowed ks (up_text hc frc1 frc2 frc3 old)) kinds-are
          ∙ form-allowed 71 old behind 76 supplied-kinds long letter-allowed (old-shared old s.columns) (supplied-allowed hc frc1 frc2 frc3 a b c);
      comment = nothing-behind (up_text hc frc1 frc2 frc3 old) line_length n;
    }
