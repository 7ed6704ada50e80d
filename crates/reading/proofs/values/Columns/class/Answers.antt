-- `reading::values::Columns::class` meets its contract: the two digits are those of the field.
-- Assumes nothing.
-- both columns are there, and hold hexadecimal digits
use mathlib.Core.Path.{◌≡◌, sym, ap, ap₂, ◌∙◌}
use mathlib.Core.Bool.{true}
use Prim.Native.Nat.{ℕ, ◌+◌, ◌*◌, ◌<◌}
use native.Mathlib.Omega.{arith}
use lib.Dec.{lit<}
use lib.ListN.{length, drop, get_or}
use lib.Seq.{get_or-take, get_or-drop}
use Rattle.fields.specs.Read.{read_digit, read_hexadecimal}
use Rattle.columns.specs.Columns.{field}
use Rattle.fields.proofs.Hexadecimals.{hex-below}
use Rattle.characters.specs.Kinds.{allows}
use Rattle.characters.proofs.Allowed.{hex-range}
use Rattle.reading.specs.Fields.{hex_digits}
use Rattle.reading.proofs.Columns.{columns_of_lem, holds_at, holds-length}
use Rattle.reading.proofs.values.Columns.class.Goals.{Start}
use Rattle.reading.proofs.values.Columns.class.Goals as goal

long : (c : Start) → (4 < length c.args.self.line.now) × (5 < length c.args.self.line.now)
long c = let h = holds-length 5 (hex_digits 2) c.args.self.line.now (columns_of_lem c.args.self.line.now c.args.self.shared).class in (omega arith, omega arith)

both : (c : Start) → (allows 70 (get_or c.args.self.line.now 4 0) ≡ true) × (allows 70 (get_or c.args.self.line.now 5 0) ≡ true)
both c =
    (holds_at 5 (hex_digits 2) c.args.self.line.now (columns_of_lem c.args.self.line.now c.args.self.shared).class 0 (lit< tt), holds_at 5 (hex_digits 2) c.args.self.line.now (columns_of_lem c.args.self.line.now c.args.self.shared).class 1 (lit< tt))

pub bounds-self-4 : goal.bounds-self-4
bounds-self-4 c = (long (goal.at.bounds-self-4 c).Start).0

pub hex_value-requires : goal.hex_value-requires
hex_value-requires c = (both (goal.at.hex_value-requires c).Start).0

pub overflow_mul-result : goal.overflow_mul-result
overflow_mul-result c = omega (arith, c.hex_value.ensures, hex-below (get_or c.args.self.line.now 4 0) (hex-range _ (both (goal.at.overflow_mul-result c).Start).0))

pub bounds-self-5 : goal.bounds-self-5
bounds-self-5 c = (long (goal.at.bounds-self-5 c).Start).1

pub hex_value-requires-2 : goal.hex_value-requires-2
hex_value-requires-2 c = (both (goal.at.hex_value-requires-2 c).Start).1

pub overflow_add-result : goal.overflow_add-result
overflow_add-result c =
    omega (arith, c.hex_value.ensures, c.hex_value-2.ensures, hex-below (get_or c.args.self.line.now 4 0) (hex-range _ (both (goal.at.overflow_add-result c).Start).0), hex-below (get_or c.args.self.line.now 5 0) (hex-range _ (both (goal.at.overflow_add-result c).Start).1))

pub returns : goal.returns
unfolding read_hexadecimal field
returns c =
    ap₂ (λ (a b : ℕ). 16 * a + b)
    (c.hex_value.ensures ∙ ap read_digit (sym (get_or-take 2 (drop 4 c.args.self.line.now) 0 0 (lit< tt) ∙ get_or-drop 4 c.args.self.line.now 0 0)))
    (c.hex_value-2.ensures ∙ ap read_digit (sym (get_or-take 2 (drop 4 c.args.self.line.now) 1 0 (lit< tt) ∙ get_or-drop 4 c.args.self.line.now 1 0)))
