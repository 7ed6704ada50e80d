-- `reader::comment` meets its contract: the case of the reading tells where the comment begins.
-- Assumes nothing.
use mathlib.Core.Path.{◌≡◌, sym, ap, ◌∙◌}
use native.Mathlib.Omega.{arith}
use mathlib.Core.List.{List}
use Prim.Native.Nat.{ℕ, ◌+◌, ◌-◌}
use lib.ListN.{length, take, drop}
use Rattle.std.specs.Borrow.{Bor}
use Rattle.limits.proofs.Parts.{rest_part}
use Rattle.reader.specs.Part.{PartFrom}
use Rattle.reader.specs.Comment.{comment_offset}
use Rattle.reading.proofs.Refusals.{accepted}
use Rattle.reading.proofs.Readings.{accepted-case, refused-case}
use Rattle.reader.proofs.Comments.{offset-accepted, offset-refused}
use Rattle.reader.proofs.comment.Goals as goal

-- the part that is lent from an offset on
part_at : (line : Bor (List ℕ)) (at : ℕ) → comment_offset line.now ≡ at
    → PartFrom (comment_offset line.now) line
    (record { ref_ptr = (line.ref_ptr.0, at + line.ref_ptr.1); now = take (length line.now - at) (drop at line.now) })
part_at line at e =
    record {
      place = ap (λ (k : ℕ). (line.ref_ptr.0, k + line.ref_ptr.1)) (sym e);
      bytes = rest_part line.now at ∙ ap (λ (k : ℕ). drop k line.now) (sym e);
    }

pub returns-in_default : goal.returns-in_default
returns-in_default c =
    part_at c.args.line _ (offset-refused c.args.line.now (refused-case c.args.line.now c.in_default.is c.read.ensures.answer))

-- a line that is read has all columns
pub slice_bounds-result-count-2 : goal.slice_bounds-result-count-2
slice_bounds-result-count-2 c =
    omega (arith, (accepted c.args.line.now (accepted-case c.args.line.now c.in-Ok.is c.read.ensures.answer)).0.least)

pub slice_bounds-result-start-2 : goal.slice_bounds-result-start-2
slice_bounds-result-start-2 c =
    omega (arith, (accepted c.args.line.now (accepted-case c.args.line.now c.in-Ok.is c.read.ensures.answer)).0.least)

pub returns : goal.returns
returns c =
    part_at c.args.line _ (offset-accepted c.args.line.now (accepted-case c.args.line.now c.in-Ok.is c.read.ensures.answer))
