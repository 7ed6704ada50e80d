-- `decode::inside::fill` meets its contract. The loop keeps the numbers stored, and those that follow, together the whole.
-- Assumes nothing.
use mathlib.Core.Path.{◌≡◌, sym, ap, ◌∙◌}
use Prim.Native.Nat.{◌+◌, ◌*◌, ◌≤◌, ◌<◌}
use native.Mathlib.Omega.{arith}
use lib.ListN.{length, drop, length-set, length-drop}
use lib.Seq.{length-take-le}
use borrow.Author.Rules.{rules}
use borrow.Author.Tests.{le-leb}
use mir.Syntax.{w64}
use mir.Val.{to_z, of_z, SFits}
use mir.Facts.{to_z-of_z}
use Rattle.decode.specs.Number.{little, signed_at_lem}
use Rattle.decode.proofs.Little.{unsigned-inside, eight, signed_is}
use Rattle.decode.proofs.Signeds.{signeds-step, signeds-done, row-places}
use Rattle.decode.proofs.inside.fill.Goals.{After-from_le_bytes, In-loop-i}
use Rattle.decode.proofs.inside.fill.Goals as goal

-- the number of this turn lies within the bytes
lies : (c : In-loop-i)
    → c.args.at + c.args.stride * c.loop-i.i + 8 ≤ length c.args.bytes.now
lies c =
    let h : c.loop-i.i < length c.args.out.now = omega arith in
    row-places _ _ _ _ c.requires c.loop-i.i h

-- what is stored is the row's number
value : (c : After-from_le_bytes)
    → to_z w64 (of_z w64 c.from_le_bytes.result) ≡ signed_at_lem c.args.bytes.now (c.args.at + c.args.stride * c.loop-i.i)
unfolding signed_at_lem
value c =
    let p = c.args.at + c.args.stride * c.loop-i.i in
    let room = lies (goal.at.After-from_le_bytes c).In-loop-i in
    let fits : SFits w64 c.from_le_bytes.result = search rules in
    let left : 8 ≤ length (drop p c.args.bytes.now) = rw (length-drop p c.args.bytes.now) (omega (arith, room)) in
    let long : length c.chunk.result ≡ 8 = ap length c.chunk.ensures ∙ length-take-le 8 (drop p c.args.bytes.now) left in
    to_z-of_z fits
    ∙ c.from_le_bytes.ensures
    ∙ ap (to_z w64) (eight c.chunk.result long ∙ ap little c.chunk.ensures ∙ unsigned-inside 8 p c.args.bytes.now (le-leb (p + 8) (length c.args.bytes.now) room))
    ∙ signed_is _

pub overflow_mul-stride : goal.overflow_mul-stride
overflow_mul-stride c = record { fits = omega (arith, lies (goal.at.overflow_mul-stride c).In-loop-i) }

pub overflow_add-at : goal.overflow_add-at
overflow_add-at c = record { fits = omega (arith, lies (goal.at.overflow_add-at c).In-loop-i) }

pub chunk-requires : goal.chunk-requires
chunk-requires c = (omega arith, lies (goal.at.chunk-requires c).In-loop-i)

pub loop-i-preserved : goal.loop-i-preserved
loop-i-preserved c =
    let p = c.args.at + c.args.stride * c.loop-i.i in
    let further : p + c.args.stride ≡ c.args.at + c.args.stride * (c.loop-i.i + 1) = omega arith in
    let stored = value c in (
      simp length-set c.loop-i.invariant.0,
      simp (stored, sym further)
          (signeds-step c.args.bytes.now _ c.loop-i.out p c.args.stride (length c.args.out.now) c.loop-i.i (search rules) c.loop-i.invariant.0 c.loop-i.invariant.1),
    )

pub returns : goal.returns
returns c =
    signeds-done c.args.bytes.now _ c.loop-i.out (c.args.at + c.args.stride * c.loop-i.i) c.args.stride (length c.args.out.now) c.loop-i.i (search rules) c.loop-i.invariant.0 c.loop-i.invariant.1
