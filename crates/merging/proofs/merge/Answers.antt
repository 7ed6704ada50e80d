-- `merging::merge` meets its contract: each test tells what is answered and whether anything is written.
-- Assumes nothing.
use mathlib.Core.Path.{◌≡◌, sym, ap₂, subst}
use mathlib.Core.List.{List, ◌++◌}
use Prim.Native.Nat.{ℕ}
use lib.ListN.{length, drop}
use Rattle.std.proofs.lemmas.Result.{err_from_is_err_and}
use Rattle.limits.proofs.Cases.{paper_above_zero}
use Rattle.linefile.specs.Files.{lines, joined}
use Rattle.merging.specs.Merge.{merged, merged_file}
use Rattle.merging.proofs.Replies.{measure-is, files-refused, differ-refused, room-refused, result_fits, result-written}
use Rattle.merging.proofs.merge.Goals as goal

pub returns-in_err-lines-clause-answer : goal.returns-in_err-lines-clause-answer
returns-in_err-lines-clause-answer c =
    let p = err_from_is_err_and c.from_residual.result c.from_residual.ensures.1 in
    rw (p.1, p.2) (files-refused c.args.first.now c.args.second.now c.args.file.now c.in_err-lines.ensures.number (paper_above_zero c.in_err-lines.field-0.0)).0

pub returns-in_err-lines-clause-written : goal.returns-in_err-lines-clause-written
returns-in_err-lines-clause-written c =
    (files-refused c.args.first.now c.args.second.now c.args.file.now c.in_err-lines.ensures.number (paper_above_zero c.in_err-lines.field-0.0)).1

pub returns-in_err-bytes-clause-answer : goal.returns-in_err-bytes-clause-answer
returns-in_err-bytes-clause-answer c =
    let p = err_from_is_err_and c.from_residual-in_err-bytes.result c.from_residual-in_err-bytes.ensures.1 in
    let e = measure-is c.args.first.now c.args.second.now c.in_ok-lines.ensures.lines c.in_err-bytes.ensures in
    rw (p.1, p.2) (differ-refused c.args.first.now c.args.second.now c.args.file.now (sym c.in_ok-lines.ensures.number) e (paper_above_zero c.in_err-bytes.field-0.0)).0

pub returns-in_err-bytes-clause-written : goal.returns-in_err-bytes-clause-written
returns-in_err-bytes-clause-written c =
    let e = measure-is c.args.first.now c.args.second.now c.in_ok-lines.ensures.lines c.in_err-bytes.ensures in
    (differ-refused c.args.first.now c.args.second.now c.args.file.now (sym c.in_ok-lines.ensures.number) e (paper_above_zero c.in_err-bytes.field-0.0)).1

pub returns-then-file-bytes-clause-answer : goal.returns-then-file-bytes-clause-answer
returns-then-file-bytes-clause-answer c =
    let e = measure-is c.args.first.now c.args.second.now c.in_ok-lines.ensures.lines c.in_ok-bytes.ensures in
    (room-refused c.args.first.now c.args.second.now c.args.file.now (sym c.in_ok-lines.ensures.number) e c.if-file-bytes.true).0

pub returns-then-file-bytes-clause-written : goal.returns-then-file-bytes-clause-written
returns-then-file-bytes-clause-written c =
    let e = measure-is c.args.first.now c.args.second.now c.in_ok-lines.ensures.lines c.in_ok-bytes.ensures in
    (room-refused c.args.first.now c.args.second.now c.args.file.now (sym c.in_ok-lines.ensures.number) e c.if-file-bytes.true).1

-- what the lines of both make is what the files make
made : (P : List ℕ → Type 0) (first second : List ℕ) {xs ys : List (List ℕ)} → (xs ≡ lines first) × (ys ≡ lines second)
    → P (joined (merged xs ys)) → P (merged_file first second)
unfolding merged_file
made P first second l = subst P (ap₂ (λ (xs ys : List (List ℕ)). joined (merged xs ys)) l.0 l.1)

pub write-requires : goal.write-requires
unfolding merged_file
write-requires c =
    let e = measure-is c.args.first.now c.args.second.now c.in_ok-lines.ensures.lines c.in_ok-bytes.ensures in
    rw (c.in_ok-lines.ensures.lines.0, c.in_ok-lines.ensures.lines.1)
    (result_fits c.args.first.now c.args.second.now c.args.file.now (sym c.in_ok-lines.ensures.number) e c.if-file-bytes.false)

pub returns-clause-answer : goal.returns-clause-answer
returns-clause-answer c =
    let e = measure-is c.args.first.now c.args.second.now c.in_ok-lines.ensures.lines c.in_ok-bytes.ensures in
    (result-written c.args.first.now c.args.second.now c.args.file.now (sym c.in_ok-lines.ensures.number) e c.if-file-bytes.false (made (λ text. c.write.new.file ≡ text ++ drop (length text) c.args.file.now) _ _ c.in_ok-lines.ensures.lines c.write.ensures)).0

pub returns-clause-written : goal.returns-clause-written
returns-clause-written c =
    let e = measure-is c.args.first.now c.args.second.now c.in_ok-lines.ensures.lines c.in_ok-bytes.ensures in
    (result-written c.args.first.now c.args.second.now c.args.file.now (sym c.in_ok-lines.ensures.number) e c.if-file-bytes.false (made (λ text. c.write.new.file ≡ text ++ drop (length text) c.args.file.now) _ _ c.in_ok-lines.ensures.lines c.write.ensures)).1
