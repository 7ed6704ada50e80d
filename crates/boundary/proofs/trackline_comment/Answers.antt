-- `boundary::trackline_comment` meets its contract: the comment is all of the line from its offset on, so the rest of the line is as long as that.
-- Assumes nothing.
use mathlib.Core.Path.{◌≡◌, ap, ◌∙◌}
use native.Mathlib.Omega.{arith}
use lib.ListN.{length, length-drop}
use Rattle.reader.specs.Comment.{comment_offset}
use Rattle.reader.proofs.Comments.{offset-within}
use Rattle.boundary.proofs.trackline_comment.Goals as goal

pub returns : goal.returns
returns c =
    omega (arith, ap length c.comment-comment.ensures.bytes ∙ length-drop (comment_offset c.args.line.now) c.args.line.now, offset-within c.args.line.now)
