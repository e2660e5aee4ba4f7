use Rattle.std.proofs.Common.{length}
use Rattle.jpg_spec_write.specs.CommentText.{printed}
use Rattle.jpg_comments.proofs.Appended.{Leaves}
use Rattle.jpg_comments.proofs.printed.append_printed.Given as goal

abbrev pub invariant-loop-place : goal.invariant-loop-place
invariant-loop-place l = Leaves (printed l.comment) l.fn.out l.out (printed l.rest)

abbrev pub decreases-loop-place : goal.decreases-loop-place
decreases-loop-place l = length l.rest
