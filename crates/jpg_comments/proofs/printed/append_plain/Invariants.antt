use Rattle.std.proofs.Common.{length}
use Rattle.jpg_comments.specs.Pieces.{plain_text}
use Rattle.jpg_comments.proofs.Appended.{Leaves}
use Rattle.jpg_comments.proofs.printed.append_plain.Given as goal

abbrev pub invariant-loop-place : goal.invariant-loop-place
invariant-loop-place l = Leaves (plain_text l.bytes) l.fn.out l.out (plain_text l.rest)

abbrev pub decreases-loop-place : goal.decreases-loop-place
decreases-loop-place l = length l.rest
