use Rattle.std.specs.Prelude.{◌≡◌, false}
use Rattle.jpg_comments.specs.ReadComments.{is_done}
use Rattle.test_parts.proofs.markers.comments.read.Given as goal

abbrev pub invariant-loop-piece : goal.invariant-loop-piece
invariant-loop-piece l = is_done l.comments ≡ false
