use Rattle.std.proofs.Common.{length, ◌-◌}
use Rattle.jpg_preview.proofs.PieceSteps.{PieceViewed}
use Rattle.jpg_preview.proofs.view.view_piece.Given as goal

abbrev pub invariant-loop-used : goal.invariant-loop-used
invariant-loop-used l = PieceViewed l.scans l.fn.reader l.piece l.used l.reader

abbrev pub decreases-loop-used : goal.decreases-loop-used
decreases-loop-used l = length l.piece - l.used
