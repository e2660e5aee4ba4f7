use Rattle.std.proofs.Common.{◌≤◌, ◌-◌, length, take, false, Ok}
use Rattle.jpg_base.proofs.intake.feed_piece.Given as goal

abbrev pub invariant-loop-used : goal.invariant-loop-used
invariant-loop-used g l =
    (l.used ≤ length l.piece) × (g.I.Intake.kind l.intake).after (l.fn.state, l.fn.out) (take l.used l.piece) (Ok false) (l.state, l.out)

abbrev pub decreases-loop-used : goal.decreases-loop-used
decreases-loop-used g l = length l.piece - l.used
