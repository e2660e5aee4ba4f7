use Rattle.std.specs.Prelude.{◌-◌}
use Rattle.jpg_pnm_bmp.specs.EndState.{EndState}
use Rattle.jpg_color.proofs.Sent.{writing}
use Rattle.jpg_color.proofs.Showing.{IsShowing}
use Rattle.jpg_color.proofs.decode.send_rows.Given as goal

abbrev pub invariant-loop-rows : goal.invariant-loop-rows
invariant-loop-rows g l =
    let state = g.D.Desk.state in
    let before : EndState = (goal.ImageEnd-dyn g (l.initial.end.vtable, l.initial.end.value)).progress l.initial.end.value in
    let now : EndState = (goal.ImageEnd-dyn g (l.end.vtable, l.end.value)).progress l.end.value in
    IsShowing (writing (state l.initial.desk) l.initial.out before) l.initial.rows (writing (state l.desk) l.out now) l.rows

abbrev pub decreases-loop-rows : goal.decreases-loop-rows
decreases-loop-rows g l = l.rows.strips.display.frame.height - l.rows.strips.given
