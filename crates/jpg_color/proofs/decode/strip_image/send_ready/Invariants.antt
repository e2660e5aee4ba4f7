use Rattle.std.specs.Prelude.{◌-◌, ◌<◌, length}
use Rattle.jpg_pnm_bmp.specs.EndState.{EndState}
use Rattle.jpg_color.specs.Shown.{rows_made_ready}
use Rattle.jpg_color.proofs.RowsSending.{IsSending}
use Rattle.jpg_color.proofs.Sent.{writing}
use Rattle.jpg_color.proofs.decode.strip_image.send_ready.Given as goal

abbrev pub invariant-loop-strips : goal.invariant-loop-strips
invariant-loop-strips g l =
    let state = g.D.Desk.state in
    let before : EndState = (goal.ImageEnd-dyn g (l.initial.end.vtable, l.initial.end.value)).progress l.initial.end.value in
    let now : EndState = (goal.ImageEnd-dyn g (l.end.vtable, l.end.value)).progress l.end.value in
    IsSending (writing (state l.initial.desk) l.initial.out before) l.initial.strips (writing (state l.desk) l.out now) l.strips
    × (length l.initial.out < 32768 → length l.out < 32768)

abbrev pub decreases-loop-strips : goal.decreases-loop-strips
decreases-loop-strips g l = rows_made_ready l.strips.display l.strips.pushed - l.strips.given
