use Rattle.std.specs.Prelude.{◌-◌, ◌<◌, length}
use Rattle.jpg_pnm_bmp.specs.EndState.{EndState, parts_due}
use Rattle.jpg_color.proofs.Ending.{IsEnding}
use Rattle.jpg_color.proofs.Sent.{writing}
use Rattle.jpg_color.proofs.decode.send_end.Given as goal

abbrev pub invariant-loop : goal.invariant-loop
invariant-loop g l =
    let state = g.D.Desk.state in
    let before : EndState = (goal.ImageEnd-dyn g (l.initial.end.vtable, l.initial.end.value)).progress l.initial.end.value in
    let now : EndState = (goal.ImageEnd-dyn g (l.end.vtable, l.end.value)).progress l.end.value in
    IsEnding (writing (state l.initial.desk) l.initial.out before) (writing (state l.desk) l.out now) × (length l.initial.out < 32768 → length l.out < 32768)

abbrev pub decreases-loop : goal.decreases-loop
decreases-loop g l =
    let before : EndState = (goal.ImageEnd-dyn g (l.initial.end.vtable, l.initial.end.value)).progress l.initial.end.value in
    let now : EndState = (goal.ImageEnd-dyn g (l.end.vtable, l.end.value)).progress l.end.value in
    length (parts_due before) - now.parts
