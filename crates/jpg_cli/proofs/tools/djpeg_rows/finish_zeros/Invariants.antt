use Rattle.std.specs.Prelude.{◌-◌, ℕ}
use Rattle.jpg_color.specs.Shown.{all_rows}
use Rattle.jpg_cli.specs.Tools.Showing.{Showing}
use Rattle.jpg_cli.specs.Tools.ShowingRows.{IsEnding, Run}
use Rattle.jpg_huff.specs.Out.{OnlyWrites}
use Rattle.jpg_cli.proofs.tools.djpeg_rows.finish_zeros.Given as goal

-- Whatever was read and drawn before, some zero rows were drawn since.
abbrev pub invariant-loop-image : goal.invariant-loop-image
invariant-loop-image g l =
    let state = g.D.Desk.state in
    let first = (goal.ImageEnd-dyn g (l.initial.end.vtable, l.initial.end.value)).progress l.initial.end.value in
    let now = (goal.ImageEnd-dyn g (l.end.vtable, l.end.value)).progress l.end.value in
    record {
      kept : OnlyWrites (state l.initial.desk) (state l.desk);
      shows : (s : Showing) (run : Run) (n : ℕ) → IsEnding s run n 0 l.initial.image first (state l.initial.desk)
          → IsEnding s run n 0 l.image now (state l.desk);
    }

abbrev pub decreases-loop-image : goal.decreases-loop-image
decreases-loop-image g l = all_rows l.image.strips.display - l.image.strips.pushed
