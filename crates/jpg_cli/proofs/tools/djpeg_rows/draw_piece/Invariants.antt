use Rattle.std.specs.Prelude.{◌≡◌, ◌-◌, ℕ, true}
use Rattle.jpg_file.specs.Read.ReadFile.{EndsDoneRow}
use Rattle.jpg_color.specs.Shown.{all_rows}
use Rattle.jpg_cli.specs.Tools.Showing.{Showing}
use Rattle.jpg_cli.specs.Tools.ShowingRows.{IsShowing, at_work, Run}
use Rattle.jpg_huff.specs.Out.{OnlyWrites}
use Rattle.jpg_cli.proofs.tools.djpeg_rows.draw_piece.Given as goal

-- Whatever was read and drawn before, run.all of it holds at the answer to what is left of the piece.
abbrev pub invariant-loop-used : goal.invariant-loop-used
invariant-loop-used g l =
    let state = g.D.Desk.state in
    let first = (goal.ImageEnd-dyn g (l.initial.end.vtable, l.initial.end.value)).progress l.initial.end.value in
    let now = (goal.ImageEnd-dyn g (l.end.vtable, l.end.value)).progress l.end.value in
    record {
      kept : OnlyWrites (state l.initial.desk) (state l.desk);
      done : EndsDoneRow l.answer l.reader;
      by_row : l.reader.by_row ≡ true;
      shows : (s : Showing) (run : Run) (m : ℕ)
          → IsShowing s run m l.fed.piece.now l.fed.answer (at_work l.initial.reader l.initial.image first (state l.initial.desk))
          → (n : ℕ) × IsShowing s run n l.rest l.answer (at_work l.reader l.image now (state l.desk));
    }

abbrev pub decreases-loop-used : goal.decreases-loop-used
decreases-loop-used g l = all_rows l.image.strips.display - l.image.strips.pushed
