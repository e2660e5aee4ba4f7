use Rattle.std.proofs.Common.{refl}
use Rattle.std.specs.Prelude.{slice_index}
use Rattle.jpg_file.specs.Read.PictureRead.{picture_meaning}
use Rattle.jpg_transform.proofs.MovedFile.{writes_plan}
use Rattle.jpg_transform.proofs.Planned.{is_output, whole_picture}
use Rattle.jpg_transform.proofs.SeenPicture.{seen_meaning}
use Rattle.jpg_transform.proofs.Showing.{AreGiven, Arguments, reached_by, shown_by}
use Rattle.jpg_transform.proofs.moved.Moved.new.Goals as goal
use Rattle.jpg_transform.proofs.moved.Moved.new.Goals.{After-all_rows}

abbrev arguments : (c : After-all_rows) → Arguments
arguments c = record {
  frame = c.args.job.now.plan.out.frame;
  transform = c.args.job.now.transform;
  over = c.transposes.result;
  columns = λ i. slice_index c.all_columns.result i;
  rows = λ i. slice_index c.all_rows.result i;
}

given : (c : After-all_rows) → AreGiven (arguments c)
given c = record { frame = c.checked.ensures; over = c.transposes.ensures; columns = c.all_columns.ensures; rows = c.all_rows.ensures }

pub invariant_of-result : goal.invariant_of-result
invariant_of-result c =
    let p = c.args.picture.now in
    record {
      reaches = record {
        few = c.checked.ensures.count_high;
        places = λ i x y r. reached_by i x y p.keeps.frame (given (goal.at.invariant_of-result c).After-all_rows) (is_output p c.requires.0 c.args.job.now c.requires.1) r;
      };
    }

-- what is viewed, for any choice
pub returns-clause-shows : goal.returns-clause-shows
returns-clause-shows c = λ choice h.
    (let p = c.args.picture.now in
    shown_by (picture_meaning p) p.keeps.frame (given (goal.at.returns-clause-shows c).After-all_rows) (whole_picture p) (seen_meaning p) (is_output p choice c.args.job.now h))

pub returns-clause-writes : goal.returns-clause-writes
returns-clause-writes c = λ choice h. writes_plan c.args.picture.now choice c.args.job.now.plan _ _ refl c.checked.ensures h.planned (returns-clause-shows c choice h)
