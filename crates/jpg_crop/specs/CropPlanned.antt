-- HOW A CROPPED PICTURE IS WRITTEN (the manual of libjpeg-turbo's jpegtran, `-crop`): the area that is asked for, and the
-- plan for a picture that is transformed by a choice and cropped to it.
use Rattle.std.specs.Prelude.{◌≡◌, ◌*◌, true, Result, Ok, Err, Some}
use Rattle.jpg_spec.specs.Geometry.{Frame, h_max, v_max}
use Rattle.jpg_spec_move.specs.Cropped.{cropped_frame, is_area_of, on_grid}
use Rattle.jpg_spec_move.specs.Moved.{Choice, picture_fault}
use Rattle.jpg_spec_move.specs.declared.area.Area.{Area}
use Rattle.jpg_spec_write.specs.declared.picture_fault.PictureFault.{PictureFault}
use Rattle.jpg_file.specs.Read.PictureRead.{picture_meaning}
use Rattle.jpg_file.specs.declared.read.picture.Picture.{Picture}
use Rattle.jpg_transform.specs.Planned.{IsJobFor, IsPlanFor}
use Rattle.jpg_transform.specs.declared.choice.Job.{Job}
use Rattle.jpg_crop.specs.declared.planning.CropJob.{CropJob}

-- the choice with an area to crop to
abbrev pub with_area : Area → Choice → Choice
with_area area choice = record choice { crop = Some area }

-- The plan's frame is this frame cropped to the area, which is inside, and the corner is where it is on the grid.
pub record IsCutFrom (area : Area) (f : Frame) (crop : CropJob) : Type 0 where
  pub inside : is_area_of area f.width f.height ≡ true
  pub frame : crop.plan.out.frame ≡ cropped_frame area f
  pub across : crop.x0 ≡ on_grid (8 * h_max f) area.x
  pub down : crop.y0 ≡ on_grid (8 * v_max f) area.y

-- THE JOB: the plan is for the choice with the area, and its frame is cut from the one that the picture has without.
pub record IsCropJobFor (p : Picture) (choice : Choice) (job : Job) (area : Area) (crop : CropJob) : Type 0 where
  pub planned : IsPlanFor p (with_area area choice) crop.plan
  pub cut : IsCutFrom area job.plan.out.frame crop

-- the job for a picture that is transformed by a choice, or its fault for the choice with the area
abbrev pub IsCropPlanFor : Picture → Choice → Job → Area → Result CropJob PictureFault → Type 0
IsCropPlanFor p choice job area (Ok crop) = IsCropJobFor p choice job area crop
IsCropPlanFor p choice job area (Err fault) = picture_fault (with_area area choice) (picture_meaning p) ≡ Some fault

-- The crop job, or the fault, for any choice that the job without an area is for.
abbrev pub IsCropPlan : Picture → Job → Area → Result CropJob PictureFault → Type 0
IsCropPlan p job area result = (choice : Choice) → IsJobFor p choice job → IsCropPlanFor p choice job area result
