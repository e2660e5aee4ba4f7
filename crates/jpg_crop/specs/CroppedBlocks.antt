-- The blocks and the frame of a view of a cropped picture, and the file that is written of it.
use Rattle.std.specs.Prelude.{◌≡◌, ℕ, ◌+◌, ◌<◌, ◌≤◌, List, length, slice_index}
use Rattle.jpg_spec.specs.Geometry.{Frame, IsReal}
use Rattle.jpg_spec.specs.Scan.{Blocks}
use Rattle.jpg_spec_move.specs.Moved.{Choice, moved}
use Rattle.jpg_spec_move.specs.declared.area.Area.{Area}
use Rattle.jpg_file.specs.Read.PictureRead.{picture_meaning}
use Rattle.jpg_file.specs.declared.read.picture.Picture.{Picture}
use Rattle.jpg_transform.specs.MovedBlocks.{IsWrittenAs, ShowsJob}
use Rattle.jpg_transform.specs.Places.{IsSeenAs}
use Rattle.jpg_transform.specs.Planned.{IsJobFor}
use Rattle.jpg_transform.specs.declared.choice.Job.{Job}
use Rattle.jpg_crop.specs.CropPlanned.{IsCropJobFor, with_area}
use Rattle.jpg_crop.specs.declared.planning.CropJob.{CropJob}

-- blocks from this many columns and rows of their component on
abbrev pub blocks_from : List ℕ → List ℕ → Blocks → Blocks
blocks_from columns rows blocks i x y = blocks i (x + slice_index columns i) (y + slice_index rows i)

-- Each real place of the output has its block from a real place of the frame before, and its numbers fit into 32 bits.
pub record HasPlaces (before : Frame) (columns rows : List ℕ) (out : Frame) : Type 0 where
  pub few : length out.components ≤ 4
  pub places : (i x y : ℕ) → IsReal out i x y → IsReal before i (x + slice_index columns i) (y + slice_index rows i)
  pub column : (i x y : ℕ) → IsReal out i x y → x + slice_index columns i < 4294967296
  pub row : (i x y : ℕ) → IsReal out i x y → y + slice_index rows i < 4294967296

-- A picture transformed by a choice that this job is for, seen by its frame and blocks; and the job that crops it to an
-- area.
pub record IsCropOf (p : Picture) (choice : Choice) (area : Area) (crop : CropJob) (f : Frame) (seen : Blocks) : Type 0 where
  pub base : Job
  pub job : IsJobFor p choice base
  pub cropped : IsCropJobFor p choice base area crop
  pub frame : f ≡ base.plan.out.frame
  pub shows : ShowsJob p base seen

-- In the plan's frame these blocks are those of the picture transformed by the choice with the area.
abbrev pub ShowsCropped : CropJob → Frame → Blocks → Blocks → Type 0
ShowsCropped crop f before seen =
    (p : Picture) (choice : Choice) (area : Area) → IsCropOf p choice area crop f before
    → IsSeenAs (moved (with_area area choice) (picture_meaning p)) crop.plan.out.frame seen

-- The file of the plan may be written from them, and its text is that of this picture, which it means if some bytes mean
-- the picture before.
abbrev pub WritesCropped : CropJob → Frame → Blocks → Frame → Blocks → Type 0
WritesCropped crop f before out seen =
    (p : Picture) (choice : Choice) (area : Area) → IsCropOf p choice area crop f before
    → IsWrittenAs p (with_area area choice) crop.plan out seen
