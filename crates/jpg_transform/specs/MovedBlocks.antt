-- The blocks and the frame of a view of a transformed picture, and the file that is written of it.
use Rattle.std.specs.Prelude.{◌≡◌, slice_index}
use Rattle.jpg_spec.specs.FileMeaning.{Means}
use Rattle.jpg_spec.specs.Geometry.{Frame}
use Rattle.jpg_spec_move.specs.Laws.{IsMovable}
use Rattle.jpg_spec_move.specs.Moved.{Choice, moved, moved_text}
use Rattle.jpg_spec_move.specs.Transforms.{placed}
use Rattle.jpg_spec.specs.Scan.{Blocks}
use Rattle.jpg_spec.specs.Segments.{standard_limits}
use Rattle.jpg_coefs.specs.Picture.{map_of}
use Rattle.jpg_file.specs.Read.PictureRead.{picture_meaning}
use Rattle.jpg_file.specs.Write.WriteFile.{CanWriteFile, file_bytes}
use Rattle.jpg_file.specs.declared.read.picture.Picture.{Picture}
use Rattle.jpg_file.specs.declared.write.Plan.{Plan}
use Rattle.jpg_transform.specs.Places.{IsSeenAs}
use Rattle.jpg_transform.specs.Planned.{IsJobFor}
use Rattle.jpg_transform.specs.declared.choice.Job.{Job}
use Rattle.jpg_transform.specs.declared.moved.Moved.{Moved}

abbrev pub moved_blocks : Moved → Blocks
moved_blocks m i x y = placed m.over (slice_index m.columns i) (slice_index m.rows i) (map_of m.picture.now.coefs i) x y

-- the numbers of the output's frame
abbrev pub moved_numbers : Moved → Frame
moved_numbers m = m.frame.now

-- In the output's frame these blocks are those of the transformed picture, for any choice that this job is for.
abbrev pub ShowsJob : Picture → Job → Blocks → Type 0
ShowsJob p job seen = (choice : Choice) → IsJobFor p choice job → IsSeenAs (moved choice (picture_meaning p)) job.plan.out.frame seen

-- The file of the plan may be written from these blocks, and its text is that of the transformed picture; if some bytes
-- mean the picture, the text means the transformed picture.
pub record IsWrittenAs (p : Picture) (choice : Choice) (plan : Plan) (f : Frame) (seen : Blocks) : Type 0 where
  pub can : CanWriteFile plan p.kept f seen
  pub text : file_bytes plan p.kept seen ≡ moved_text choice (picture_meaning p)
  pub means : IsMovable choice (picture_meaning p) → Means standard_limits (moved_text choice (picture_meaning p)) (moved choice (picture_meaning p))

-- The file of the job's plan may be written from these blocks, for any choice that the job is for.
abbrev pub WritesJob : Picture → Job → Frame → Blocks → Type 0
WritesJob p job f seen = (choice : Choice) → IsJobFor p choice job → IsWrittenAs p choice job.plan f seen
