-- THE FILE OF A PICTURE THAT WAS TRANSFORMED MCU ROW BY MCU ROW, whose one scan is in memory (the manual of jpegtran).
use Rattle.std.specs.Prelude.{◌≡◌}
use Rattle.jpg_spec.specs.Geometry.{Frame}
use Rattle.jpg_spec.specs.Scan.{Blocks}
use Rattle.jpg_spec_move.specs.Moved.{Choice, moved_text}
use Rattle.jpg_file.specs.Read.PictureRead.{picture_meaning}
use Rattle.jpg_file.specs.Write.WriteFile.{file_bytes}
use Rattle.jpg_file.specs.declared.read.picture.Picture.{Picture}
use Rattle.jpg_transform.specs.Planned.{IsPlanFor}
use Rattle.jpg_desk.specs.EncodedRows.{HasData}
use Rattle.jpg_desk.specs.declared.encoded_rows.EncodedRows.{EncodedRows}

-- It is that of this picture for a choice, and has the text of the transformed picture.
pub record IsMovedRows (choice : Choice) (p : Picture) (r : EncodedRows) : Type 0 where
  pub planned : IsPlanFor p choice ((r.file).plan).value
  pub frame : Frame
  pub blocks : Blocks
  pub has : HasData r frame blocks
  pub text : file_bytes ((r.file).plan).value (r.file).kept blocks ≡ moved_text choice (picture_meaning p)
