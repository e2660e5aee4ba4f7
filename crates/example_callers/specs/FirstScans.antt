-- WHAT THE CALLERS PROMISE about the first scans of a file that they have in memory.
use Rattle.std.specs.Prelude.{ℕ, List, Result, Ok, Err}
use Rattle.jpg_spec.specs.Early.{IsMeaning}
use Rattle.jpg_spec.specs.Segments.{standard_limits}
use Rattle.jpg_spec_image.specs.Front.{IsFront}
use Rattle.jpg_base.specs.declared.stop.Stop.{Stop}
use Rattle.jpg_base.specs.declared.stop.Stop.TheVariants as stop
use Rattle.jpg_file.specs.Read.PictureRead.{picture_meaning}
use Rattle.jpg_file.specs.Read.ReadFile.{IsRefusal}
use Rattle.jpg_file.specs.declared.read.picture.Picture.{Picture}

-- the picture that the file's front means, or what that is refused with
abbrev pub IsFirstScansOf : ℕ → List ℕ → Result Picture Stop → Type 0
IsFirstScansOf scans file (Ok p) = (front : List ℕ) × IsFront standard_limits scans file front × IsMeaning standard_limits front (picture_meaning p)
IsFirstScansOf scans file (Err (stop.Fault f)) = (front : List ℕ) → IsFront standard_limits scans file front → IsRefusal standard_limits front f
IsFirstScansOf scans file (Err stop.NoMemory) = Unit {0}
