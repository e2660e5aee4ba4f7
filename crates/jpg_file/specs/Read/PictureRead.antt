-- The picture of a file that was read, complete or ended early, and what it means (T.81, B.2.1).
use Rattle.std.specs.Prelude.{◌≡◌, ℕ, List}
use Rattle.jpg_spec.specs.Scan.{Blocks}
use Rattle.jpg_spec.specs.Markers.{Segment}
use Rattle.jpg_spec.specs.InForce.{frame_of}
use Rattle.jpg_spec.specs.Meaning.{Meaning}
use Rattle.jpg_spec.specs.FileMeaning.{meaning_of}
use Rattle.jpg_spec.specs.declared.frame.Copying.{Copying}
use Rattle.jpg_spec.specs.declared.frame.Limits.{Limits}
use Rattle.jpg_file.specs.Read.File.{keeping_of}
use Rattle.jpg_file.specs.Read.SegmentState.{kept_for}
use Rattle.jpg_file.specs.Read.Left.{Leaves}
use Rattle.jpg_file.specs.Read.PictureKept.{PictureParts, parts_meaning}
use Rattle.jpg_file.specs.Read.ReadFile.{IsDone, IsEarlyEnd, ReaderState}
use Rattle.jpg_file.specs.declared.read.file.FileState.{FileState}
use Rattle.jpg_file.specs.declared.read.picture.Picture.{Picture}

abbrev pub picture_parts : Picture → PictureParts
picture_parts p = record { frame = p.frame; colour = p.colour; quants = p.quants.items; coefs = p.coefs; kept = p.kept; jfif = p.jfif }

-- WHAT A PICTURE MEANS
abbrev pub picture_meaning : Picture → Meaning
picture_meaning p = parts_meaning (picture_parts p)

-- It means this one, except for the markers that aren't kept when these are passed on.
abbrev pub MeansFor : Copying → Picture → Meaning → Type 0
MeansFor keeping p M = picture_meaning p ≡ kept_for keeping M

-- Whatever is left of the file, the picture means it, with the markers that were kept.
abbrev pub RevealsFile : FileState → Picture → Type 0
RevealsFile w p =
    (limits : Limits) (segments : List Segment) (blocks : Blocks) → Leaves limits segments blocks w → MeansFor (keeping_of w) p (meaning_of (frame_of limits segments) segments blocks)

-- of a complete file, and of one that ends early
abbrev pub TakesPicture : ReaderState → Picture → Type 0
TakesPicture r p = (bytes : List ℕ) (d : IsDone bytes r) → MeansFor (keeping_of r.file) p d.meaning

abbrev pub TakesEarly : ReaderState → Picture → Type 0
TakesEarly r p = (bytes : List ℕ) (d : IsEarlyEnd bytes r) → MeansFor (keeping_of r.file) p (meaning_of (frame_of r.limits d.segments) d.segments d.blocks)
