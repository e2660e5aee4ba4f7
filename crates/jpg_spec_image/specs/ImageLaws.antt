-- Terms of the laws over images that are read.
use Rattle.std.specs.Prelude.{ℕ, List}
use Rattle.jpg_spec_image.specs.Images.{Image}
use Rattle.jpg_spec_image.specs.ImageFaults.{IsWholeImage, ShowsImageFault, IsImage, IsImageFault}
use Rattle.jpg_spec.specs.declared.fault.Fault.{Fault}
use Rattle.jpg_spec.specs.declared.frame.Limits.{Limits}

abbrev pub HasImage : Limits → List ℕ → Type 0
HasImage limits bytes = (image : Image) × IsImage limits bytes image

abbrev pub HasFault : Limits → List ℕ → Type 0
HasFault limits bytes = (fault : Fault) × (n : ℕ) × IsImageFault limits bytes fault n

-- the result of bytes at their last one
pub data ImageAnswer : Type 0 where
  to_image : Image → ImageAnswer
  to_fault : Fault → ImageAnswer

abbrev pub HasImageAnswer : List ℕ → ImageAnswer → Type 0
HasImageAnswer bytes (to_image image) = IsWholeImage bytes image
HasImageAnswer bytes (to_fault fault) = ShowsImageFault fault bytes
