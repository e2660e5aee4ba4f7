-- WHAT AN IMAGE FILE MEANS, by its format: Targa, if that is asked for, and otherwise PNM or BMP, as its first bytes tell.
use Rattle.std.specs.Prelude.{ℕ, Bool, true, false, List}
use Rattle.jpg_spec.specs.Segments.{standard_limits}
use Rattle.jpg_spec.specs.declared.fault.FaultAt.{FaultAt}
use Rattle.jpg_spec_image.specs.Images.{Image}
use Rattle.jpg_spec_image.specs.ImageFaults.{IsImage, IsImageFault, IsOpenImage}
use Rattle.jpg_spec_image.specs.TargaFaults.{TargaMeans, IsTargaFault, IsOpenTarga}

-- it has this image
abbrev pub HasImageIn : Bool → List ℕ → Image → Type 0
HasImageIn false bytes image = IsImage standard_limits bytes image
HasImageIn true bytes image = TargaMeans bytes image

-- it has this fault
abbrev pub HasFaultIn : Bool → List ℕ → FaultAt → Type 0
HasFaultIn false bytes f = IsImageFault standard_limits bytes f.fault f.at
HasFaultIn true bytes f = IsTargaFault bytes f.fault f.at

-- it has no complete image and no fault so far
abbrev pub IsOpenIn : Bool → List ℕ → Type 0
IsOpenIn false bytes = IsOpenImage bytes
IsOpenIn true bytes = IsOpenTarga bytes
