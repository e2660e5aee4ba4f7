-- The facts that hold of each sampler of an image.
use Rattle.std.specs.Prelude.{◌≡◌, ℕ, ◌+◌, ◌*◌, ◌≤◌, ◌<◌, ◌-◌, min, List, length, None}
use Rattle.jpg_spec.specs.FrameHeader.{IsFrame}
use Rattle.jpg_spec.specs.Geometry.{Frame, mcus_down, v_max}
use Rattle.jpg_spec_image.specs.declared.image.ImageInfo.{ImageInfo}
use Rattle.jpg_color.specs.ColourRows.{numbers_of_pixel}
use Rattle.jpg_color.specs.Encode.{CanSample, encoded_frame, fault_due}
use Rattle.jpg_color.specs.EncodeBlocks.{HasPlanes}
use Rattle.jpg_color.specs.declared.encode.Encoding.{Encoding as Asked}
use Rattle.jpg_color.specs.declared.encode.strips.Planes.{Planes}

-- how many samples a row of an image has, and those for a row of MCUs
abbrev pub row_length : ImageInfo → ℕ
row_length info = numbers_of_pixel info.kind * info.width

abbrev pub strip_room : ImageInfo → Frame → ℕ
strip_room info f = 8 * v_max f * row_length info

-- the numbers of the image that the next row of MCUs is made from
abbrev pub strip_numbers : ImageInfo → Frame → ℕ → ImageInfo
strip_numbers info f made = record info { height = min (8 * v_max f) (info.height - 8 * v_max f * made) }

-- all its samples are pending
pub record IsWhole (info : ImageInfo) (f : Frame) (pending : List ℕ) (made : ℕ) : Type 0 where
  pub more : 8 * v_max f * made < info.height
  pub all : length pending ≡ (strip_numbers info f made).height * row_length info

-- THE FACTS that hold of a sampler, whatever it was given: with pending samples, rows of MCUs but for those that were
-- dropped, and samples left
pub record KeepsSampler (info : ImageInfo) (a : Asked) (f : Frame) (pending : List ℕ) (p : Planes) (dropped made left : ℕ) : Type 0 where
  pub can : CanSample info a
  pub frame : f ≡ encoded_frame info a
  pub none : fault_due info a ≡ None
  pub checked : IsFrame f
  pub low : dropped ≤ made
  pub high : made ≤ mcus_down f
  pub planes : HasPlanes f (made - dropped) p
  pub short : 1 ≤ left → length pending < strip_room info f
  pub count : 1 ≤ left → made * strip_room info f + length pending + left ≡ info.height * row_length info
