-- The image made of one whose last sample is known.
use Rattle.std.specs.Prelude.{◌≡◌, ℕ, ◌+◌, ◌*◌, ◌<◌, ◌≤◌, List, ◌++◌, length, slice_index, All, Result, Ok, Err}
use Rattle.jpg_base.specs.declared.names.NoMemory.{NoMemory}
use Rattle.jpg_spec_image.specs.Images.{Image, sample_count}
use Rattle.jpg_spec_image.specs.declared.image.ImageInfo.{ImageInfo}

abbrev pub AreBytes : List ℕ → Type 0
AreBytes xs = All (λ b. b < 256) xs

abbrev pub image_by_parts : ImageInfo → List ℕ → Image
image_by_parts info samples = record { info = info; samples = samples }

-- something was appended
abbrev pub IsMore : List ℕ → List ℕ → Type 0
IsMore before made = (more : List ℕ) × (made ≡ before ++ more)

-- a palette's colours are all there for a row
abbrev pub AreIndexes : List ℕ → List ℕ → Type 0
AreIndexes palette row = (k : ℕ) → k < length row → 4 * slice_index row k + 2 < length palette

-- its numbers, and its samples, where they are bytes
abbrev pub Makes : Image → Result ImageInfo NoMemory → List ℕ → Type 0
Makes image (Ok info) made = (info ≡ image.info) × (AreBytes image.samples → made ≡ image.samples)
Makes image (Err fault) made = Unit {0}

-- an image within bounds, with as many samples as its numbers say, all of which are bytes
pub record IsRightImage (image : Image) : Type 0 where
  pub width_low : 1 ≤ image.info.width
  pub width_high : image.info.width ≤ 65500
  pub height_low : 1 ≤ image.info.height
  pub height_high : image.info.height ≤ 65500
  pub pixels : image.info.width * image.info.height ≤ 268435456
  pub count : length image.samples ≡ sample_count image.info
  pub bytes : AreBytes image.samples
