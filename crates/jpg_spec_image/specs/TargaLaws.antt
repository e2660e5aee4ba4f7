-- Terms of the laws over Targa files that are read.
use Rattle.std.specs.Prelude.{◌≡◌, ℕ, true, List, length, All}
use Rattle.jpg_spec.specs.Lists.{joined}
use Rattle.jpg_spec_image.specs.ImageText.{row_bytes, end_text}
use Rattle.jpg_spec_image.specs.Images.{Image, is_side, are_few_pixels}
use Rattle.jpg_spec_image.specs.TargaFaults.{TargaMeans, IsTargaFault}
use Rattle.jpg_spec.specs.declared.fault.Fault.{Fault}
use Rattle.jpg_spec_image.specs.declared.image.ImageInfo.{ImageInfo}
use Rattle.jpg_spec_image.specs.declared.image.EndKind.TheVariants.{Targa}

abbrev pub HasTarga : List ℕ → Type 0
HasTarga bytes = (image : Image) × TargaMeans bytes image

abbrev pub HasTargaFault : List ℕ → Type 0
HasTargaFault bytes = (fault : Fault) × (n : ℕ) × IsTargaFault bytes fault n

-- the rows of an image, whose sides and pixels are within the bounds
pub record AreRowsOf (info : ImageInfo) (rows : List (List ℕ)) : Type 0 where
  pub wide : is_side info.width ≡ true
  pub high : is_side info.height ≡ true
  pub few : are_few_pixels info.width info.height ≡ true
  pub count : length rows ≡ info.height
  pub long : All (λ row. length row ≡ row_bytes info) rows

abbrev pub targa_text : ImageInfo → List (List ℕ) → List ℕ
targa_text info rows = end_text Targa info rows

-- the image of these rows; a Targa file doesn't say how many pixels a metre has
abbrev pub image_of_rows : ImageInfo → List (List ℕ) → Image
image_of_rows info rows = record { info = record info { x_metre = 0; y_metre = 0 }; samples = joined rows }
