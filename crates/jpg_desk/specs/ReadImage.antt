-- WHAT IS JUDGED of the file of an image (release 6b's image files, and Targa), and of its bytes that were read.
use Rattle.std.specs.Prelude.{◌≡◌, ℕ, ◌<◌, ◌≤◌, Bool, List, ◌++◌, length, Option, None, Some}
use Rattle.jpg_spec_image.specs.Images.{Image}
use Rattle.jpg_spec.specs.Segments.{standard_limits}
use Rattle.jpg_spec.specs.declared.fault.FaultAt.{FaultAt}
use Rattle.jpg_desk.specs.ImageFile.{HasFaultIn, HasImageIn, IsOpenIn}
use Rattle.jpg_desk.specs.Judging.{Judging}

-- THE BYTES that were read, of a Targa file if that is asked for

-- The bytes are fewer than may be taken, have no fault and no complete image.
pub record IsOpenImageRead (targa : Bool) (bytes : List ℕ) : Type 0 where
  pub short : length bytes < standard_limits.input
  pub stands : IsOpenIn targa bytes

-- Up to the last piece of them, of at most 65,536, they are such bytes: so fewer than 65,536 were read after the end of
-- the image or its fault.
pub record IsShortImageRead (targa : Bool) (bytes : List ℕ) : Type 0 where
  pub front : List ℕ
  pub piece : List ℕ
  pub cut : bytes ≡ front ++ piece
  pub few : length piece ≤ 65536
  pub before : IsOpenImageRead targa front

-- The file, which has this rest after the bytes, has this image.
pub record IsImageRead (targa : Bool) (image : Image) (rest bytes : List ℕ) : Type 0 where
  pub is : HasImageIn targa (bytes ++ rest) image
  pub read : IsShortImageRead targa bytes

-- Or it has this fault.
pub record IsFaultRead (targa : Bool) (f : FaultAt) (rest bytes : List ℕ) : Type 0 where
  pub is : HasFaultIn targa (bytes ++ rest) f
  pub read : IsShortImageRead targa bytes

-- ALL THAT IS JUDGED of them, and of the file; one that ends early is a fault
abbrev pub has_image : Bool → Image → Option ℕ → List ℕ → List ℕ → Type 0
has_image targa image None rest bytes = IsImageRead targa image rest bytes
has_image targa image (Some n) rest bytes = ⊥

abbrev pub means_image : Bool → Option ℕ → Image → List ℕ → Type 0
means_image targa None image bytes = HasImageIn targa bytes image
means_image targa (Some n) image bytes = ⊥

abbrev pub image_judging : Bool → Judging Image
image_judging targa = record {
  means = means_image targa;
  refuses = λ f bytes. HasFaultIn targa bytes f;
  has = has_image targa;
  refused = IsFaultRead targa;
  unfinished = IsOpenImageRead targa;
  short = IsShortImageRead targa;
}
