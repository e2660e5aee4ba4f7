-- A reader that gives the samples of an image file, of one format or another, as they are read.
use Rattle.std.specs.Prelude.{◌≡◌, ℕ, ◌<◌, Bool, true, false, List, [], ◌++◌, length, Result, Ok, Err}
use Rattle.jpg_spec.specs.Segments.{standard_limits}
use Rattle.jpg_spec.specs.declared.fault.Fault.TheVariants.{InputTooLong}
use Rattle.jpg_spec_image.specs.declared.image.ImageInfo.{ImageInfo}
use Rattle.jpg_spec_words.specs.declared.answers.Why.{Why}
use Rattle.jpg_spec_words.specs.declared.answers.Why.TheVariants as why
use Rattle.jpg_pnm_bmp.specs.Made.{AreBytes, IsRightImage, image_by_parts}
use Rattle.jpg_pnm_bmp.specs.PnmGiven as pnm
use Rattle.jpg_pnm_bmp.specs.Samples.{Appends}
use Rattle.jpg_pnm_bmp.specs.declared.read.pnm_given.PnmSamples.{PnmSamples}
use Rattle.jpg_targa.specs.TargaGiven as targa
use Rattle.jpg_targa.specs.declared.read.given.TargaSamples.{TargaSamples}
use Rattle.jpg_desk.specs.ReadImage.{IsFaultRead, IsImageRead, IsShortImageRead}
use Rattle.jpg_desk.specs.declared.image_samples.ImageSamples.{ImageSamples}
use Rattle.jpg_desk.specs.declared.image_samples.ImageSamples.TheVariants as given

-- the numbers of the image
abbrev pub samples_info : ImageSamples → ImageInfo
samples_info (given.Pnm r) = pnm.given_info r
samples_info (given.Targa r) = targa.given_info r

-- how many bytes were taken
abbrev pub samples_taken : ImageSamples → ℕ
samples_taken (given.Pnm r) = pnm.given_taken r
samples_taken (given.Targa r) = targa.given_taken r

-- whether all samples were given
abbrev pub is_samples_read : ImageSamples → Bool
is_samples_read (given.Pnm r) = pnm.is_all_given r
is_samples_read (given.Targa r) = targa.is_all_given r

-- whether they are of Targa
abbrev pub is_targa_given : ImageSamples → Bool
is_targa_given (given.Pnm r) = false
is_targa_given (given.Targa r) = true

-- These bytes were fed to it, of Targa or of another format, and it gave these samples.
abbrev pub HasGivenBy : Bool → List ℕ → List ℕ → ImageSamples → Type 0
HasGivenBy false bytes all (given.Pnm r) = pnm.HasGivenSamples bytes all r
HasGivenBy true bytes all (given.Targa r) = targa.HasGivenSamples bytes all r
HasGivenBy targa bytes all other = ⊥

-- So were they, fewer bytes than may be, of an image with these numbers.
pub record HasGiven (targa : Bool) (info : ImageInfo) (bytes all : List ℕ) (r : ImageSamples) : Type 0 where
  pub given : HasGivenBy targa bytes all r
  pub info_is : samples_info r ≡ info
  pub bytes_all : AreBytes bytes
  pub short : length bytes < standard_limits.input

-- THE SAMPLES are those of the image of a file that has this rest after the bytes
pub record HoldsSamples (targa : Bool) (info : ImageInfo) (rest bytes all : List ℕ) : Type 0 where
  pub is : IsImageRead targa (image_by_parts info all) rest bytes
  pub right : IsRightImage (image_by_parts info all)

-- the result of a piece, by all bytes and samples
abbrev pub AfterPiece : Bool → ImageInfo → List ℕ → List ℕ → Result Bool Why → ImageSamples → Type 0
AfterPiece targa info bytes all (Ok false) r = HasGiven targa info bytes all r
AfterPiece targa info bytes all (Ok true) r = (rest : List ℕ) → HoldsSamples targa info rest bytes all
AfterPiece targa info bytes all (Err (why.Refused f)) r = (rest : List ℕ) → IsFaultRead targa f rest bytes
AfterPiece targa info bytes all (Err why.NoMemory) r = IsShortImageRead targa bytes
AfterPiece targa info bytes all (Err other) r = ⊥

-- the result where the file ends
abbrev pub AfterEnd : Bool → ImageInfo → List ℕ → List ℕ → Result (Unit {0}) Why → Type 0
AfterEnd targa info bytes all (Ok u) = HoldsSamples targa info [] bytes all
AfterEnd targa info bytes all (Err (why.Refused f)) = IsFaultRead targa f [] bytes
AfterEnd targa info bytes all (Err why.NoMemory) = IsShortImageRead targa bytes
AfterEnd targa info bytes all (Err other) = ⊥

-- FOR ALL that was read and given before

abbrev pub GivesPiece : ImageSamples → List ℕ → List ℕ → Result Bool Why → ImageSamples → List ℕ → Type 0
GivesPiece old piece before answer new made =
    (targa : Bool) (info : ImageInfo) (bytes all : List ℕ) → HasGiven targa info bytes all old → Appends before made (λ more. AfterPiece targa info (bytes ++ piece) (all ++ more) answer new)

abbrev pub EndsSamples : ImageSamples → List ℕ → Result (Unit {0}) Why → List ℕ → Type 0
EndsSamples old before answer made = (targa : Bool) (info : ImageInfo) (bytes all : List ℕ) → HasGiven targa info bytes all old → Appends before made (λ more. AfterEnd targa info bytes (all ++ more) answer)

-- by the reader of each format

abbrev pub GivesPnm : PnmSamples → List ℕ → List ℕ → Result Bool Why → PnmSamples → List ℕ → Type 0
GivesPnm old piece before answer new made =
    (info : ImageInfo) (bytes all : List ℕ) → HasGiven false info bytes all (given.Pnm old) → Appends before made (λ more. AfterPiece false info (bytes ++ piece) (all ++ more) answer (given.Pnm new))

abbrev pub GivesTarga : TargaSamples → List ℕ → List ℕ → Result Bool Why → TargaSamples → List ℕ → Type 0
GivesTarga old piece before answer new made =
    (info : ImageInfo) (bytes all : List ℕ) → HasGiven true info bytes all (given.Targa old) → Appends before made (λ more. AfterPiece true info (bytes ++ piece) (all ++ more) answer (given.Targa new))

abbrev pub EndsPnm : PnmSamples → List ℕ → Result (Unit {0}) Why → List ℕ → Type 0
EndsPnm old before answer made = (info : ImageInfo) (bytes all : List ℕ) → HasGiven false info bytes all (given.Pnm old) → Appends before made (λ more. AfterEnd false info bytes (all ++ more) answer)

abbrev pub EndsTarga : TargaSamples → Result (Unit {0}) Why → Type 0
EndsTarga old answer = (info : ImageInfo) (bytes all : List ℕ) → HasGiven true info bytes all (given.Targa old) → AfterEnd true info bytes all answer

-- after so many bytes more are needed: a fault, if they are as many as may be taken
abbrev pub LastsHere : ℕ → Result Bool Why → Type 0
LastsHere taken (Ok false) = taken ≡ standard_limits.input → ⊥
LastsHere taken (Ok true) = ⊥
LastsHere taken (Err w) = (w ≡ why.Refused (record { fault = InputTooLong; at = standard_limits.input })) × (taken ≡ standard_limits.input)
