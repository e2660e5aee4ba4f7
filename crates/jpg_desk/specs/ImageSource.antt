-- A reader of an image file, of one format or another, that is given the file piece by piece.
use Rattle.std.specs.Prelude.{◌≡◌, ℕ, ◌<◌, Bool, true, false, List, [], ◌++◌, length, Option, None, Some, Result, Ok, Err}
use Rattle.jpg_base.specs.declared.stop.Stop.{Stop}
use Rattle.jpg_spec.specs.Segments.{standard_limits}
use Rattle.jpg_spec_image.specs.Images.{Image}
use Rattle.jpg_spec_words.specs.declared.answers.Why.{Why}
use Rattle.jpg_spec_words.specs.declared.answers.Why.TheVariants as why
use Rattle.jpg_pnm_bmp.specs.Made.{IsRightImage}
use Rattle.jpg_spec_image.specs.declared.image.ImageInfo.{ImageInfo}
use Rattle.jpg_pnm_bmp.specs.PlainSamples.{AreRightNumbers, HasFedSamples, samples_so_far}
use Rattle.jpg_pnm_bmp.specs.PnmGiven.{CanGive as CanGivePnm, TellsNotGiven}
use Rattle.jpg_pnm_bmp.specs.PixelsRead.{HasFedImage, image_read, is_image_read, pixels_taken}
use Rattle.jpg_pnm_bmp.specs.declared.read.piece.Fed2.{Fed2}
use Rattle.jpg_pnm_bmp.specs.declared.read.piece.Fed2.TheVariants as fed
use Rattle.jpg_pnm_bmp.specs.declared.read.pixels.PixelReader.{PixelReader}
use Rattle.jpg_targa.specs.TargaGiven.{CanGive, IsBegunTarga, begun_info}
use Rattle.jpg_targa.specs.TargaRead.{HasFedTarga, is_targa_read, targa_read, targa_taken}
use Rattle.jpg_targa.specs.declared.read.reader.TargaReader.{TargaReader}
use Rattle.jpg_desk.specs.ImageSamples.{HasGiven}
use Rattle.jpg_desk.specs.Pump.{why_stopped}
use Rattle.jpg_desk.specs.ReadImage.{IsFaultRead, IsImageRead, IsShortImageRead}
use Rattle.jpg_desk.specs.declared.image_samples.ImageSamples.{ImageSamples}
use Rattle.jpg_desk.specs.declared.image_source.ImageSource.{ImageSource}
use Rattle.jpg_desk.specs.declared.image_source.ImageSource.TheVariants as source

-- It is a reader of Targa files, or of others, and was given these bytes; more may follow.
abbrev pub HasFed : Bool → List ℕ → ImageSource → Type 0
HasFed false bytes (source.Pixels r) = HasFedImage bytes r
HasFed true bytes (source.Targa r) = HasFedTarga bytes r
HasFed targa bytes other = ⊥

-- Some bytes were given.
abbrev pub HasFedSome : Bool → ImageSource → Type 0
HasFedSome targa r = (bytes : List ℕ) × HasFed targa bytes r

-- the samples so far, of PNM
abbrev pub source_samples : ImageSource → List ℕ
source_samples (source.Pixels r) = samples_so_far r
source_samples (source.Targa r) = []

-- The bytes that follow are the rest of the samples of an image with these numbers; or there are none of which that is
-- so.
abbrev pub TellsSamples : ImageSource → ImageInfo → Type 0
TellsSamples r info = (targa : Bool) (bytes : List ℕ) → HasFed targa bytes r → (targa ≡ false) × HasFedSamples info bytes (source_samples r)

abbrev pub TellsNoSamples : ImageSource → Type 0
TellsNoSamples r = (bytes given : List ℕ) (info : ImageInfo) → HasFed false bytes r → HasFedSamples info bytes given → ⊥

-- SAMPLES CAN BE GIVEN as they are read from here on, those of an image with these numbers.
abbrev pub CanGiveSamples : ImageInfo → ImageSource → Type 0
CanGiveSamples info (source.Pixels r) = CanGivePnm info r
CanGiveSamples info (source.Targa r) = CanGive r × (info ≡ begun_info r)

-- They are within bounds, for all bytes that were given.
abbrev pub TellsRight : ImageSource → ImageInfo → Type 0
TellsRight r info = (targa : Bool) (bytes : List ℕ) → HasFed targa bytes r → AreRightNumbers info

-- or that isn't so
abbrev pub TellsNotGiving : ImageSource → Type 0
TellsNotGiving (source.Pixels r) = TellsNotGiven r
TellsNotGiving (source.Targa r) = (bytes : List ℕ) (info : ImageInfo) → HasFedTarga bytes r → IsBegunTarga info bytes → ⊥

-- A reader that gives them was fed the same bytes, fewer than may be, and gave none yet.
abbrev pub GivesFrom : ImageSource → ImageSamples → Type 0
GivesFrom r given =
    (info : ImageInfo) → CanGiveSamples info r → (targa : Bool) (bytes : List ℕ) → HasFed targa bytes r → length bytes < standard_limits.input → HasGiven targa info bytes [] given

-- the image, once it is complete
abbrev pub source_read : ImageSource → Image
source_read (source.Pixels r) = image_read r
source_read (source.Targa r) = targa_read r

-- how many bytes were taken
abbrev pub source_taken : ImageSource → ℕ
source_taken (source.Pixels r) = pixels_taken r
source_taken (source.Targa r) = targa_taken r

-- whether the image is complete
abbrev pub is_source_read : ImageSource → Bool
is_source_read (source.Pixels r) = is_image_read r
is_source_read (source.Targa r) = is_targa_read r

-- whether the image is complete, for what a reader returned
abbrev pub step_of : Result Fed2 Stop → Result Bool Why
step_of (Ok fed.More) = Ok false
step_of (Ok fed.Done) = Ok true
step_of (Err ended) = Err (why_stopped ended)

-- It has the image of a file that has this rest after the bytes.
pub record HoldsImage (targa : Bool) (rest bytes : List ℕ) (r : ImageSource) : Type 0 where
  pub is : IsImageRead targa (source_read r) rest bytes
  pub right : IsRightImage (source_read r)
  pub done : is_source_read r ≡ true

-- The result of a piece, after which fewer bytes were fed than may be, or as many.
abbrev pub AfterTakingImagePiece : Bool → List ℕ → Result Bool Why → ImageSource → Type 0
AfterTakingImagePiece targa bytes (Ok false) r = HasFed targa bytes r
AfterTakingImagePiece targa bytes (Ok true) r = (rest : List ℕ) → HoldsImage targa rest bytes r
AfterTakingImagePiece targa bytes (Err (why.Refused f)) r = (rest : List ℕ) → IsFaultRead targa f rest bytes
AfterTakingImagePiece targa bytes (Err why.NoMemory) r = IsShortImageRead targa bytes
AfterTakingImagePiece targa bytes (Err other) r = ⊥

-- the result of bytes where the input ends
abbrev pub AfterImageEnd : Bool → List ℕ → Result (Option ℕ) Why → ImageSource → Type 0
AfterImageEnd targa bytes (Ok None) r = HoldsImage targa [] bytes r
AfterImageEnd targa bytes (Ok (Some n)) r = ⊥
AfterImageEnd targa bytes (Err (why.Refused f)) r = IsFaultRead targa f [] bytes
AfterImageEnd targa bytes (Err why.NoMemory) r = IsShortImageRead targa bytes
AfterImageEnd targa bytes (Err other) r = ⊥

-- FOR ALL BYTES that were given before

abbrev pub TakesImagePiece : ImageSource → List ℕ → Result Bool Why → ImageSource → Type 0
TakesImagePiece had piece answer r = (targa : Bool) (bytes : List ℕ) → HasFed targa bytes had → AfterTakingImagePiece targa (bytes ++ piece) answer r

abbrev pub EndsImage : ImageSource → Result (Option ℕ) Why → ImageSource → Type 0
EndsImage had answer r = (targa : Bool) (bytes : List ℕ) → HasFed targa bytes had → length bytes < standard_limits.input → AfterImageEnd targa bytes answer r

-- by the reader of each format

abbrev pub TakesPixels : PixelReader → List ℕ → Result Bool Why → PixelReader → Type 0
TakesPixels had piece answer r = (bytes : List ℕ) → HasFedImage bytes had → AfterTakingImagePiece false (bytes ++ piece) answer (source.Pixels r)

abbrev pub TakesTarga : TargaReader → List ℕ → Result Bool Why → TargaReader → Type 0
TakesTarga had piece answer r = (bytes : List ℕ) → HasFedTarga bytes had → AfterTakingImagePiece true (bytes ++ piece) answer (source.Targa r)

abbrev pub EndsPixels : PixelReader → Result (Option ℕ) Why → PixelReader → Type 0
EndsPixels had answer r = (bytes : List ℕ) → HasFedImage bytes had → length bytes < standard_limits.input → AfterImageEnd false bytes answer (source.Pixels r)

abbrev pub EndsTarga : TargaReader → Result (Option ℕ) Why → TargaReader → Type 0
EndsTarga had answer r = (bytes : List ℕ) → HasFedTarga bytes had → AfterImageEnd true bytes answer (source.Targa r)
