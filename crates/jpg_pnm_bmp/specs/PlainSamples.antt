-- Files whose samples are those of the image, byte by byte: P5 and P6 with 255 as the greatest value.
use Rattle.std.specs.Prelude.{◌≡◌, ℕ, ◌*◌, ◌<◌, ◌≤◌, ◌==◌, List, [], ◌∷◌, ◌++◌, length, take, Option, None, Some, if◌then◌else◌}
use Rattle.jpg_spec_image.specs.Images.{Image, sample_count}
use Rattle.jpg_spec_image.specs.PnmText.{pnm_info, greatest_sample}
use Rattle.jpg_spec.specs.declared.fault.Fault.TheVariants.{ImageShort}
use Rattle.jpg_spec.specs.declared.frame.Limits.{Limits}
use Rattle.jpg_spec_image.specs.ImageFaults.{pnm, IsBodyFront, IsImage, IsImageFault, IsOpenImage}
use Rattle.jpg_spec_image.specs.declared.image.ImageInfo.{ImageInfo}
use Rattle.jpg_pnm_bmp.specs.Made.{AreBytes, IsRightImage}
use Rattle.jpg_pnm_bmp.specs.PixelsRead.{HasFedImage}
use Rattle.jpg_pnm_bmp.specs.declared.read.numbers.Numbers.{Numbers}
use Rattle.jpg_pnm_bmp.specs.declared.read.numbers.Numbers.TheVariants.{Nothing, Width, Sides, All}
use Rattle.jpg_pnm_bmp.specs.declared.read.pixels.PixelReader.{PixelReader}
use Rattle.jpg_pnm_bmp.specs.declared.read.work.Stage.{Stage}
use Rattle.jpg_pnm_bmp.specs.declared.read.work.Stage.TheVariants as stage
use Rattle.jpg_pnm_bmp.specs.declared.read.work.Work.{Work}

-- These bytes are the header of such a file, with these numbers, and these samples, fewer than all.
pub record HasFedSamples (info : ImageInfo) (bytes given : List ℕ) : Type 0 where
  pub format : ℕ
  pub numbers : List ℕ
  pub front : List ℕ
  pub header : IsBodyFront (pnm format numbers) front
  pub cut : bytes ≡ front ++ given
  pub info_is : info ≡ pnm_info format numbers
  pub greatest : greatest_sample numbers ≡ 255
  pub few : length given < sample_count info
  pub bytes_all : AreBytes bytes

-- an image's numbers within bounds
pub record AreRightNumbers (info : ImageInfo) : Type 0 where
  pub width_low : 1 ≤ info.width
  pub width_high : info.width ≤ 65500
  pub height_low : 1 ≤ info.height
  pub height_high : info.height ≤ 65500
  pub pixels : info.width * info.height ≤ 268435456

-- its image, once no fewer samples are there than all
abbrev pub plain_image : ImageInfo → List ℕ → Image
plain_image info given = record { info = info; samples = take (sample_count info) given }

-- A piece has the rest of its samples: the bytes are a file of its image, whatever follows, for all limits that they
-- are within, and the image is right.
pub record CompletesPlain (info : ImageInfo) (bytes given piece : List ℕ) : Type 0 where
  pub image : (limits : Limits) (rest : List ℕ) → length (bytes ++ piece) ≤ limits.input → IsImage limits ((bytes ++ piece) ++ rest) (plain_image info (given ++ piece))
  pub right : IsRightImage (plain_image info (given ++ piece))

-- WHAT IS SO of the bytes that follow: each piece adds samples, up to the last one; before that no prefix is complete
-- or has a fault; and where the bytes end the file is too short.
pub record GoesOnPlain (info : ImageInfo) (bytes given : List ℕ) : Type 0 where
  pub more : (piece : List ℕ) → AreBytes piece → length (given ++ piece) < sample_count info → HasFedSamples info (bytes ++ piece) (given ++ piece)
  pub whole : (piece : List ℕ) → AreBytes piece → sample_count info ≤ length (given ++ piece) → CompletesPlain info bytes given piece
  pub short : (limits : Limits) → length bytes < limits.input → IsImageFault limits bytes ImageShort (length bytes)
  pub open_yet : IsOpenImage bytes
  pub numbers : AreRightNumbers info

-- A READER of them

-- the numbers of an image whose samples aren't scaled
abbrev pub unscaled_info : ℕ → Numbers → Option ImageInfo
unscaled_info format Nothing = None
unscaled_info format (Width w) = None
unscaled_info format (Sides w h) = None
unscaled_info format (All w h m) = if m == 255 then Some (pnm_info format (w ∷ h ∷ [])) else None

abbrev pub info_at : Stage → Work → Option ImageInfo
info_at stage.Start w = None
info_at (stage.First first) w = None
info_at (stage.Gap some commented) w = None
info_at (stage.Number n) w = None
info_at stage.BmpHead w = None
info_at (stage.BmpFront passed) w = None
info_at stage.PnmBody w = unscaled_info w.format w.numbers
info_at stage.BmpBody w = None

-- where the state is that of a body
abbrev pub unscaled_view : Work → Option ImageInfo
unscaled_view w = info_at w.stage w

abbrev pub samples_of : Option ImageInfo → List ℕ → List ℕ
samples_of None held = []
samples_of (Some info) held = held

-- the samples so far, where they are the bytes after the header
abbrev pub samples_so_far : PixelReader → List ℕ
samples_so_far r = samples_of (unscaled_view r.reader.work) r.reader.work.samples

-- THE RESULTS of a reader, for all that was fed to it

abbrev pub TellsPlain : PixelReader → ImageInfo → Type 0
TellsPlain r info = (bytes : List ℕ) → HasFedImage bytes r → HasFedSamples info bytes (samples_so_far r)

abbrev pub TellsNotPlain : PixelReader → Type 0
TellsNotPlain r = (bytes given : List ℕ) (info : ImageInfo) → HasFedImage bytes r → HasFedSamples info bytes given → ⊥
