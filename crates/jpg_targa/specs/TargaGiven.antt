-- A Targa file whose samples are given as they are read.
use Rattle.std.specs.Prelude.{◌≡◌, ℕ, Bool, true, false, List, ◌++◌, None, Option, Result}
use Rattle.jpg_base.specs.declared.stop.Stop.{Stop}
use Rattle.jpg_spec_image.specs.Images.{Image}
use Rattle.jpg_spec_image.specs.TargaFile.{is_from_top, targa_info, IsTargaFront}
use Rattle.jpg_spec_image.specs.TargaFaults.{TargaMeans}
use Rattle.jpg_spec_image.specs.declared.image.ImageInfo.{ImageInfo}
use Rattle.jpg_pnm_bmp.specs.PlainSamples.{AreRightNumbers}
use Rattle.jpg_pnm_bmp.specs.Samples as samples
use Rattle.jpg_pnm_bmp.specs.declared.read.piece.Fed2.{Fed2}
use Rattle.jpg_targa.specs.Samples.{targa_samples_kind, HasBegun}
use Rattle.jpg_targa.specs.TargaRead.{HasFedTarga, IsShortAt}
use Rattle.jpg_targa.specs.declared.read.given.TargaSamples.{TargaSamples}
use Rattle.jpg_targa.specs.declared.read.reader.TargaReader.{TargaReader}

-- WHERE SAMPLES CAN BE GIVEN: these bytes begin with a header and an identifier, with these numbers, and rows come from
-- the top.
pub record IsBegunTarga (info : ImageInfo) (bytes : List ℕ) : Type 0 where
  pub head : List ℕ
  pub front : List ℕ
  pub body : List ℕ
  pub header : IsTargaFront head front
  pub cut : bytes ≡ front ++ body
  pub top : is_from_top head ≡ true
  pub info_is : info ≡ targa_info head

-- What is so of the bytes that follow: the numbers stay, they are those of the image, and they are within bounds.
pub record GoesOnTarga (info : ImageInfo) (bytes : List ℕ) : Type 0 where
  pub more : (rest : List ℕ) → IsBegunTarga info (bytes ++ rest)
  pub same : (other : ImageInfo) → IsBegunTarga other bytes → other ≡ info
  pub image : (rest : List ℕ) (image : Image) → TargaMeans (bytes ++ rest) image → image.info ≡ info
  pub numbers : AreRightNumbers info

-- A reader that can give samples from now on: some pixels are missing.
pub record CanGive (r : TargaReader) : Type 0 where
  pub stop : r.reader.stop ≡ None
  pub done : r.reader.done ≡ false
  pub begun : HasBegun r.reader.work

-- the numbers of the image then
abbrev pub begun_info : TargaReader → ImageInfo
begun_info r = targa_info r.reader.work.head

-- for all that was fed to it
abbrev pub TellsGiven : TargaReader → ImageInfo → Type 0
TellsGiven r info = (bytes : List ℕ) → HasFedTarga bytes r → IsBegunTarga info bytes

abbrev pub TellsNotGiven : TargaReader → Type 0
TellsNotGiven r = (bytes : List ℕ) (info : ImageInfo) → HasFedTarga bytes r → IsBegunTarga info bytes → ⊥

-- THE READER that gives them

-- the numbers of the image
abbrev pub given_info : TargaSamples → ImageInfo
given_info r = targa_info r.reader.work.head

-- how many bytes were taken
abbrev pub given_taken : TargaSamples → ℕ
given_taken r = r.reader.taken

-- why it stopped, if it did
abbrev pub given_stop : TargaSamples → Option Stop
given_stop r = r.reader.stop

-- All samples were given: neither `feed` nor `end` may be called any more.
abbrev pub is_all_given : TargaSamples → Bool
is_all_given r = r.reader.done

-- These bytes were fed, and these samples given. No prefix of the bytes is complete or has a fault, and more may follow.
abbrev pub HasGivenSamples : List ℕ → List ℕ → TargaSamples → Type 0
HasGivenSamples bytes given r = samples.HasFed targa_samples_kind bytes given r.reader

-- the result of a piece that is fed, by all bytes and samples so far
abbrev pub AfterGiven : List ℕ → List ℕ → List ℕ → Result Fed2 Stop → TargaSamples → Type 0
AfterGiven bytes piece given answer r = samples.AfterFeed targa_samples_kind bytes piece given answer r.reader

abbrev pub Gives : TargaSamples → List ℕ → List ℕ → Result Fed2 Stop → TargaSamples → List ℕ → Type 0
Gives old piece before answer new made = samples.Feeds targa_samples_kind old.reader piece before answer new.reader made

abbrev pub KeepsInfo : TargaSamples → Result Fed2 Stop → TargaSamples → Type 0
KeepsInfo old answer new = samples.KeepsInfoFed targa_samples_kind old.reader answer new.reader

abbrev pub Asks : TargaSamples → List ℕ → Result Fed2 Stop → Type 0
Asks old piece answer = samples.Asks targa_samples_kind old.reader piece answer

abbrev pub KeepsDone : Result Fed2 Stop → TargaSamples → Type 0
KeepsDone answer r = samples.KeepsDone answer r.reader

abbrev pub Ends : TargaSamples → Stop → Type 0
Ends old answer = (bytes given : List ℕ) → HasGivenSamples bytes given old → IsShortAt bytes answer

-- its numbers are those of all that was fed
abbrev pub TellsInfo : TargaSamples → ImageInfo → Type 0
TellsInfo r info = (bytes given : List ℕ) → HasGivenSamples bytes given r → IsBegunTarga info bytes
