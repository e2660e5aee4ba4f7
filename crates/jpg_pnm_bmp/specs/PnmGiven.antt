-- A PNM file whose samples are given as they are read.
use Rattle.std.specs.Prelude.{◌≡◌, ℕ, Bool, true, false, List, ◌++◌, None, Option, Result, Ok, Err}
use Rattle.jpg_base.specs.declared.stop.Stop.{Stop}
use Rattle.jpg_spec_image.specs.declared.image.ImageInfo.{ImageInfo}
use Rattle.jpg_pnm_bmp.specs.Made.{AreBytes, image_by_parts}
use Rattle.jpg_pnm_bmp.specs.PixelsRead.{HasFedImage}
use Rattle.jpg_pnm_bmp.specs.PlainSamples.{AreRightNumbers}
use Rattle.jpg_pnm_bmp.specs.PnmSamples.{CanGiveNow, pnm_samples_kind}
use Rattle.jpg_pnm_bmp.specs.Reader.{EndsImage}
use Rattle.jpg_pnm_bmp.specs.Samples as samples
use Rattle.jpg_pnm_bmp.specs.Samples.{Appends}
use Rattle.jpg_pnm_bmp.specs.declared.read.piece.Fed2.{Fed2}
use Rattle.jpg_pnm_bmp.specs.declared.read.pixels.PixelReader.{PixelReader}
use Rattle.jpg_pnm_bmp.specs.declared.read.pnm_given.PnmSamples.{PnmSamples}

-- A READER that can give samples from now on: it hasn't stopped, and the image isn't complete
pub record CanGive (info : ImageInfo) (r : PixelReader) : Type 0 where
  pub stop : r.reader.stop ≡ None
  pub done : r.reader.done ≡ false
  pub begun : CanGiveNow info r.reader.work

-- for all that was fed to it: the numbers are within bounds
abbrev pub TellsRight : PixelReader → ImageInfo → Type 0
TellsRight r info = (bytes : List ℕ) → HasFedImage bytes r → AreRightNumbers info

abbrev pub TellsNotGiven : PixelReader → Type 0
TellsNotGiven r = (info : ImageInfo) → CanGive info r → ⊥

-- THE READER that gives them

-- the numbers of the image
abbrev pub given_info : PnmSamples → ImageInfo
given_info r = pnm_samples_kind.info r.reader.work

-- how many bytes were taken
abbrev pub given_taken : PnmSamples → ℕ
given_taken r = r.reader.taken

-- why it stopped, if it did
abbrev pub given_stop : PnmSamples → Option Stop
given_stop r = r.reader.stop

-- All samples were given: neither `feed` nor `end` may be called any more.
abbrev pub is_all_given : PnmSamples → Bool
is_all_given r = r.reader.done

-- These bytes were fed, and these samples given. No prefix of the bytes is complete or has a fault, and more may follow.
abbrev pub HasGivenSamples : List ℕ → List ℕ → PnmSamples → Type 0
HasGivenSamples bytes given r = samples.HasFed pnm_samples_kind bytes given r.reader

-- the result of a piece that is fed, by all bytes and samples so far
abbrev pub AfterGiven : List ℕ → List ℕ → List ℕ → Result Fed2 Stop → PnmSamples → Type 0
AfterGiven bytes piece given answer r = samples.AfterFeed pnm_samples_kind bytes piece given answer r.reader

abbrev pub Gives : PnmSamples → List ℕ → List ℕ → Result Fed2 Stop → PnmSamples → List ℕ → Type 0
Gives old piece before answer new made = samples.Feeds pnm_samples_kind old.reader piece before answer new.reader made

abbrev pub KeepsInfo : PnmSamples → Result Fed2 Stop → PnmSamples → Type 0
KeepsInfo old answer new = samples.KeepsInfoFed pnm_samples_kind old.reader answer new.reader

abbrev pub Asks : PnmSamples → List ℕ → Result Fed2 Stop → Type 0
Asks old piece answer = samples.Asks pnm_samples_kind old.reader piece answer

abbrev pub KeepsDone : Result Fed2 Stop → PnmSamples → Type 0
KeepsDone answer r = samples.KeepsDone answer r.reader

-- WHERE THE FILE ENDS: the samples that were given are those of the image, or this is its fault.
abbrev pub Ends : PnmSamples → List ℕ → Result (Unit {0}) Stop → List ℕ → Type 0
Ends old before answer made =
    (bytes given : List ℕ) → HasGivenSamples bytes given old → AreBytes bytes → Appends before made (λ more. EndsImage bytes answer (image_by_parts (given_info old) (given ++ more)))

abbrev pub EndsDone : Result (Unit {0}) Stop → PnmSamples → Type 0
EndsDone (Ok u) r = is_all_given r ≡ true
EndsDone (Err stop) r = is_all_given r ≡ false
