-- READING AN IMAGE FILE, from a desk whose input is open, to the end of its image, or only up to where samples follow.
use Rattle.std.specs.Prelude.{◌≡◌, ◌⊎◌, ℕ, ◌<◌, Bool, true, false, List, length, Option, None, Some, Result, Ok, Err}
use Rattle.std.specs.Io.KnownBytes.{Consumes}
use Rattle.jpg_base.specs.Desk.{DeskState}
use Rattle.jpg_spec.specs.Segments.{standard_limits}
use Rattle.jpg_spec.specs.declared.fault.Fault.TheVariants.{InputTooLong}
use Rattle.jpg_spec_image.specs.Images.{Image}
use Rattle.jpg_spec_words.specs.declared.answers.Why.{Why}
use Rattle.jpg_spec_words.specs.declared.answers.Why.TheVariants as why
use Rattle.jpg_pnm_bmp.specs.Made.{IsRightImage, image_by_parts}
use Rattle.jpg_pnm_bmp.specs.declared.read.pixels.Image.{Image as ImageByParts}
use Rattle.jpg_desk.specs.ImageSource.{HasFed, HoldsImage, is_source_read, source_taken}
use Rattle.jpg_desk.specs.Judging.{NoValueTaken, TakesPieces}
use Rattle.jpg_desk.specs.Pump.{ReaderKind}
use Rattle.jpg_desk.specs.ReadImage.{IsImageRead, image_judging}
use Rattle.jpg_desk.specs.Reading.{rest_of}
use Rattle.jpg_desk.specs.Stays.{OnlyReads}
use Rattle.jpg_desk.specs.declared.image.ImageSink.{ImageSink}
use Rattle.jpg_desk.specs.declared.image_source.ImageSource.{ImageSource}
use Rattle.jpg_desk.specs.declared.image_source.ImageSource.TheVariants as source

-- whether it reads Targa
abbrev pub is_targa : ImageSource → Bool
is_targa (source.Pixels r) = false
is_targa (source.Targa r) = true

-- These bytes were given, fewer than may be, and more may follow.
pub record GoesOn (targa : Bool) (bytes : List ℕ) (r : ImageSource) : Type 0 where
  pub fed : HasFed targa bytes r
  pub short : length bytes < standard_limits.input

-- It has the image; or goes on, if it may stop before the end of the image.
abbrev pub HoldsSome : Bool → Bool → List ℕ → List ℕ → ImageSource → Type 0
HoldsSome targa to_end rest bytes r = HoldsImage targa rest bytes r ⊎ ((to_end ≡ false) × GoesOn targa bytes r)

-- ALL PIECES: what holds of a reader since it was in some state

pub record IsSinkFed (from : ImageSink) (bytes : List ℕ) (s : ImageSink) : Type 0 where
  pub fed : HasFed (is_targa from.source) bytes s.source
  pub to_end : s.to_end ≡ from.to_end

abbrev pub HoldsUpTo : ImageSink → Option ℕ → List ℕ → List ℕ → ImageSink → Type 0
HoldsUpTo from None rest bytes s = HoldsSome (is_targa from.source) from.to_end rest bytes s.source
HoldsUpTo from (Some n) rest bytes s = ⊥

abbrev pub image_reader : ReaderKind ImageSink Image
image_reader = record { fed = IsSinkFed; holds = HoldsUpTo; judging = λ from. image_judging (is_targa from.source); more = λ s. is_source_read s.source ≡ false }

-- whether a reader whose image isn't complete stops here: no more bytes may be taken, or it needn't go on
abbrev pub StopsHere : ImageSink → Result Bool Why → Type 0
StopsHere s (Ok false) = source_taken s.source ≡ standard_limits.input → ⊥
StopsHere s (Ok true) = (s.to_end ≡ false) × (source_taken s.source ≡ standard_limits.input → ⊥)
StopsHere s (Err w) = (w ≡ why.Refused (record { fault = InputTooLong; at = standard_limits.input })) × (source_taken s.source ≡ standard_limits.input)

-- FROM THE FIRST BYTE
abbrev pub ReadsSource : Bool → DeskState → Result ImageSource Why → DeskState → Type 0
ReadsSource targa old (Ok r) new = TakesPieces (λ bytes. HoldsSome targa false (rest_of new.left) bytes r) old new × (is_source_read r ≡ false → new.input_open ≡ true)
ReadsSource targa old (Err w) new = NoValueTaken (image_judging targa) old w new

-- FROM THERE ON, where the image isn't complete
pub record IsSourceFed (targa : Bool) (start : DeskState) (bytes : List ℕ) (r : ImageSource) (now : DeskState) : Type 0 where
  pub goes : GoesOn targa bytes r
  pub kept : OnlyReads start now
  pub read : Consumes start.left now.left bytes

abbrev pub HasImage : Bool → DeskState → Image → DeskState → Type 0
HasImage targa old image new = TakesPieces (IsImageRead targa image (rest_of new.left)) old new × IsRightImage image

abbrev pub EndsSource : Bool → DeskState → Result ImageByParts Why → DeskState → Type 0
EndsSource targa old (Ok image) new = HasImage targa old (image_by_parts image.info image.samples) new
EndsSource targa old (Err w) new = NoValueTaken (image_judging targa) old w new

abbrev pub ReadsRest : ImageSource → DeskState → Result ImageByParts Why → DeskState → Type 0
ReadsRest r old answer new = (targa : Bool) (start : DeskState) (bytes : List ℕ) → IsSourceFed targa start bytes r old → OnlyReads start new × EndsSource targa start answer new
