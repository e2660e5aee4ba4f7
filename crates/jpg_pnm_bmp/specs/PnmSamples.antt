-- The samples of P2, P3, P5 and P6 files, given as they are read.
use Rattle.std.specs.Prelude.{◌≡◌, ◌⊎◌, ℕ, ◌+◌, ◌<◌, ◌≤◌, List, [], ◌++◌, length, map, None, Result}
use Rattle.jpg_base.specs.declared.stop.Stop.{Stop}
use Rattle.jpg_spec_image.specs.ImageSteps.{at_start, run}
use Rattle.jpg_spec_image.specs.PnmText.{pnm_info, greatest_sample, scaled_sample}
use Rattle.jpg_pnm_bmp.specs.Known.{list_of}
use Rattle.jpg_pnm_bmp.specs.Made.{AreBytes, IsMore, image_by_parts}
use Rattle.jpg_spec_image.specs.declared.image.ImageInfo.{ImageInfo}
use Rattle.jpg_pnm_bmp.specs.PlainSamples.{unscaled_view}
use Rattle.jpg_pnm_bmp.specs.Reader.{AreAllNumbers, EndsImage, IsText, pixels_kind, standing}
use Rattle.jpg_pnm_bmp.specs.Samples.{SampleKind, Appends, HasTaken}
use Rattle.jpg_pnm_bmp.specs.declared.read.piece.Answer.{Answer}
use Rattle.jpg_pnm_bmp.specs.declared.read.piece.Answer.TheVariants as answer
use Rattle.jpg_pnm_bmp.specs.declared.read.work.Work.{Work}

-- samples of a file as those of its image
abbrev pub scaled_by : Work → List ℕ → List ℕ
scaled_by w samples = map (scaled_sample (greatest_sample (list_of w.numbers []))) samples

-- These bytes led to the state, in which the header of a PNM file is read and some samples are missing; and these samples
-- were given: those in `front`.
pub record HasGivenPnm (bytes given : List ℕ) (w : Work) : Type 0 where
  pub front : List ℕ
  pub long : length front ≡ w.before
  pub text : IsText w.stage
  pub known : AreAllNumbers w.numbers
  pub stands : standing front w ≡ run at_start bytes
  pub given_is : given ≡ scaled_by w front

abbrev pub pnm_samples_kind : SampleKind Work
pnm_samples_kind = record { reads = pixels_kind; gives = HasGivenPnm; info = λ w. pnm_info w.format (list_of w.numbers []) }

-- the samples that were held are given
pub record GivesHeld (old : Work) (before : List ℕ) (new : Work) (made : List ℕ) : Type 0 where
  pub given : AreBytes (scaled_by old old.samples) → made ≡ before ++ scaled_by old old.samples
  pub before_is : old.before + length old.samples < 18446744073709551616 → new.before ≡ old.before + length old.samples
  pub rest : new.samples ≡ []
  pub numbers : new.numbers ≡ old.numbers
  pub format : new.format ≡ old.format
  pub stage : new.stage ≡ old.stage

-- or they are too few, and stay
abbrev pub GivesEnough : Work → List ℕ → Work → List ℕ → Type 0
GivesEnough old before new made = ((new ≡ old) × (made ≡ before)) ⊎ GivesHeld old before new made

abbrev pub IsNoFault : Answer → Type 0
IsNoFault answer.More = Unit {0}
IsNoFault answer.Whole = Unit {0}
IsNoFault (answer.Fault fault) = ⊥
IsNoFault answer.NoMemory = Unit {0}

-- the result of some bytes, once the samples that they made known are given
abbrev pub GivesKnown : Work → Answer → List ℕ → Answer → Work → List ℕ → Type 0
GivesKnown old first before answer.More new made = (first ≡ answer.More) × GivesEnough old before new made
GivesKnown old first before answer.Whole new made = (first ≡ answer.Whole) × GivesHeld old before new made
GivesKnown old first before (answer.Fault fault) new made = (first ≡ answer.Fault fault) × IsMore before made
GivesKnown old first before answer.NoMemory new made = IsNoFault first × IsMore before made

-- WHERE SAMPLES CAN BE GIVEN: the header of a PNM file is read, with these numbers, enough of its samples are held, and those
-- of the image aren't the bytes that follow.
pub record CanGiveNow (info : ImageInfo) (w : Work) : Type 0 where
  pub text : IsText w.stage
  pub known : AreAllNumbers w.numbers
  pub info_is : info ≡ pnm_info w.format (list_of w.numbers [])
  pub scaled : unscaled_view w ≡ None
  pub enough : 3072 ≤ length w.samples

abbrev pub CanNotGive : Work → Type 0
CanNotGive w = (info : ImageInfo) → CanGiveNow info w → ⊥

-- WHERE THE FILE ENDS: the samples that were given are those of the image, or this is its fault.
abbrev pub EndsGiven : Work → ℕ → List ℕ → Result (Unit {0}) Stop → List ℕ → Type 0
EndsGiven old taken before answer made =
    (bytes given : List ℕ) → HasTaken Work pnm_samples_kind bytes given taken old → AreBytes bytes → Appends before made (λ more. EndsImage bytes answer (image_by_parts (pnm_samples_kind.info old) (given ++ more)))
