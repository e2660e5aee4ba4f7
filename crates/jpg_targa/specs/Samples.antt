-- The samples of a Targa file whose rows come from the top, given as they are read.
use Rattle.std.specs.Prelude.{◌≡◌, ℕ, ◌+◌, ◌-◌, ◌*◌, ◌<◌, ◌≤◌, true, List, ◌++◌, length, take, drop}
use Rattle.jpg_spec_image.specs.ImageText.{file_samples}
use Rattle.jpg_spec_image.specs.TargaFile.{pixel_size, targa_kind, targa_info, is_from_top}
use Rattle.jpg_spec_image.specs.TargaSteps.{at_start, total, run}
use Rattle.jpg_spec_image.specs.declared.image.ImageKind.{ImageKind}
use Rattle.jpg_pnm_bmp.specs.Samples.{SampleKind}
use Rattle.jpg_pnm_bmp.specs.declared.read.piece.Answer.{Answer}
use Rattle.jpg_pnm_bmp.specs.declared.read.piece.Answer.TheVariants as answer
use Rattle.jpg_targa.specs.Reader.{IsBody, standing}
use Rattle.jpg_targa.specs.Reader as reader
use Rattle.jpg_targa.specs.declared.read.work.Work.{Work}

-- so many bytes are of whole pixels
abbrev pub IsWhole : ImageKind → ℕ → Type 0
IsWhole kind count = (n : ℕ) × (count ≡ n * pixel_size kind)

-- These bytes led to the state, in which rows come from the top and some pixels are missing; and these samples were given:
-- those of the whole pixels in `front`.
pub record HasGivenTarga (bytes given : List ℕ) (w : Work) : Type 0 where
  pub front : List ℕ
  pub long : length front ≡ w.before
  pub whole : IsWhole (targa_kind w.head) w.before
  pub body : IsBody w.stage
  pub top : is_from_top w.head ≡ true
  pub stands : standing front w ≡ run at_start bytes
  pub given_is : given ≡ file_samples (targa_kind w.head) front

abbrev pub targa_samples_kind : SampleKind Work
targa_samples_kind = record { reads = reader.targa_kind; gives = HasGivenTarga; info = λ w. targa_info w.head }

-- the pixels have begun, and rows come from the top
pub record HasBegun (w : Work) : Type 0 where
  pub body : IsBody w.stage
  pub top : is_from_top w.head ≡ true

-- something was appended
abbrev pub IsMore : List ℕ → List ℕ → Type 0
IsMore before made = (more : List ℕ) × (made ≡ before ++ more)

-- the samples of the first bytes of pixels were given, as many as `count`
pub record GivesFirst (count : ℕ) (old : Work) (before : List ℕ) (new : Work) (made : List ℕ) : Type 0 where
  pub given : made ≡ before ++ file_samples (targa_kind old.head) (take count old.pixels)
  pub rest : new.pixels ≡ drop count old.pixels
  pub before_is : old.before + count < 18446744073709551616 → new.before ≡ old.before + count
  pub head : new.head ≡ old.head
  pub stage : new.stage ≡ old.stage
  pub pixel : new.pixel ≡ old.pixel

-- those of whole pixels
abbrev pub GivesMore : Work → List ℕ → Answer → Work → List ℕ → Type 0
GivesMore old before answer.More new made = (count : ℕ) × (count ≤ length old.pixels) × IsWhole (targa_kind old.head) count × GivesFirst count old before new made
GivesMore old before answer.Whole new made = ⊥
GivesMore old before (answer.Fault fault) new made = ⊥
GivesMore old before answer.NoMemory new made = IsMore before made

-- those of the last pixels
abbrev pub GivesLast : Work → List ℕ → Answer → Work → List ℕ → Type 0
GivesLast old before answer.More new made = ⊥
GivesLast old before answer.Whole new made = (made ≡ before ++ file_samples (targa_kind old.head) (take (total old.head - old.before) old.pixels)) × (new.head ≡ old.head)
GivesLast old before (answer.Fault fault) new made = ⊥
GivesLast old before answer.NoMemory new made = IsMore before made
