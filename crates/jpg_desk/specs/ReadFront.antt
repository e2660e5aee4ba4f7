-- WHAT READING THE FRONT of a picture's file does to a desk (T.81, B.2.1), by its result. The front is for so many
-- scans; its image is asked for, in grayscale or not.
use Rattle.std.specs.Prelude.{◌≡◌, ◌⊎◌, ℕ, suc, ◌+◌, ◌<◌, ◌≤◌, Bool, true, false, List, [], ◌++◌, length, take, Option, None, Some, Result, Ok, Err}
use Rattle.jpg_base.specs.declared.names.Name.{Name}
use Rattle.jpg_base.specs.Desk.{DeskState}
use Rattle.jpg_spec.specs.Early.{MeansEarly}
use Rattle.jpg_spec.specs.FileMeaning.{Means}
use Rattle.jpg_spec.specs.Meaning.{Meaning}
use Rattle.jpg_spec.specs.Segments.{standard_limits}
use Rattle.jpg_spec.specs.UnfinishedFile.{IsWholeFile}
use Rattle.jpg_spec.specs.declared.fault.FaultAt.{FaultAt}
use Rattle.jpg_spec.specs.declared.frame.Copying.TheVariants.{All}
use Rattle.jpg_spec_image.specs.Front.{EndsNotBefore, EndsScan, IsFront}
use Rattle.jpg_spec_image.specs.NotShown.{IsNotShown}
use Rattle.jpg_spec_image.specs.Pixels.{out_fault}
use Rattle.jpg_spec_words.specs.declared.answers.Why.{Why}
use Rattle.jpg_spec_words.specs.declared.answers.Why.TheVariants as why
use Rattle.jpg_file.specs.Read.File.{keeping_of}
use Rattle.jpg_file.specs.Read.ReadFile.{ReaderState}
use Rattle.jpg_file.specs.declared.read.picture.Picture.{Picture}
use Rattle.jpg_preview.specs.Viewing.{HasViewed, IsShown, PreviewState}
use Rattle.jpg_desk.specs.Judging.{Judging, UpToPiece}
use Rattle.jpg_desk.specs.ReadPicture.{EndsMeaning, HasFed, HoldsEarly, IsOpenRead, IsRefusedFor, MeaningRead, Image}
use Rattle.jpg_desk.specs.Pump.{ReaderKind}
use Rattle.jpg_desk.specs.declared.front.FrontSink.{FrontSink}

-- OF A FILE

-- no first bytes of it end with the marker after a scan that is wanted
abbrev pub EndsNoScan : ℕ → List ℕ → Type 0
EndsNoScan scans input = EndsNotBefore standard_limits scans input (suc (length input))

-- Its front means this: as a complete file, or as one that ends early, with the marker after a scan that is wanted.
pub record FrontMeans (scans : ℕ) (input : List ℕ) (M : Meaning) : Type 0 where
  pub front : List ℕ
  pub is : IsFront standard_limits scans input front
  pub means : Means standard_limits front M ⊎ (MeansEarly standard_limits front M × EndsScan standard_limits scans front)

-- It ends early, after this many bytes and before any such marker, and means this.
pub record EndsInFront (scans n : ℕ) (input : List ℕ) (M : Meaning) : Type 0 where
  pub early : MeansEarly standard_limits input M
  pub count : n ≡ length input
  pub none : EndsNoScan scans input

-- one of these, by the number of bytes if it ends early
abbrev pub FrontMeansAs : ℕ → Option ℕ → List ℕ → Meaning → Type 0
FrontMeansAs scans None input M = FrontMeans scans input M
FrontMeansAs scans (Some n) input M = EndsInFront scans n input M

-- What its front is refused with: its first fault, or that it can't be displayed, whichever comes first. (No file is
-- without a front, and none has two.)
abbrev pub IsFrontRefused : ℕ → Bool → List ℕ → FaultAt → Type 0
IsFrontRefused scans gray input f = (front : List ℕ) → IsFront standard_limits scans input front → IsRefusedFor (Image gray) front f

-- THE BYTES that were read, after which the file has this rest

-- The file's front means this, which can be displayed. The front that ends with the marker after a scan, or a complete
-- file, ends with this many of the bytes, and fewer than 65,536 were read after it.
pub record IsFrontRead (scans : ℕ) (gray : Bool) (M : Meaning) (rest bytes : List ℕ) : Type 0 where
  pub shown : FrontMeans scans (bytes ++ rest) M
  pub count : ℕ
  pub within : count ≤ length bytes
  pub last : length bytes < count + 65536
  pub ends : ((shown.front ≡ take count bytes) × EndsScan standard_limits scans (take count bytes)) ⊎ IsWholeFile standard_limits (take count bytes) M
  pub wanted : out_fault gray M ≡ None

-- They are this many bytes, which end early before the front does, and mean this, which can be displayed.
pub record IsEarlyFrontRead (scans : ℕ) (gray : Bool) (M : Meaning) (n : ℕ) (bytes : List ℕ) : Type 0 where
  pub ended : EndsInFront scans n bytes M
  pub wanted : out_fault gray M ≡ None

-- one of these, by the number of bytes if they end early
abbrev pub IsReadFront : ℕ → Bool → Meaning → Option ℕ → List ℕ → List ℕ → Type 0
IsReadFront scans gray M None rest bytes = IsFrontRead scans gray M rest bytes
IsReadFront scans gray M (Some n) rest bytes = IsEarlyFrontRead scans gray M n bytes

-- The file's front is refused with this fault. The bytes reveal it, and fewer than 65,536 of them are after it.
pub record IsFrontRefusedRead (scans : ℕ) (gray : Bool) (f : FaultAt) (rest bytes : List ℕ) : Type 0 where
  pub refused : IsFrontRefused scans gray (bytes ++ rest) f
  pub within : f.at ≤ length bytes
  pub last : length bytes < f.at + 65536

-- The bytes are fewer than may be taken, have no fault, nothing that can't be displayed, no complete file, and no
-- marker that ends the front.
pub record IsOpenFront (scans : ℕ) (gray : Bool) (bytes : List ℕ) : Type 0 where
  pub stands : IsOpenRead (Image gray) bytes
  pub none : EndsNoScan scans bytes

-- Up to the last piece of them they are such bytes: so fewer than 65,536 were read after the end of the front, of a
-- complete file, or what it is refused for.
abbrev pub IsShortFront : ℕ → Bool → List ℕ → Type 0
IsShortFront scans gray bytes = UpToPiece (IsOpenFront scans gray) bytes

-- ALL THAT IS JUDGED of them, and of the file
abbrev pub front_judging : ℕ → Bool → Judging Meaning
front_judging scans gray = record {
  means = λ early M bytes. FrontMeansAs scans early bytes M × (out_fault gray M ≡ None);
  refuses = λ f bytes. IsFrontRefused scans gray bytes f;
  has = IsReadFront scans gray;
  refused = IsFrontRefusedRead scans gray;
  unfinished = IsOpenFront scans gray;
  short = IsShortFront scans gray;
}

-- THE RESULTS: the picture means what the file's front means; or why there is none
abbrev pub FrontRead : ℕ → Bool → Name → DeskState → Result (Picture × Option ℕ) Why → DeskState → Type 0
FrontRead scans gray file old result new = MeaningRead (front_judging scans gray) All file old result new

-- STEP BY STEP, from a desk whose input is open

abbrev pub EndsFront : ℕ → Bool → DeskState → Result (Picture × Option ℕ) Why → DeskState → Type 0
EndsFront scans gray old result new = EndsMeaning (front_judging scans gray) All old result new

-- The preview of so many scans was fed these bytes, fewer than may be taken, whose picture can be displayed, and goes
-- on.
pub record HasFedFront (scans : ℕ) (gray : Bool) (p : PreviewState) (bytes : List ℕ) : Type 0 where
  pub viewed : HasViewed bytes p
  pub wants : p.scans ≡ scans
  pub fed : HasFed (Image gray) p.reader bytes

-- This many of the bytes are the front or the complete file that the reader has, which can be displayed.
pub record HoldsFront (scans : ℕ) (gray : Bool) (r : ReaderState) (bytes : List ℕ) : Type 0 where
  pub count : ℕ
  pub within : count ≤ length bytes
  pub last : length bytes < count + 65536
  pub shown : IsShown scans (take count bytes) r
  pub wanted : (f : FaultAt) → IsNotShown standard_limits gray (take count bytes) f → ⊥

-- The bytes, this many, ended early before the front does.
pub record HoldsEarlyFront (scans : ℕ) (gray : Bool) (r : ReaderState) (n : ℕ) (bytes : List ℕ) : Type 0 where
  pub early : HoldsEarly (Image gray) r n bytes
  pub none : EndsNoScan scans bytes

abbrev pub HoldsShown : ℕ → Bool → ReaderState → Option ℕ → List ℕ → Type 0
HoldsShown scans gray r None bytes = HoldsFront scans gray r bytes
HoldsShown scans gray r (Some n) bytes = HoldsEarlyFront scans gray r n bytes

-- The result of a piece.
abbrev pub AfterTakingFront : ℕ → Bool → List ℕ → Result Bool Why → PreviewState → Type 0
AfterTakingFront scans gray bytes (Ok false) p = HasFedFront scans gray p bytes
AfterTakingFront scans gray bytes (Ok true) p = HoldsFront scans gray p.reader bytes
AfterTakingFront scans gray bytes (Err (why.Refused f)) p = (rest : List ℕ) → IsFrontRefusedRead scans gray f rest bytes
AfterTakingFront scans gray bytes (Err why.NoMemory) p = IsShortFront scans gray bytes
AfterTakingFront scans gray bytes (Err other) p = ⊥

-- the result of bytes where the input ends
abbrev pub AfterFrontEnd : ℕ → Bool → List ℕ → Result (Option ℕ) Why → PreviewState → Type 0
AfterFrontEnd scans gray bytes (Ok (Some n)) p = HoldsEarlyFront scans gray p.reader n bytes
AfterFrontEnd scans gray bytes (Ok None) p = ⊥
AfterFrontEnd scans gray bytes (Err (why.Refused f)) p = IsFrontRefusedRead scans gray f [] bytes
AfterFrontEnd scans gray bytes (Err other) p = ⊥

-- FOR ALL BYTES that were read before

abbrev pub TakesFront : Bool → PreviewState → List ℕ → Result Bool Why → PreviewState → Type 0
TakesFront gray had piece answer p = (scans : ℕ) (bytes : List ℕ) → HasFedFront scans gray had bytes → AfterTakingFront scans gray (bytes ++ piece) answer p

abbrev pub EndsInput : Bool → PreviewState → Result (Option ℕ) Why → PreviewState → Type 0
EndsInput gray had answer p = (scans : ℕ) (bytes : List ℕ) → HasFedFront scans gray had bytes → AfterFrontEnd scans gray bytes answer p

-- ALL PIECES: what holds of a preview since it was in some state

pub record IsFrontFed (from : FrontSink) (bytes : List ℕ) (now : FrontSink) : Type 0 where
  pub fed : HasFedFront from.preview.scans from.gray now.preview bytes
  pub limits : now.preview.reader.limits ≡ standard_limits
  pub keeping : keeping_of now.preview.reader.file ≡ keeping_of from.preview.reader.file
  pub gray : now.gray ≡ from.gray

pub record HasFront (from : FrontSink) (early : Option ℕ) (rest bytes : List ℕ) (now : FrontSink) : Type 0 where
  pub done : now.preview.reader.done ≡ true
  pub limits : now.preview.reader.limits ≡ standard_limits
  pub keeping : keeping_of now.preview.reader.file ≡ keeping_of from.preview.reader.file
  pub holds : HoldsShown from.preview.scans from.gray now.preview.reader early bytes

abbrev pub front_reader : ReaderKind FrontSink Meaning
front_reader = record { fed = IsFrontFed; holds = HasFront; judging = λ from. front_judging from.preview.scans from.gray; more = λ now. ⊥ }
