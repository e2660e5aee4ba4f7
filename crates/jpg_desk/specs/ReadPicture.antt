-- WHAT READING A PICTURE does to a desk (T.81, B.2.1), by its result.
use Rattle.std.specs.Prelude.{◌≡◌, ◌⊎◌, ℕ, ◌+◌, ◌<◌, ◌≤◌, Bool, true, false, List, [], ◌∷◌, ◌++◌, length, take, All, Option, Some, None, Result, Ok, Err}
use Rattle.jpg_base.specs.declared.names.Name.{Name}
use Rattle.jpg_base.specs.declared.names.Put.TheVariants as put
use Rattle.jpg_base.specs.Desk.{DeskState}
use Rattle.jpg_spec.specs.Geometry.{Frame}
use Rattle.jpg_spec_image.specs.NotShown.{IsNotShown}
use Rattle.jpg_spec_image.specs.Pixels.{out_fault}
use Rattle.jpg_spec.specs.Segments.{standard_limits}
use Rattle.jpg_spec.specs.Meaning.{Meaning}
use Rattle.jpg_spec.specs.UnfinishedFile.{UnfinishedFile, IsWholeFile}
use Rattle.jpg_spec.specs.Early.{MeansAs, MeansEarly}
use Rattle.jpg_spec.specs.FileMeaning.{meaning_of}
use Rattle.jpg_spec.specs.InForce.{frame_of}
use Rattle.jpg_spec.specs.declared.fault.FaultAt.{FaultAt}
use Rattle.jpg_spec_words.specs.declared.answers.Why.{Why}
use Rattle.jpg_spec_words.specs.declared.answers.Why.TheVariants as why
use Rattle.jpg_spec.specs.declared.fault.Fault.{Fault}
use Rattle.jpg_spec.specs.declared.frame.Colour.{Colour}
use Rattle.jpg_spec.specs.declared.frame.Copying.{Copying}
use Rattle.jpg_spec_image.specs.declared.image.ImageKind.{ImageKind}
use Rattle.jpg_color.specs.Admits.{admitted_kind}
use Rattle.jpg_color.specs.Shown.{factors_of}
use Rattle.jpg_file.specs.Read.PictureRead.{MeansFor}
use Rattle.jpg_file.specs.Read.File.{keeping_of}
use Rattle.jpg_file.specs.Read.ReadFile.{HasRead, IsDone, IsEarlyEnd, IsRefusal, ReaderState, IsPlain}
use Rattle.jpg_file.specs.declared.read.picture.Picture.{Picture}
use Rattle.jpg_desk.specs.Endings.{Asks}
use Rattle.jpg_desk.specs.Judging.{IsAllRead, Judging, NoValueRead, NoValueTaken, ReadsFrom, TakesPieces, UpToPiece}
use Rattle.jpg_desk.specs.Pump.{ReaderKind}
use Rattle.jpg_desk.specs.Reading.{rest_of}

-- WHAT IS ASKED FOR: the coefficients of a picture, or its image, in grayscale or not
pub data Wanted : Type 0 where
  Coefficients : Wanted
  Image : Bool → Wanted

-- WHAT ISN'T WANTED: a picture that can't be displayed, where its image is asked for

abbrev pub IsUnwanted : Wanted → List ℕ → FaultAt → Type 0
IsUnwanted Coefficients input f = ⊥
IsUnwanted (Image gray) input f = IsNotShown standard_limits gray input f

abbrev pub unwanted_for : Wanted → Meaning → Option Fault
unwanted_for Coefficients M = None
unwanted_for (Image gray) M = out_fault gray M

-- WHAT A FILE IS REFUSED WITH, whatever is asked for: its first fault.
abbrev pub IsRefused : List ℕ → FaultAt → Type 0
IsRefused input f = IsRefusal standard_limits input f

-- And for what is asked for: that, or a picture that isn't wanted, whichever comes first.
abbrev pub IsRefusedFor : Wanted → List ℕ → FaultAt → Type 0
IsRefusedFor w input f =
    (IsRefused input f × ((g : FaultAt) → IsUnwanted w input g → f.at < g.at)) ⊎ (IsUnwanted w input f × ((g : FaultAt) → IsRefused input g → f.at ≤ g.at))

-- THE BYTES that were read

-- They are bytes. A prefix of them is a complete file that means this, which is wanted, and fewer than 65,536 were read
-- after it.
pub record IsWholeRead (w : Wanted) (M : Meaning) (bytes : List ℕ) : Type 0 where
  pub count : ℕ
  pub within : count ≤ length bytes
  pub last : length bytes < count + 65536
  pub whole : IsWholeFile standard_limits (take count bytes) M
  pub small : All (λ b. b < 256) bytes
  pub wanted : unwanted_for w M ≡ None

-- They are this many bytes, which end early and mean this, which is wanted.
pub record IsEarlyRead (w : Wanted) (M : Meaning) (n : ℕ) (bytes : List ℕ) : Type 0 where
  pub early : MeansEarly standard_limits bytes M
  pub count : n ≡ length bytes
  pub small : All (λ b. b < 256) bytes
  pub wanted : unwanted_for w M ≡ None

-- one of these, by the number of bytes if they end early
abbrev pub IsReadPicture : Wanted → Meaning → Option ℕ → List ℕ → Type 0
IsReadPicture w M None bytes = IsWholeRead w M bytes
IsReadPicture w M (Some n) bytes = IsEarlyRead w M n bytes

-- The file, which has this rest after the bytes, is refused with this fault. The bytes reveal it, and fewer than 65,536
-- of them are after it.
pub record IsRefusedRead (w : Wanted) (f : FaultAt) (rest bytes : List ℕ) : Type 0 where
  pub refused : IsRefusedFor w (bytes ++ rest) f
  pub within : f.at ≤ length bytes
  pub last : length bytes < f.at + 65536

-- The bytes are fewer than may be taken, have no fault, nothing that isn't wanted, and no complete file.
pub record IsOpenRead (w : Wanted) (bytes : List ℕ) : Type 0 where
  pub short : length bytes < standard_limits.input
  pub stands : UnfinishedFile standard_limits bytes
  pub wanted : (f : FaultAt) → IsUnwanted w bytes f → ⊥

-- Up to the last piece of them they are such bytes: so fewer than 65,536 were read after the end of a complete file or
-- what it is refused for.
abbrev pub IsShortRead : Wanted → List ℕ → Type 0
IsShortRead w bytes = UpToPiece (IsOpenRead w) bytes

-- ALL THAT IS JUDGED of them, and of the file
abbrev pub picture_judging : Wanted → Judging Meaning
picture_judging w = record {
  means = λ early M bytes. MeansAs standard_limits early bytes M × (unwanted_for w M ≡ None);
  refuses = λ f bytes. IsRefusedFor w bytes f;
  has = λ M early rest. IsReadPicture w M early;
  refused = λ f rest. IsRefusedRead w f rest;
  unfinished = IsOpenRead w;
  short = IsShortRead w;
}

-- THE RESULTS: the picture means what is judged of the file, except for markers that aren't kept when these are passed
-- on; or why there is none
abbrev pub MeaningRead : Judging Meaning → Copying → Name → DeskState → Result (Picture × Option ℕ) Why → DeskState → Type 0
MeaningRead j keeping file old (Ok found) new =
    Asks (file ∷ []) put.Done old new × ((M : Meaning) × MeansFor keeping found.0 M × ReadsFrom (Some file) (j.has M found.1 (rest_of new.left)) old new) × IsAllRead found.1 new
MeaningRead j keeping file old (Err ended) new = NoValueRead j file old ended new

abbrev pub PictureRead : Wanted → Copying → Name → DeskState → Result (Picture × Option ℕ) Why → DeskState → Type 0
PictureRead w keeping file old result new = MeaningRead (picture_judging w) keeping file old result new

-- STEP BY STEP, from a desk whose input is open

abbrev pub EndsEarly : Wanted → DeskState → Why → DeskState → Type 0
EndsEarly w old ended new = NoValueTaken (picture_judging w) old ended new

abbrev pub EndsMeaning : Judging Meaning → Copying → DeskState → Result (Picture × Option ℕ) Why → DeskState → Type 0
EndsMeaning j keeping old (Ok found) new = ((M : Meaning) × MeansFor keeping found.0 M × TakesPieces (j.has M found.1 (rest_of new.left)) old new) × IsAllRead found.1 new
EndsMeaning j keeping old (Err ended) new = NoValueTaken j old ended new

abbrev pub EndsReading : Wanted → Copying → DeskState → Result (Picture × Option ℕ) Why → DeskState → Type 0
EndsReading w keeping old result new = EndsMeaning (picture_judging w) keeping old result new

-- The reader was fed these bytes, fewer than may be taken, whose picture isn't unwanted, and goes on.
pub record HasFed (w : Wanted) (r : ReaderState) (bytes : List ℕ) : Type 0 where
  pub read : HasRead bytes r
  pub taken : r.file.taken ≡ length bytes
  pub short : length bytes < standard_limits.input
  pub small : All (λ b. b < 256) bytes
  pub wanted : (f : FaultAt) → IsUnwanted w bytes f → ⊥

-- A prefix of the bytes is the complete file that the reader has read, and is wanted.
pub record HoldsFile (w : Wanted) (r : ReaderState) (bytes : List ℕ) : Type 0 where
  pub count : ℕ
  pub within : count ≤ length bytes
  pub last : length bytes < count + 65536
  pub done : IsDone (take count bytes) r
  pub small : All (λ b. b < 256) bytes
  pub wanted : unwanted_for w done.meaning ≡ None

-- The bytes, this many, ended early, and the reader has what they mean, which is wanted.
pub record HoldsEarly (w : Wanted) (r : ReaderState) (n : ℕ) (bytes : List ℕ) : Type 0 where
  pub count : n ≡ length bytes
  pub ended : IsEarlyEnd bytes r
  pub small : All (λ b. b < 256) bytes
  pub wanted : unwanted_for w (meaning_of (frame_of r.limits ended.segments) ended.segments ended.blocks) ≡ None

abbrev pub HoldsPicture : Wanted → ReaderState → Option ℕ → List ℕ → Type 0
HoldsPicture w r None bytes = HoldsFile w r bytes
HoldsPicture w r (Some n) bytes = HoldsEarly w r n bytes

-- The result of a piece.
abbrev pub AfterTakingPiece : Wanted → List ℕ → Result Bool Why → ReaderState → Type 0
AfterTakingPiece w bytes (Ok false) r = HasFed w r bytes
AfterTakingPiece w bytes (Ok true) r = HoldsFile w r bytes
AfterTakingPiece w bytes (Err (why.Refused f)) r = (rest : List ℕ) → IsRefusedRead w f rest bytes
AfterTakingPiece w bytes (Err why.NoMemory) r = IsShortRead w bytes
AfterTakingPiece w bytes (Err other) r = ⊥

-- what bytes are refused with where the input ends
abbrev pub AfterFileEnd : Wanted → List ℕ → Why → Type 0
AfterFileEnd w bytes (why.Refused f) = IsRefusedRead w f [] bytes
AfterFileEnd w bytes other = ⊥

-- the result of bytes where the input ends
abbrev pub AfterPictureEnd : Wanted → List ℕ → Result (Option ℕ) Why → ReaderState → Type 0
AfterPictureEnd w bytes (Ok (Some n)) r = HoldsEarly w r n bytes
AfterPictureEnd w bytes (Ok None) r = ⊥
AfterPictureEnd w bytes (Err ended) r = AfterFileEnd w bytes ended

-- for all bytes that were read before
abbrev pub ReadsPictureBytes : Wanted → ReaderState → List ℕ → Result Bool Why → ReaderState → Type 0
ReadsPictureBytes w had piece answer r = (bytes : List ℕ) → HasFed w had bytes → AfterTakingPiece w (bytes ++ piece) answer r

-- whether the reader is done then
abbrev pub StepDone : Result Bool Why → ReaderState → Type 0
StepDone (Ok whole) r = r.done ≡ whole
StepDone (Err ended) r = Unit {0}

-- whether it is where the input ended
abbrev pub EndDone : Result (Option ℕ) Why → ReaderState → Type 0
EndDone (Ok early) r = r.done ≡ true
EndDone (Err ended) r = Unit {0}

-- ALL PIECES: what holds of a reader of coefficients since it was in some state

pub record IsPictureFed (from : ReaderState) (bytes : List ℕ) (r : ReaderState) : Type 0 where
  pub fed : HasFed Coefficients r bytes
  pub limits : r.limits ≡ standard_limits
  pub keeping : keeping_of r.file ≡ keeping_of from.file
  pub plain : IsPlain r

pub record HasPicture (from : ReaderState) (early : Option ℕ) (rest bytes : List ℕ) (r : ReaderState) : Type 0 where
  pub done : r.done ≡ true
  pub limits : r.limits ≡ standard_limits
  pub keeping : keeping_of r.file ≡ keeping_of from.file
  pub plain : IsPlain r
  pub holds : HoldsPicture Coefficients r early bytes

abbrev pub picture_reader : ReaderKind ReaderState Meaning
picture_reader = record { fed = IsPictureFed; holds = HasPicture; judging = λ from. picture_judging Coefficients; more = λ r. ⊥ }

-- WHAT THE FIRST SCAN HEADER REVEALS: a fault at its end, if the picture can't be displayed

abbrev pub fault_told : Result ImageKind Fault → ℕ → Option FaultAt
fault_told (Ok kind) at = None
fault_told (Err fault) at = Some (record { fault = fault; at = at })

abbrev pub unwanted_in : Wanted → Option (Frame × Colour × ℕ) → Option FaultAt
unwanted_in Coefficients head = None
unwanted_in (Image gray) None = None
unwanted_in (Image gray) (Some h) = fault_told (admitted_kind (h.0).precision h.1 gray (factors_of h.0)) h.2

-- the result of a piece, where nothing is unwanted
abbrev pub step_unless : Option FaultAt → Result Bool Why → Result Bool Why
step_unless (Some f) answer = Err (why.Refused f)
step_unless None answer = answer
