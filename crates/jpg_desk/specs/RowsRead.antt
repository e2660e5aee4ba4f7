-- A PICTURE THAT IS READ MCU ROW BY MCU ROW, piece by piece, and transformed at once (T.81, A.2.3, B.2.1).
use Rattle.std.specs.Prelude.{◌≡◌, ◌⊎◌, ℕ, ◌+◌, ◌<◌, ◌≤◌, Bool, true, false, List, [], ◌++◌, length, take, All, Option, Some, None, Result, Ok, Err}
use Rattle.jpg_base.specs.declared.stop.Stop.{Stop}
use Rattle.jpg_base.specs.declared.stop.Stop.TheVariants as stop
use Rattle.jpg_spec.specs.Geometry.{Frame}
use Rattle.jpg_spec.specs.InForce.{frame_of}
use Rattle.jpg_spec.specs.Markers.{Segment}
use Rattle.jpg_spec.specs.Meaning.{Meaning, real_blocks}
use Rattle.jpg_spec.specs.RowsParsed.{BeginsScanOfAll, TellsRows, picture_so_far}
use Rattle.jpg_spec.specs.Scan.{Blocks}
use Rattle.jpg_spec.specs.Segments.{standard_limits}
use Rattle.jpg_spec_words.specs.declared.answers.Why.{Why}
use Rattle.jpg_file.specs.Read.File.{keeping_of}
use Rattle.jpg_file.specs.Read.ReadFile.{IsStopOf, ReaderState, EndsDoneRow, HasGivenRow, HasReadPlainly, HasReadRows, IsDoneByRows, KeepsMarkersOf}
use Rattle.jpg_file.specs.Read.InData.{unfinished}
use Rattle.jpg_file.specs.Read.Strips.{TellsStrip}
use Rattle.jpg_file.specs.Read.PictureKept.{IsHeadOfPicture}
use Rattle.jpg_file.specs.declared.read.pieces.FedRow.{FedRow}
use Rattle.jpg_file.specs.declared.read.pieces.FedRow.TheVariants as fed
use Rattle.jpg_file.specs.declared.read.rows.RowWork.{RowWork}
use Rattle.jpg_file.specs.declared.read.strip_head.StripHead.{StripHead}
use Rattle.jpg_desk.specs.Pump.{AfterTaking, ReaderKind}
use Rattle.jpg_desk.specs.ReadPicture.{HoldsPicture, IsReadPicture, IsShortRead, picture_judging, Coefficients}
use Rattle.jpg_desk.specs.RowsTo.{HaveAll, HavePut, IsSameGoal}
use Rattle.jpg_desk.specs.declared.rows_read.RowsFront.{RowsFront}
use Rattle.jpg_desk.specs.declared.rows_read.RowsRead.{RowsRead}

-- what doesn't change of a reader that keeps markers
pub record KeepsReading (from r : ReaderState) : Type 0 where
  pub limits : r.limits ≡ standard_limits
  pub in_rows : r.in_rows ≡ true
  pub keeping : keeping_of r.file ≡ keeping_of from.file

-- THE HEAD of the picture, where its rows begin
pub record Head : Type 0 where
  pub before : List Segment
  pub contents : List ℕ

abbrev pub frame_at : Head → Frame
frame_at h = frame_of standard_limits h.before

abbrev pub BeginsAt : Head → List ℕ → Type 0
BeginsAt h bytes = BeginsScanOfAll standard_limits bytes h.before h.contents

-- the picture of this one's head
abbrev pub IsHeadAt : Head → Option StripHead → Type 0
IsHeadAt h strip = TellsStrip strip (frame_at h) (picture_so_far standard_limits h.before h.contents)

-- THE READER'S ANSWER to a piece, after bytes of whose scan this many MCU rows were given: a further one is complete, or
-- none is, with all that were given before; the file is complete; or it is refused, or memory was wanted.
abbrev pub AnsweredRows : List ℕ → ℕ → List ℕ → Result FedRow Stop → ReaderState → Type 0
AnsweredRows bytes m piece (Ok fed.More) r = HasReadRows (bytes ++ piece) m r
AnsweredRows bytes m piece (Ok (fed.Row used)) r = HasGivenRow (bytes ++ take used piece) (m + 1) r × (used ≤ length piece)
AnsweredRows bytes m piece (Ok (fed.Done used)) r = IsDoneByRows (bytes ++ take used piece) m r × (used ≤ length piece)
AnsweredRows bytes m piece (Err (stop.Fault f)) r = IsStopOf standard_limits (bytes ++ piece) f × (length bytes ≤ f.at)
AnsweredRows bytes m piece (Err stop.NoMemory) r = Unit {0}

-- All these bytes were read, the last of them a piece, of which this much is left, to which this is the answer.
pub record IsInPiece (h : Head) (all : List ℕ) (m : ℕ) (piece : List ℕ) (answer : Result FedRow Stop) (r : ReaderState) : Type 0 where
  pub fed : List ℕ
  pub cut : all ≡ fed ++ piece
  pub few : length piece ≤ 16384
  pub begins : BeginsAt h all
  pub after : AnsweredRows fed m piece answer r
  pub done : EndsDoneRow answer r
  pub small : All (λ b. b < 256) all
  pub short : IsShortRead Coefficients all

-- whether it is that the file is complete
abbrev pub is_complete : FedRow → Bool
is_complete fed.More = false
is_complete (fed.Row used) = false
is_complete (fed.Done used) = true

-- THE FRONT

-- No MCU rows are read yet.
pub record IsFrontFed (from : RowsFront) (bytes : List ℕ) (s : RowsFront) : Type 0 where
  pub keeps : KeepsReading (from.reader).value (s.reader).value
  pub read : HasReadPlainly bytes (s.reader).value
  pub small : All (λ b. b < 256) bytes
  pub none : s.piece ≡ []

-- There are none in the file, which the reader has.
pub record HoldsPlainly (early : Option ℕ) (bytes : List ℕ) (s : RowsFront) : Type 0 where
  pub none : ((s.reader).value).rows ≡ None
  pub done : ((s.reader).value).done ≡ true
  pub holds : HoldsPicture Coefficients (s.reader).value early bytes

-- They began in the last piece.
pub record HoldsRows (early : Option ℕ) (bytes : List ℕ) (s : RowsFront) : Type 0 where
  pub whole : early ≡ None
  pub head : Head
  pub at : IsInPiece head bytes 0 s.piece s.answer (s.reader).value
  pub some : (x : FedRow) × (s.answer ≡ Ok x)

pub record HasFront (from : RowsFront) (early : Option ℕ) (bytes : List ℕ) (s : RowsFront) : Type 0 where
  pub keeps : KeepsReading (from.reader).value (s.reader).value
  pub at : HoldsPlainly early bytes s ⊎ HoldsRows early bytes s

abbrev pub rows_front : ReaderKind RowsFront Meaning
rows_front = record { fed = IsFrontFed; holds = λ from early rest bytes s. HasFront from early bytes s; judging = λ from. picture_judging Coefficients; more = λ s. ((s.reader).value).rows ≡ None → ⊥ }

-- THE ROWS of a picture with some head

-- what doesn't change of it
pub record KeepsGoal (from s : RowsRead) : Type 0 where
  pub keeps : KeepsReading (from.reader).value (s.reader).value
  pub goal : IsSameGoal from.to s.to
  pub head : (s.head).now ≡ (from.head).now

-- This many MCU rows of the bytes went where they go.
pub record HavePutRows (h : Head) (from : RowsRead) (all : List ℕ) (m : ℕ) (s : RowsRead) : Type 0 where
  pub keeps : KeepsGoal from s
  pub told : IsHeadAt h (Some (from.head).now)
  pub blocks : Blocks
  pub rows : TellsRows standard_limits all m blocks
  pub put : HavePut (frame_at h) m blocks s.to

-- In a piece:
pub record IsPutInPiece (from : RowsRead) (all piece : List ℕ) (answer : Result FedRow Stop) (s : RowsRead) : Type 0 where
  pub head : Head
  pub count : ℕ
  pub at : IsInPiece head all count piece answer (s.reader).value
  pub put : HavePutRows head from all count s

-- Between two pieces:
pub record IsRowsFed (from : RowsRead) (bytes : List ℕ) (s : RowsRead) : Type 0 where
  pub head : Head
  pub count : ℕ
  pub begins : BeginsAt head bytes
  pub read : HasReadRows bytes count (s.reader).value
  pub small : All (λ b. b < 256) bytes
  pub put : HavePutRows head from bytes count s

-- AT THE END all rows of the picture that the bytes mean went there, and the reader has kept its markers.
pub record HasRows (from : RowsRead) (early : Option ℕ) (bytes : List ℕ) (s : RowsRead) : Type 0 where
  pub keeps : KeepsGoal from s
  pub done : ((s.reader).value).done ≡ true
  pub meaning : Meaning
  pub read : IsReadPicture Coefficients meaning early bytes
  pub short : IsShortRead Coefficients bytes
  pub head : IsHeadOfPicture (from.head).now meaning
  pub kept : KeepsMarkersOf meaning (s.reader).value
  pub real : real_blocks ((from.head).now).frame meaning.blocks ≡ meaning.blocks
  pub all : HaveAll ((from.head).now).frame meaning.blocks s.to

abbrev pub rows_reader : ReaderKind RowsRead Meaning
rows_reader = record { fed = IsRowsFed; holds = λ from early rest bytes s. HasRows from early bytes s; judging = λ from. picture_judging Coefficients; more = λ s. ⊥ }

-- A PIECE whose answer is there
abbrev pub CanTakeRows : RowsRead → List ℕ → Result FedRow Stop → Type 0
CanTakeRows s piece answer = (from : RowsRead) × (all : List ℕ) × IsPutInPiece from all piece answer s

abbrev pub TakesRows : RowsRead → List ℕ → Result FedRow Stop → Result Bool Why → RowsRead → Type 0
TakesRows old piece answer result new = (from : RowsRead) (all : List ℕ) → IsPutInPiece from all piece answer old → AfterTaking rows_reader from all result new

-- how many rows the reader may still give, where it has just given one
abbrev pub rows_due : Option RowWork → ℕ
rows_due None = 0
rows_due (Some rows) = unfinished rows

abbrev pub rows_to_give : Result FedRow Stop → ReaderState → ℕ
rows_to_give (Ok (fed.Row used)) r = rows_due r.rows + 1
rows_to_give other r = 0
