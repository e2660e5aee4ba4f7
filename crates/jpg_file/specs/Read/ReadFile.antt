-- A file that is fed piece by piece (T.81, B.2.1).
use Rattle.std.specs.Prelude.{◌≡◌, ◌⊎◌, ℕ, [], ◌∷◌, ◌<◌, ◌≤◌, Bool, true, false, List, ◌++◌, length, take, ◌+◌, option_map, Option, Some, None, Result, Ok, Err, is_some, ◌*◌}
use Rattle.jpg_spec.specs.Geometry.{Frame, blocks_across, blocks_down, bounds, component_at, mcu_row_frame}
use Rattle.jpg_spec.specs.Meaning.{Meaning, real_blocks}
use Rattle.jpg_spec.specs.Scan.{Blocks}
use Rattle.jpg_spec.specs.Markers.{Segment}
use Rattle.jpg_spec.specs.InForce.{frame_of}
use Rattle.jpg_spec.specs.FileMeaning.{meaning_of}
use Rattle.jpg_spec.specs.Items.{Item}
use Rattle.jpg_spec.specs.FirstFault.{AfterItems, HaveBegun, IsFirstFault}
use Rattle.jpg_spec.specs.Early.{MeansEarly}
use Rattle.jpg_spec.specs.UnfinishedFile.{UnfinishedFile, IsWholeFile, PartOfItem}
use Rattle.jpg_spec.specs.declared.fault.FaultAt.{FaultAt}
use Rattle.jpg_spec.specs.declared.frame.Colour.{Colour}
use Rattle.jpg_spec.specs.declared.frame.Limits.{Limits}
use Rattle.jpg_base.specs.declared.stop.Fed.{Fed}
use Rattle.jpg_base.specs.declared.stop.Fed.TheVariants as came
use Rattle.jpg_base.specs.declared.stop.Stop.{Stop}
use Rattle.jpg_base.specs.declared.stop.Stop.TheVariants as stop
use Rattle.jpg_markers.specs.declared.segments.SegStep.{SegStep}
use Rattle.jpg_markers.specs.declared.segments.SegStep.TheVariants as item
use Rattle.jpg_file.specs.Read.FirstHeader.{IsFirstHeaderOf}
use Rattle.jpg_file.specs.Read.Left.{Leaves, LeavesPicture}
use Rattle.jpg_file.specs.declared.read.ends.End.{End}
use Rattle.jpg_file.specs.declared.read.ends.End.TheVariants as ends
use Rattle.jpg_file.specs.Read.File.{AfterFileByte, AfterFileStep, EndsFile, IsStop, RepresentsFile, keeping_of, HasCompleteHeader, TakesSome, limits_of, scans_ended, settings_of}
use Rattle.jpg_file.specs.declared.read.first_header.Head.{Head}
use Rattle.jpg_file.specs.declared.read.file.FileState.{FileState}
use Rattle.jpg_file.specs.declared.read.rows.RowWork.{RowWork}
use Rattle.jpg_file.specs.declared.read.strip_head.StripHead.{StripHead}
use Rattle.jpg_spec.specs.declared.frame.Copying.TheVariants as copying
use Rattle.jpg_file.specs.Read.Strips.{FileSeen, AfterStrip, SparesRows, StripGoes, RepresentsStrip, RowsFault, KnowsByte, KnowsHead, KnowsRows, KnowsSome, NoRowsIn, NoneByte, NoneHead, NoneSome, NoneAfter, LacksRow, CountsRowsOfScan, CountsStrip, GoesByRow, StopsRows, TakesStrip, TellsStrip, rows_of_scan, HasNoRows, RepresentsRows}
use Rattle.jpg_file.specs.declared.read.scan.InScan.{InScan}
use Rattle.jpg_file.specs.declared.read.step.Step.TheVariants as step
use Rattle.jpg_file.specs.Read.Step.{IfStops, IfWants, IsNoRow, HasMemory}
use Rattle.jpg_file.specs.declared.read.pieces.FedRow.{FedRow}
use Rattle.jpg_file.specs.declared.read.pieces.FedRow.TheVariants as fed
use Rattle.jpg_file.specs.declared.read.step.Step.{Step}
use Rattle.std.specs.Result.{result_err}
use Rattle.jpg_spec.specs.FrameHeader.{AreLimits}
use Rattle.jpg_spec.specs.Ranges.{AreInRange}
use Rattle.jpg_spec.specs.Elements.{zeros}
use Rattle.jpg_spec.specs.RowsParsed.{BeginsScanOfAll, CompletesRows, TellsRows, picture_so_far}
use Rattle.jpg_coefs.specs.Picture.{Picture, map_of}
use Rattle.jpg_seq.specs.Reader.{rows_in_mcu}
use Rattle.jpg_file.specs.Read.SegmentState.{kept_for, HasBegunEach}
use Rattle.jpg_file.specs.Read.InData.{unfinished}
use Rattle.jpg_file.specs.Read.PictureKept.{IsHeadOfPicture}

-- what contracts see of a reader: the state of its file, whether it is read MCU row by MCU row with no markers kept, whether
-- it is read so at all, the current MCU row and the head of its picture once there is one, whether it is done (it is complete or ended early, so that nothing may be
-- fed any more), and why it stopped, if it did
pub record ReaderState : Type 0 where
  pub limits : Limits
  pub file : FileState
  pub by_row : Bool
  pub in_rows : Bool
  pub rows : Option RowWork
  pub strip : Option StripHead
  pub done : Bool
  pub stop : Option Stop

-- The bytes were fed. They have no fault and aren't a complete file, and more may follow.
pub record HasRead (bytes : List ℕ) (r : ReaderState) : Type 0 where
  pub skip_ahead : r.stop ≡ None
  pub undone : r.done ≡ false
  pub short : length bytes < r.limits.input
  pub stands : UnfinishedFile r.limits bytes
  pub «open» : RepresentsFile r.limits bytes r.file
  pub head : IsFirstHeaderOf r.limits bytes r.file.head

-- They are a complete file.
pub record IsDone (bytes : List ℕ) (r : ReaderState) : Type 0 where
  pub done : r.done ≡ true
  pub meaning : Meaning
  pub whole : IsWholeFile r.limits bytes meaning
  pub ended : EndsFile r.limits bytes r.file
  pub head : IsFirstHeaderOf r.limits bytes r.file.head

-- They end early, and what is left is what they mean.
pub record IsEarlyEnd (bytes : List ℕ) (r : ReaderState) : Type 0 where
  pub done : r.done ≡ true
  pub segments : List Segment
  pub blocks : Blocks
  pub early : MeansEarly r.limits bytes (meaning_of (frame_of r.limits segments) segments blocks)
  pub left : Leaves r.limits segments blocks r.file
  pub head : IsFirstHeaderOf r.limits bytes r.file.head

-- whether each component has begun in bytes that were fed
abbrev pub TellsBegun : Limits → List ℕ → Bool → Type 0
TellsBegun limits bytes true = HaveBegun limits bytes
TellsBegun limits bytes false = HaveBegun limits bytes → ⊥

-- WHAT A FILE IS REFUSED WITH: its first fault
abbrev pub IsRefusal : Limits → List ℕ → FaultAt → Type 0
IsRefusal limits bytes f = IsFirstFault limits bytes f.fault f.at

-- whatever follows
abbrev pub IsStopOf : Limits → List ℕ → FaultAt → Type 0
IsStopOf limits bytes f = (rest : List ℕ) → IsRefusal limits (bytes ++ rest) f

-- the first scan header of some first bytes, no fewer than these
abbrev pub KeepsHead : Limits → ℕ → List ℕ → Option Head → Type 0
KeepsHead limits fewest bytes head = (n : ℕ) × (fewest ≤ n) × IsFirstHeaderOf limits (take n bytes) head

-- That of the bytes up to a fault; or up to the byte before it, if the byte at its place reveals it.
abbrev pub KeepsHeadAt : Limits → List ℕ → FaultAt → Option Head → Type 0
KeepsHeadAt limits bytes f head =
    IsFirstHeaderOf limits (take f.at bytes) head ⊎ ((m : ℕ) × (f.at ≡ m + 1) × IsFirstHeaderOf limits (take m bytes) head × IsStop limits (take f.at bytes) f)

-- what contracts see of the first scan header: the frame, the colours, and the place of its end
abbrev pub head_seen : ReaderState → Option (Frame × Colour × ℕ)
head_seen r = option_map (λ h. (h.frame, h.colour, h.at)) r.file.head

-- THE RESULT of a piece that is fed, by all bytes so far. A fault is after the bytes before the piece.
abbrev pub AfterFeed : List ℕ → List ℕ → Result Fed Stop → ReaderState → Type 0
AfterFeed bytes piece (Ok came.More) r = HasRead (bytes ++ piece) r
AfterFeed bytes piece (Ok (came.Done used)) r = IsDone (bytes ++ take used piece) r × (1 ≤ used) × (used ≤ length piece)
AfterFeed bytes piece (Err (stop.Fault f)) r = IsStopOf r.limits (bytes ++ piece) f × (length bytes < f.at) × KeepsHeadAt r.limits (bytes ++ piece) f r.file.head
AfterFeed bytes piece (Err stop.NoMemory) r = KeepsHead r.limits (length bytes) (bytes ++ piece) r.file.head

-- WHERE MEMORY IS ASKED FOR: between items, before SOI is complete or after items with a part of a segment
abbrev pub EndsBetweenItems : Limits → List ℕ → Type 0
EndsBetweenItems limits bytes =
    ((bytes ≡ []) ⊎ (bytes ≡ 255 ∷ [])) ⊎ ((items : List Item) × (tail : List ℕ) × AfterItems limits bytes items tail × PartOfItem items tail)

-- Some first bytes, no fewer than these and not all, have no fault and end there: not inside the data of a scan. Their
-- first scan header is the one that is kept.
pub record AsksForMemory (limits : Limits) (fewest : ℕ) (bytes : List ℕ) (head : Option Head) : Type 0 where
  pub n : ℕ
  pub low : fewest ≤ n
  pub within : n < length bytes
  pub between : EndsBetweenItems limits (take n bytes)
  pub kept : IsFirstHeaderOf limits (take n bytes) head

-- if a piece that is fed has the result NoMemory
abbrev pub AsksOnFeed : ReaderState → List ℕ → Result Fed Stop → ReaderState → Type 0
AsksOnFeed old piece answer new =
    (bytes : List ℕ) → HasRead bytes old → answer ≡ Err stop.NoMemory → AsksForMemory new.limits (length bytes) (bytes ++ piece) new.file.head

-- for all bytes that were fed before
abbrev pub FeedsFile : ReaderState → List ℕ → Result Fed Stop → ReaderState → Type 0
FeedsFile old piece answer new = (bytes : List ℕ) → HasRead bytes old → AfterFeed bytes piece answer new

-- a fault of bytes where the input ends
abbrev pub StopsAt : Limits → List ℕ → Stop → Type 0
StopsAt limits bytes (stop.Fault f) = IsRefusal limits bytes f
StopsAt limits bytes stop.NoMemory = ⊥

-- where they end: early, at their number, or with a fault
abbrev pub AfterEnd : List ℕ → End → ReaderState → Type 0
AfterEnd bytes (ends.Early n) r = (n ≡ length bytes) × IsEarlyEnd bytes r
AfterEnd bytes (ends.Stop stop) r = StopsAt r.limits bytes stop

abbrev pub EndsWith : End → ReaderState → Type 0
EndsWith (ends.Early n) r = r.done ≡ true
EndsWith (ends.Stop stop) r = (r.done ≡ false) × (r.stop ≡ Some stop)

-- the word that keeps `done`
abbrev pub EndsDone : Result Fed Stop → ReaderState → Type 0
EndsDone (Ok came.More) r = r.done ≡ false
EndsDone (Ok (came.Done used)) r = r.done ≡ true
EndsDone (Err e) r = r.done ≡ false

-- A file that is being read MCU row by MCU row, and a piece of it (T.81, A.2.3, B.2.1).

-- The bytes before the last one are a file so far, so that a fault that the bits of the last one reveal isn't revealed
-- by fewer bytes.
pub record HasLastByte (limits : Limits) (bytes : List ℕ) : Type 0 where
  pub front : List ℕ
  pub byte : ℕ
  pub cut : bytes ≡ front ++ byte ∷ []
  pub stands : UnfinishedFile limits front
  pub short : length front < limits.input

-- if there is a current MCU row
abbrev pub LastByte : Limits → List ℕ → Option RowWork → Type 0
LastByte limits bytes rows = is_some rows ≡ true → HasLastByte limits bytes

-- the state is that of the bytes, of whose last one bits may wait
pub record RowsOpen (limits : Limits) (bytes : List ℕ) (rows : Option RowWork) (w : FileState) : Type 0 where
  pub stands : RepresentsStrip limits bytes rows w
  pub last : LastByte limits bytes rows

-- and no bits wait
pub record RowsGo (limits : Limits) (bytes : List ℕ) (rows : Option RowWork) (w : FileState) : Type 0 where
  pub goes : StripGoes limits bytes rows w
  pub last : LastByte limits bytes rows

-- a further MCU row is complete with the bytes
pub record RowsGive (limits : Limits) (bytes : List ℕ) (rows : Option RowWork) (w : FileState) : Type 0 where
  pub row : AfterStrip limits bytes step.Row rows w
  pub last : HasLastByte limits bytes

-- WHAT DOESN'T CHANGE: whether MCU rows are read, the current one, the head of its picture, which markers are to be
-- kept, and that no memory is asked for
pub record KeepsWork (old new : FileSeen) : Type 0 where
  pub by_row : new.by_row ≡ old.by_row
  pub plain : old.rows ≡ None → old.by_row ≡ false → new.rows ≡ None
  pub some : is_some old.rows ≡ true → is_some new.rows ≡ true
  pub strip : is_some old.rows ≡ true → new.strip ≡ old.strip
  pub keeping : settings_of new.file ≡ settings_of old.file
  pub sparing : keeping_of old.file ≡ copying.None → SparesRows old.rows old.file → SparesRows new.rows new.file

-- All that holds after some bytes, and after a piece, of a file that is read MCU row by MCU row (T.81, A.2.3, B.2.1).

-- SOME BYTES with no current MCU row before them
pub record TakesPlain (old : FileSeen) (run : List ℕ) (n : ℕ) (answer : Step) (new : FileSeen) : Type 0 where
  pub begins : CountsRowsOfScan new.rows new.file
  pub known : KnowsSome old run n new
  pub no : IsNoRow answer
  pub stops : IfStops answer (new.rows ≡ None)
  pub plain : old.by_row ≡ false → new.rows ≡ None
  pub none : old.by_row ≡ true → NoneSome old run n answer new
  pub some : old.by_row ≡ false → TakesSome old.file run n answer new.file

-- and with one
pub record TakesCurrent (old : FileSeen) (answer : Step) (new : FileSeen) : Type 0 where
  pub memory : SparesRows old.rows old.file → HasMemory answer
  pub strip : new.strip ≡ old.strip
  pub head : new.file.head ≡ old.file.head

-- the result of the last one, and what is kept
pub record TakesBytes (old : FileSeen) (run : List ℕ) (n : ℕ) (answer : Step) (new : FileSeen) : Type 0 where
  pub after : TakesStrip old run n answer new
  pub rows : CountsStrip answer old.rows new.rows
  pub sparing : keeping_of old.file ≡ copying.None → SparesRows old.rows old.file → SparesRows new.rows new.file
  pub keeping : settings_of new.file ≡ settings_of old.file
  pub by_row : new.by_row ≡ old.by_row
  pub fresh : old.rows ≡ None → TakesPlain old run n answer new
  pub current : is_some old.rows ≡ true → TakesCurrent old answer new

-- A BYTE with no current MCU row before it
pub record TakesFirst (old : FileSeen) (byte : ℕ) (answer : Step) (new : FileSeen) : Type 0 where
  pub begins : CountsRowsOfScan new.rows new.file
  pub known : KnowsByte old byte new
  pub no : IsNoRow answer
  pub stops : IfStops answer (new.rows ≡ None)
  pub plain : old.by_row ≡ false → new.rows ≡ None
  pub none : old.by_row ≡ true → NoneByte old byte answer new
  pub asks : IfWants answer (old.file.scan ≡ None)

-- its result, and what is kept
pub record TakesOne (old : FileSeen) (byte : ℕ) (answer : Step) (new : FileSeen) : Type 0 where
  pub after : (bytes : List ℕ) → StripGoes (limits_of old.file) bytes old.rows old.file → AfterStrip (limits_of old.file) (bytes ++ byte ∷ []) answer new.rows new.file
  pub stops : (bytes : List ℕ) (rows : RowWork) → old.rows ≡ Some rows → GoesByRow (limits_of old.file) bytes old.file rows → StopsRows (limits_of old.file) (bytes ++ byte ∷ []) answer rows
  pub rows : CountsStrip answer old.rows new.rows
  pub sparing : keeping_of old.file ≡ copying.None → SparesRows old.rows old.file → SparesRows new.rows new.file
  pub keeping : settings_of new.file ≡ settings_of old.file
  pub by_row : new.by_row ≡ old.by_row
  pub head : IfStops answer (new.file.head ≡ old.file.head)
  pub fresh : old.rows ≡ None → TakesFirst old byte answer new
  pub current : is_some old.rows ≡ true → TakesCurrent old answer new

-- A SCAN HEADER that is complete, with no current MCU row before it
pub record TakesFirstHead (old : FileSeen) (answer : Step) (new : FileSeen) : Type 0 where
  pub after : (bytes : List ℕ) → HasCompleteHeader (limits_of old.file) bytes old.file → AfterStrip (limits_of old.file) bytes answer new.rows new.file
  pub begins : CountsRowsOfScan new.rows new.file
  pub known : KnowsHead old new
  pub no : IsNoRow answer
  pub stops : IfStops answer (new.rows ≡ None)
  pub plain : old.by_row ≡ false → new.rows ≡ None
  pub none : old.by_row ≡ true → old.file.head ≡ None → NoneHead old answer new
  pub sparing : keeping_of old.file ≡ copying.None → SparesRows new.rows new.file
  pub head : IfStops answer (new.file.head ≡ old.file.head)
  pub keeping : settings_of new.file ≡ settings_of old.file
  pub by_row : new.by_row ≡ old.by_row

-- ANOTHER ITEM, with no current MCU row: whatever bytes were given, nothing changes
pub record PassesFirst (old : FileSeen) (came : Result SegStep Stop) (answer : Step) (new : FileSeen) : Type 0 where
  pub same : new ≡ old
  pub after : (before : Option InScan) (limits : Limits) (bytes : List ℕ) → AfterFileStep before limits bytes came old.file → AfterFileByte (before ≡ None) limits bytes answer old.file
  pub no : IsNoRow answer

abbrev pub TakesFirstItem : FileSeen → Result SegStep Stop → Step → FileSeen → Type 0
TakesFirstItem old (Ok item.Whole) answer new = TakesFirstHead old answer new
TakesFirstItem old came answer new = PassesFirst old came answer new

-- A PIECE: no fewer of its bytes than were used complete the MCU row
abbrev pub LastOfRow : Limits → List ℕ → List ℕ → ℕ → Option RowWork → Type 0
LastOfRow limits bytes piece used rows = (early : ℕ) → used ≡ early + 1 → LacksRow limits (bytes ++ take early piece) rows

-- THE RESULT, by how many bytes were used, also up to a fault. Where memory is asked for with no current MCU row, it is
-- between items.
abbrev pub AfterPiece : Limits → List ℕ → List ℕ → ℕ → Step → Option RowWork → FileState → Type 0
AfterPiece limits bytes piece used step.More rows w = RowsGo limits (bytes ++ take used piece) rows w
AfterPiece limits bytes piece used step.Row rows w = RowsGive limits (bytes ++ take used piece) rows w × LastOfRow limits bytes piece used rows
AfterPiece limits bytes piece used step.Whole rows w = AfterStrip limits (bytes ++ take used piece) step.Whole rows w × (1 ≤ used)
AfterPiece limits bytes piece used (step.Ended (stop.Fault f)) rows w =
    IsStopOf limits (bytes ++ piece) f × (f.at ≡ length bytes + used) × KeepsHeadAt limits (bytes ++ piece) f w.head
AfterPiece limits bytes piece used (step.Ended stop.NoMemory) rows w =
    KeepsHead limits (length bytes) (bytes ++ piece) w.head × (rows ≡ None → AsksForMemory limits (length bytes) (bytes ++ piece) w.head)

-- WHAT IS KNOWN of the MCU rows, of which this many were given before
abbrev pub KnowsAfter : Limits → List ℕ → ℕ → Step → FileSeen → Option RowWork → Type 0
KnowsAfter limits bytes m step.More w rows = KnowsRows limits bytes m rows w.strip
KnowsAfter limits bytes m step.Row w rows = KnowsRows limits bytes (m + 1) rows w.strip
KnowsAfter limits bytes m step.Whole w rows = KnowsRows limits bytes m rows w.strip
KnowsAfter limits bytes m (step.Ended (stop.Fault f)) w rows = RowsFault limits bytes m w rows
KnowsAfter limits bytes m (step.Ended stop.NoMemory) w rows = Unit {0}

pub record GivenBefore (limits : Limits) (bytes : List ℕ) (m : ℕ) (w : FileSeen) : Type 0 where
  pub stands : RowsOpen limits bytes w.rows w.file
  pub none : w.rows ≡ None → m ≡ 0
  pub known : KnowsRows limits bytes m w.rows w.strip

-- SOME BYTES of a piece, whatever bytes were given before them
pub record TakesPiece (limits : Limits) (old : FileSeen) (piece : List ℕ) (used : ℕ) (answer : Step) (new : FileSeen) : Type 0 where
  pub few : used ≤ length piece
  pub after : (bytes : List ℕ) → RowsOpen limits bytes old.rows old.file → AfterPiece limits bytes piece used answer new.rows new.file
  pub keeps : KeepsWork old new
  pub memory : keeping_of old.file ≡ copying.None → SparesRows old.rows old.file → IfWants answer (new.rows ≡ None)
  pub known : (bytes : List ℕ) (m : ℕ) → GivenBefore limits bytes m old → KnowsAfter limits (bytes ++ take used piece) m answer new new.rows
  pub none : (bytes : List ℕ) → RowsOpen limits bytes old.rows old.file → old.by_row ≡ true → NoRowsIn limits bytes old.rows → NoneAfter limits (bytes ++ take used piece) answer new.rows

-- after them more may be taken
abbrev pub GoesOn : Limits → FileSeen → List ℕ → ℕ → FileSeen → Type 0
GoesOn limits old piece used new = TakesPiece limits old piece used step.More new × (new.file.taken < limits.input)

-- THE DATA OF SCANS, of which with so many bytes of the piece no further ones have ended, by the state of the file then
pub record CountsOn (limits : Limits) (old : FileState) (piece : List ℕ) (early : ℕ) : Type 0 where
  pub mid : FileState
  pub few : early ≤ length piece
  pub stands : (bytes : List ℕ) → RepresentsFile limits bytes old → RepresentsFile limits (bytes ++ take early piece) mid
  pub same : scans_ended mid ≡ scans_ended old

-- nor have they before the last one of so many bytes
abbrev pub CountsBefore : Limits → FileState → List ℕ → ℕ → Type 0
CountsBefore limits old piece used = (early : ℕ) × (used ≡ early + 1) × CountsOn limits old piece early

-- A PIECE up to the next MCU row, or up to the end of a scan's data
abbrev pub ReadsUpTo : Bool → Limits → FileSeen → List ℕ → Result FedRow Stop → FileSeen → Type 0
ReadsUpTo scans limits old piece (Ok fed.More) new = GoesOn limits old piece (length piece) new × (scans ≡ true → scans_ended new.file ≡ scans_ended old.file)
ReadsUpTo false limits old piece (Ok (fed.Row used)) new = TakesPiece limits old piece used step.Row new
ReadsUpTo true limits old piece (Ok (fed.Row used)) new =
    GoesOn limits old piece used new × CountsBefore limits old.file piece used × (scans_ended new.file ≡ scans_ended old.file → ⊥)
ReadsUpTo scans limits old piece (Ok (fed.Done used)) new = TakesPiece limits old piece used step.Whole new × (scans ≡ true → CountsBefore limits old.file piece used)
ReadsUpTo scans limits old piece (Err e) new =
    (used : ℕ) × TakesPiece limits old piece used (step.Ended e) new × (scans ≡ true → (early : ℕ) × (used ≤ early + 1) × CountsOn limits old.file piece early)

pub record ReadsPiece (scans : Bool) (limits : Limits) (old : FileSeen) (piece : List ℕ) (answer : Result FedRow Stop) (new : FileSeen) : Type 0 where
  pub keeps : KeepsWork old new
  pub read : ReadsUpTo scans limits old piece answer new

-- A file that is fed piece by piece, and read MCU row by MCU row if its first scan has all components of a sequential
-- frame (T.81, A.2.3, B.2.1).

-- the invariant of a reader: it was given some bytes, or has a picture, and each component was in a scan; where MCU rows
-- are to be read and no markers kept, it asks for no memory with a current row
pub record IsReading (r : ReaderState) : Type 0 where
  pub limited : AreLimits r.limits
  pub in_rows : r.by_row ≡ true → r.in_rows ≡ true
  pub keeping : r.by_row ≡ true → keeping_of r.file ≡ copying.None
  pub sparing : r.by_row ≡ true → SparesRows r.rows r.file
  pub «open» : r.stop ≡ None → r.done ≡ false → (bytes : List ℕ) × RowsOpen r.limits bytes r.rows r.file
  pub ended : r.done ≡ true → r.rows ≡ None → LeavesPicture r.limits r.file
  pub begun : r.done ≡ true → HasBegunEach r.file.begun.progress

-- no MCU rows are to be read, nor is there a current one
abbrev pub IsPlain : ReaderState → Type 0
IsPlain r = (r.in_rows ≡ false) × (r.rows ≡ None)

-- THE HEAD of the picture whose rows are read, when the scan began in the bytes
pub record HasBegunRows (bytes : List ℕ) (r : ReaderState) : Type 0 where
  pub before : List Segment
  pub contents : List ℕ
  pub begins : BeginsScanOfAll r.limits bytes before contents
  pub rows : RowWork
  pub has : r.rows ≡ Some rows
  pub head : IsFirstHeaderOf r.limits bytes r.file.head
  pub told : TellsStrip r.strip (frame_of r.limits before) (picture_so_far r.limits before contents)

-- the picture of these blocks, with what is in force at the end of that scan header
abbrev pub picture_read : (bytes : List ℕ) → (r : ReaderState) → HasBegunRows bytes r → Blocks → Meaning
picture_read bytes r b blocks = picture_so_far r.limits b.before b.contents blocks

-- THE BYTES SO FAR

-- No such scan began in them, and they have no fault and aren't a complete file.
pub record HasReadPlainly (bytes : List ℕ) (r : ReaderState) : Type 0 where
  pub none : r.rows ≡ None
  pub plain : HasNoRows r.limits bytes
  pub read : HasRead bytes r

-- It began. This many MCU rows were given, and no further one is complete.
pub record HasReadRows (bytes : List ℕ) (m : ℕ) (r : ReaderState) : Type 0 where
  pub skip_ahead : r.stop ≡ None
  pub undone : r.done ≡ false
  pub short : length bytes < r.limits.input
  pub stands : UnfinishedFile r.limits bytes
  pub begun : HasBegunRows bytes r
  pub «open» : GoesByRow r.limits bytes r.file begun.rows
  pub byte : HasLastByte r.limits bytes
  pub rows : m + unfinished begun.rows ≡ rows_of_scan r.limits begun.before begun.contents
  pub blocks : Blocks
  pub completed : CompletesRows r.limits bytes m blocks

-- these coefficients are those of MCU row k
pub record AreOfRow (f : Frame) (k : ℕ) (row : Picture) (blocks : Blocks) : Type 0 where
  pub same : (i x y : ℕ) → i < length f.components → x < blocks_across f (component_at f i) → y < rows_in_mcu f i
      → k * rows_in_mcu f i + y < blocks_down f (component_at f i) → map_of row i x y ≡ blocks i x (k * rows_in_mcu f i + y)

-- Of the last byte some bits may be left, which aren't judged yet. The last of the MCU rows that were given is lent.
pub record HasGivenRow (bytes : List ℕ) (m : ℕ) (r : ReaderState) : Type 0 where
  pub skip_ahead : r.stop ≡ None
  pub undone : r.done ≡ false
  pub within : length bytes ≤ r.limits.input
  pub begun : HasBegunRows bytes r
  pub «open» : RepresentsRows r.limits bytes r.file begun.rows
  pub byte : HasLastByte r.limits bytes
  pub rows : m + unfinished begun.rows ≡ rows_of_scan r.limits begun.before begun.contents
  pub blocks : Blocks
  pub told : TellsRows r.limits bytes m blocks
  pub last : ℕ
  pub count : m ≡ last + 1
  pub framed : ((begun.rows).coefs).frame ≡ mcu_row_frame (frame_of r.limits begun.before)
  pub range : AreInRange (bounds (frame_of r.limits begun.before)) (map_of (begun.rows).coefs)
  pub row : AreOfRow (frame_of r.limits begun.before) last (begun.rows).coefs blocks

abbrev pub HasReadSoFar : List ℕ → ℕ → ReaderState → Type 0
HasReadSoFar bytes m r = (HasReadPlainly bytes r × (m ≡ 0)) ⊎ (HasReadRows bytes m r ⊎ HasGivenRow bytes m r)

-- no bits are left that aren't judged
abbrev pub HasReadAll : List ℕ → ℕ → ReaderState → Type 0
HasReadAll bytes m r = (HasReadPlainly bytes r × (m ≡ 0)) ⊎ HasReadRows bytes m r

-- the markers that the reader has kept are those of this picture that are to be kept
abbrev pub KeepsMarkersOf : Meaning → ReaderState → Type 0
KeepsMarkersOf M r = r.file.items.held.kept ≡ (kept_for (keeping_of r.file) M).kept

-- the head is that of this picture
abbrev pub TellsHead : Option StripHead → Meaning → Type 0
TellsHead None M = ⊥
TellsHead (Some h) M = IsHeadOfPicture h M

-- ALL BLOCKS of a picture with this frame, of which the reader keeps those of one MCU row
pub record HasAllBlocks (f : Frame) (blocks : Blocks) : Type 0 where
  pub all : Picture
  pub framed : all.frame ≡ f
  pub range : AreInRange (bounds f) (map_of all)
  pub real : blocks ≡ real_blocks f (map_of all)

-- the real blocks of this many first MCU rows are the same
pub record AgreeInRows (f : Frame) (rows : ℕ) (blocks others : Blocks) : Type 0 where
  pub same : (i x y : ℕ) → i < length f.components → x < blocks_across f (component_at f i) → y < blocks_down f (component_at f i)
      → y < rows * rows_in_mcu f i → blocks i x y ≡ others i x y

-- A complete file, all whose MCU rows were given: so many as its scan has, with the blocks of the picture.
pub record IsDoneByRows (bytes : List ℕ) (m : ℕ) (r : ReaderState) : Type 0 where
  pub done : r.done ≡ true
  pub meaning : Meaning
  pub whole : IsWholeFile r.limits bytes meaning
  pub kept : KeepsMarkersOf meaning r
  pub begun : HasBegunRows bytes r
  pub head : TellsHead r.strip meaning
  pub all : HasAllBlocks (frame_of r.limits begun.before) meaning.blocks
  pub full : m ≡ rows_of_scan r.limits begun.before begun.contents
  pub blocks : Blocks
  pub completed : CompletesRows r.limits bytes m blocks
  pub given : AgreeInRows (frame_of r.limits begun.before) m blocks meaning.blocks

-- a complete file without such a scan
pub record IsDonePlainly (bytes : List ℕ) (r : ReaderState) : Type 0 where
  pub none : r.rows ≡ None
  pub plain : HasNoRows r.limits bytes
  pub done : IsDone bytes r

-- AT AN EARLY END

-- Without such a scan, what is left is a picture.
pub record IsEarlyPlainly (bytes : List ℕ) (r : ReaderState) : Type 0 where
  pub none : r.rows ≡ None
  pub plain : HasNoRows r.limits bytes
  pub early : IsEarlyEnd bytes r

-- MCU row k is lent: in a frame's bounds, and with these blocks
pub record LendsRow (f : Frame) (k : ℕ) (lent : Picture) (blocks : Blocks) : Type 0 where
  pub framed : lent.frame ≡ mcu_row_frame f
  pub range : AreInRange (bounds f) (map_of lent)
  pub row : AreOfRow f k lent blocks

-- With such a scan, this many MCU rows were given. The current row, if one is missing, is lent as it is; all blocks of
-- later rows are zero.
pub record IsEarlyByRows (bytes : List ℕ) (m : ℕ) (r : ReaderState) : Type 0 where
  pub done : r.done ≡ true
  pub begun : HasBegunRows bytes r
  pub meaning : Meaning
  pub early : MeansEarly r.limits bytes meaning
  pub kept : KeepsMarkersOf meaning r
  pub head : TellsHead r.strip meaning
  pub all : HasAllBlocks (frame_of r.limits begun.before) meaning.blocks
  pub rows : m + unfinished begun.rows ≡ rows_of_scan r.limits begun.before begun.contents
  pub blocks : Blocks
  pub completed : CompletesRows r.limits bytes m blocks
  pub given : AgreeInRows (frame_of r.limits begun.before) m blocks meaning.blocks
  pub work : 1 ≤ unfinished begun.rows → LendsRow (frame_of r.limits begun.before) m (begun.rows).coefs meaning.blocks
  pub later : (i x y : ℕ) → (m + 1) * rows_in_mcu (frame_of r.limits begun.before) i ≤ y → meaning.blocks i x y ≡ zeros 64

abbrev pub AfterEndRow : List ℕ → ℕ → End → ReaderState → Type 0
AfterEndRow bytes m (ends.Early n) r = (n ≡ length bytes) × ((IsEarlyPlainly bytes r × (m ≡ 0)) ⊎ IsEarlyByRows bytes m r)
AfterEndRow bytes m (ends.Stop stop) r = StopsAt r.limits bytes stop

-- for all bytes that were fed before, by which this many MCU rows were given
abbrev pub EndsRow : ReaderState → End → ReaderState → Type 0
EndsRow old answer new = (bytes : List ℕ) (m : ℕ) → HasReadAll bytes m old → AfterEndRow bytes m answer new

-- THE RESULT of a piece that is fed, by all bytes so far: for a fault, which MCU rows are complete before it

pub record StopsKnownRows (bytes : List ℕ) (m : ℕ) (r : ReaderState) : Type 0 where
  pub begun : HasBegunRows bytes r
  pub blocks : Blocks
  pub completed : CompletesRows r.limits bytes m blocks

abbrev pub StopsSoFar : List ℕ → ℕ → ReaderState → Type 0
StopsSoFar bytes m r = ((r.rows ≡ None) × HasNoRows r.limits bytes × (m ≡ 0)) ⊎ StopsKnownRows bytes m r

-- No fewer bytes of the piece encode this many MCU rows: the last one's last bit is in the last byte that was used.
abbrev pub NotSooner : Limits → List ℕ → List ℕ → ℕ → ℕ → Type 0
NotSooner limits bytes piece used m = (n : ℕ) (blocks : Blocks) → n < used → TellsRows limits (bytes ++ take n piece) m blocks → ⊥

abbrev pub AfterFeedRow : List ℕ → ℕ → List ℕ → Result FedRow Stop → ReaderState → Type 0
AfterFeedRow bytes m piece (Ok fed.More) r = (HasReadPlainly (bytes ++ piece) r × (m ≡ 0)) ⊎ HasReadRows (bytes ++ piece) m r
AfterFeedRow bytes m piece (Ok (fed.Row used)) r =
    HasGivenRow (bytes ++ take used piece) (m + 1) r × (used ≤ length piece) × NotSooner r.limits bytes piece used (m + 1)
AfterFeedRow bytes m piece (Ok (fed.Done used)) r =
    (IsDonePlainly (bytes ++ take used piece) r ⊎ IsDoneByRows (bytes ++ take used piece) m r) × (1 ≤ used) × (used ≤ length piece)
AfterFeedRow bytes m piece (Err (stop.Fault f)) r =
    IsStopOf r.limits (bytes ++ piece) f × (length bytes ≤ f.at) × KeepsHeadAt r.limits (bytes ++ piece) f r.file.head × StopsSoFar (take f.at (bytes ++ piece)) m r
AfterFeedRow bytes m piece (Err stop.NoMemory) r = KeepsHead r.limits (length bytes) (bytes ++ piece) r.file.head × (r.rows ≡ None) × HasNoRows r.limits bytes

-- The same where markers are kept: memory may be asked for also after rows began.
abbrev pub AfterFeedKeeping : List ℕ → ℕ → List ℕ → Result FedRow Stop → ReaderState → Type 0
AfterFeedKeeping bytes m piece (Ok x) r = AfterFeedRow bytes m piece (Ok x) r
AfterFeedKeeping bytes m piece (Err (stop.Fault f)) r = AfterFeedRow bytes m piece (Err (stop.Fault f)) r
AfterFeedKeeping bytes m piece (Err stop.NoMemory) r = KeepsHead r.limits (length bytes) (bytes ++ piece) r.file.head

-- for all bytes that were fed before, by which this many MCU rows were given
abbrev pub FeedsKeeping : ReaderState → List ℕ → Result FedRow Stop → ReaderState → Type 0
FeedsKeeping old piece answer new = (bytes : List ℕ) (m : ℕ) → HasReadSoFar bytes m old → AfterFeedKeeping bytes m piece answer new

abbrev pub FeedsRow : ReaderState → List ℕ → Result FedRow Stop → ReaderState → Type 0
FeedsRow old piece answer new = (bytes : List ℕ) (m : ℕ) → HasReadSoFar bytes m old → AfterFeedRow bytes m piece answer new

-- if its result is NoMemory
abbrev pub AsksOnFeedRow : ReaderState → List ℕ → Result FedRow Stop → ReaderState → Type 0
AsksOnFeedRow old piece answer new =
    (bytes : List ℕ) (m : ℕ) → HasReadSoFar bytes m old → answer ≡ Err stop.NoMemory → AsksForMemory new.limits (length bytes) (bytes ++ piece) new.file.head

-- The same where markers are kept, if no rows are read then.
abbrev pub AsksOnFeedKeeping : ReaderState → List ℕ → Result FedRow Stop → ReaderState → Type 0
AsksOnFeedKeeping old piece answer new = new.rows ≡ None → AsksOnFeedRow old piece answer new

-- the word that keeps `done`
abbrev pub EndsDoneRow : Result FedRow Stop → ReaderState → Type 0
EndsDoneRow (Ok fed.More) r = r.done ≡ false
EndsDoneRow (Ok (fed.Row used)) r = r.done ≡ false
EndsDoneRow (Ok (fed.Done used)) r = r.done ≡ true
EndsDoneRow (Err e) r = r.done ≡ false

-- HOW A PIECE IS READ, whatever it is fed for: what is read of a reader, the reader with that, and after its result
abbrev pub work_of : ReaderState → FileSeen
work_of r = record { file = r.file; by_row = r.in_rows; rows = r.rows; strip = r.strip }

abbrev pub with_work : ReaderState → FileSeen → ReaderState
with_work r work = record r { file = work.file; in_rows = work.by_row; rows = work.rows; strip = work.strip }

abbrev pub is_done : Result FedRow Stop → Bool
is_done (Ok fed.More) = false
is_done (Ok (fed.Row used)) = false
is_done (Ok (fed.Done used)) = true
is_done (Err e) = false

abbrev pub after_piece : Result FedRow Stop → ReaderState → ReaderState
after_piece answer r = record r { done = is_done answer; stop = result_err answer }

-- a piece of a reader that hasn't stopped
pub record ReadsInto (scans : Bool) (old : ReaderState) (piece : List ℕ) (answer : Result FedRow Stop) (new : ReaderState) : Type 0 where
  pub reading : IsReading old
  pub undone : old.done ≡ false
  pub work : FileSeen
  pub read : ReadsPiece scans old.limits (work_of old) piece answer work
  pub is : new ≡ after_piece answer (with_work old work)

abbrev pub ReadsOne : Bool → ReaderState → List ℕ → Result FedRow Stop → ReaderState → Type 0
ReadsOne scans old piece answer new = old.stop ≡ None → ReadsInto scans old piece answer new
