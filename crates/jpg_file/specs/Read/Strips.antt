-- Which MCU rows bytes complete, by those that are left (T.81, A.2.3).
use Rattle.std.specs.Prelude.{◌≡◌, ◌⊎◌, ℕ, ◌+◌, List, Option, Some, None, ◌<◌, ◌≤◌, Bool, false, [], ◌∷◌, ◌++◌, length, take, slice_index, Result, Ok, Err, is_some}
use Rattle.jpg_spec.specs.Segments.{head_components, ScanHead}
use Rattle.jpg_spec.specs.Scan.{Blocks}
use Rattle.jpg_spec.specs.Markers.{Segment, has_scan}
use Rattle.jpg_spec.specs.InForce.{frame_of, head_in}
use Rattle.jpg_spec.specs.RowsParsed.{BeginsScanOfAll, CompletesRows, picture_so_far, IsScanOfAll}
use Rattle.jpg_spec.specs.declared.frame.Limits.{Limits}
use Rattle.jpg_base.specs.Cursor.{scan_mcus_down}
use Rattle.jpg_file.specs.Read.InData.{unfinished, InRowData, IsRowIn, TookData, scan_left, IsRowAt}
use Rattle.jpg_file.specs.declared.read.rows.RowWork.{RowWork}
use Rattle.jpg_spec.specs.Geometry.{Frame, is_progressive}
use Rattle.jpg_spec.specs.ScanContents.{IsHead}
use Rattle.jpg_spec.specs.Lists.{below}
use Rattle.jpg_spec.specs.Items.{Item, segments_of, contents_rule}
use Rattle.jpg_spec.specs.declared.fault.FaultAt.{FaultAt}
use Rattle.jpg_base.specs.declared.stop.Stop.{Stop}
use Rattle.jpg_base.specs.declared.stop.Stop.TheVariants as stop
use Rattle.jpg_markers.specs.declared.segments.SegStep.{SegStep}
use Rattle.jpg_coefs.specs.Picture.{Picture}
use Rattle.jpg_markers.specs.Reading.{reading_of}
use Rattle.jpg_seq.specs.Reader.{IsRowOf}
use Rattle.jpg_file.specs.Read.SegmentState.{HasBegun, HasBegunAll, Holds, segments_view}
use Rattle.jpg_file.specs.Read.File.{AfterFileByte, EndsFile, IsStop, HasCompleteHeader, RepresentsFile, IsBetweenFileItems, AfterFileStep, limits_of, with_picture, NeedsNoMemory, settings_of, ScanHeld}
use Rattle.jpg_file.specs.Read.FirstHeader.{IsFirstHeaderOf}
use Rattle.jpg_file.specs.Read.Step.{IfStops, IfWants, IsNoRow, HasMemory}
use Rattle.jpg_file.specs.declared.read.file.FileState.{FileState}
use Rattle.jpg_file.specs.declared.read.first_header.Head.{Head}
use Rattle.jpg_file.specs.declared.read.scan.InScan.{InScan}
use Rattle.jpg_file.specs.declared.read.step.Step.{Step}
use Rattle.jpg_file.specs.declared.read.step.Step.TheVariants as step
use Rattle.jpg_spec.specs.declared.fault.Fault.{Fault}
use Rattle.jpg_coefs.specs.declared.machine.Taken.{Taken}
use Rattle.jpg_file.specs.Read.Window.{CountsRow, StopsRowData, rows_in}
use Rattle.jpg_file.specs.declared.read.machine.ScanReader.{ScanReader}
use Rattle.jpg_spec.specs.Meaning.{Meaning}
use Rattle.jpg_spec.specs.FileMeaning.{meaning_of}
use Rattle.jpg_file.specs.Read.PictureKept.{IsHeadOfPicture}
use Rattle.jpg_file.specs.declared.read.strip_head.StripHead.{StripHead}

-- WHAT CONTRACTS SEE of a file that is read: whether it is read MCU row by MCU row, the current MCU row, and the head of
-- its picture, once there is one
pub record FileSeen : Type 0 where
  pub file : FileState
  pub by_row : Bool
  pub rows : Option RowWork
  pub strip : Option StripHead

abbrev pub seen_of : FileState → FileSeen
seen_of w = record { file = w; by_row = w.by_row; rows = rows_in w.window; strip = w.strip }

-- BYTES complete as many MCU rows of such a scan as aren't among those that are left, the first of which is the current
-- one.
pub record CompletesBefore (limits : Limits) (bytes : List ℕ) (before : List Segment) (contents : List ℕ) (rows : RowWork) : Type 0 where
  pub begins : BeginsScanOfAll limits bytes before contents
  pub m : ℕ
  pub count : m + unfinished rows ≡ scan_mcus_down (frame_of limits before) (head_components (head_in (frame_of limits before) contents))
  pub blocks : Blocks
  pub completed : CompletesRows limits bytes m blocks

-- All MCU rows were complete before, or the bytes complete those before the current one.
abbrev pub RowsSoFar : Limits → List ℕ → RowWork → Type 0
RowsSoFar limits bytes rows = (unfinished rows ≡ 0) ⊎ ((before : List Segment) × (contents : List ℕ) × CompletesBefore limits bytes before contents rows)

-- The bytes don't complete the last one of those that are complete with this one.
abbrev pub LacksRow : Limits → List ℕ → Option RowWork → Type 0
LacksRow limits bytes None = Unit {0}
LacksRow limits bytes (Some after) = (rows : RowWork) × (unfinished rows ≡ unfinished after + 1) × RowsSoFar limits bytes rows

-- A file that is read MCU row by MCU row, when its first scan has all components (T.81, A.2.3, B.2.1).

-- the frame before a scan, and the components of the scan
abbrev pub frame_behind : Limits → List Item → Frame
frame_behind limits items = frame_of limits (segments_of items)

abbrev pub components_of : Limits → List Item → List ℕ → List ℕ
components_of limits items contents = head_components (head_in (frame_behind limits items) contents)

-- A sequential file's first scan.
pub record IsFirstScan (limits : Limits) (items : List Item) : Type 0 where
  pub first : has_scan (segments_of items) ≡ false
  pub sequential : is_progressive (frame_behind limits items).process ≡ false

-- some bits of the last byte may wait
pub record RowsInside (limits : Limits) (bytes : List ℕ) (w : FileState) (rows : RowWork) (whole : Picture) : Type 0 where
  pub items : List Item
  pub contents : List ℕ
  pub scan : InScan
  pub inside : w.scan ≡ Some scan
  pub coded : InRowData limits items contents bytes rows.waiting scan whole
  pub held : ScanHeld limits items contents bytes w scan.gate
  pub of : IsFirstScan limits items
  pub all : HasBegunAll w.begun.progress
  pub at : IsRowIn (frame_behind limits items) (components_of limits items contents) rows (scan_left scan)

-- AFTER IT, when all its rows are complete
pub record RowsAfter (limits : Limits) (bytes : List ℕ) (w : FileState) (rows : RowWork) (whole : Picture) : Type 0 where
  pub between : IsBetweenFileItems limits bytes (with_picture w whole)
  pub none : rows.waiting ≡ []
  pub all : HasBegunAll w.begun.progress
  pub done : unfinished rows ≡ 0

-- The bytes are a file so far. There is a picture of which these blocks are an MCU row.
pub record RepresentsRows (limits : Limits) (bytes : List ℕ) (w : FileState) (rows : RowWork) : Type 0 where
  pub whole : Picture
  pub row : IsRowOf rows.tops whole rows.coefs
  pub at : RowsInside limits bytes w rows whole ⊎ RowsAfter limits bytes w rows whole

-- no bits wait, and units of a row are left if any of the scan are
pub record GoesByRow (limits : Limits) (bytes : List ℕ) (w : FileState) (rows : RowWork) : Type 0 where
  pub stands : RepresentsRows limits bytes w rows
  pub none : rows.waiting ≡ []
  pub turned : (scan : InScan) → w.scan ≡ Some scan → 1 ≤ scan_left scan → 1 ≤ rows.left

-- an MCU row is complete, and bits may wait
pub record RowIsWhole (limits : Limits) (bytes : List ℕ) (w : FileState) (rows : RowWork) : Type 0 where
  pub whole : Picture
  pub row : IsRowOf rows.tops whole rows.coefs
  pub inside : RowsInside limits bytes w rows whole
  pub left : rows.left ≡ 0

-- the file is complete
pub record EndsByRow (limits : Limits) (bytes : List ℕ) (w : FileState) (rows : RowWork) : Type 0 where
  pub whole : Picture
  pub row : IsRowOf rows.tops whole rows.coefs
  pub ends : EndsFile limits bytes (with_picture w whole)
  pub done : unfinished rows ≡ 0

-- THE RESULT OF BYTES
abbrev pub AfterRows : Limits → List ℕ → Step → FileState → RowWork → Type 0
AfterRows limits bytes step.More w rows = GoesByRow limits bytes w rows
AfterRows limits bytes step.Row w rows = RowIsWhole limits bytes w rows
AfterRows limits bytes step.Whole w rows = EndsByRow limits bytes w rows
AfterRows limits bytes (step.Ended (stop.Fault f)) w rows = IsStop limits bytes f
AfterRows limits bytes (step.Ended stop.NoMemory) w rows = Unit {0}

-- bits that wait end no file, and ask for no memory
abbrev pub GoesOnRest : Step → Type 0
GoesOnRest step.More = Unit {0}
GoesOnRest step.Row = Unit {0}
GoesOnRest step.Whole = ⊥
GoesOnRest (step.Ended (stop.Fault f)) = Unit {0}
GoesOnRest (step.Ended stop.NoMemory) = ⊥

-- A FURTHER MCU ROW is complete if the result is Row, and none if it is More.
abbrev pub CountsRows : Step → RowWork → RowWork → Type 0
CountsRows step.More rows after = unfinished after ≡ unfinished rows
CountsRows step.Row rows after = unfinished rows ≡ unfinished after + 1
CountsRows step.Whole rows after = unfinished after ≡ unfinished rows
CountsRows (step.Ended e) rows after = Unit {0}

-- as many as a scan of all components of a frame has
abbrev pub rows_of_all : Frame → ℕ
rows_of_all f = scan_mcus_down f (below (length f.components))

-- bytes with a fault complete no more MCU rows than those before this one
abbrev pub StopsRows : Limits → List ℕ → Step → RowWork → Type 0
StopsRows limits bytes answer rows = (f : FaultAt) → answer ≡ step.Ended (stop.Fault f) → RowsSoFar limits bytes rows

-- bits that wait, whatever bytes were given
abbrev pub TakesRest : FileState → RowWork → Step → FileState → RowWork → Type 0
TakesRest old rows answer new after =
    (bytes : List ℕ) → RepresentsRows (limits_of old) bytes old rows → AfterRows (limits_of old) bytes answer new after × StopsRows (limits_of old) bytes answer rows

-- some bytes of which the last one may be taken in part: the file's state before that one, with the same MCU rows
-- complete, and its result
pub record RowsRun (limits : Limits) (bytes run : List ℕ) (n : ℕ) (answer : Step) (rows : RowWork) (new : FileState) (after : RowWork) : Type 0 where
  pub mid : FileState
  pub early : ℕ
  pub count : n ≡ early + 1
  pub within : early < length run
  pub rows_before : RowsSoFar limits (bytes ++ take early run) rows
  pub before : RepresentsFile limits (bytes ++ take early run) mid
  pub room : mid.taken < limits.input
  pub head : mid.head ≡ new.head
  pub last : AfterRows limits ((bytes ++ take early run) ++ slice_index run early ∷ []) answer new after
  pub stops : StopsRows limits (bytes ++ take n run) answer rows

-- AFTER THE SCAN: an item, whatever picture there is, and a complete scan header
abbrev pub PassesItem : FileState → Result SegStep Stop → Step → Type 0
PassesItem w came answer =
    (limits : Limits) (before : Option InScan) (bytes : List ℕ) (whole : Picture) (rows : RowWork) → AfterFileStep before limits bytes came (with_picture w whole) → w.scan ≡ None → IsRowOf rows.tops whole rows.coefs → rows.waiting ≡ []
    → HasBegunAll w.begun.progress → unfinished rows ≡ 0 → AfterRows limits bytes answer w rows

-- There is a complete scan header, and all components were in a scan before it.
abbrev pub HasLaterHead : FileState → Type 0
HasLaterHead w = (limits : Limits) × (bytes : List ℕ) × (whole : Picture) × HasCompleteHeader limits bytes (with_picture w whole) × HasBegunAll w.begun.progress

-- or the first one, if there is no current MCU row
abbrev pub HasHeader : Option RowWork → FileState → Type 0
HasHeader None w = (bytes : List ℕ) × HasCompleteHeader (limits_of w) bytes w
HasHeader (Some rows) w = HasLaterHead w

-- NOTHING CHANGES after the scan, whatever item it is.
pub record PassesLater (old : FileState) (came : Result SegStep Stop) (answer : Step) (new : FileState) : Type 0 where
  pub same : new ≡ old
  pub passes : PassesItem old came answer
  pub memory : (came ≡ Err stop.NoMemory → ⊥) → HasMemory answer
  pub no : IsNoRow answer

-- THE FIRST SCAN HEADER, which is complete: of a sequential frame and of all its components
pub record IsHeadOfAll (limits : Limits) (items : List Item) (contents : List ℕ) (f : Frame) (head : ScanHead) : Type 0 where
  pub framed : frame_behind limits items ≡ f
  pub told : head_in f contents ≡ head
  pub is_head : IsHead f head
  pub sequential : is_progressive f.process ≡ false
  pub all : length head.parts ≡ length f.components

abbrev pub contents_held : FileState → List ℕ
contents_held w = (reading_of w.items.segments).contents

-- whatever bytes were given, these are its frame and its contents
abbrev pub FindsHead : FileState → Option (Frame × ScanHead) → Type 0
FindsHead w None = Unit {0}
FindsHead w (Some x) = (limits : Limits) (bytes : List ℕ) → (h : HasCompleteHeader limits bytes w) → IsHeadOfAll limits h.items (contents_held w) x.0 x.1

-- its scan begins
abbrev pub AfterScanBegins : Limits → List ℕ → Result RowWork Stop → FileState → Type 0
AfterScanBegins limits bytes (Ok rows) w = GoesByRow limits bytes w rows
AfterScanBegins limits bytes (Err (stop.Fault f)) w = IsStop limits bytes f
AfterScanBegins limits bytes (Err stop.NoMemory) w = Unit {0}

-- ALL STATES: with a current MCU row, or without one

-- where there was one
abbrev pub CountsStrip : Step → Option RowWork → Option RowWork → Type 0
CountsStrip answer None after = Unit {0}
CountsStrip answer (Some rows) None = ⊥
CountsStrip answer (Some rows) (Some after) = CountsRows answer rows after

-- with a current row NoMemory isn't returned for what follows
abbrev pub SparesRows : Option RowWork → FileState → Type 0
SparesRows None w = Unit {0}
SparesRows (Some rows) w = NeedsNoMemory w

-- with none before: no row of the scan is complete, and the header that is kept has its frame
abbrev pub CountsRowsOfScan : Option RowWork → FileState → Type 0
CountsRowsOfScan None w = Unit {0}
CountsRowsOfScan (Some rows) w = (head : Head) → w.head ≡ Some head → unfinished rows ≡ rows_of_all head.frame

abbrev pub RepresentsStrip : Limits → List ℕ → Option RowWork → FileState → Type 0
RepresentsStrip limits bytes None w = RepresentsFile limits bytes w
RepresentsStrip limits bytes (Some rows) w = RepresentsRows limits bytes w rows

-- bytes may be taken
abbrev pub StripGoes : Limits → List ℕ → Option RowWork → FileState → Type 0
StripGoes limits bytes None w = RepresentsFile limits bytes w
StripGoes limits bytes (Some rows) w = GoesByRow limits bytes w rows

-- for a file that isn't read by MCU rows the result of a byte
abbrev pub AfterStrip : Limits → List ℕ → Step → Option RowWork → FileState → Type 0
AfterStrip limits bytes answer None w = AfterFileByte (Unit {0}) limits bytes answer w
AfterStrip limits bytes answer (Some rows) w = AfterRows limits bytes answer w rows

abbrev pub TakesResumed : FileSeen → Step → FileSeen → Type 0
TakesResumed old answer new =
    (bytes : List ℕ) → RepresentsStrip (limits_of old.file) bytes old.rows old.file → AfterStrip (limits_of old.file) bytes answer new.rows new.file

-- some bytes: the file's state before the last of those that were taken, with the same MCU rows complete, and the
-- result of that one; without a current row it asks for memory only between items
pub record StripRun (limits : Limits) (bytes run : List ℕ) (n : ℕ) (answer : Step) (old rows : Option RowWork) (new : FileState) : Type 0 where
  pub mid : FileState
  pub early : ℕ
  pub count : n ≡ early + 1
  pub within : early < length run
  pub before : RepresentsFile limits (bytes ++ take early run) mid
  pub room : mid.taken < limits.input
  pub head : IfStops answer (new.head ≡ mid.head)
  pub asks : old ≡ None → IfWants answer (mid.scan ≡ None)
  pub current : (rows : RowWork) → old ≡ Some rows → RowsSoFar limits (bytes ++ take early run) rows × StopsRows limits (bytes ++ take n run) answer rows
  pub last : AfterStrip limits ((bytes ++ take early run) ++ slice_index run early ∷ []) answer rows new

abbrev pub TakesStrip : FileSeen → List ℕ → ℕ → Step → FileSeen → Type 0
TakesStrip old run n answer new =
    (bytes : List ℕ) → StripGoes (limits_of old.file) bytes old.rows old.file → StripRun (limits_of old.file) bytes run n answer old.rows new.rows new.file

-- bits that waited
abbrev pub PassesRowBits : RowWork → ScanReader → List Bool → Taken → RowWork → ScanReader → Type 0
PassesRowBits w m bits answer new after = StopsRowData w m bits answer × CountsRow w m answer new after

abbrev pub PassesRest : InScan → RowWork → Result Bool Fault → InScan → RowWork → Type 0
PassesRest old w answer new after = TookData (λ taken m. PassesRowBits w old.machine w.waiting taken after m) old answer new

-- INSIDE THE DATA of a scan that has this many units left
abbrev pub IsRowInScan : Limits → List Item → List ℕ → InScan → RowWork → Type 0
IsRowInScan limits items contents s w = IsFirstScan limits items × IsRowAt (frame_behind limits items) (components_of limits items contents) w (scan_left s)

-- The scan whose MCU rows are read: it began in the bytes, and the picture's head (T.81, A.2.3, B.2.1).

-- how many MCU rows the scan of this header has
abbrev pub rows_of_scan : Limits → List Segment → List ℕ → ℕ
rows_of_scan limits before contents = (let f = frame_of limits before in scan_mcus_down f (head_components (head_in f contents)))

-- THE HEAD of its picture, which has this frame
abbrev pub TellsStrip : Option StripHead → Frame → (Blocks → Meaning) → Type 0
TellsStrip None f picture = ⊥
TellsStrip (Some h) f picture = (h.frame ≡ f) × ((blocks : Blocks) → IsHeadOfPicture h (picture blocks))

-- a reader after these segments, the last of which is the header of a scan of all components
pub record HoldsScan (limits : Limits) (before : List Segment) (w : FileState) : Type 0 where
  pub holds : Holds limits (segments_view w.items.held) before
  pub begun : HasBegun limits w.begun before
  pub all : HasBegunAll w.begun.progress
  pub frame : Frame
  pub has : w.items.held.frame ≡ Some frame

-- whatever segments these are, this is the head of the picture
abbrev pub TellsScan : FileState → StripHead → Type 0
TellsScan w h = (limits : Limits) (before : List Segment) → HoldsScan limits before w → (h.frame ≡ frame_of limits before) × ((blocks : Blocks) → IsHeadOfPicture h (meaning_of (frame_of limits before) before blocks))

-- WHERE IT BEGINS
pub record BeginsAll (limits : Limits) (bytes : List ℕ) (before : List Segment) (contents : List ℕ) (w : FileState) : Type 0 where
  pub begins : BeginsScanOfAll limits bytes before contents
  pub holds : HoldsScan limits ((0xda, contents) ∷ before) w

-- WITH A CURRENT MCU ROW: this many were given since the scan began
pub record RowsKnown (limits : Limits) (bytes : List ℕ) (m : ℕ) (rows : RowWork) (strip : Option StripHead) : Type 0 where
  pub before : List Segment
  pub contents : List ℕ
  pub begins : BeginsScanOfAll limits bytes before contents
  pub told : TellsStrip strip (frame_of limits before) (picture_so_far limits before contents)
  pub count : m + unfinished rows ≡ rows_of_scan limits before contents

abbrev pub KnowsRows : Limits → List ℕ → ℕ → Option RowWork → Option StripHead → Type 0
KnowsRows limits bytes m None strip = Unit {0}
KnowsRows limits bytes m (Some rows) strip = RowsKnown limits bytes m rows strip

-- with none before
abbrev pub KnowsHead : FileSeen → FileSeen → Type 0
KnowsHead old new = (bytes : List ℕ) → HasCompleteHeader (limits_of old.file) bytes old.file → KnowsRows (limits_of old.file) bytes 0 new.rows new.strip

abbrev pub KnowsByte : FileSeen → ℕ → FileSeen → Type 0
KnowsByte old byte new = (bytes : List ℕ) → RepresentsFile (limits_of old.file) bytes old.file → KnowsRows (limits_of old.file) (bytes ++ byte ∷ []) 0 new.rows new.strip

abbrev pub KnowsSome : FileSeen → List ℕ → ℕ → FileSeen → Type 0
KnowsSome old run n new = (bytes : List ℕ) → RepresentsFile (limits_of old.file) bytes old.file → KnowsRows (limits_of old.file) (bytes ++ take n run) 0 new.rows new.strip

-- Bytes in which no scan of all components begins, after which there is no current MCU row (T.81, A.2.3, B.2.1).

-- No such scan began in them.
abbrev pub HasNoRows : Limits → List ℕ → Type 0
HasNoRows limits bytes = (before : List Segment) (contents : List ℕ) → BeginsScanOfAll limits bytes before contents → ⊥

-- with no current MCU row
abbrev pub NoRowsIn : Limits → List ℕ → Option RowWork → Type 0
NoRowsIn limits bytes None = HasNoRows limits bytes
NoRowsIn limits bytes (Some rows) = Unit {0}

-- THE SCAN HEADER that is complete isn't of such a scan, whatever bytes were given.
abbrev pub FindsNone : FileState → Option (Frame × ScanHead) → Type 0
FindsNone w (Some x) = Unit {0}
FindsNone w None =
    (limits : Limits) (bytes : List ℕ) → (h : HasCompleteHeader limits bytes w) → contents_rule limits (segments_of h.items) 0xda (contents_held w) ≡ None → IsScanOfAll limits (segments_of h.items) (contents_held w) → ⊥

-- THE RESULT OF BYTES; nothing is known for NoMemory
abbrev pub NoneAfter : Limits → List ℕ → Step → Option RowWork → Type 0
NoneAfter limits bytes step.More rows = NoRowsIn limits bytes rows
NoneAfter limits bytes step.Row rows = NoRowsIn limits bytes rows
NoneAfter limits bytes step.Whole rows = NoRowsIn limits bytes rows
NoneAfter limits bytes (step.Ended (stop.Fault f)) rows = NoRowsIn limits bytes rows
NoneAfter limits bytes (step.Ended stop.NoMemory) rows = Unit {0}

-- the first scan header, with this last byte
abbrev pub NoneHead : FileSeen → Step → FileSeen → Type 0
NoneHead old answer new =
    (front : List ℕ) (byte : ℕ) → HasNoRows (limits_of old.file) front → HasCompleteHeader (limits_of old.file) (front ++ byte ∷ []) old.file → NoneAfter (limits_of old.file) (front ++ byte ∷ []) answer new.rows

-- a byte
abbrev pub NoneByte : FileSeen → ℕ → Step → FileSeen → Type 0
NoneByte old byte answer new =
    (bytes : List ℕ) → RepresentsFile (limits_of old.file) bytes old.file → HasNoRows (limits_of old.file) bytes → NoneAfter (limits_of old.file) (bytes ++ byte ∷ []) answer new.rows

-- some bytes
abbrev pub NoneSome : FileSeen → List ℕ → ℕ → Step → FileSeen → Type 0
NoneSome old run n answer new =
    (bytes : List ℕ) → RepresentsFile (limits_of old.file) bytes old.file → HasNoRows (limits_of old.file) bytes → NoneAfter (limits_of old.file) (bytes ++ take n run) answer new.rows

-- A fault that a piece reveals, in a file that is read MCU row by MCU row: which MCU rows the bytes up to it complete
-- (T.81, A.2.3, B.2.1).

-- BITS that waited, with a current MCU row before
abbrev pub FaultsResumed : FileSeen → Step → Type 0
FaultsResumed old answer =
    (rows : RowWork) (f : FaultAt) (bytes : List ℕ) → old.rows ≡ Some rows → answer ≡ step.Ended (stop.Fault f) → RepresentsRows (limits_of old.file) bytes old.file rows → RowsSoFar (limits_of old.file) bytes rows

-- ALL THAT HOLDS after the bits that waited
pub record Resumed (old : FileSeen) (answer : Step) (new : FileSeen) : Type 0 where
  pub after : TakesResumed old answer new
  pub goes : GoesOnRest answer
  pub plain : is_some old.rows ≡ false → (answer ≡ step.More) × (new ≡ old)
  pub stays : is_some new.rows ≡ is_some old.rows
  pub rows : CountsStrip answer old.rows new.rows
  pub memory : HasMemory answer
  pub strip : new.strip ≡ old.strip
  pub by_row : new.by_row ≡ old.by_row
  pub sparing : SparesRows old.rows old.file → SparesRows new.rows new.file
  pub head : new.file.head ≡ old.file.head
  pub keeping : settings_of new.file ≡ settings_of old.file
  pub faults : FaultsResumed old answer

-- A PIECE, of which the current MCU row before the fault is known, with the header of the scan
pub record BeganAtFault (limits : Limits) (all : List ℕ) (m : ℕ) (strip : Option StripHead) (w : FileState) : Type 0 where
  pub mid : RowWork
  pub known : RowsKnown limits all m mid strip
  pub rows : RowsSoFar limits all mid
  pub head : IsFirstHeaderOf limits all w.head

-- if there is one after it
abbrev pub RowsFault : Limits → List ℕ → ℕ → FileSeen → Option RowWork → Type 0
RowsFault limits all m new None = Unit {0}
RowsFault limits all m new (Some after) = BeganAtFault limits all m new.strip new.file
