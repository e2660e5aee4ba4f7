-- A file that is being read: the meaning of its reader's states (T.81, B.2.1).
use Rattle.std.specs.Prelude.{◌≡◌, ℕ, ◌+◌, ◌-◌, ◌<◌, ◌≤◌, take, slice_index, not, ◌&&◌, Bool, true, false, List, ◌∷◌, length, Option, Some, None, Result, Ok, Err, ◌⊎◌, [], ◌++◌, if◌then◌else◌, is_some}
use Rattle.jpg_spec.specs.Items.{Item, segments_of}
use Rattle.jpg_spec.specs.Geometry.{Frame}
use Rattle.jpg_spec.specs.FrameHeader.{IsFrame}
use Rattle.jpg_spec.specs.Scan.{Blocks}
use Rattle.jpg_spec.specs.FileMeaning.{scan_after, no_blocks}
use Rattle.jpg_spec.specs.FirstFault.{Reveals}
use Rattle.jpg_spec.specs.declared.fault.FaultAt.{FaultAt}
use Rattle.jpg_spec.specs.declared.frame.Limits.{Limits}
use Rattle.jpg_coefs.specs.Picture.{Picture, map_of}
use Rattle.jpg_markers.specs.Reading.{HasRoom as HasSegmentRoom, reading_of}
use Rattle.jpg_spec.specs.declared.frame.Copying.TheVariants as copying
use Rattle.jpg_file.specs.Read.ScanStart.{HasSizes}
use Rattle.jpg_file.specs.Read.InData.{ArePlain, InData, scan_left}
use Rattle.jpg_file.specs.Read.SegmentState.{HasBegun, segments_view}
use Rattle.jpg_file.specs.Read.Window.{coefs_in}
use Rattle.jpg_file.specs.declared.read.window.Window.{Window}
use Rattle.jpg_file.specs.declared.read.window.Window.TheVariants as window
use Rattle.jpg_file.specs.declared.read.items.Items.{Items}
use Rattle.jpg_file.specs.Read.Items.{AfterSegment, BehindHead, BetweenItems, BehindEnd, limits_in, settings_in}
use Rattle.jpg_file.specs.declared.read.scan.InScan.{InScan}
use Rattle.jpg_file.specs.declared.read.file.FileState.{FileState}
use Rattle.jpg_spec.specs.Markers.{has_frame, has_scan}
use Rattle.jpg_spec.specs.History.{is_complete}
use Rattle.jpg_spec.specs.Laws.{frame_of_items}
use Rattle.jpg_spec.specs.declared.frame.Copying.{Copying}
use Rattle.jpg_base.specs.declared.names.NoMemory.{NoMemory}
use Rattle.jpg_base.specs.declared.stop.Stop.{Stop}
use Rattle.jpg_base.specs.declared.stop.Stop.TheVariants as stop
use Rattle.jpg_markers.specs.declared.segments.SegStep.{SegStep}
use Rattle.jpg_markers.specs.declared.segments.SegStep.TheVariants as step
use Rattle.jpg_file.specs.Read.FirstHeader.{HasHead, first_header_of}
use Rattle.jpg_file.specs.Read.Step.{IfStops, IfWants}
use Rattle.jpg_file.specs.declared.read.step.Step.{Step}
use Rattle.jpg_file.specs.declared.read.step.Step.TheVariants as came
use Rattle.jpg_file.specs.declared.read.first_header.Head.{Head}

-- the bytes after the last data byte: at least FF, if FF waits
abbrev pub waiting_bytes : Bool → ℕ
waiting_bytes false = 0
waiting_bytes true = 1

-- inside the data of the scan of this header after these items
pub record Scanning (limits : Limits) (items : List Item) (contents bytes : List ℕ) (w : FileState) : Type 0 where
  pub coefs : Picture
  pub has : w.window ≡ window.All coefs
  pub scan : InScan
  pub inside : w.scan ≡ Some scan
  pub at : InData limits items contents bytes scan coefs
  pub head : BehindHead limits items contents w.items
  pub count : w.taken ≡ length bytes
  pub behind : (reading_of (w.items).segments).taken + waiting_bytes scan.gate ≤ w.taken

-- a scan header is complete, and there is a picture
pub record HeadWhole (limits : Limits) (bytes : List ℕ) (items : List Item) (blocks : Blocks) (w : FileState) : Type 0 where
  pub segment : AfterSegment limits bytes items blocks w.items
  pub code : (reading_of (w.items).segments).code ≡ 0xda
  pub frame : Frame
  pub framed : w.items.held.frame ≡ Some frame
  pub is_frame : IsFrame frame
  pub begun : HasBegun limits w.begun (segments_of items)
  pub coefs : Picture
  pub has : w.window ≡ window.All coefs
  pub pictured : coefs.frame ≡ frame
  pub as_map : blocks ≡ map_of coefs
  pub count : w.taken ≡ length bytes
  pub same : (reading_of (w.items).segments).taken ≡ w.taken

-- the file with this picture
abbrev pub with_picture : FileState → Picture → FileState
with_picture w whole = record w { window = window.All whole }

abbrev pub AfterHead : Limits → List ℕ → List Item → Items → Result (Unit {0}) FaultAt → FileState → Type 0
AfterHead limits bytes items old (Ok u) w = Scanning limits items (reading_of old.segments).contents bytes w × HasBegun limits w.begun ((0xda, (reading_of old.segments).contents) ∷ segments_of items)
AfterHead limits bytes items old (Err f) w = Reveals limits f.fault bytes × (f.at ≡ length bytes)

-- WHATEVER the state was, this holds after a header and a byte.
abbrev pub TakesHead : FileState → Result (Unit {0}) FaultAt → FileState → Type 0
TakesHead old answer new = (bytes : List ℕ) (items : List Item) (blocks : Blocks) → HeadWhole (limits_in old.items) bytes items blocks old → AfterHead (limits_in old.items) bytes items old.items answer new

-- there is a picture with which a header is complete
abbrev pub CanBeginHead : FileState → Type 0
CanBeginHead w = (now : Picture) × HasSizes now × ((bytes : List ℕ) × (items : List Item) × (blocks : Blocks) × HeadWhole (limits_in w.items) bytes items blocks (with_picture w now))

-- all units of the scan that begins are left
abbrev pub LeavesAll : FileState → Result (Unit {0}) FaultAt → FileState → Type 0
LeavesAll old answer new =
    (bytes : List ℕ) (items : List Item) (blocks : Blocks) (now : Picture) (scan : InScan) → HeadWhole (limits_in old.items) bytes items blocks (with_picture old now) → new.scan ≡ Some scan → answer ≡ Ok tt
    → scan_left scan ≡ length (scan_after (limits_in old.items) (segments_of items) (reading_of old.items.segments).contents).places

-- whether there is a current scan, no FF waits, and units are left
abbrev pub has_open : Option InScan → Bool
has_open None = false
has_open (Some scan) = not scan.gate && not scan.whole

pub record IsOpenScan (w : FileState) : Type 0 where
  pub scan : InScan
  pub inside : w.scan ≡ Some scan
  pub gate : scan.gate ≡ false
  pub due : scan.whole ≡ false

-- THESE BYTES may be taken together inside its data
pub record IsPlainRun (w : FileState) (run : List ℕ) : Type 0 where
  pub opened : IsOpenScan w
  pub room : w.taken + length run ≤ (limits_in w.items).input
  pub some : 1 ≤ length run
  pub few : length run < 4294967296
  pub plain : ArePlain run

-- The first n of these bytes may be, or n is 0; no fewer of them than there are before FF, of four gigabytes.
pub record HasPlain (w : FileState) (bytes : List ℕ) (n : ℕ) : Type 0 where
  pub within : n ≤ length bytes
  pub run : 0 < n → IsPlainRun w (take n bytes)
  pub most : has_open w.scan ≡ true → n < length bytes → n < (limits_in w.items).input - w.taken → n < 4294967295 → slice_index bytes n ≡ 255

-- A scan began, there is room for the contents of a segment, and no further marker is kept: only JFIF and Adobe
-- segments are to be kept, and after the first scan header there are none.
pub record NeedsNoMemory (w : FileState) : Type 0 where
  pub keeping : w.items.held.keeping ≡ copying.None
  pub scanned : w.items.held.scanned ≡ true
  pub room : HasSegmentRoom w.items.segments

-- A file that is being read: the meaning of its states, and the result of a further byte (T.81, B.2.1).

abbrev pub limits_of : FileState → Limits
limits_of w = limits_in w.items

-- how many scans' data have ended: all that began, but the current one
abbrev pub scans_ended : FileState → ℕ
scans_ended w = w.begun.scans - (if is_some w.scan then 1 else 0)

-- which markers it keeps
abbrev pub keeping_of : FileState → Copying
keeping_of w = w.items.held.keeping

-- what it was begun with: these, and the limits
abbrev pub settings_of : FileState → Copying × Limits
settings_of w = settings_in w.items

-- The blocks that the items lead to are those of the picture. Before the first scan there is no picture, and they are
-- zeros.
abbrev pub PictureSoFar : Limits → List Item → Blocks → Option Picture → Type 0
PictureSoFar limits items blocks None = (has_scan (segments_of items) ≡ false) × (blocks ≡ no_blocks)
PictureSoFar limits items blocks (Some q) = (has_frame (segments_of items) ≡ true) × (q.frame ≡ frame_of_items limits items) × (blocks ≡ map_of q)

-- the state in addition to the items, when some bytes were taken, and there is no current scan
pub record BesideItems (limits : Limits) (bytes : List ℕ) (items : List Item) (blocks : Blocks) (w : FileState) : Type 0 where
  pub picture : PictureSoFar limits items blocks (coefs_in w.window)
  pub begun : HasBegun limits w.begun (segments_of items)
  pub none : w.scan ≡ None
  pub count : w.taken ≡ length bytes
  pub same : (reading_of (w.items).segments).taken ≡ w.taken
  pub within : length bytes ≤ limits.input
  pub head : HasHead limits bytes (segments_of items) w.head

-- Inside the scan of this header after these items: the state in addition to its data, by whether FF waits
pub record ScanHeld (limits : Limits) (items : List Item) (contents bytes : List ℕ) (w : FileState) (gate : Bool) : Type 0 where
  pub head : BehindHead limits items contents w.items
  pub count : w.taken ≡ length bytes
  pub behind : (reading_of (w.items).segments).taken + waiting_bytes gate ≤ w.taken
  pub begun : HasBegun limits w.begun ((0xda, contents) ∷ segments_of items)
  pub within : length bytes ≤ limits.input
  pub first_head : HasHead limits bytes ((0xda, contents) ∷ segments_of items) w.head

-- THE MEANING OF ITS STATES: between items, or inside the data of a scan

pub record IsBetweenFileItems (limits : Limits) (bytes : List ℕ) (w : FileState) : Type 0 where
  pub items : List Item
  pub blocks : Blocks
  pub at : BetweenItems limits bytes items blocks w.items
  pub beside : BesideItems limits bytes items blocks w

pub record IsInsideScanOfFile (limits : Limits) (bytes : List ℕ) (w : FileState) : Type 0 where
  pub items : List Item
  pub contents : List ℕ
  pub coefs : Picture
  pub has : w.window ≡ window.All coefs
  pub scan : InScan
  pub inside : w.scan ≡ Some scan
  pub coded : InData limits items contents bytes scan coefs
  pub held : ScanHeld limits items contents bytes w scan.gate

abbrev pub RepresentsFile : Limits → List ℕ → FileState → Type 0
RepresentsFile limits bytes w = IsBetweenFileItems limits bytes w ⊎ IsInsideScanOfFile limits bytes w

-- a scan header is complete that isn't judged yet
pub record HasCompleteHeader (limits : Limits) (bytes : List ℕ) (w : FileState) : Type 0 where
  pub items : List Item
  pub blocks : Blocks
  pub at : AfterSegment limits bytes items blocks w.items
  pub code : (reading_of (w.items).segments).code ≡ 0xda
  pub beside : BesideItems limits bytes items blocks w

-- EOI is there
pub record EndStands (limits : Limits) (bytes : List ℕ) (w : FileState) : Type 0 where
  pub items : List Item
  pub blocks : Blocks
  pub at : BehindEnd limits bytes items blocks w.items
  pub beside : BesideItems limits bytes items blocks w

-- and each component was in a scan
pub record EndsFile (limits : Limits) (bytes : List ℕ) (w : FileState) : Type 0 where
  pub ends : EndStands limits bytes w
  pub complete : is_complete (frame_of_items limits ends.items) (segments_of ends.items) ≡ true

-- the last of the bytes reveals their fault
abbrev pub IsStop : Limits → List ℕ → FaultAt → Type 0
IsStop limits bytes f = (f.at ≡ length bytes) × Reveals limits f.fault bytes

-- the meaning of the state after a byte, by the result: also of a complete file, and what holds where memory is asked for
abbrev pub AfterFileByte : Type 0 → Limits → List ℕ → Step → FileState → Type 0
AfterFileByte asks limits bytes came.More w = RepresentsFile limits bytes w
AfterFileByte asks limits bytes came.Row w = ⊥
AfterFileByte asks limits bytes came.Whole w = EndsFile limits bytes w
AfterFileByte asks limits bytes (came.Ended (stop.Fault f)) w = IsStop limits bytes f
AfterFileByte asks limits bytes (came.Ended stop.NoMemory) w = asks

-- THE RESULT OF A BYTE, with the scan that was current before it: only where there was none a scan header may be
-- complete, or the result NoMemory.
abbrev pub AfterFileStep : Option InScan → Limits → List ℕ → Result SegStep Stop → FileState → Type 0
AfterFileStep before limits bytes (Ok step.Whole) w = HasCompleteHeader limits bytes w × (before ≡ None)
AfterFileStep before limits bytes (Ok step.Eoi) w = EndStands limits bytes w
AfterFileStep before limits bytes (Ok goes) w = RepresentsFile limits bytes w
AfterFileStep before limits bytes (Err e) w = AfterFileByte (before ≡ None) limits bytes (came.Ended e) w

-- a segment's bytes are kept, or its definitions: there is no current scan
abbrev pub KeepsBytes : FileState → Type 0
KeepsBytes w = w.scan ≡ None

-- the picture is made: there is none yet
abbrev pub MakesPicture : FileState → Type 0
MakesPicture w = coefs_in w.window ≡ None

abbrev pub TakesFileHead : FileState → Step → FileState → Type 0
TakesFileHead old answer new = (bytes : List ℕ) → HasCompleteHeader (limits_of old) bytes old → AfterFileByte (MakesPicture old) (limits_of old) bytes answer new

abbrev pub TakesFileEnd : FileState → Step → Type 0
TakesFileEnd w answer = (limits : Limits) (bytes : List ℕ) → EndStands limits bytes w → AfterFileByte ⊥ limits bytes answer w

-- THE FIRST SCAN HEADER is the current one if there was none
abbrev pub head_or : Option Head → Option Head → Option Head
head_or (Some h) new = Some h
head_or None new = new

abbrev pub NotesHead : FileState → FileState → Type 0
NotesHead old new = new ≡ record old { head = head_or old.head (first_header_of (segments_view old.items.held) old.taken) }

-- THE PICTURE, if there is a frame: what it was, or zeros
pub record ZerosMade (f : Frame) (new : Window) : Type 0 where
  pub picture : Picture
  pub has : new ≡ window.All picture
  pub framed : picture.frame ≡ f
  pub zero : map_of picture ≡ no_blocks

abbrev pub PictureMade : Frame → Window → Window → Type 0
PictureMade f window.None new = ZerosMade f new
PictureMade f old new = new ≡ old

pub record HasRoom (old new : FileState) : Type 0 where
  pub is : new ≡ record old { window = new.window }
  pub picture : (f : Frame) → old.items.held.frame ≡ Some f → IsFrame f × PictureMade f old.window new.window

abbrev pub RoomMade : FileState → Result (Unit {0}) NoMemory → FileState → Type 0
RoomMade old (Ok done) new = HasRoom old new
RoomMade old (Err e) new = MakesPicture old

-- WHAT DOESN'T CHANGE where a scan begins: whether MCU rows are to be read, the head of the picture, and what it was begun
-- with
pub record KeepsFile (old new : FileState) : Type 0 where
  pub by_row : new.by_row ≡ old.by_row
  pub strip : new.strip ≡ old.strip
  pub keeping : settings_of new ≡ settings_of old

-- SOME BYTES together: a state before the last of those that were taken, and the result of that one.
pub record TakesSome (old : FileState) (bytes : List ℕ) (n : ℕ) (answer : Step) (new : FileState) : Type 0 where
  pub mid : FileState
  pub early : ℕ
  pub count : n ≡ early + 1
  pub within : early < length bytes
  pub head : IfStops answer (new.head ≡ mid.head)
  pub scan : IfWants answer (mid.scan ≡ old.scan)
  pub ended : scans_ended mid ≡ scans_ended old
  pub room : (limits : Limits) (front : List ℕ) → RepresentsFile limits front old → limits_of old ≡ limits → mid.taken < limits.input
  pub before : (limits : Limits) (front : List ℕ) → RepresentsFile limits front old → limits_of old ≡ limits → RepresentsFile limits (front ++ take early bytes) mid
  pub last : (limits : Limits) (front : List ℕ) → RepresentsFile limits front mid → limits_of old ≡ limits → AfterFileByte (KeepsBytes old) limits (front ++ slice_index bytes early ∷ []) answer new
