-- Inside the data of a scan: the meaning of its machine's states, and the result of a further byte (T.81, B.1.1.5,
-- E.1.4).
use Rattle.std.specs.Prelude.{◌≡◌, ℕ, suc, ◌+◌, ◌%◌, ◌≤◌, min, Bool, true, false, List, [], ◌∷◌, ◌++◌, ◌<◌, length, replicate, slice_index, Result, Ok, Err, ◌*◌, if◌then◌else◌, nat_lt, ◌&&◌, ◌==◌, ◌⊎◌, take}
use Rattle.jpg_spec.specs.Bits.{bits_of_bytes, bits_of}
use Rattle.jpg_spec.specs.Lists.{is_distinct, joined}
use Rattle.jpg_spec.specs.Geometry.{Frame, mcu_row_frame, units, padded_blocks}
use Rattle.jpg_spec.specs.Segments.{head_components}
use Rattle.jpg_spec.specs.Scan.{ScanMeans}
use Rattle.jpg_spec.specs.Markers.{SpellsMarker}
use Rattle.jpg_spec.specs.InForce.{frame_of, head_in}
use Rattle.jpg_spec.specs.Items.{Item, segments_of}
use Rattle.jpg_spec.specs.FirstFault.{Reveals}
use Rattle.jpg_spec.specs.ScanReading.{ScanPlace, scan_at, ScanAt, CompletesAt, with_interval, with_byte}
use Rattle.jpg_spec.specs.PictureInWork.{ScanSoFar}
use Rattle.jpg_spec.specs.declared.fault.Fault.{Fault}
use Rattle.jpg_spec.specs.declared.frame.Limits.{Limits}
use Rattle.jpg_spec.specs.declared.frame.Place.{Place}
use Rattle.jpg_coefs.specs.Picture.{Picture, map_of}
use Rattle.jpg_coefs.specs.Machine.{Interval, Kind, Follows, fault_of}
use Rattle.jpg_coefs.specs.declared.machine.Taken.{Taken}
use Rattle.jpg_coefs.specs.declared.machine.Taken.TheVariants as taken
use Rattle.jpg_file.specs.Read.Machine.{any_scan, IsInsideMcuRow, GivesBits}
use Rattle.jpg_file.specs.Read.Window.{Fits, PassesBytes, Shows, waiting_in}
use Rattle.jpg_file.specs.declared.read.window.Window.{Window}
use Rattle.jpg_file.specs.declared.read.machine.ScanReader.{ScanReader}
use Rattle.jpg_file.specs.declared.read.scan.InScan.{InScan}
use Rattle.jpg_spec.specs.FrameHeader.{IsFrame}
use Rattle.jpg_base.specs.Cursor.{AreIn, scan_mcus_down}
use Rattle.jpg_seq.specs.Reader.{BeginAt, row_units, IsRowOf, rows_in_mcu, top_of}
use Rattle.jpg_seq.specs.declared.reader.SeqReader.{SeqReader}
use Rattle.jpg_file.specs.declared.read.machine.ScanReader.TheVariants.{Sequential}
use Rattle.jpg_file.specs.declared.read.rows.RowWork.{RowWork}
use Rattle.jpg_spec.specs.Elements.{zeros}
use Rattle.jpg_huff.specs.Gate.{IsData}

-- the frame before a scan
abbrev pub frame_at : Limits → ScanPlace → Frame
frame_at limits p = frame_of limits (segments_of p.items)

-- What holds of a scan from its header on: its components are distinct.
pub record IsReadable (limits : Limits) (p : ScanPlace) : Type 0 where
  pub distinct : is_distinct (head_components (head_in (frame_at limits p) p.contents)) ≡ true

-- the current interval as its machine reads it
pub record IsInterval (limits : Limits) (p : ScanPlace) (i : Interval) : Type 0 where
  pub scan : i.scan ≡ scan_at limits p
  pub places : i.places ≡ p.places
  pub later : i.later ≡ joined p.later

-- units are left
pub record IsDue (M : Type 0) (k : Kind M) (limits : Limits) (p : ScanPlace) (m : M) (now : Picture) : Type 0 where
  pub interval : Interval
  pub is : IsInterval limits p interval
  pub framed : interval.before.frame ≡ frame_at limits p
  pub stands : k.stands m interval (bits_of_bytes p.coded) now
  pub so_far : ScanSoFar (scan_at limits p) p.blocks (map_of interval.before) p.done (p.places ∷ p.later)

-- the interval is complete
pub record IsRead (M : Type 0) (k : Kind M) (limits : Limits) (p : ScanPlace) (m : M) (now : Picture) : Type 0 where
  pub interval : Interval
  pub is : IsInterval limits p interval
  pub fits : k.fits interval
  pub framed : now.frame ≡ frame_at limits p
  pub completes : CompletesAt limits p
  pub so_far : ScanSoFar (scan_at limits p) p.blocks (map_of now) (p.done ++ p.coded ∷ []) p.later
  pub ready : (j : Interval) → Follows interval now j → k.fits j → k.ready m j

abbrev pub AtInterval : Limits → ScanPlace → Bool → ScanReader → Picture → Type 0
AtInterval limits p false m now = IsDue ScanReader any_scan limits p m now
AtInterval limits p true m now = IsRead ScanReader any_scan limits p m now

-- the intervals that follow: each has n units, and the last one what is left
abbrev pub AreIntervals : ℕ → List (List Place) → Type 0
AreIntervals n [] = Unit {0}
AreIntervals n (next ∷ others) = (1 ≤ length next) × (length next ≡ min n (length next + length (joined others))) × AreIntervals n others

-- the machine and its counts are at this place
pub record AtWork (limits : Limits) (p : ScanPlace) (w : InScan) (now : Picture) : Type 0 where
  pub readable : IsReadable limits p
  pub at : AtInterval limits p w.whole w.machine now
  pub turn : w.turn ≡ length p.done % 8
  pub due : w.due ≡ length (joined p.later)
  pub later : AreIntervals w.interval p.later

-- whether FF bytes wait
abbrev pub Waits : Bool → ℕ → Type 0
Waits false fill = fill ≡ 0
Waits true fill = (n : ℕ) × (fill ≡ suc n)

-- The bytes end inside the scan of this header after these items.
pub record InData (limits : Limits) (items : List Item) (contents : List ℕ) (bytes : List ℕ) (s : InScan) (now : Picture) : Type 0 where
  pub place : ScanPlace
  pub of : (place.items ≡ items) × (place.contents ≡ contents)
  pub fill : ℕ
  pub at : ScanAt limits bytes place (replicate fill 255)
  pub waits : Waits s.gate fill
  pub work : AtWork limits place s now

-- A DATA BYTE

-- the result of a byte by what the machine returned, and the scan after it
abbrev pub scan_answer : Taken → Result Bool Fault
scan_answer taken.More = Ok false
scan_answer taken.Units = Ok false
scan_answer taken.IntervalDone = Ok false
scan_answer (taken.Fault f) = Err (fault_of f)

abbrev pub ends_interval : Taken → Bool
ends_interval taken.More = false
ends_interval taken.Units = false
ends_interval taken.IntervalDone = true
ends_interval (taken.Fault f) = false

abbrev pub work_after : InScan → ScanReader → Taken → InScan
work_after w m answer = record w { gate = false; machine = m; whole = ends_interval answer }

-- A MARKER

-- a marker's code after FF bytes, after the data bytes
pub record MarkerAt (limits : Limits) (bytes : List ℕ) (p : ScanPlace) (code : ℕ) (w : InScan) (now : Picture) : Type 0 where
  pub fill : ℕ
  pub no_zero : code ≡ 0 → ⊥
  pub no_fill : code ≡ 255 → ⊥
  pub at : ScanAt limits bytes p (replicate (suc fill) 255 ++ code ∷ [])
  pub work : AtWork limits p w now

-- the next interval began, or the data of the scan are over
abbrev pub AfterMarker : Limits → List ℕ → ScanPlace → Result Bool Fault → InScan → Picture → Type 0
AfterMarker limits bytes p (Ok false) w now = (next : List Place) × (others : List (List Place)) × ScanAt limits bytes (with_interval p next others) [] × AtWork limits (with_interval p next others) w now
AfterMarker limits bytes p (Ok true) w now = (now.frame ≡ frame_at limits p) × ScanMeans (scan_at limits p) (p.done ++ p.coded ∷ []) p.blocks (map_of now)
AfterMarker limits bytes p (Err fault) w now = Reveals limits fault bytes

-- A BYTE

-- A marker ended the data of the scan: these bytes are the scan's, up to the marker.
pub record EndsData (limits : Limits) (items : List Item) (contents bytes : List ℕ) (code : ℕ) (now : Picture) : Type 0 where
  pub place : ScanPlace
  pub of : (place.items ≡ items) × (place.contents ≡ contents)
  pub fill : ℕ
  pub at : ScanAt limits bytes place (replicate (suc fill) 255 ++ code ∷ [])
  pub marker : SpellsMarker code (255 ∷ code ∷ [])
  pub framed : now.frame ≡ frame_of limits (segments_of items)
  pub means : ScanMeans (scan_at limits place) (place.done ++ place.coded ∷ []) place.blocks (map_of now)

-- WHEREVER it was, this holds after a marker.
abbrev pub TakesCode : InScan → Picture → ℕ → Result Bool Fault → InScan → Type 0
TakesCode old now code answer new =
    (limits : Limits) (p : ScanPlace) (bytes : List ℕ) → MarkerAt limits bytes p code old now → AfterMarker limits bytes p answer new now

-- no byte of the list is FF
abbrev pub ArePlain : List ℕ → Type 0
ArePlain bytes = (k : ℕ) → k < length bytes → slice_index bytes k ≡ 255 → ⊥

-- somewhere inside data
abbrev pub IsInside : InScan → Picture → Type 0
IsInside s now = (limits : Limits) × (items : List Item) × (contents : List ℕ) × (bytes : List ℕ) × InData limits items contents bytes s now

-- The place of the current MCU row in its scan, by how many of its units are left.

-- the units of the scan that are left
abbrev pub scan_left : InScan → ℕ
scan_left w = w.due + (if w.whole then 0 else any_scan.left w.machine)

-- This many units are left of a scan of all components: those of the current MCU row, and those of the MCU rows after
-- it.
pub record IsRowAt (f : Frame) (components : List ℕ) (w : RowWork) (left : ℕ) : Type 0 where
  pub frame : IsFrame f
  pub there : AreIn f components
  pub all : length components ≡ length f.components
  pub row : ℕ
  pub begins : BeginAt f w.tops row
  pub size : w.units ≡ row_units f components
  pub count : row + 1 + w.later ≡ scan_mcus_down f components
  pub few : w.left ≤ w.units
  pub sum : left ≡ w.left + w.later * w.units

-- Units are left in a scan of all components, this many places of it.
pub record IsRowDue (limits : Limits) (p : ScanPlace) (w : InScan) (now row : Picture) (rows : RowWork) (f : Frame) (components : List ℕ) : Type 0 where
  pub machine : SeqReader
  pub is : w.machine ≡ Sequential machine
  pub due : w.whole ≡ false
  pub work : AtWork limits p w now
  pub places : (scan_at limits p).places ≡ units f components
  pub framed : row.frame ≡ mcu_row_frame f
  pub at : IsRowAt f components rows (scan_left w)

-- The next ones are those that are left of the MCU row.
abbrev pub RowsAreDueInOrder : Type 0
RowsAreDueInOrder =
    (limits : Limits) (p : ScanPlace) (w : InScan) (now row : Picture) (rows : RowWork) (f : Frame) (components : List ℕ)
    → IsRowDue limits p w now row rows f components → IsInsideMcuRow rows.tops row rows.left w.machine

-- From one MCU row of a scan of all components to the next (T.81, A.2.3).

-- a picture of zero blocks
abbrev pub zero_picture : Frame → Picture
zero_picture f = record { frame = f; blocks = replicate (padded_blocks f) (zeros 64) }

-- the rows of blocks of component i in an MCU row, none if the frame has no such component
abbrev pub block_rows_of : Frame → ℕ → ℕ
block_rows_of f i = if nat_lt i (length f.components) then rows_in_mcu f i else 0

-- This many units are left of a scan, and it is known how far the next MCU row is.
pub record IsRowIn (f : Frame) (components : List ℕ) (w : RowWork) (left : ℕ) : Type 0 where
  pub at : IsRowAt f components w left
  pub steps : (i : ℕ) → top_of w.steps i ≡ block_rows_of f i
  pub tops : (i : ℕ) → top_of w.tops i ≡ at.row * block_rows_of f i
  pub some : 1 ≤ w.units

-- the MCU rows of the scan that aren't complete yet
abbrev pub unfinished : RowWork → ℕ
unfinished w = w.later + (if w.left == 0 then 0 else 1)

-- a row is complete that wasn't, by how many of its units were left, and are
abbrev pub completes_row : ℕ → ℕ → Bool
completes_row before left = nat_lt 0 before && (left == 0)

-- As many units of the MCU row are complete as of the scan; the row is complete if its last one is, and only then bits
-- wait.
pub record CountsScan (old : InScan) (w : RowWork) (row : Bool) (new : InScan) (after : RowWork) : Type 0 where
  pub same : after ≡ record w { coefs = after.coefs; left = after.left; waiting = after.waiting }
  pub passed : ℕ
  pub left : w.left ≡ after.left + passed
  pub scan : scan_left old ≡ scan_left new + passed
  pub whole : row ≡ true → (1 ≤ w.left) × (after.left ≡ 0)
  pub goes : row ≡ false → after.left ≡ 0 → w.left ≡ 0
  pub wait : 1 ≤ length after.waiting → row ≡ true

-- in whichever scan it is, it remains there, units of a row are left if any of the scan are, and no further row is
-- complete
abbrev pub KeepsRowIn : RowWork → RowWork → Type 0
KeepsRowIn old new = (f : Frame) (components : List ℕ) (left : ℕ) → IsRowIn f components old left → IsRowIn f components new left × (1 ≤ left → 1 ≤ new.left) × (unfinished new ≡ unfinished old)

-- after the current MCU row all blocks of the picture are zero
abbrev pub IsBlankAfter : RowWork → Picture → Type 0
IsBlankAfter w whole = (i x y : ℕ) → i < length whole.frame.components → top_of w.tops i + top_of w.steps i ≤ y → map_of whole i x y ≡ zeros 64

-- whatever picture the row was of, if all after it is zero, the new row is of it too
abbrev pub TurnsRow : RowWork → RowWork → Type 0
TurnsRow old new = (whole : Picture) → IsRowOf old.tops whole old.coefs → IsBlankAfter old whole → IsRowOf new.tops whole new.coefs

-- The result of bits while an MCU row is read: those after its last one wait.

-- the next units are in the current MCU row
abbrev pub IsInsideRow : RowWork → ScanReader → Type 0
IsInsideRow w m = IsInsideMcuRow w.tops w.coefs w.left m

-- INSIDE THE DATA of a scan

-- The last of the bytes is a data byte of which some bits wait: the machine was before it, and took the others.
pub record HalfData (limits : Limits) (items : List Item) (contents bytes : List ℕ) (waiting : List Bool) (s : InScan) (now : Picture) : Type 0 where
  pub place : ScanPlace
  pub byte : ℕ
  pub of : (place.items ≡ items) × (place.contents ≡ contents)
  pub at : ScanAt limits bytes (with_byte place byte) []
  pub gate : s.gate ≡ false
  pub old : InScan
  pub before : Picture
  pub work : AtWork limits place old before
  pub due : old.whole ≡ false
  pub same : s ≡ work_after old s.machine taken.Units
  pub bits : GivesBits any_scan old.machine before (bits_of 8 byte) taken.Units waiting s.machine now

-- inside data, where these bits of the last byte wait
abbrev pub InRowData : Limits → List Item → List ℕ → List ℕ → List Bool → InScan → Picture → Type 0
InRowData limits items contents bytes [] s now = InData limits items contents bytes s now
InRowData limits items contents bytes (bit ∷ bits) s now = HalfData limits items contents bytes (bit ∷ bits) s now

-- the result of data, and of the last byte, which is the code of a marker if the data of the scan are over
abbrev pub AfterBytes : Limits → List Item → List ℕ → List ℕ → Result Bool Fault → List Bool → InScan → Picture → Type 0
AfterBytes limits items contents bytes (Ok over) waiting s now = InRowData limits items contents bytes waiting s now
AfterBytes limits items contents bytes (Err fault) waiting s now = Reveals limits fault bytes

abbrev pub AfterByte : Limits → List Item → List ℕ → List ℕ → ℕ → Result Bool Fault → List Bool → InScan → Picture → Type 0
AfterByte limits items contents bytes byte (Ok false) waiting s now = InRowData limits items contents bytes waiting s now
AfterByte limits items contents bytes byte (Ok true) waiting s now = (waiting ≡ []) × EndsData limits items contents bytes byte now
AfterByte limits items contents bytes byte (Err fault) waiting s now = Reveals limits fault bytes

-- WHEREVER it was, this holds after a byte.
abbrev pub TakesByte : InScan → Picture → ℕ → Result Bool Fault → List Bool → InScan → Picture → Type 0
TakesByte old now byte answer waiting new after =
    (limits : Limits) (items : List Item) (contents bytes : List ℕ) → InData limits items contents bytes old now → AfterByte limits items contents (bytes ++ byte ∷ []) byte answer waiting new after

-- Some bytes together: a state before the last of those that were taken, and the result of that one.
pub record TakesRun (old : InScan) (now : Picture) (run : List ℕ) (n : ℕ) (answer : Result Bool Fault) (waiting : List Bool) (new : InScan) (after : Picture) : Type 0 where
  pub mid : InScan
  pub between : Picture
  pub early : ℕ
  pub count : n ≡ early + 1
  pub within : early < length run
  pub «open» : mid.gate ≡ false
  pub before : (limits : Limits) (items : List Item) (contents bytes : List ℕ) → InData limits items contents bytes old now → InData limits items contents (bytes ++ take early run) mid between
  pub last : (limits : Limits) (items : List Item) (contents bytes : List ℕ) → InData limits items contents bytes mid between → AfterBytes limits items contents (bytes ++ slice_index run early ∷ []) answer waiting new after

-- whatever picture the blocks are of
abbrev pub TakesByteInto : InScan → Window → ℕ → Result Bool Fault → InScan → Window → Type 0
TakesByteInto old b byte answer new after =
    (whole : Picture) → Shows b whole → IsInside old whole → (now : Picture) × Shows after now × TakesByte old whole byte answer (waiting_in after) new now

abbrev pub TakesRunInto : InScan → Window → List ℕ → ℕ → Result Bool Fault → InScan → Window → Type 0
TakesRunInto old b run n answer new after =
    (whole : Picture) → Shows b whole → IsInside old whole → (now : Picture) × Shows after now × TakesRun old whole run n answer (waiting_in after) new now

-- the bits that wait
abbrev pub TakesRestInRow : InScan → RowWork → Result Bool Fault → InScan → RowWork → Type 0
TakesRestInRow old w answer new after =
    (limits : Limits) (items : List Item) (contents bytes : List ℕ) (whole : Picture) → IsRowOf w.tops whole w.coefs → HalfData limits items contents bytes w.waiting old whole
    → (now : Picture) × IsRowOf after.tops now after.coefs × AfterBytes limits items contents bytes answer after.waiting new now

-- somewhere inside data; if units are left, the next ones are among the blocks
pub record IsDataOf (s : InScan) (b : Window) : Type 0 where
  pub whole : Picture
  pub shows : Shows b whole
  pub inside : IsInside s whole
  pub due : s.whole ≡ false → Fits b s.machine

-- inside data after some bits of a byte; if units are left, the next ones are those that are left of the MCU row
pub record IsHalfRow (s : InScan) (w : RowWork) : Type 0 where
  pub whole : Picture
  pub row : IsRowOf w.tops whole w.coefs
  pub half : (limits : Limits) × (items : List Item) × (contents : List ℕ) × (bytes : List ℕ) × HalfData limits items contents bytes w.waiting s whole
  pub due : IsInsideRow w s.machine × (1 ≤ w.left)

-- HOW DATA WERE TAKEN: the machine's result and its state, of which this is known
pub record TookData (P : Taken → ScanReader → Type 0) (old : InScan) (answer : Result Bool Fault) (new : InScan) : Type 0 where
  pub due : old.whole ≡ false
  pub taken : Taken
  pub machine : ScanReader
  pub is : answer ≡ scan_answer taken
  pub work : new ≡ work_after old machine taken
  pub took : P taken machine

-- a byte that is data for the machine
pub record PassesData (old : InScan) (b : Window) (byte : ℕ) (answer : Result Bool Fault) (new : InScan) (after : Window) : Type 0 where
  pub passed : ℕ
  pub is_data : IsData old.gate byte passed
  pub took : TookData (λ taken m. PassesBytes b old.machine (passed ∷ []) 1 taken after m) old answer new

abbrev pub IsWrongMarker : InScan → ℕ → Type 0
IsWrongMarker s code = (s.gate ≡ true) × (code ≡ 0 → ⊥) × (code ≡ 255 → ⊥) × (s.whole ≡ true → code ≡ 0xd0 + s.turn → ⊥)

-- another byte: it is a fault if it is data after a complete interval, or a marker other than the one that is next
pub record PassesNone (old : InScan) (b : Window) (byte : ℕ) (answer : Result Bool Fault) (new : InScan) (after : Window) : Type 0 where
  pub same : after ≡ b
  pub left : scan_left new ≡ scan_left old
  pub why : (fault : Fault) → answer ≡ Err fault → ((passed : ℕ) × IsData old.gate byte passed × (old.whole ≡ true)) ⊎ IsWrongMarker old byte

abbrev pub PassesByte : InScan → Window → ℕ → Result Bool Fault → InScan → Window → Type 0
PassesByte old b byte answer new after = PassesNone old b byte answer new after ⊎ PassesData old b byte answer new after

-- plain bytes
abbrev pub PassesRun : InScan → Window → List ℕ → ℕ → Result Bool Fault → InScan → Window → Type 0
PassesRun old b run n answer new after = (old.gate ≡ false) × ArePlain run × TookData (λ taken m. PassesBytes b old.machine run n taken after m) old answer new
