-- THE WINDOW that the data of a file's scans are read into: all blocks of its picture, or those of one row of MCUs (T.81,
-- A.2.3).
use Rattle.std.specs.Prelude.{◌≡◌, ℕ, ◌+◌, ◌<◌, ◌≤◌, Bool, List, [], length, take, Option, Some, None}
use Rattle.jpg_spec.specs.Bits.{bits_of_bytes}
use Rattle.jpg_coefs.specs.Picture.{Picture}
use Rattle.jpg_coefs.specs.Machine.{TakesBits, Chain}
use Rattle.jpg_coefs.specs.declared.machine.Taken.{Taken}
use Rattle.jpg_coefs.specs.declared.machine.Taken.TheVariants as taken
use Rattle.jpg_coefs.specs.declared.machine.UnitFault.{UnitFault}
use Rattle.jpg_seq.specs.Reader.{IsRowOf}
use Rattle.jpg_file.specs.Read.Machine.{any_scan, GivesBits, GivesRun, IsInsideMcuRow, IsOpenRowScan}
use Rattle.jpg_file.specs.declared.read.machine.ScanReader.{ScanReader}
use Rattle.jpg_file.specs.declared.read.rows.RowWork.{RowWork}
use Rattle.jpg_file.specs.declared.read.window.Window.{Window}
use Rattle.jpg_file.specs.declared.read.window.Window.TheVariants as window

-- all of a picture, if it holds these
abbrev pub coefs_in : Window → Option Picture
coefs_in window.None = None
coefs_in (window.All coefs) = Some coefs
coefs_in (window.Row rows) = None

-- the current MCU row, if there is one
abbrev pub rows_in : Window → Option RowWork
rows_in window.None = None
rows_in (window.All coefs) = None
rows_in (window.Row rows) = Some rows

-- how many of its units are left
abbrev pub left_in : Window → ℕ
left_in window.None = 0
left_in (window.All coefs) = 0
left_in (window.Row rows) = rows.left

-- the bits of the last byte that wait
abbrev pub waiting_in : Window → List Bool
waiting_in window.None = []
waiting_in (window.All coefs) = []
waiting_in (window.Row rows) = rows.waiting

-- the picture of which its blocks are a part
abbrev pub Shows : Window → Picture → Type 0
Shows window.None whole = ⊥
Shows (window.All coefs) whole = coefs ≡ whole
Shows (window.Row rows) whole = IsRowOf rows.tops whole rows.coefs

-- the machine's next units are among its blocks
abbrev pub Fits : Window → ScanReader → Type 0
Fits window.None m = ⊥
Fits (window.All coefs) m = 1 ≤ any_scan.left m
Fits (window.Row rows) m = IsInsideMcuRow rows.tops rows.coefs rows.left m × (1 ≤ rows.left)

-- What is known of bits and of plain bytes that a machine takes into the blocks of the current MCU row: how many of its
-- units are left, and that it isn't complete before a fault, nor before the last byte (T.81, A.2.3, F.2.2).

-- BITS, some first ones of which reveal a fault, before this many further units are complete
abbrev pub ShowsInRow : ℕ → ScanReader → Picture → List Bool → UnitFault → Type 0
ShowsInRow most m now bits f = (new : ScanReader) × (after : Picture) × (rest : List Bool) × TakesBits any_scan most m now bits (taken.Fault f) new after rest

-- THE CURRENT MCU ROW isn't complete before the fault, whatever picture it is of.
abbrev pub StopsRowData : RowWork → ScanReader → List Bool → Taken → Type 0
StopsRowData w m bits came_to = (f : UnitFault) (whole : Picture) → came_to ≡ taken.Fault f → IsRowOf w.tops whole w.coefs → IsOpenRowScan m whole → ShowsInRow w.left m whole bits f

abbrev pub StopsRowRun : RowWork → ScanReader → List ℕ → ℕ → Taken → Type 0
StopsRowRun w m bytes n came_to = StopsRowData w m (bits_of_bytes (take n bytes)) came_to

-- this many of its units are complete; only if none is left, bits wait
pub record CountsRow (w : RowWork) (m : ScanReader) (answer : Taken) (new : RowWork) (after : ScanReader) : Type 0 where
  pub same : new ≡ record w { coefs = new.coefs; left = new.left; waiting = new.waiting }
  pub passed : ℕ
  pub left : w.left ≡ new.left + passed
  pub interval : any_scan.left m ≡ any_scan.left after + passed
  pub ended : answer ≡ taken.IntervalDone → any_scan.left after ≡ 0
  pub wait : 1 ≤ length new.waiting → new.left ≡ 0

-- BITS: those of the bytes before the last one, and then further ones, after all of which fewer than `most` units are
-- complete
pub record FewBefore (most : ℕ) (m : ScanReader) (now : Picture) (bytes : List ℕ) (n : ℕ) : Type 0 where
  pub early : ℕ
  pub count : n ≡ early + 1
  pub within : early < length bytes
  pub mid : ScanReader
  pub between : Picture
  pub chain : Chain any_scan m now (bits_of_bytes (take early bytes)) mid between
  pub more : List Bool
  pub far : ScanReader
  pub later : Picture
  pub on : Chain any_scan mid between more far later
  pub few : any_scan.left m < any_scan.left far + most

-- whatever picture the row is of
abbrev pub LastRowRun : RowWork → ScanReader → List ℕ → ℕ → Type 0
LastRowRun w m bytes n = (whole : Picture) → IsRowOf w.tops whole w.coefs → IsOpenRowScan m whole → FewBefore w.left m whole bytes n

-- bytes that were given to the machine: all of a picture, or an MCU row, remains what it is
abbrev pub PassesBytes : Window → ScanReader → List ℕ → ℕ → Taken → Window → ScanReader → Type 0
PassesBytes (window.All old) m bytes n answer (window.All new) after = Unit {0}
PassesBytes (window.Row old) m bytes n answer (window.Row new) after = StopsRowRun old m bytes n answer × LastRowRun old m bytes n × CountsRow old m answer new after
PassesBytes old m bytes n answer new after = ⊥

-- A MACHINE may be given data.
pub record CanTake (w : Window) (m : ScanReader) : Type 0 where
  pub whole : Picture
  pub shows : Shows w whole
  pub given : IsOpenRowScan m whole
  pub fits : Fits w m

-- bits, and bytes, whatever picture the blocks are of
abbrev pub TakesBitsInto : Window → ScanReader → List Bool → Taken → Window → ScanReader → Type 0
TakesBitsInto old m bits answer new after =
    (whole : Picture) → Shows old whole → IsOpenRowScan m whole → (now : Picture) × Shows new now × GivesBits any_scan m whole bits answer (waiting_in new) after now

abbrev pub TakesBytesInto : Window → ScanReader → List ℕ → ℕ → Taken → Window → ScanReader → Type 0
TakesBytesInto old m bytes n answer new after =
    (whole : Picture) → Shows old whole → IsOpenRowScan m whole → (now : Picture) × Shows new now × GivesRun ScanReader any_scan m whole bytes n answer (waiting_in new) after now
