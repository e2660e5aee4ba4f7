-- The result of the bits of an interval, given to its machine (T.81, F.2.2, G.2).
use Rattle.std.specs.Prelude.{◌≡◌, ℕ, ◌+◌, ◌<◌, Bool, List, [], ◌++◌, length, take, slice_index, Result, Ok, Err, ◌==◌, if◌then◌else◌, true, false, All}
use Rattle.jpg_spec.specs.Bits.{bits_of, bits_of_bytes}
use Rattle.jpg_coefs.specs.Picture.{Picture, map_of}
use Rattle.jpg_coefs.specs.Machine.{Chain, ChainTo, Kind, Interval, TakesBits}
use Rattle.jpg_coefs.specs.declared.machine.Taken.{Taken}
use Rattle.jpg_coefs.specs.declared.machine.Taken.TheVariants.{More, Units, IntervalDone, Fault}
use Rattle.jpg_coefs.specs.declared.machine.UnitFault.{UnitFault}
use Rattle.jpg_coefs.specs.declared.machine.UnitStep.{UnitStep}
use Rattle.jpg_coefs.specs.declared.machine.UnitStep.TheVariants as step
use Rattle.jpg_spec.specs.Scan.{Scan, scan_coding}
use Rattle.jpg_seq.specs.Reader.{sequential, AreInRow, IsRowOf, IsBare, in_force}
use Rattle.jpg_prog_read.specs.RepresentsAcScan.{progressive_ac}
use Rattle.jpg_prog_read.specs.DcFirstPass.{first_pass}
use Rattle.jpg_prog_read.specs.DcRefinement.{refinement}
use Rattle.jpg_file.specs.declared.read.machine.ScanReader.{ScanReader}
use Rattle.jpg_file.specs.declared.read.machine.ScanReader.TheVariants.{Sequential, DcFirst, DcRefine, Ac}
use Rattle.jpg_seq.specs.declared.reader.SeqReader.{SeqReader}
use Rattle.jpg_spec.specs.Lists.{is_distinct}
use Rattle.jpg_spec.specs.Geometry.{Frame, is_progressive, units}
use Rattle.jpg_spec.specs.History.{needs_ac_table, needs_dc_table}
use Rattle.jpg_spec.specs.Segments.{ScanHead, head_components}
use Rattle.jpg_spec.specs.ScanContents.{are_parameters}
use Rattle.jpg_spec.specs.declared.frame.ScanPart.{ScanPart}
use Rattle.jpg_base.specs.Cursor.{AreIn}
use Rattle.jpg_huff.specs.declared.set.TableSet.{TableSet}
use Rattle.jpg_prog_read.specs.DcNew.{HasPartTable, IsBare as IsBareFirst}
use Rattle.jpg_prog_read.specs.NewAcReader.{HasAcTable}

-- the machine returns at one of the bits
abbrev pub AnswersIn : {M : Type 0} → Kind M → M → Picture → List Bool → Result UnitStep UnitFault → M → Picture → Type 0
AnswersIn k m now bits answer new after = (most : ℕ) × (front : List Bool) × (rest : List Bool) × (bits ≡ front ++ rest) × ChainTo k most m now front answer new after

-- BITS were given to it, of which these wait: those after the last unit that was asked for
abbrev pub GivesBits : {M : Type 0} → Kind M → M → Picture → List Bool → Taken → List Bool → M → Picture → Type 0
GivesBits k m now bits More waiting new after = (waiting ≡ []) × Chain k m now bits new after
GivesBits k m now bits Units waiting new after = (front : List Bool) × (bits ≡ front ++ waiting) × Chain k m now front new after
GivesBits k m now bits IntervalDone waiting new after = (waiting ≡ []) × AnswersIn k m now bits (Ok step.IntervalDone) new after
GivesBits k m now bits (Fault f) waiting new after = (waiting ≡ []) × AnswersIn k m now bits (Err f) new after

-- the bits that wait, where these follow those that were taken
abbrev pub waits_of : Taken → List Bool → List Bool
waits_of More rest = []
waits_of Units rest = rest
waits_of IntervalDone rest = []
waits_of (Fault f) rest = []

-- BYTES were given to it: this many, the last of them after a chain of the bits of those before it.
pub record GivesRun (M : Type 0) (k : Kind M) (m : M) (now : Picture) (bytes : List ℕ) (n : ℕ) (answer : Taken) (waiting : List Bool) (new : M) (after : Picture) : Type 0 where
  pub mid : M
  pub between : Picture
  pub early : ℕ
  pub count : n ≡ early + 1
  pub within : early < length bytes
  pub chain : Chain k m now (bits_of_bytes (take early bytes)) mid between
  pub last : GivesBits k mid between (bits_of 8 (slice_index bytes early)) answer waiting new after

-- What the states of machines that read scans mean, for all kinds of scan (T.81, F.2.2, G.2).

-- a scan of complete blocks, the two passes of DC, and those of a band of AC
pub data ScanKind : Type 0 where
  whole_blocks : ScanKind
  dc_first : ScanKind
  dc_later : ScanKind
  ac_band : ScanKind

-- which kind a scan is: only in a progressive one there may be end-of-band runs
abbrev pub scan_kind : Scan → ScanKind
scan_kind s = if s.coding.most_run == 0 then whole_blocks else if s.ss == 0 then (if s.coding.refines then dc_later else dc_first) else ac_band

-- the meaning of the states of each kind, in scans of that kind
abbrev pub RepresentsScanData : ScanReader → Interval → List Bool → Picture → Type 0
RepresentsScanData (Sequential m) i bits now = sequential.stands m i bits now × (scan_kind i.scan ≡ whole_blocks)
RepresentsScanData (DcFirst m) i bits now = first_pass.stands m i bits now × (scan_kind i.scan ≡ dc_first)
RepresentsScanData (DcRefine m) i bits now = refinement.stands m i bits now × (scan_kind i.scan ≡ dc_later)
RepresentsScanData (Ac m) i bits now = progressive_ac.stands m i bits now × (scan_kind i.scan ≡ ac_band)

-- the intervals that it may begin
abbrev pub ReaderReady : ScanReader → Interval → Type 0
ReaderReady (Sequential m) i = sequential.ready m i × (scan_kind i.scan ≡ whole_blocks)
ReaderReady (DcFirst m) i = first_pass.ready m i × (scan_kind i.scan ≡ dc_first)
ReaderReady (DcRefine m) i = refinement.ready m i × (scan_kind i.scan ≡ dc_later)
ReaderReady (Ac m) i = progressive_ac.ready m i × (scan_kind i.scan ≡ ac_band)

-- how many units of the interval are left
abbrev pub reader_left : ScanReader → ℕ
reader_left (Sequential m) = sequential.left m
reader_left (DcFirst m) = first_pass.left m
reader_left (DcRefine m) = refinement.left m
reader_left (Ac m) = progressive_ac.left m

-- an interval is of the kind of its scan
abbrev pub FitsKind : ScanKind → Interval → Type 0
FitsKind whole_blocks i = sequential.fits i
FitsKind dc_first i = first_pass.fits i
FitsKind dc_later i = refinement.fits i
FitsKind ac_band i = progressive_ac.fits i

abbrev pub any_scan : Kind ScanReader
any_scan = record { stands = RepresentsScanData; ready = ReaderReady; left = reader_left; fits = λ i. FitsKind (scan_kind i.scan) i }

-- The machine of a scan of all components that is read MCU row by MCU row.

-- THE MACHINE of a scan that is read row by row: it was given some bits, and the complete picture has what they encode
abbrev pub IsOpenRowScan : ScanReader → Picture → Type 0
IsOpenRowScan m whole = (i : Interval) × (bits : List Bool) × any_scan.stands m i bits whole

-- it is a sequential one, and as many of its places are in the MCU row
pub record IsInsideMcuRow (tops : List ℕ) (row : Picture) (most : ℕ) (m : ScanReader) : Type 0 where
  pub machine : SeqReader
  pub is : m ≡ Sequential machine
  pub inside : AreInRow row.frame tops (take most machine.cursor)

abbrev pub TakesRowBits : ℕ → List ℕ → ScanReader → Picture → List Bool → Taken → ScanReader → Picture → List Bool → Type 0
TakesRowBits most tops m row store answer new after rest =
    (whole : Picture) → IsRowOf tops whole row → IsOpenRowScan m whole → (now : Picture) × IsRowOf tops now after × TakesBits any_scan most m whole store answer new now rest

-- A scan before its first unit, of whatever kind it is (T.81, B.2.3, G.1.1.1).

-- the tables of a part that its scan needs are there
pub record HasNeeded (f : Frame) (head : ScanHead) (set : TableSet) (p : ScanPart) : Type 0 where
  pub dc : needs_dc_table f head ≡ true → HasPartTable set p
  pub ac : needs_ac_table f head ≡ true → HasAcTable set p

-- A scan header of a frame, whose tables are there.
pub record IsScanHeader (f : Frame) (head : ScanHead) (set : TableSet) : Type 0 where
  pub components : AreIn f (head_components head)
  pub distinct : is_distinct (head_components head) ≡ true
  pub parameters : is_progressive f.process ≡ true → are_parameters f (length head.parts) head ≡ true
  pub tables : All (HasNeeded f head set) head.parts

-- an interval of the scan, before its first unit
pub record IsOfHeader (f : Frame) (head : ScanHead) (set : TableSet) (i : Interval) : Type 0 where
  pub coding : i.scan.coding ≡ scan_coding f (in_force set) head
  pub ss : i.scan.ss ≡ (if is_progressive f.process then head.ss else 0)
  pub se : i.scan.se ≡ (if is_progressive f.process then head.se else 63)
  pub kind : any_scan.fits i
  pub sized : (k x y : ℕ) → length (map_of i.before k x y) ≡ 64
  pub places : i.places ++ i.later ≡ units f (head_components head)
  pub frame : i.before.frame ≡ f

-- The machine of the scan, without its tables if it is of a kind with several, otherwise ready.
abbrev pub IsBareScan : Frame → ScanHead → TableSet → ScanReader → Type 0
IsBareScan f head set (Sequential m) = (is_progressive f.process ≡ false) × IsBare f head m
IsBareScan f head set (DcFirst m) = (is_progressive f.process ≡ true) × (head.ss ≡ 0) × (head.ah ≡ 0) × IsBareFirst f head m
IsBareScan f head set (DcRefine m) = (i : Interval) → IsOfHeader f head set i → any_scan.ready (DcRefine m) i
IsBareScan f head set (Ac m) = (i : Interval) → IsOfHeader f head set i → any_scan.ready (Ac m) i
