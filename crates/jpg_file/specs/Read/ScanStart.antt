-- A scan header that breaks no rule, at the start of its scan (T.81, B.2.3).
use Rattle.std.specs.Prelude.{◌≡◌, ℕ, false, List, length, Option, None, Some}
use Rattle.jpg_spec.specs.Geometry.{Frame, units}
use Rattle.jpg_spec.specs.Segments.{ScanHead, head_components}
use Rattle.jpg_spec.specs.ScanContents.{IsHead}
use Rattle.jpg_spec.specs.FrameHeader.{IsFrame}
use Rattle.jpg_spec.specs.Scan.{Blocks, scan_coding}
use Rattle.jpg_spec.specs.Markers.{SpellsSegment, code_fault}
use Rattle.jpg_spec.specs.InForce.{frame_of, head_in, huffman_in_force, restart_in_force}
use Rattle.jpg_spec.specs.Items.{Item, segments_of, contents_rule}
use Rattle.jpg_spec.specs.declared.frame.Limits.{Limits}
use Rattle.jpg_coefs.specs.Picture.{Picture, map_of}
use Rattle.jpg_huff.specs.declared.set.TableSet.{TableSet}
use Rattle.jpg_seq.specs.Reader.{in_force}
use Rattle.jpg_file.specs.Read.InData.{InData, scan_left}
use Rattle.jpg_file.specs.Read.Items.{IsBeside}
use Rattle.jpg_file.specs.Read.Machine.{IsBareScan, IsScanHeader}
use Rattle.jpg_file.specs.declared.read.machine.ScanReader.{ScanReader}
use Rattle.jpg_file.specs.declared.read.scan.InScan.{InScan}

-- the header and the state: the frame, the header, the tables and the restart interval in force, the picture so far
pub record HeadHeld (limits : Limits) (items : List Item) (blocks : Blocks) (contents : List ℕ) (f : Frame) (head : ScanHead) (set : TableSet) (interval : ℕ) (now : Picture) : Type 0 where
  pub framed : frame_of limits (segments_of items) ≡ f
  pub header : head_in f contents ≡ head
  pub is_frame : IsFrame f
  pub is_head : IsHead f head
  pub scan_header : IsScanHeader f head set
  pub codings : scan_coding f (in_force set) head ≡ scan_coding f (huffman_in_force (segments_of items)) head
  pub restart : interval ≡ restart_in_force (segments_of items)
  pub pictured : now.frame ≡ f
  pub as_map : blocks ≡ map_of now

pub record Begins (limits : Limits) (items : List Item) (blocks : Blocks) (contents bytes : List ℕ) (f : Frame) (head : ScanHead) (set : TableSet) (interval : ℕ) (now : Picture) : Type 0 where
  pub sent : List ℕ
  pub tail : List ℕ
  pub at : IsBeside limits bytes sent items blocks tail
  pub spelled : SpellsSegment 0xda contents tail
  pub allowed : code_fault (segments_of items) 0xda ≡ None
  pub rule : contents_rule limits (segments_of items) 0xda contents ≡ None
  pub header : HeadHeld limits items blocks contents f head set interval now

-- each block has 64 values
abbrev pub HasSizes : Picture → Type 0
HasSizes now = (i x y : ℕ) → length (map_of now i x y) ≡ 64

-- there is such a header
abbrev pub CanBegin : Frame → ScanHead → TableSet → ℕ → Picture → Type 0
CanBegin f head set interval now =
    (limits : Limits) × (items : List Item) × (blocks : Blocks) × (contents : List ℕ) × (bytes : List ℕ) × Begins limits items blocks contents bytes f head set interval now

-- for each such header this is the scan before its first byte
abbrev pub IsAtFirstByte : Frame → ScanHead → TableSet → ℕ → Picture → InScan → Type 0
IsAtFirstByte f head set interval now s =
    (limits : Limits) (items : List Item) (blocks : Blocks) (contents bytes : List ℕ) → Begins limits items blocks contents bytes f head set interval now → InData limits items contents bytes s now

-- in a place, the scan before its first byte, for each such header and each picture
abbrev pub IsBegun : Frame → ScanHead → TableSet → ℕ → Option InScan → Type 0
IsBegun f head set interval place =
    (s : InScan) × (place ≡ Some s) × (s.gate ≡ false) × (scan_left s ≡ length (units f (head_components head))) × ((now : Picture) → HasSizes now → IsAtFirstByte f head set interval now s)

-- the scan of this machine before any data, and such a scan in a place, without its tables
abbrev pub before_data : ScanReader → ℕ → ℕ → InScan
before_data machine interval due = record { gate = false; machine = machine; whole = false; interval = interval; due = due; turn = 0 }

abbrev pub IsBareIn : Frame → ScanHead → TableSet → ℕ → ℕ → Option InScan → Type 0
IsBareIn f head set interval due place = (m : ScanReader) × (place ≡ Some (before_data m interval due)) × IsBareScan f head set m
