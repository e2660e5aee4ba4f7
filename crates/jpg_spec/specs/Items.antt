-- WHAT A FILE IS MADE OF (T.81, B.1.1, B.2.1): SOI, segments and scans, EOI; and the rules for all of them. Lists of
-- items have the newest first.
use Rattle.std.specs.Prelude.{◌≡◌, ℕ, ◌+◌, ◌%◌, Bool, true, false, ◌==◌, if◌then◌else◌, List, [], ◌∷◌, ◌++◌, map, Option, Some, None, Ok, Err}
use Rattle.jpg_spec.specs.Bits.{SpellsData}
use Rattle.jpg_spec.specs.Faults.{Parsed}
use Rattle.jpg_spec.specs.FrameContents.{frame_header}
use Rattle.jpg_spec.specs.QuantContents.{◌>>=◌, quant_tables}
use Rattle.jpg_spec.specs.HuffContents.{huffman_tables}
use Rattle.jpg_spec.specs.ScanContents.{restart_interval, scan_header}
use Rattle.jpg_spec.specs.Markers.{Segment, Rule, soi, SpellsMarker, SpellsSegment, process_of_code, kept_rule}
use Rattle.jpg_spec.specs.InForce.{frame_of}
use Rattle.jpg_spec.specs.History.{admitted}
use Rattle.jpg_spec.specs.declared.fault.Fault.{Fault}
use Rattle.jpg_spec.specs.declared.frame.Process.{Process}
use Rattle.jpg_spec.specs.declared.frame.Limits.{Limits}

-- A marker segment that is neither SOS nor EOI, or a scan: the contents of its SOS segment, and the data bytes of its
-- intervals (B.2.1, Figure B.2).
pub data Item : Type 0 where
  segment : ℕ → List ℕ → Item
  scan : List ℕ → List (List ℕ) → Item

-- its segment
abbrev pub segment_of : Item → Segment
segment_of (segment code contents) = (code, contents)
segment_of (scan contents intervals) = (0xda, contents)

abbrev pub segments_of : List Item → List Segment
segments_of items = map segment_of items

-- the intervals of a scan, with RST0 to RST7 in turn between them (B.2.1, E.1.4)
abbrev pub SpellsIntervalsText : ℕ → List (List ℕ) → List ℕ → Type 0
SpellsIntervalsText turn [] bytes = ⊥
SpellsIntervalsText turn (coded ∷ []) bytes = SpellsData coded bytes
SpellsIntervalsText turn (coded ∷ next ∷ intervals) bytes =
    (front : List ℕ) × (marker : List ℕ) × (rest : List ℕ) × (bytes ≡ front ++ marker ++ rest)
    × SpellsData coded front × SpellsMarker (0xd0 + turn % 8) marker × SpellsIntervalsText (turn + 1) (next ∷ intervals) rest

abbrev pub SpellsItem : Item → List ℕ → Type 0
SpellsItem (segment code contents) bytes = SpellsSegment code contents bytes × (code ≡ 0xd9 → ⊥) × (code ≡ 0xda → ⊥)
SpellsItem (scan contents intervals) bytes =
    (front : List ℕ) × (rest : List ℕ) × (bytes ≡ front ++ rest) × SpellsSegment 0xda contents front × SpellsIntervalsText 0 intervals rest

-- SOI followed by the items
abbrev pub SpellsFront : List Item → List ℕ → Type 0
SpellsFront [] bytes = bytes ≡ soi
SpellsFront (item ∷ before) bytes =
    (front : List ℕ) × (rest : List ℕ) × (bytes ≡ front ++ rest) × SpellsFront before front × SpellsItem item rest

-- whether scan data came last
abbrev pub ends_in_scan : List Item → Bool
ends_in_scan [] = false
ends_in_scan (segment code contents ∷ before) = false
ends_in_scan (scan contents intervals ∷ before) = true

-- THE RULES for contents

abbrev pub fault_in : {X : Type 0} → Parsed X → Option Fault
fault_in (Ok x) = None
fault_in (Err fault) = Some fault

abbrev pub frame_fault : Limits → Option Process → List ℕ → Option Fault
frame_fault limits None contents = None
frame_fault limits (Some process) contents = fault_in (frame_header limits process contents)

-- the first fault of a complete segment after these segments
abbrev pub contents_rule : Limits → Rule
contents_rule limits before code contents =
    if code == 0xc4 then fault_in (huffman_tables contents)
    else if code == 0xdb then fault_in (quant_tables contents)
    else if code == 0xdd then fault_in (restart_interval contents)
    else if code == 0xda then fault_in (scan_header (frame_of limits before) contents >>= admitted (frame_of limits before) before)
    else if code == 0xc0 then frame_fault limits (process_of_code code) contents
    else if code == 0xc1 then frame_fault limits (process_of_code code) contents
    else if code == 0xc2 then frame_fault limits (process_of_code code) contents
    else kept_rule limits before code contents
