-- RESTART INTERVALS of a file that is written (T.81, B.2.4.4).
use Rattle.std.specs.Prelude.{ℕ, ◌==◌, if◌then◌else◌, List, [], ◌≡◌, ◌<◌, ◌≤◌, ◌&&◌, not, true, Bool, length, Option, Some, None, All, ◌+◌, ◌*◌, false, ◌∷◌, ◌++◌, map, flat_map, slice_index_or}
use Rattle.std.specs.Int.{to_be_bytes, w16}
use Rattle.jpg_spec_write.specs.FileText.{segment_text, Written, interval_of, nothing_written, slot_for, tables_given, tables_needed, tables_text}
use Rattle.std.specs.Option.{option_map}
use Rattle.jpg_spec.specs.Geometry.{Frame, is_progressive}
use Rattle.jpg_spec.specs.Scan.{Blocks, TablesInForce}
use Rattle.jpg_spec.specs.Lists.{is_distinct}
use Rattle.jpg_spec.specs.Segments.{HuffmanTable, ScanHead, head_components, needs_dc, needs_ac}
use Rattle.jpg_spec_write.specs.ScanText.{Owned, is_plain, scan_elements, symbol_counts, symbols_used, scan_data, scan_tables}
use Rattle.jpg_spec_write.specs.WrittenFile.{HasBlocksIn}
use Rattle.jpg_spec_write.specs.declared.huffman.Huffman.{Huffman}
use Rattle.jpg_base.specs.Cursor.{AreIn}
use Rattle.jpg_coefs.specs.MarkSinks.{HasSlots}
use Rattle.jpg_coefs.specs.declared.intervals.WrittenScan.{WrittenScan}
use Rattle.jpg_prog_write.specs.Written.{IsProgScan, tables_in, written_data}
use Rattle.jpg_huff.specs.declared.table.Table.{Table}
use Rattle.jpg_huff.specs.declared.set.TableSet.{TableSet}
use Rattle.jpg_huff.specs.Flat.{symbols_in}
use Rattle.jpg_huff.specs.Counts.{row}
use Rattle.jpg_huff.specs.declared.counts.SymbolCounts.{SymbolCounts}
use Rattle.jpg_huff.specs.Sets.{dc_tables, ac_tables, in_slot}
use Rattle.jpg_huff.specs.Tables.{table_of}
use Rattle.jpg_spec.specs.FrameHeader.{identifiers}
use Rattle.jpg_spec.specs.ScanContents.{are_parameters}
use Rattle.jpg_spec.specs.declared.frame.Colour.{Colour}
use Rattle.jpg_spec.specs.declared.frame.ScanPart.{ScanPart}
use Rattle.jpg_spec_write.specs.Script.{Entry}
use Rattle.jpg_seq.specs.Reader.{IsSeqScan}
use Rattle.jpg_scans.specs.Restarts.{restart_of}
use Rattle.jpg_file.specs.declared.write.Plan.{Plan}
use Rattle.jpg_file.specs.declared.write.scan.Given.{Given}
use Rattle.jpg_file.specs.declared.write.scan.PlannedScan.{PlannedScan}
use Rattle.jpg_file.specs.declared.write.scan.ScanDue.{ScanDue}

-- the segment of an interval that isn't the one before
abbrev pub interval_text : ℕ → ℕ → List ℕ
interval_text last n = if n == last then [] else segment_text 0xdd (to_be_bytes w16 n)

-- The tables of scans that are written: sets that have them, and the last ones of each class and slot (T.81, B.2.4.2).

-- what a scan sends, by intervals
abbrev pub written_elements : WrittenScan → Frame → Blocks → List (List Owned)
written_elements scan f blocks = scan_elements f scan.head.now scan.interval blocks

-- the slots of a class (0 is DC, 1 is AC)
abbrev pub class_tables : TableSet → ℕ → List (Option Table)
class_tables set class = if class == 0 then dc_tables set else ac_tables set

-- a slot has a table of these counts and symbols
abbrev pub IsInSlot : List (Option Table) → ℕ → HuffmanTable → Type 0
IsInSlot tables slot table = (t : Table) × (in_slot tables slot ≡ Some t) × (table_of t ≡ table)

-- slots 0 and 1 of both classes have these tables
abbrev pub GivesTables : TableSet → (ℕ → ℕ → HuffmanTable) → Type 0
GivesTables set tables = (class slot : ℕ) → class < 2 → slot < 2 → IsInSlot (class_tables set class) slot (tables class slot)

-- typical tables are written: plain ones are asked for, in a sequential file of precision 8
abbrev pub has_typical : Huffman → Frame → Bool
has_typical huffman file = not (is_progressive file.process) && (file.precision == 8 && is_plain huffman)

-- by slots 0 and 1 and class, the symbols that are used are these
pub record UsesSymbols (counts : SymbolCounts) (symbols : ℕ → ℕ → List ℕ) : Type 0 where
  pub dc : (slot : ℕ) → slot < 2 → symbols_in (row counts.dc slot) ≡ symbols 0 slot
  pub ac : (slot : ℕ) → slot < 2 → symbols_in (row counts.ac slot) ≡ symbols 1 slot

-- and each is counted so often
pub record HasCounts (counts : SymbolCounts) (numbers : ℕ → ℕ → List ℕ) : Type 0 where
  pub dc : (slot : ℕ) → slot < 2 → row counts.dc slot ≡ numbers 0 slot
  pub ac : (slot : ℕ) → slot < 2 → row counts.ac slot ≡ numbers 1 slot

-- few enough for codes of one length
pub record AreFew (counts : SymbolCounts) : Type 0 where
  pub dc : (slot : ℕ) → slot < 2 → length (symbols_in (row counts.dc slot)) ≤ 255
  pub ac : (slot : ℕ) → slot < 2 → length (symbols_in (row counts.ac slot)) ≤ 255

-- the counts of a scan that sends these elements
pub record CountsScan (counts : SymbolCounts) (head : ScanHead) (elements : List (List Owned)) : Type 0 where
  pub used : UsesSymbols counts (symbols_used head elements)
  pub often : HasCounts counts (symbol_counts head elements)
  pub few : AreFew counts

-- the symbols of a scan with this header can be counted, in a file with the first frame, of blocks viewed in the other
pub record CanCount (file f : Frame) (blocks : Blocks) (head : ScanHead) : Type 0 where
  pub kind : is_progressive f.process ≡ is_progressive file.process
  pub components : AreIn f (head_components head)
  pub scan : is_progressive file.process ≡ true → IsProgScan f head
  pub distinct : is_distinct (head_components head) ≡ true
  pub slots : All HasSlots head.parts
  pub writable : HasBlocksIn f blocks

-- they have the first two for DC, and the other two for AC
abbrev pub HasFourTables : TableSet → HuffmanTable → HuffmanTable → HuffmanTable → HuffmanTable → Type 0
HasFourTables set a b c d = (tables : ℕ → ℕ → HuffmanTable) → a ≡ tables 0 0 → b ≡ tables 0 1 → c ≡ tables 1 0 → d ≡ tables 1 1 → GivesTables set tables

-- a class, and slot 0 or 1
pub record IsTablePlace (place : ℕ × ℕ) : Type 0 where
  pub class : place.0 < 2
  pub slot : place.1 < 2

-- the last table of each class and slot
abbrev pub given_by : TableSet → TablesInForce
given_by set class slot =
    if class == 0 then option_map table_of (in_slot (dc_tables set) slot)
    else if class == 1 then option_map table_of (in_slot (ac_tables set) slot) else None

-- A scan of a file that is written (T.81, B.2.3).

-- THE HEADER of a scan. A slot that isn't needed is 0.

abbrev pub scan_part : Colour → Bool → Bool → ℕ → ScanPart
scan_part colour has_dc has_ac i = record { component = i; dc = if has_dc then slot_for colour i else 0; ac = if has_ac then slot_for colour i else 0 }

abbrev pub scan_head : Bool → Colour → Entry → ScanHead
scan_head is_prog colour e = record {
  parts = map (scan_part colour (needs_dc is_prog e.ss e.ah) (needs_ac is_prog e.ss)) e.components;
  ss = if is_prog then e.ss else 0;
  se = if is_prog then e.se else 63;
  ah = if is_prog then e.ah else 0;
  al = if is_prog then e.al else 0;
}

-- a header of few components of the frame, whose numbers fit
pub record IsHeadOf (f : Frame) (head : ScanHead) : Type 0 where
  pub few : length head.parts ≤ 4
  pub there : All (λ p. p.component < length f.components) head.parts
  pub slots : All HasSlots head.parts
  pub high : head.ah ≤ 14
  pub low : head.al ≤ 13

-- the contents of its segment, by the identifiers of the components
abbrev pub part_bytes : List ℕ → ScanPart → List ℕ
part_bytes ids p = slice_index_or ids p.component 0 ∷ (16 * p.dc + p.ac) ∷ []

abbrev pub head_bytes : List ℕ → ScanHead → List ℕ
head_bytes ids head =
    length head.parts ∷ flat_map (part_bytes ids) head.parts ++ head.ss ∷ head.se ∷ (16 * head.ah + head.al) ∷ []

-- the segment of its interval and its own
abbrev pub head_due : List ℕ → ScanHead → ℕ → ℕ → List ℕ
head_due ids head last n = interval_text last n ++ segment_text 0xda (head_bytes ids head)

-- A SCAN BY A PLAN, of the blocks of a view

abbrev pub head_for : Plan → Entry → ScanHead
head_for plan e = scan_head (is_progressive plan.out.frame.process) plan.out.colour e

abbrev pub interval_for : Plan → Entry → ℕ
interval_for plan e = interval_of plan.out.frame (head_for plan e) (restart_of plan.restart)

abbrev pub needed_for : Plan → Entry → List (ℕ × ℕ)
needed_for plan e = tables_needed (is_progressive plan.out.frame.process) e (head_for plan e)

abbrev pub elements_for : Plan → Frame → Blocks → Entry → List (List Owned)
elements_for plan f blocks e = scan_elements f (head_for plan e) (interval_for plan e) blocks

abbrev pub tables_for : Plan → Frame → Blocks → Entry → ℕ → ℕ → HuffmanTable
tables_for plan f blocks e = scan_tables plan.huffman plan.out.frame (head_for plan e) (elements_for plan f blocks e)

-- its tables, its header and its data
abbrev pub scan_bytes : Plan → Frame → Blocks → Written → Entry → List ℕ
scan_bytes plan f blocks w e =
    tables_text w.tables (tables_for plan f blocks e) (needed_for plan e)
    ++ (head_due (identifiers plan.out.frame.components) (head_for plan e) w.interval (interval_for plan e)
    ++ scan_data (tables_for plan f blocks e) (head_for plan e) (elements_for plan f blocks e))

-- what was written with it
abbrev pub written_after : Plan → Frame → Blocks → Written → Entry → Written
written_after plan f blocks w e = record { tables = tables_given w.tables (tables_for plan f blocks e) (needed_for plan e); interval = interval_for plan e }

-- the same of a scan that is planned
abbrev pub planned_bytes : PlannedScan → Frame → Blocks → Written → List ℕ
planned_bytes planned f blocks w = scan_bytes planned.plan.now f blocks w planned.entry.now

abbrev pub planned_written : PlannedScan → Frame → Blocks → Written → Written
planned_written planned f blocks w = written_after planned.plan.now f blocks w planned.entry.now

-- of all scans of a script
abbrev pub scans_bytes : Plan → Frame → Blocks → Written → List Entry → List ℕ
scans_bytes plan f blocks w [] = []
scans_bytes plan f blocks w (e ∷ script) = scan_bytes plan f blocks w e ++ scans_bytes plan f blocks (written_after plan f blocks w e) script

abbrev pub scans_due : Plan → Frame → Blocks → List ℕ
scans_due plan f blocks = scans_bytes plan f blocks nothing_written plan.script

-- Components of the file's frame and of the view's, which have one scan, and in a progressive file a band and bits that
-- are allowed.
pub record CanWriteScan (plan : Plan) (f : Frame) (blocks : Blocks) (e : Entry) : Type 0 where
  pub kind : is_progressive f.process ≡ is_progressive plan.out.frame.process
  pub seen : AreIn f e.components
  pub there : All (λ i. i < length plan.out.frame.components) e.components
  pub distinct : is_distinct e.components ≡ true
  pub parameters : is_progressive f.process ≡ true → are_parameters f (length e.components) (head_for plan e) ≡ true
  pub writable : HasBlocksIn f blocks

-- of a scan that is planned
abbrev pub CanWritePlanned : PlannedScan → Frame → Blocks → Type 0
CanWritePlanned planned f blocks = CanWriteScan planned.plan.now f blocks planned.entry.now

abbrev pub CanWriteScans : Plan → Frame → Blocks → Type 0
CanWriteScans plan f blocks = All (CanWriteScan plan f blocks) plan.script

-- WHAT IT IS WRITTEN WITH

-- what was written so far
abbrev pub so_far : Given → Written
so_far given = record { tables = given_by given.tables; interval = given.interval }

-- it is what the entry asks for
pub record IsDue (plan : Plan) (e : Entry) (due : ScanDue) : Type 0 where
  pub head : due.head ≡ head_for plan e
  pub interval : due.interval ≡ interval_of plan.out.frame due.head (restart_of plan.restart)
  pub needed : due.needed.items ≡ tables_needed (is_progressive plan.out.frame.process) e due.head

-- the tables that it is written with, by its elements
abbrev pub tables_due : Plan → Frame → Blocks → ScanDue → ℕ → ℕ → HuffmanTable
tables_due plan f blocks due = scan_tables plan.huffman plan.out.frame due.head (scan_elements f due.head due.interval blocks)

-- its tables and its header can be written
pub record CanStart (file : Frame) (due : ScanDue) (set : TableSet) : Type 0 where
  pub head : IsHeadOf file due.head
  pub needed : All IsTablePlace due.needed.items
  pub tables : GivesTables set (tables_in set)

-- it can be written with these tables
pub record CanWriteDue (file f : Frame) (blocks : Blocks) (due : ScanDue) (set : TableSet) : Type 0 where
  pub start : CanStart file due set
  pub sequential : is_progressive file.process ≡ false → IsSeqScan f due.head set
  pub progressive : is_progressive file.process ≡ true → IsProgScan f due.head
  pub writable : HasBlocksIn f blocks

-- what stands before its data, after what was written so far; its data, its text, and what was written with it
abbrev pub start_text : Frame → Written → ScanDue → TableSet → List ℕ
start_text file w due set =
    tables_text w.tables (tables_in set) due.needed.items ++ head_due (identifiers file.components) due.head w.interval due.interval

abbrev pub due_data : Frame → Blocks → ScanDue → TableSet → List ℕ
due_data f blocks due set = written_data f due.head set due.interval blocks

abbrev pub due_text : Frame → Frame → Blocks → Written → ScanDue → TableSet → List ℕ
due_text file f blocks w due set = start_text file w due set ++ due_data f blocks due set

abbrev pub due_written : Written → ScanDue → TableSet → Written
due_written w due set = record { tables = tables_given w.tables (tables_in set) due.needed.items; interval = due.interval }
