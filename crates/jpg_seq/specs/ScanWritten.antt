-- WHAT A BLOCK OF A SEQUENTIAL SCAN IS WRITTEN AS, by any tables (T.81, F.1.2; the choices are this writer's).
use Rattle.std.specs.Prelude.{ℕ, ◌++◌, Bool, false, List, [], ◌∷◌, map, flat_map, drop, slice_index_or, ℤ, pos, ◌-ℤ◌, ◌/◌, ◌%◌, replicate, ◌≤◌, ◌<◌, ◌≡◌, true, unwrap_or, ◌-◌, length, take, All, None, Some, Ok}
use Rattle.jpg_spec.specs.Codes.{Code, code_of}
use Rattle.jpg_spec.specs.Numbers.{category, extra_bits}
use Rattle.jpg_spec.specs.Elements.{Element, value, long_run, symbol_of, bits_after}
use Rattle.jpg_spec_write.specs.Sending.{sent, band_elements}
use Rattle.jpg_spec.specs.Segments.{ScanHead, HuffmanTable, table_codes, head_components}
use Rattle.jpg_spec.specs.Scan.{part_of, Blocks}
use Rattle.jpg_spec.specs.declared.frame.ScanPart.{ScanPart}
use Rattle.jpg_spec_write.specs.ScanText.{UnitDue, unit_elements, scan_elements, scan_data, element_bits}
use Rattle.jpg_huff.specs.Counts.{Mark}
use Rattle.jpg_coefs.specs.MarkSinks.{HasSlots, MarkSink, owned_marks, interval_marks}
use Rattle.jpg_seq.specs.declared.count.SeqCounter.{SeqCounter}
use Rattle.jpg_spec.specs.Geometry.{Frame, units}
use Rattle.jpg_huff.specs.declared.set.TableSet.{TableSet}
use Rattle.jpg_seq.specs.Reader.{in_force, HasTables, IsSeqScan}
use Rattle.jpg_coefs.specs.BitSinks.{BitSink, interval_bits, bit_kind}
use Rattle.jpg_coefs.specs.declared.intervals.GivenUnit.{GivenUnit}
use Rattle.jpg_seq.specs.declared.scan_write.SeqUnits.{SeqUnits}
use Rattle.jpg_spec.specs.declared.frame.Place.{Place}
use Rattle.jpg_base.specs.Desk.{DeskState}
use Rattle.jpg_base.specs.declared.names.Name.TheVariants as name
use Rattle.jpg_huff.specs.BitOut.{nothing_waits}
use Rattle.jpg_huff.specs.Waiting.{Waiting}
use Rattle.jpg_coefs.specs.ScanUnits.{AgreeAt, IsGiven, new_scan}
use Rattle.jpg_coefs.specs.Sinks.{At, SinkKind, at, intervals_due}
use Rattle.jpg_seq.specs.declared.kept.KeptDesk.{KeptDesk}
use Rattle.jpg_seq.specs.declared.kept_scan.KeptScan.{KeptScan}
use Rattle.jpg_huff.specs.Tables.{symbol_codes}
use Rattle.jpg_seq.specs.declared.write.BlockCodes.{BlockCodes}

-- the symbols of all values after the first one are bytes
abbrev pub IsShort : List ℤ → Type 0
IsShort block = (k : ℕ) → 1 ≤ k → k < 64 → category (slice_index_or block k (pos 0)) ≤ 15

-- the first code of an element's symbol, and the bits after it
abbrev pub spelled : List Code → Element → List Bool
spelled codes e = code_of codes (symbol_of e) ++ bits_after e

-- a value after a run of zeros, of which each sixteen are an element
abbrev pub run_elements : ℕ → ℤ → List Element
run_elements run v = replicate (run / 16) (long_run []) ++ value (run % 16) v [] ∷ []

-- what is told of the elements of a value after a run of zeros, and of those of the values after the first one
unfoldable pub run_told : {X : Type 0} → (Element → List X) → ℕ → ℤ → List X
run_told tell run v = flat_map tell (run_elements run v)

unfoldable pub band_told : {X : Type 0} → (Element → List X) → List ℤ → List X
band_told tell values = flat_map tell (band_elements 1 0 [] (map (sent false 0) values ∷ []))

abbrev pub run_bits : List Code → ℕ → ℤ → List Bool
run_bits codes run v = run_told (spelled codes) run v

abbrev pub band_bits : List Code → List ℤ → List Bool
band_bits codes values = band_told (spelled codes) values

-- the difference of a DC value to the one before it
abbrev pub dc_bits : List Code → ℤ → List ℤ → List Bool
dc_bits dc prediction block = (let difference = slice_index_or block 0 (pos 0) -ℤ prediction in code_of dc (category difference) ++ extra_bits difference)

unfoldable pub block_bits : List Code → List Code → ℤ → List ℤ → List Bool
block_bits dc ac prediction block = dc_bits dc prediction block ++ band_bits ac (drop 1 block)

-- the same by what gives its codes
abbrev pub coded_block : BlockCodes → List ℤ → List Bool
coded_block codes block = block_bits (symbol_codes codes.dc.now) codes.ac.now codes.prediction block

-- WHAT THE UNITS OF A SEQUENTIAL SCAN MARK: the symbols that they are written with (T.81, F.1.2).

-- the symbols of all values after the first one are below 255
abbrev pub AreFew : List ℤ → Type 0
AreFew block = (k : ℕ) → 1 ≤ k → k < 64 → category (slice_index_or block k (pos 0)) ≤ 14

-- an element by the AC table in a slot
abbrev pub ac_mark : ℕ → Element → List Mark
ac_mark slot e = ((1, slot), symbol_of e) ∷ []

abbrev pub run_marks : ℕ → ℕ → ℤ → List Mark
run_marks slot run v = run_told (ac_mark slot) run v

abbrev pub band_marks : ℕ → List ℤ → List Mark
band_marks slot values = band_told (ac_mark slot) values

unfoldable pub block_marks : ScanPart → ℤ → List ℤ → List Mark
block_marks part prediction block = ((0, part.dc), category (slice_index_or block 0 (pos 0) -ℤ prediction)) ∷ band_marks part.ac (drop 1 block)

-- the units that are left after these DC values
abbrev pub due_marks : ScanHead → (ℕ → ℤ) → List UnitDue → List Mark
due_marks head last due = flat_map (owned_marks head) (unit_elements true false 0 last due)

abbrev pub seq_counter : MarkSink SeqCounter
seq_counter = record {
  marks = λ s. interval_marks false s.head.now;
  fits = λ s u. HasSlots (part_of s.head.now u.0) × AreFew u.1;
  rest = λ s last due. due_marks s.head.now last due;
  later = λ from now. now ≡ from;
}

-- WHAT A SEQUENTIAL SCAN IS WRITTEN AS by given tables, and what can be written so (T.81, F.1.2, E.1.4).

-- the tables of a set, by class and slot, and one without codes where there is none
abbrev pub no_codes : HuffmanTable
no_codes = record { counts = []; symbols = [] }

abbrev pub tables_in : TableSet → ℕ → ℕ → HuffmanTable
tables_in set class slot = unwrap_or (in_force set class slot) no_codes

-- the data of the scan, with restart markers after each interval of MCUs (0: none)
abbrev pub written_data : Frame → ScanHead → TableSet → ℕ → Blocks → List ℕ
written_data f head set interval blocks = scan_data (tables_in set) head (scan_elements f head interval blocks)

-- the bits of a unit, by the tables of its component
abbrev pub unit_bits : TableSet → ScanHead → ℕ → ℤ → List ℤ → List Bool
unit_bits set head i last block =
    block_bits (table_codes (tables_in set 0 (part_of head i).dc)) (table_codes (tables_in set 1 (part_of head i).ac)) last block

-- What the state of a sequential scan's sink means.

-- the bits of a unit that is given to it
abbrev pub given_bits : SeqUnits → GivenUnit → List Bool
given_bits s unit = unit_bits s.encoders s.head.now unit.component unit.last unit.block.now

abbrev pub seq_units : BitSink SeqUnits
seq_units = record {
  bits = λ s. interval_bits false (tables_in s.encoders) s.head.now;
  fits = λ s u. HasTables s.encoders (part_of s.head.now u.0) × IsShort u.1;
  rest = λ s last due. flat_map (element_bits (tables_in s.encoders) s.head.now) (unit_elements true false 0 last due);
  later = λ from now. now ≡ from;
}

-- A SEQUENTIAL SCAN THAT IS WRITTEN INTO MEMORY, a part of its units at a time (T.81, F.1.2, E.1.4).

-- THE DESK: one output, which is there from the first on, and inputs of which nothing is known
abbrev pub kept_state : KeptDesk → DeskState
kept_state d = record {
  files = None;
  left = None;
  outputs = Some ((name.Out, d.bytes) ∷ []);
  said = None;
  asked = None;
  counts = d.counts;
  input_open = d.open;
  output_created = true;
}

abbrev pub kept_kind : SinkKind SeqUnits Waiting KeptDesk
kept_kind = bit_kind seq_units kept_state

-- A SCAN of these blocks, by these tables, with a restart marker after each interval of MCUs (0: none)
pub record WrittenScan : Type 0 where
  pub frame : Frame
  pub head : ScanHead
  pub set : TableSet
  pub interval : ℕ
  pub blocks : Blocks

-- its units in order
abbrev pub scan_places : WrittenScan → List Place
scan_places s = units s.frame (head_components s.head)

-- It begins with nothing written.
pub record BeginsKept (s : WrittenScan) (from : At SeqUnits Waiting KeptDesk) : Type 0 where
  pub scan : IsSeqScan s.frame s.head s.set
  pub head : (from.sink).head.now ≡ s.head
  pub set : (from.sink).encoders ≡ s.set
  pub nothing : from.out ≡ nothing_waits
  pub empty : (from.desk).bytes ≡ []

-- All units before those that are left are written.
pub record KeepsScan (s : WrittenScan) (k : KeptScan) : Type 0 where
  pub from : At SeqUnits Waiting KeptDesk
  pub begins : BeginsKept s from
  pub few : (k.units).left ≤ length (scan_places s)
  pub places : (k.units).cursor ≡ drop (length (scan_places s) - (k.units).left) (scan_places s)
  pub going : 1 ≤ (k.units).left → IsGiven kept_kind (new_scan s.frame s.head s.interval s.blocks from) k.units (at k.sink k.out k.desk)
  pub ended : (k.units).left ≡ 0 → kept_kind.ended from (intervals_due s.frame s.head s.interval s.blocks) (Ok tt) k.out k.desk

-- This many of them may be written, of a view with these numbers and blocks.
pub record CanKeep (s : WrittenScan) (f : Frame) (others : Blocks) (count : ℕ) (k : KeptScan) : Type 0 where
  pub keeps : KeepsScan s k
  pub frame : s.frame ≡ f
  pub same : All (AgreeAt s.blocks others) (take count (k.units).cursor)

abbrev pub kept_scan : Frame → ScanHead → TableSet → ℕ → Blocks → WrittenScan
kept_scan f head set interval blocks = record { frame = f; head = head; set = set; interval = interval; blocks = blocks }
