-- WHAT COUNTING SINKS MARK: each symbol that a scan writes, by the tables of their codes (T.81, F.1.2, G.1.2).
use Rattle.std.specs.Prelude.{◌≡◌, ℕ, ◌<◌, ◌≤◌, Bool, if◌then◌else◌, List, [], ◌∷◌, ◌++◌, length, map, flat_map, All, ℤ, Ok}
use Rattle.jpg_spec.specs.Geometry.{Frame, is_progressive}
use Rattle.jpg_spec.specs.Segments.{ScanHead}
use Rattle.jpg_spec.specs.Elements.{symbol_of, is_dc_bit}
use Rattle.jpg_spec.specs.Scan.{Blocks}
use Rattle.jpg_spec.specs.declared.frame.ScanPart.{ScanPart}
use Rattle.jpg_spec_write.specs.ScanText.{UnitDue, Owned, table_place, interval_elements, scan_elements, symbols_used, symbol_counts}
use Rattle.jpg_huff.specs.Flat.{symbols_in}
use Rattle.jpg_huff.specs.Counts.{Rows, row, capped, Mark, Notes, NotesBut}
use Rattle.jpg_huff.specs.declared.counts.SymbolCounts.{SymbolCounts}
use Rattle.jpg_coefs.specs.Sinks.{intervals_due, At, Due, SinkKind}

-- the slots of a part
pub record HasSlots (p : ScanPart) : Type 0 where
  pub dc : p.dc < 2
  pub ac : p.ac < 2

-- by slots, how often the scan writes each symbol of a class, and so which ones it writes
pub record CountsClass (f : Frame) (head : ScanHead) (interval : ℕ) (blocks : Blocks) (class : ℕ) (rows : Rows) : Type 0 where
  pub counts : (slot : ℕ) → slot < 2 → row rows slot ≡ map capped (symbol_counts head (scan_elements f head interval blocks) class slot)
  pub used : (slot : ℕ) → slot < 2 → symbols_in (row rows slot) ≡ symbols_used head (scan_elements f head interval blocks) class slot
  -- no symbol is 255
  pub few : (slot : ℕ) → slot < 2 → length (symbols_in (row rows slot)) ≤ 255

-- the mark of an element; raw bits have no symbol
abbrev pub owned_marks : ScanHead → Owned → List Mark
owned_marks head e = if is_dc_bit e.1 then [] else (table_place head e, symbol_of e.1) ∷ []

-- those of an interval, and of a scan
abbrev pub interval_marks : Bool → ScanHead → List UnitDue → List Mark
interval_marks is_prog head due = flat_map (owned_marks head) (interval_elements is_prog head due)

unfoldable pub scan_marks : Frame → ScanHead → ℕ → Blocks → List Mark
scan_marks f head interval blocks = flat_map (interval_marks (is_progressive f.process) head) (intervals_due f head interval blocks)

-- A sink whose results are marks: as a sink of bits.
pub record MarkSink (S : Type 0) : Type 1 where
  pub marks : S → List UnitDue → List Mark
  pub fits : S → UnitDue → Type 0
  pub rest : S → (ℕ → ℤ) → List UnitDue → List Mark
  pub later : S → S → Type 0

pub record CountsDue {S D : Type 0} (b : MarkSink S) (d : Due S SymbolCounts D) (now : At S SymbolCounts D) : Type 0 where
  pub sink : b.later d.from.sink now.sink
  pub rest_fits : All (b.fits d.from.sink) d.rest
  pub later_fits : All (λ due. All (b.fits d.from.sink) due) d.later
  pub counting : NotesBut d.from.out (flat_map (b.marks d.from.sink) d.all) (b.rest now.sink d.last d.rest ++ flat_map (b.marks d.from.sink) d.later) now.out

-- counting has no faults
abbrev pub mark_kind : {S D : Type 0} → MarkSink S → SinkKind S SymbolCounts D
mark_kind b = record {
  due = λ d now. CountsDue b d now;
  ended = λ from all result out desk. (result ≡ Ok tt) × Notes from.out (flat_map (b.marks from.sink) all) out;
}
