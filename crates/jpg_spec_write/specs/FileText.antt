-- THE FILE WRITTEN for a meaning with its header (T.81, B.2; the choices are this writer's).
use Rattle.std.specs.Prelude.{ℕ, ◌+◌, ◌*◌, min, Bool, true, false, ◌&&◌, ◌||◌, ◌==◌, if◌then◌else◌, List, [], ◌∷◌, ◌++◌, length, map, flat_map, slice_index_or, Option, Some, None}
use Rattle.std.specs.Int.{to_be_bytes, w16}
use Rattle.jpg_spec.specs.Lists.{any_of, are_equal}
use Rattle.jpg_spec.specs.Geometry.{Frame, is_progressive, scan_mcus_across}
use Rattle.jpg_spec.specs.Segments.{HuffmanTable, QuantTable, ScanHead, head_components, needs_dc, needs_ac}
use Rattle.jpg_spec.specs.Markers.{soi, eoi}
use Rattle.jpg_spec.specs.Meaning.{Meaning, PictureComponent, colour_of, picture_frame}
use Rattle.jpg_spec_write.specs.Headed.{is_wide}
use Rattle.jpg_spec_write.specs.Script.{Entry, sequential_script}
use Rattle.jpg_spec_write.specs.ScanText.{scan_elements, scan_tables, scan_data, is_same}
use Rattle.jpg_spec_write.specs.declared.huffman.Huffman.{Huffman}
use Rattle.jpg_spec_write.specs.declared.huffman.Huffman.TheVariants.{Plain}
use Rattle.jpg_spec.specs.declared.frame.Process.{Process}
use Rattle.jpg_spec.specs.declared.frame.Process.TheVariants.{Baseline, Extended, Progressive}
use Rattle.jpg_spec.specs.declared.frame.Colour.{Colour}
use Rattle.jpg_spec.specs.declared.frame.Colour.TheVariants.{Gray, YCbCr, Rgb, Cmyk, Ycck, Unknown}

-- SEGMENTS

-- a marker and its segment (B.1.1.4)
abbrev pub segment_text : ℕ → List ℕ → List ℕ
segment_text code contents = 255 ∷ code ∷ to_be_bytes w16 (length contents + 2) ++ contents

abbrev pub kept_text : List (ℕ × List ℕ) → List ℕ
kept_text kept = flat_map (λ s. segment_text s.0 s.1) kept

-- the distinct tables, in the order of their first use
abbrev pub distinct_after : List QuantTable → List QuantTable → List QuantTable
distinct_after seen [] = []
distinct_after seen (table ∷ tables) =
    if any_of (are_equal table) seen then distinct_after seen tables else table ∷ distinct_after (table ∷ seen) tables

abbrev pub distinct_quants : Meaning → List QuantTable
distinct_quants H = distinct_after [] (map (λ c. c.quants) H.components)

abbrev pub slot_in : List QuantTable → QuantTable → ℕ
slot_in [] table = 0
slot_in (t ∷ tables) table = if are_equal t table then 0 else 1 + slot_in tables table

-- a table in a segment of its own (B.2.4.1, Figure B.6)
abbrev pub quant_text : ℕ → QuantTable → List ℕ
quant_text slot table =
    segment_text 0xdb (((if is_wide table then 16 else 0) + slot) ∷ (if is_wide table then flat_map (to_be_bytes w16) table else table))

abbrev pub quants_text : Meaning → List ℕ
quants_text H = flat_map (λ table. quant_text (slot_in (distinct_quants H) table) table) (distinct_quants H)

abbrev pub sof_code : Process → ℕ
sof_code Baseline = 0xc0
sof_code Extended = 0xc1
sof_code Progressive = 0xc2

abbrev pub component_bytes : Meaning → PictureComponent → List ℕ
component_bytes H c = c.id ∷ (16 * c.h + c.v) ∷ slot_in (distinct_quants H) c.quants ∷ []

-- the frame header (B.2.2, Figure B.3)
abbrev pub frame_text : Meaning → List ℕ
frame_text H =
    segment_text (sof_code H.process)
    (H.precision ∷ to_be_bytes w16 H.height ++ to_be_bytes w16 H.width ++ length H.components ∷ flat_map (component_bytes H) H.components)

-- all before the scans: SOI, the kept markers, the quantisation tables, the frame header
abbrev pub front_text : Meaning → List ℕ
front_text H = soi ++ kept_text H.kept ++ quants_text H ++ frame_text H

-- the frame's numbers, with the slots of the tables
abbrev pub frame_of_meaning : Meaning → Frame
frame_of_meaning H = record (picture_frame H) {
  components = map (λ c. record { id = c.id; h = c.h; v = c.v; quant = slot_in (distinct_quants H) c.quants }) H.components;
}

-- SCANS

-- slot 1 for components 2 and 3 of YCbCr and YCCK
abbrev pub has_chroma : Colour → Bool
has_chroma YCbCr = true
has_chroma Ycck = true
has_chroma Gray = false
has_chroma Rgb = false
has_chroma Cmyk = false
has_chroma Unknown = false

abbrev pub slot_for : Colour → ℕ → ℕ
slot_for colour i = if has_chroma colour && (i == 1 || i == 2) then 1 else 0

-- the scan header; a slot number that isn't needed is 0 (B.2.3)
abbrev pub written_head : Meaning → Entry → ScanHead
written_head H e =
    let is_prog = is_progressive H.process in
    record {
      parts = map (λ i. record { component = i; dc = if needs_dc is_prog e.ss e.ah then slot_for (colour_of H) i else 0; ac = if needs_ac is_prog e.ss then slot_for (colour_of H) i else 0 }) e.components;
      ss = if is_prog then e.ss else 0;
      se = if is_prog then e.se else 63;
      ah = if is_prog then e.ah else 0;
      al = if is_prog then e.al else 0;
    }

-- its segment (B.2.3, Figure B.4)
abbrev pub head_text : Meaning → ScanHead → List ℕ
head_text H head =
    segment_text 0xda (length head.parts ∷ flat_map (λ p. slice_index_or (map (λ c. c.id) H.components) p.component 0 ∷ (16 * p.dc + p.ac) ∷ []) head.parts
    ++ head.ss ∷ head.se ∷ (16 * head.ah + head.al) ∷ [])

-- the classes and slots that a scan needs, per component DC and then AC
abbrev pub tables_needed : Bool → Entry → ScanHead → List (ℕ × ℕ)
tables_needed is_prog e head =
    flat_map (λ p. (if needs_dc is_prog e.ss e.ah then (0, p.dc) ∷ [] else []) ++ (if needs_ac is_prog e.ss then (1, p.ac) ∷ [] else [])) head.parts

-- what was written so far: the last table of each class and slot, and the restart interval
pub record Written : Type 0 where
  pub tables : ℕ → ℕ → Option HuffmanTable
  pub interval : ℕ

abbrev pub holds_table : Option HuffmanTable → HuffmanTable → Bool
holds_table None table = false
holds_table (Some old) table = is_same old table

abbrev pub with_table : (ℕ → ℕ → Option HuffmanTable) → ℕ → ℕ → HuffmanTable → ℕ → ℕ → Option HuffmanTable
with_table tables class slot table c s = if c == class && s == slot then Some table else tables c s

-- a DHT segment for each needed table that isn't the last one of its class and slot (B.2.4.2, Figure B.7)
abbrev pub tables_text : (ℕ → ℕ → Option HuffmanTable) → (ℕ → ℕ → HuffmanTable) → List (ℕ × ℕ) → List ℕ
tables_text given due [] = []
tables_text given due (n ∷ needed) =
    let table = due n.0 n.1 in
    if holds_table (given n.0 n.1) table then tables_text given due needed
    else segment_text 0xc4 ((16 * n.0 + n.1) ∷ table.counts ++ table.symbols) ++ tables_text (with_table given n.0 n.1 table) due needed

abbrev pub tables_given : (ℕ → ℕ → Option HuffmanTable) → (ℕ → ℕ → HuffmanTable) → List (ℕ × ℕ) → ℕ → ℕ → Option HuffmanTable
tables_given given due [] = given
tables_given given due (n ∷ needed) = tables_given (with_table given n.0 n.1 (due n.0 n.1)) due needed

pub data Restart : Type 0 where
  off : Restart
  rows : ℕ → Restart
  mcus : ℕ → Restart

abbrev pub interval_of : Frame → ScanHead → Restart → ℕ
interval_of f head off = 0
interval_of f head (rows n) = min (n * scan_mcus_across f (head_components head)) 65535
interval_of f head (mcus n) = n

-- the scans of a script, after what was written so far: the tables that change, DRI if the interval does (B.2.4.4), the
-- header and the data (B.2.1)
unfoldable pub scans_text : Huffman → Meaning → Restart → Written → List Entry → List ℕ
scans_text huffman H restart written [] = []
scans_text huffman H restart written (e ∷ script) =
    let f = frame_of_meaning H in
    let head = written_head H e in
    let interval = interval_of f head restart in
    let elements = scan_elements f head interval H.blocks in
    let tables = scan_tables huffman f head elements in
    let needed = tables_needed (is_progressive H.process) e head in
    tables_text written.tables tables needed
    ++ (if interval == written.interval then [] else segment_text 0xdd (to_be_bytes w16 interval))
    ++ head_text H head ++ scan_data tables head elements
    ++ scans_text huffman H restart (record { tables = tables_given written.tables tables needed; interval = interval }) script

abbrev pub nothing_written : Written
nothing_written = record { tables = λ class slot. None; interval = 0 }

-- the file (B.2.1, Figure B.2)
unfoldable pub file_text : Huffman → Meaning → List Entry → Restart → List ℕ
file_text huffman H script restart =
    front_text H ++ scans_text huffman H restart nothing_written script ++ eoi

-- the text of a meaning with its header in one sequential scan with plain tables and without restarts
abbrev pub sequential_text : Meaning → List ℕ
sequential_text H = file_text Plain H (sequential_script (frame_of_meaning H)) off
