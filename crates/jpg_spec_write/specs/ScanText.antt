-- WRITTEN SCANS: their elements, the tables of their codes, and their data (T.81, F.1.2, G.1.2, E.1.4; the choices are
-- this writer's).
use Rattle.std.specs.Prelude.{ℕ, ◌+◌, ◌-◌, ◌*◌, ◌%◌, Bool, true, false, not, nat_lt, ◌&&◌, ◌==◌, if◌then◌else◌, List, [], ◌∷◌, ◌++◌, take, drop, map, flat_map, filter, count_by, slice_index_or, Some, ℤ, pos, nat_abs, ◌-ℤ◌}
use Rattle.jpg_spec.specs.Bits.{data_of}
use Rattle.jpg_spec.specs.Lists.{below, chunks, are_equal, is_among}
use Rattle.jpg_spec.specs.Typical.{dc_luma_counts, dc_luma_values, ac_luma_counts, ac_luma_values, dc_chroma_counts, dc_chroma_values, ac_chroma_counts, ac_chroma_values}
use Rattle.jpg_spec.specs.Geometry.{Frame, units, is_progressive, mcu_units}
use Rattle.jpg_spec.specs.Segments.{HuffmanTable, table_codes, ScanHead, head_components}
use Rattle.jpg_spec.specs.Elements.{Element, difference, dc_bit, value, long_run, ends, is_dc_bit, symbol_of, bits_after, predicted, zeros}
use Rattle.jpg_spec_write.specs.Sending.{Sent, sent, shifted, band_elements}
use Rattle.jpg_spec.specs.Scan.{Blocks, TablesInForce, block_at, part_of}
use Rattle.jpg_spec.specs.declared.frame.Place.{Place}
use Rattle.jpg_spec.specs.Codes.{code_of}
use Rattle.jpg_spec.specs.FlatTable.{flat_table}
use Rattle.jpg_spec_fit.specs.Fitted.{fitted}
use Rattle.jpg_spec_write.specs.declared.huffman.Huffman.{Huffman}
use Rattle.jpg_spec_write.specs.declared.huffman.Huffman.TheVariants.{Plain, Fitted}

-- A SCAN's elements, each with its component

-- a unit that is written: its component and its block
abbrev pub UnitDue : Type 0
UnitDue = ℕ × List ℤ

abbrev pub last_dc : (ℕ → ℤ) → ℕ → List ℤ → ℕ → ℤ
last_dc last component block i = if i == component then slice_index_or block 0 (pos 0) else last i

-- A padding block has the DC of the block before it of its component, and AC 0 (A.2.4).
abbrev pub units_due : Blocks → (ℕ → ℤ) → List Place → List UnitDue
units_due blocks last [] = []
units_due blocks last (p ∷ places) =
    let block = if p.real then block_at blocks p else last p.component ∷ zeros 63 in
    (p.component, block) ∷ units_due blocks (last_dc last p.component block) places

abbrev pub Owned : Type 0
Owned = ℕ × Element

abbrev pub dc_element : Bool → ℕ → ℤ → ℤ → Element
dc_element false al prediction v = difference (shifted al v -ℤ prediction)
dc_element true al prediction v = dc_bit (nat_abs (shifted al v) % 2 == 1)

-- DC of each unit (F.1.1.5.1, F.1.2.1, G.1.2.1); in a sequential scan its band follows (F.1.2.2)
abbrev pub unit_elements : Bool → Bool → ℕ → (ℕ → ℤ) → List UnitDue → List Owned
unit_elements is_seq refines al predictions [] = []
unit_elements is_seq refines al predictions (u ∷ later) =
    let v = slice_index_or u.1 0 (pos 0) in
    (u.0, dc_element refines al (predictions u.0) v)
    ∷ (if is_seq then map (λ e. (u.0, e)) (band_elements 1 0 [] (map (sent false 0) (drop 1 u.1) ∷ [])) else [])
    ++ unit_elements is_seq refines al (predicted predictions u.0 (shifted al v)) later

abbrev pub band_of : ScanHead → List ℤ → List Sent
band_of head block = map (sent (nat_lt 0 head.ah) head.al) (take (head.se + 1 - head.ss) (drop head.ss block))

-- the elements of one interval
abbrev pub interval_elements : Bool → ScanHead → List UnitDue → List Owned
interval_elements is_prog head due =
    if is_prog && nat_lt 0 head.ss then flat_map (λ e. map (λ u. (u.0, e)) (take 1 due)) (band_elements 32767 0 [] (map (λ u. band_of head u.1) due))
    else unit_elements (not is_prog) (is_prog && nat_lt 0 head.ah) (if is_prog then head.al else 0) (λ i. pos 0) due

abbrev pub scan_elements : Frame → ScanHead → ℕ → Blocks → List (List Owned)
scan_elements f head interval blocks =
    map (λ places. interval_elements (is_progressive f.process) head (units_due blocks (λ i. pos 0) places))
    (chunks (interval * mcu_units f (head_components head)) (units f (head_components head)))

-- THE BITS AND DATA of a scan: the first code of each symbol (F.1.2.1, F.1.2.2), pad bits 1 (F.1.2.3), RST0 to RST7 in
-- turn (E.1.4)

abbrev pub is_dc : Element → Bool
is_dc (difference d) = true
is_dc (dc_bit b) = true
is_dc (value run v bits) = false
is_dc (long_run bits) = false
is_dc (ends bands bits) = false

-- the class and slot of the table of an element's code
abbrev pub table_place : ScanHead → Owned → ℕ × ℕ
table_place head e = if is_dc e.1 then (0, (part_of head e.0).dc) else (1, (part_of head e.0).ac)

unfoldable pub element_bits : (ℕ → ℕ → HuffmanTable) → ScanHead → Owned → List Bool
element_bits tables head e =
    (if is_dc_bit e.1 then [] else code_of (table_codes (tables (table_place head e).0 (table_place head e).1)) (symbol_of e.1)) ++ bits_after e.1

abbrev pub intervals_text : ℕ → List (List ℕ) → List ℕ
intervals_text turn [] = []
intervals_text turn (coded ∷ []) = coded
intervals_text turn (coded ∷ next ∷ intervals) = coded ++ 255 ∷ (0xd0 + turn % 8) ∷ intervals_text (turn + 1) (next ∷ intervals)

unfoldable pub scan_data : (ℕ → ℕ → HuffmanTable) → ScanHead → List (List Owned) → List ℕ
scan_data tables head intervals = intervals_text 0 (map (λ elements. data_of (flat_map (element_bits tables head) elements)) intervals)

-- TABLES

-- the symbols that the scan writes by the table of a class and slot, in their order
abbrev pub symbols_written : ScanHead → List (List Owned) → ℕ → ℕ → List ℕ
symbols_written head intervals class slot =
    let own = λ (e : Owned). not (is_dc_bit e.1) && (table_place head e).0 == class && (table_place head e).1 == slot in
    map (λ (e : Owned). symbol_of e.1) (filter own (flat_map (λ elements. elements) intervals))

-- which they are, ascending
unfoldable pub symbols_used : ScanHead → List (List Owned) → ℕ → ℕ → List ℕ
symbols_used head intervals class slot =
    let written = symbols_written head intervals class slot in filter (λ symbol. is_among symbol written) (below 256)

-- by symbol, how often it is written: FREQ of K.2
unfoldable pub symbol_counts : ScanHead → List (List Owned) → ℕ → ℕ → List ℕ
symbol_counts head intervals class slot =
    let written = symbols_written head intervals class slot in map (λ symbol. count_by (λ s. s == symbol) written) (below 256)

abbrev pub typical_table : ℕ → ℕ → HuffmanTable
typical_table class slot =
    if class == 0
    then (if slot == 0 then record { counts = dc_luma_counts; symbols = dc_luma_values } else record { counts = dc_chroma_counts; symbols = dc_chroma_values })
    else (if slot == 0 then record { counts = ac_luma_counts; symbols = ac_luma_values } else record { counts = ac_chroma_counts; symbols = ac_chroma_values })

-- Tables K.3 to K.6 (K.3) in slots 0 and 1
abbrev pub typical_tables : TablesInForce
typical_tables class slot = Some (typical_table class slot)

abbrev pub is_plain : Huffman → Bool
is_plain Plain = true
is_plain Fitted = false

-- the flat table of what the scan writes, or the one that is made for how often it writes each symbol
abbrev pub own_table : Huffman → ScanHead → List (List Owned) → ℕ → ℕ → HuffmanTable
own_table Plain head intervals class slot = flat_table (symbols_used head intervals class slot)
own_table Fitted head intervals class slot = fitted (symbol_counts head intervals class slot)

-- if plain ones are asked for, typical tables in sequential scans of precision 8; otherwise tables of the scan's own
abbrev pub scan_tables : Huffman → Frame → ScanHead → List (List Owned) → ℕ → ℕ → HuffmanTable
scan_tables huffman f head intervals class slot =
    if not (is_progressive f.process) && (f.precision == 8 && is_plain huffman) then typical_table class slot
    else own_table huffman head intervals class slot

abbrev pub is_same : HuffmanTable → HuffmanTable → Bool
is_same a b = are_equal a.counts b.counts && are_equal a.symbols b.symbols
