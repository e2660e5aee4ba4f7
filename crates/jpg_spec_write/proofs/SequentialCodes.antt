-- All that a sequential scan writes has a code: in the typical tables with 8 bits, in its own tables otherwise.
use Rattle.std.proofs.Common.{◌≡◌, ℕ, ◌≤◌, Bool, true, false, cond, not, List, [], ◌∷◌, length, refl, sym, ap, ◌∙◌, subst, arith, pos, ◌==◌, ◌&&◌, ◌*◌}
use Rattle.std.specs.Prelude.{map}
use Rattle.jpg_spec.specs.Numbers.{category}
use Rattle.jpg_spec.specs.Geometry.{Frame, bounds, bounds_8, bounds_of, is_progressive, units, mcu_units}
use Rattle.jpg_spec.specs.Segments.{HuffmanTable, ScanHead, table_codes, head_components}
use Rattle.jpg_spec.specs.Elements.{Element, symbol_of, zeros}
use Rattle.jpg_spec.specs.Scan.{Blocks, part_of, scan_coding}
use Rattle.jpg_spec.specs.declared.frame.Place.{Place}
use Rattle.jpg_spec.specs.declared.frame.Bounds.{Bounds}
use Rattle.jpg_spec_write.specs.declared.huffman.Huffman.{Huffman}
use Rattle.jpg_spec_write.specs.Sending.{sent}
use Rattle.jpg_spec_write.specs.ScanText.{UnitDue, Owned, units_due, unit_elements, interval_elements, scan_elements, typical_table, is_plain, own_table, scan_tables}
use Rattle.jpg_spec_write.specs.Written.{IsWritable, HasCode, all_in_force, SpellsDue, sequential_bits}
use Rattle.jpg_spec.proofs.Basics.Small.{are_bounds}
use Rattle.jpg_spec.proofs.Bits.Full.{Has}
use Rattle.jpg_spec.proofs.Basics.Each.{Each, each_map, each_rows}
use Rattle.jpg_spec.proofs.Basics.Common.{both, same_of}
use Rattle.jpg_spec_write.proofs.Writing.{AllHave}
use Rattle.jpg_spec_write.proofs.Full.{ac_full, dc_full, band_have}
use Rattle.jpg_spec_write.proofs.ProgressiveCodes.{IsAc, IsByte, IsCodedAll, elements_coded, own_coded}
use Rattle.jpg_spec_write.proofs.Sequential.{band_sent, all_sent, sent_ac, each_element, sequential_coding, written_spells}
use Rattle.jpg_spec_write.proofs.PlacedBlocks.{each_both, IsRealSendable, placed_writable, due_writable, each_all}
use Rattle.jpg_spec_write.proofs.WrittenScan.{scan_rows, rows_elements}
use Rattle.jpg_spec.proofs.Headers.Precisions.{zero_ac, zero_dc}
use Rattle.jpg_spec_write.specs.Laws.{coding_by, AreWritable, HaveCodes}
use Rattle.std.specs.List.{All}
use Rattle.std.proofs.lemmas.List.Elements.{All-head, All-tail}

-- an element of AC with a code in the table of its component
ac_coded : (tables : ℕ → ℕ → HuffmanTable) (head : ScanHead) (i : ℕ) (es : List Element) → Each IsAc es → AllHave (table_codes (tables 1 (part_of head i).ac)) es → Each (λ e. HasCode tables head (i, e)) es
ac_coded tables head i [] h k = tt
ac_coded tables head i (e ∷ es) h k =
    (subst (λ b. (let place : ℕ × ℕ = cond b (0, (part_of head i).dc) (1, (part_of head i).ac) in Has (table_codes (tables place.0 place.1)) (symbol_of e))) (sym (h.0).ac) k.0, ac_coded tables head i es h.1 k.1)

module _ (f : Frame) (head : ScanHead) (e : is_progressive f.process ≡ false) (due : List UnitDue) (ok : Each (IsWritable (scan_coding f (all_in_force typical_table) head)) due) where
  -- THE TYPICAL TABLES
  pub typical_coded : bounds f ≡ bounds_8 → Each (HasCode typical_table head) (unit_elements true false 0 (λ i. pos 0) due)
  typical_coded eight =
      let c = scan_coding f (all_in_force typical_table) head in
      let s = sequential_coding f typical_table head e in
      let zero = (are_bounds f.precision).zero_dc in
      let most : c.most_category ≤ 10 = omega (arith, s.most, ap (λ (b : Bounds). b.ac_cat) eight) in
      each_element c s (HasCode typical_table head)
      (λ i d few. dc_full (part_of head i).dc (category d) (subst (λ (b : Bounds). category d ≤ b.dc_cat) eight few))
      (λ i vs inside. ac_coded typical_table head i (band_sent vs) (sent_ac c s vs inside) (band_have c i (map (sent false 0) vs) (zeros (length vs)) vs (ac_full (part_of head i).ac) most (all_sent c s vs inside)))
      (λ i. pos 0) due (λ j. zero) ok

  -- THE SCAN'S OWN TABLES: the symbols are bytes

  pub symbols_bytes : Each IsByte (unit_elements true false 0 (λ i. pos 0) due)
  symbols_bytes =
      let c = scan_coding f (all_in_force typical_table) head in
      let s = sequential_coding f typical_table head e in
      let all = are_bounds f.precision in
      each_element c s IsByte (λ i d few. (let most = all.dc_few in (refl, omega (arith, few, most)))) (λ i vs inside. each_map IsAc (λ x. IsByte (i, x)) (band_sent vs) (λ x h. (h.coded, h.byte)) (sent_ac c s vs inside))
      (λ i. pos 0) due (λ j. all.zero_dc) ok

-- THE TABLES OF A SCAN

module _ (huffman : Huffman) (f : Frame) (head : ScanHead) (n : ℕ) (blocks : Blocks) (e : is_progressive f.process ≡ false) where
  -- the elements of the scan
  all : List (List Owned)
  all = scan_elements f head n blocks

  plain_all : scan_elements f head n blocks ≡ map (rows_elements head blocks) (scan_rows f head n)
  plain_all = ap (λ b. map (λ places. interval_elements b head (units_due blocks (λ i. pos 0) places)) (scan_rows f head n)) e

  -- typical ones, or its own
  tables_by : (b : Bool) → (f.precision == 8 && is_plain huffman) ≡ b → scan_tables huffman f head (scan_elements f head n blocks) ≡ (λ class slot. cond b (typical_table class slot) (own_table huffman head (map (rows_elements head blocks) (scan_rows f head n)) class slot))
  tables_by b p =
      ap (λ t. (let due : ℕ → ℕ → HuffmanTable = λ class slot. cond (not t && (f.precision == 8 && is_plain huffman)) (typical_table class slot) (own_table huffman head (scan_elements f head n blocks) class slot) in due)) e
      ∙ ap (λ t. (let due : ℕ → ℕ → HuffmanTable = λ class slot. cond t (typical_table class slot) (own_table huffman head (scan_elements f head n blocks) class slot) in due)) p
      ∙ ap (λ es. (let due : ℕ → ℕ → HuffmanTable = λ class slot. cond b (typical_table class slot) (own_table huffman head es class slot) in due)) plain_all

  pub scan_coded : Each (λ row. Each (IsWritable (scan_coding f (all_in_force typical_table) head)) (units_due blocks (λ i. pos 0) row)) (scan_rows f head n)
      → Each (λ row. Each (HasCode (scan_tables huffman f head (scan_elements f head n blocks)) head) (rows_elements head blocks row)) (scan_rows f head n)
  scan_coded ok = by (f.precision == 8 && is_plain huffman) refl
    where
      rows : List (List Place)
      rows = scan_rows f head n

      Is : List Place → Type 0
      Is row = Each (IsWritable (scan_coding f (all_in_force typical_table) head)) (units_due blocks (λ i. pos 0) row)

      by : (b : Bool) → (f.precision == 8 && is_plain huffman) ≡ b → Each (λ row. Each (HasCode (scan_tables huffman f head (scan_elements f head n blocks)) head) (rows_elements head blocks row)) (scan_rows f head n)
      by true p =
          subst (λ t. Each (λ row. Each (HasCode t head) (rows_elements head blocks row)) rows) (sym (tables_by true p))
          (each_map Is (λ row. Each (HasCode typical_table head) (rows_elements head blocks row)) rows (λ row h. typical_coded f head e (units_due blocks (λ i. pos 0) row) h (ap bounds_of (same_of f.precision 8 (both (f.precision == 8) (is_plain huffman) p).0))) ok)
      by false p =
          subst (λ t. Each (λ row. Each (HasCode t head) (rows_elements head blocks row)) rows) (sym (tables_by false p))
          (each_both Is (λ row. Each (IsCodedAll huffman head (map (rows_elements head blocks) rows)) (rows_elements head blocks row)) (λ row. Each (HasCode (own_table huffman head (map (rows_elements head blocks) rows)) head) (rows_elements head blocks row)) rows
          (λ row h k. each_both IsByte (IsCodedAll huffman head (map (rows_elements head blocks) rows)) (HasCode (own_table huffman head (map (rows_elements head blocks) rows)) head) (rows_elements head blocks row) (λ o b c. own_coded huffman head (map (rows_elements head blocks) rows) o c b)
          (symbols_bytes f head e (units_due blocks (λ i. pos 0) row) h) k) ok (elements_coded huffman head (rows_elements head blocks) rows))

-- the units of each interval may be written
pub rows_writable : (f : Frame) (head : ScanHead) (n : ℕ) (blocks : Blocks) → Each (IsRealSendable (scan_coding f (all_in_force typical_table) head) blocks) (units f (head_components head))
    → Each (λ row. Each (IsWritable (scan_coding f (all_in_force typical_table) head)) (units_due blocks (λ i. pos 0) row)) (scan_rows f head n)
rows_writable f head n blocks sendable =
    let c = scan_coding f (all_in_force typical_table) head in
    each_map (λ row. Each (IsRealSendable c blocks) row) (λ row. Each (IsWritable c) (units_due blocks (λ i. pos 0) row)) (scan_rows f head n)
    (λ row h. due_writable c blocks (λ i. pos 0) row (placed_writable c blocks (λ i. pos 0) row (zero_ac f.precision) (λ i. zero_dc f.precision) h))
    (each_rows (IsRealSendable c blocks) (n * mcu_units f (head_components head)) (units f (head_components head)) sendable)

-- THE LAWS, over all units of an interval

pub all_each : {A : Type 0} (P : A → Type 0) (xs : List A) → All P xs → Each P xs
all_each P [] h = tt
all_each P (x ∷ xs) h = (All-head P x xs h, all_each P xs (All-tail P x xs h))

pub all_written_spell : (f : Frame) (head : ScanHead) (due : List UnitDue) (tables : ℕ → ℕ → HuffmanTable) → AreWritable f head due → HaveCodes tables head due → SpellsDue (coding_by tables f head) due (sequential_bits tables head due)
all_written_spell f head due tables w coded =
    written_spells f tables head due w.sequential (all_each (IsWritable (coding_by tables f head)) due w.each) (all_each (HasCode tables head) (interval_elements false head due) coded)

pub all_typical_coded : (f : Frame) (head : ScanHead) (due : List UnitDue) → AreWritable f head due → f.precision ≡ 8 → HaveCodes typical_table head due
all_typical_coded f head due w p =
    each_all (HasCode typical_table head) (interval_elements false head due)
    (typical_coded f head w.sequential due (all_each (IsWritable (coding_by typical_table f head)) due w.each) (ap bounds_of p))
