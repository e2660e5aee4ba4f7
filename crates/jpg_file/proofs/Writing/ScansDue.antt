-- The header of a scan that is written, and which tables it needs.
use Rattle.std.proofs.Common.{◌≡◌, ℕ, zero, suc, ◌<◌, Bool, cond, List, Option, Some, sym, ap, ◌∙◌, arith, lit<, refl, false, ◌≤◌, true, [], ◌∷◌, ◌++◌, length, get_or, subst, ◌==◌, ◌&&◌, slice_set, unwrap_or, flat_map, map, ◌||◌, option_map, w16, All, ◌+◌, ◌*◌, drop, None, append-nil, append_assoc, drop-cons, min, nat_le, slice_get, Result, Ok, Err, ◌-◌, not}
use Rattle.jpg_spec.specs.Geometry.{Frame, is_progressive, bounds_of}
use Rattle.jpg_spec.specs.Segments.{HuffmanTable, ScanHead, head_components, needs_dc, needs_ac, QuantTable}
use Rattle.jpg_spec.specs.declared.frame.ScanPart.{ScanPart}
use Rattle.jpg_spec_write.specs.ScanText.{Owned, own_table, scan_tables, typical_table, scan_data, scan_elements, is_plain}
use Rattle.jpg_spec_write.specs.declared.huffman.Huffman.{Huffman}
use Rattle.jpg_huff.specs.declared.table.Table.{Table}
use Rattle.jpg_huff.specs.declared.set.TableSet.{TableSet}
use Rattle.jpg_huff.specs.Sets.{dc_tables, ac_tables, in_slot, no_tables}
use Rattle.jpg_huff.specs.Tables.{table_of}
use Rattle.jpg_seq.specs.Reader.{HasTables, IsSeqScan}
use Rattle.jpg_coefs.specs.MarkSinks.{HasSlots}
use Rattle.jpg_prog_write.specs.Written.{no_codes, tables_in, IsProgScan}
use Rattle.jpg_file.specs.Write.WriteScan.{CanCount, GivesTables, IsInSlot, class_tables, has_typical, IsTablePlace, interval_text, CanWriteScan, IsDue, IsHeadOf, head_for, scan_head, scan_part, given_by, CanWriteDue, due_text, due_written, head_due, interval_for, needed_for, scan_bytes, tables_due, written_after, CanWriteScans, head_bytes, scans_bytes, scans_due, CanStart}
use Rattle.std.specs.Int.{to_be_bytes}
use Rattle.std.proofs.lemmas.List.{length-map}
use Rattle.std.proofs.lemmas.List.Elements.{All-nil, All-cons, All-head, All-tail, All-append, All-map, All-weaker, All-get_or}
use Rattle.jpg_spec.specs.Lists.{is_distinct, all_of, below, is_among}
use Rattle.jpg_spec.specs.Scan.{Blocks, TablesInForce}
use Rattle.jpg_spec.specs.ScanContents.{are_parameters, is_band}
use Rattle.jpg_spec.specs.declared.frame.Colour.{Colour}
use Rattle.jpg_spec.proofs.Basics.Common.{same_itself, same_of, both, eq_swap, not_zero, clash, negated}
use Rattle.jpg_spec.proofs.Basics.Small.{are_bounds}
use Rattle.jpg_spec_write.specs.FileText.{has_chroma, segment_text, holds_table, tables_given, tables_text, with_table, Written, interval_of, tables_needed, Restart, off, rows, mcus, distinct_quants, file_text, frame_of_meaning, front_text, nothing_written, scans_text, slot_in, written_head}
use Rattle.jpg_spec_write.specs.Script.{Entry}
use Rattle.jpg_base.specs.Cursor.{AreIn}
use Rattle.jpg_file.specs.declared.write.Plan.{Plan}
use Rattle.jpg_file.specs.declared.write.scan.ScanDue.{ScanDue}
use Rattle.jpg_file.proofs.Headers.HeaderTaken.{Says, says_of}
use Rattle.std.proofs.lemmas.Bool.Decides.{nat_tests}
use Rattle.std.proofs.Math.Path.{fun_ext}
use Rattle.jpg_spec_write.proofs.WrittenState.{holds_is}
use Rattle.jpg_spec.specs.FrameHeader.{identifiers}
use Rattle.jpg_scans.specs.Restarts.{restart_of}
use Rattle.jpg_file.proofs.Writing.FewSymbols.{data_same, elements_same, same_mcus}
use Rattle.std.proofs.lemmas.Option.{get_or_from_slice_get, slice_get_within}
use Rattle.jpg_spec.specs.Grids.{Grids, frame_grids}
use Rattle.jpg_spec.specs.Markers.{eoi}
use Rattle.jpg_spec.specs.Meaning.{Meaning, PictureComponent, colour_of}
use Rattle.jpg_spec.specs.declared.frame.Component.{Component}
use Rattle.jpg_spec.proofs.Basics.Each.{Each}
use Rattle.jpg_spec_write.specs.WrittenFile.{is_progressive_after, is_progressive_entry, is_script_after, is_sequential_entry}
use Rattle.jpg_spec_write.proofs.PlacedBlocks.{each_all}
use Rattle.jpg_spec_write.proofs.ProgressiveKnown.{progressive_entry}
use Rattle.jpg_spec_write.proofs.WrittenSequential.{entry_is}
use Rattle.jpg_markers.specs.OutHead.{head_meaning, with_tables}
use Rattle.jpg_markers.proofs.Distinct.{left_at}
use Rattle.jpg_file.specs.Write.WriteFile.{CanWriteFile, file_bytes, file_meaning, AreAppended, WritesDue, IsOfAll, IsSole, sole_text}
use Rattle.jpg_spec_write.proofs.ScriptGrids.{same_count}
use Rattle.jpg_base.specs.declared.stop.WriteFault.{WriteFault}
use Rattle.jpg_base.specs.Desk.{DeskState, AppendsLast}
use Rattle.jpg_huff.specs.BitOut.{Sends, nothing_waits}
use Rattle.jpg_huff.specs.Out.{Emits}
use Rattle.jpg_huff.specs.Waiting.{Waiting}
use Rattle.jpg_huff.proofs.Together.{sends_then, sends_fault, sends_same}
use Rattle.jpg_spec.proofs.Bits.FirstPasses.{all_below}
use Rattle.jpg_spec.proofs.McuRows.RowCounts.{AreBelow, all_named}
use Rattle.jpg_seq.specs.ScanWritten.{written_data}
use Rattle.jpg_file.specs.declared.write.sole.SoleScan.{SoleScan}

-- Sets that have the tables of a scan.

two : (P : ℕ → Type 0) → P 0 → P 1 → (n : ℕ) → n < 2 → P n
two P a b zero h = a
two P a b (suc zero) h = b
two P a b (suc (suc n)) h = absurd (omega (arith, h))

-- two tables put into the first two slots of four
pub two_slots : (s0 s1 s2 : List (Option Table)) (a b : Table) (tables : ℕ → HuffmanTable) → length s0 ≡ 4 → s1 ≡ slice_set s0 0 (Some a) → s2 ≡ slice_set s1 1 (Some b) → table_of a ≡ tables 0 → table_of b ≡ tables 1
    → (slot : ℕ) → slot < 2 → IsInSlot s2 slot (tables slot)
two_slots s0 s1 s2 a b tables l f g is_a is_b =
    let is = g ∙ ap (λ s. slice_set s 1 (Some b)) f in
    two (λ slot. IsInSlot s2 slot (tables slot)) (a, ap (λ s. in_slot s 0) is ∙ (put s0 l).0, is_a) (b, ap (λ s. in_slot s 1) is ∙ (put s0 l).1, is_b)
  where
    put : (s : List (Option Table)) → length s ≡ 4 → (let t = slice_set (slice_set s 0 (Some a)) 1 (Some b) in (in_slot t 0 ≡ Some a) × (in_slot t 1 ≡ Some b))
    put [] l = absurd (omega (arith, l))
    put (x ∷ []) l = absurd (omega (arith, l))
    put (x ∷ y ∷ s) l = (refl, refl)

pub four_given : (set : TableSet) (tables : ℕ → ℕ → HuffmanTable) → ((slot : ℕ) → slot < 2 → IsInSlot (dc_tables set) slot (tables 0 slot)) → ((slot : ℕ) → slot < 2 → IsInSlot (ac_tables set) slot (tables 1 slot))
    → GivesTables set tables
four_given set tables dc ac class slot hc hs = two (λ class. IsInSlot (class_tables set class) slot (tables class slot)) (dc slot hs) (ac slot hs) class hc

-- the table that is found in a slot
pub found : (set : TableSet) (class slot : ℕ) (t : Table) → in_slot (class_tables set class) slot ≡ Some t → tables_in set class slot ≡ table_of t
found set class slot t e = ap (λ o. unwrap_or (option_map table_of o) no_codes) e

pub set_same : (set : TableSet) (tables : ℕ → ℕ → HuffmanTable) → GivesTables set tables → (class slot : ℕ) → class < 2 → slot < 2 → tables_in set class slot ≡ tables class slot
set_same set tables has class slot hc hs = let at = has class slot hc hs in found set class slot at.0 at.1 ∙ at.2

pub given_own : (set : TableSet) (tables : ℕ → ℕ → HuffmanTable) → GivesTables set tables → GivesTables set (tables_in set)
given_own set tables has class slot hc hs = let at = has class slot hc hs in (at.0, at.1, sym (found set class slot at.0 at.1))

pub has_tables : (set : TableSet) (tables : ℕ → ℕ → HuffmanTable) (p : ScanPart) → GivesTables set tables → HasSlots p → HasTables set p
has_tables set tables p has low =
    let dc = has 0 p.dc (lit< tt) low.dc in
    let ac = has 1 p.ac (lit< tt) low.ac in
    record { dc = dc.0; in_dc = dc.1; ac = ac.0; in_ac = ac.1 }

-- THE TABLES OF A FILE'S KIND AND PRECISION

abbrev pub tables_by : Bool → Huffman → ScanHead → List (List Owned) → ℕ → ℕ → HuffmanTable
tables_by is_typical huffman head elements class slot = cond is_typical (typical_table class slot) (own_table huffman head elements class slot)

pub kind_given : (huffman : Huffman) (file : Frame) (head : ScanHead) (elements : List (List Owned)) (set : TableSet) (is_typical : Bool) → has_typical huffman file ≡ is_typical
    → GivesTables set (tables_by is_typical huffman head elements) → GivesTables set (scan_tables huffman file head elements)
kind_given huffman file head elements set is_typical e has class slot hc hs =
    let at = has class slot hc hs in
    (at.0, at.1, at.2 ∙ ap (λ b. tables_by b huffman head elements class slot) (sym e))

-- ITS PARTS

named_parts : (colour : Colour) (a b : Bool) (components : List ℕ) → map (λ (p : ScanPart). p.component) (map (scan_part colour a b) components) ≡ components
named_parts colour a b [] = refl
named_parts colour a b (i ∷ components) = ap (λ l. i ∷ l) (named_parts colour a b components)

pub head_names : (is_prog : Bool) (colour : Colour) (e : Entry) → head_components (scan_head is_prog colour e) ≡ e.components
head_names is_prog colour e = named_parts colour (needs_dc is_prog e.ss e.ah) (needs_ac is_prog e.ss) e.components

pub head_count : (is_prog : Bool) (colour : Colour) (e : Entry) → length (scan_head is_prog colour e).parts ≡ length e.components
head_count is_prog colour e = length-map e.components (scan_part colour (needs_dc is_prog e.ss e.ah) (needs_ac is_prog e.ss))

low : (a b : Bool) → cond a (cond b 1 0) 0 < 2
low true true = lit< tt
low true false = lit< tt
low false b = lit< tt

slots_of : (colour : Colour) (a b : Bool) (i : ℕ) → HasSlots (scan_part colour a b i)
slots_of colour a b i = record { dc = low a (has_chroma colour && (i == 1 || i == 2)); ac = low b (has_chroma colour && (i == 1 || i == 2)) }

pub head_slots : (is_prog : Bool) (colour : Colour) (e : Entry) → All HasSlots (scan_head is_prog colour e).parts
head_slots is_prog colour e =
    let has_dc = needs_dc is_prog e.ss e.ah in
    let has_ac = needs_ac is_prog e.ss in
    All-map HasSlots (scan_part colour has_dc has_ac) e.components (λ k d h. slots_of colour has_dc has_ac (get_or e.components k d))

-- THE TABLES that it needs

abbrev part_needs : Bool → Bool → ScanPart → List (ℕ × ℕ)
part_needs a b p = cond a ((0, p.dc) ∷ []) [] ++ cond b ((1, p.ac) ∷ []) []

place_needed : (b : Bool) (n : ℕ × ℕ) → IsTablePlace n → All IsTablePlace (cond b (n ∷ []) [])
place_needed true n h = All-cons IsTablePlace n [] h (All-nil IsTablePlace)
place_needed false n h = All-nil IsTablePlace

pub places_needed : (a b : Bool) (parts : List ScanPart) → All HasSlots parts → All IsTablePlace (flat_map (part_needs a b) parts)
places_needed a b [] all = All-nil IsTablePlace
places_needed a b (p ∷ parts) all =
    let slots = All-head HasSlots p parts all in
    let dc = place_needed a (0, p.dc) (record { class = lit< tt; slot = slots.dc }) in
    let ac = place_needed b (1, p.ac) (record { class = lit< tt; slot = slots.ac }) in
    All-append IsTablePlace (part_needs a b p) (flat_map (part_needs a b) parts) (All-append IsTablePlace (cond a ((0, p.dc) ∷ []) []) (cond b ((1, p.ac) ∷ []) []) dc ac)
    (places_needed a b parts (All-tail HasSlots p parts all))

-- WHAT CAN BE WRITTEN

module _ (plan : Plan) (f : Frame) (blocks : Blocks) (e : Entry) (can : CanWriteScan plan f blocks e) where
  names : head_components (head_for plan e) ≡ e.components
  names = head_names (is_progressive plan.out.frame.process) plan.out.colour e

  count : length (head_for plan e).parts ≡ length e.components
  count = head_count (is_progressive plan.out.frame.process) plan.out.colour e

  pub in_file : AreIn plan.out.frame (head_components (head_for plan e))
  in_file = subst (AreIn plan.out.frame) (sym names) (record { some = can.seen.some; few = can.seen.few; there = can.there })

  pub in_view : AreIn f (head_components (head_for plan e))
  in_view = subst (AreIn f) (sym names) can.seen

  high_of : (head : ScanHead) → Says f head → head.al ≤ 13 → head.ah ≤ 14
  high_of head says low = by (head.ah == 0) refl
    where
      by : (b : Bool) → (head.ah == 0) ≡ b → head.ah ≤ 14
      by true h = let z = same_of head.ah 0 h in omega (arith, z)
      by false h = let one = says.later h in omega (arith, one, low)

  bits_fit : (b : Bool) → is_progressive plan.out.frame.process ≡ b → ((head_for plan e).ah ≤ 14) × ((head_for plan e).al ≤ 13)
  bits_fit true p =
      let says = says_of f (length e.components) (head_for plan e) (can.parameters (can.kind ∙ p)) in
      let al = says.al in
      let few = (are_bounds f.precision).al_few in
      let low : (head_for plan e).al ≤ 13 = omega (arith, al, few) in
      (high_of (head_for plan e) says low, low)
  bits_fit false s =
      let ah : (head_for plan e).ah ≡ 0 = ap (λ b. cond b e.ah 0) s in
      let al : (head_for plan e).al ≡ 0 = ap (λ b. cond b e.al 0) s in
      (omega (arith, ah), omega (arith, al))

  pub head_is_of : IsHeadOf plan.out.frame (head_for plan e)
  head_is_of =
      let l = count in
      let most = can.seen.few in
      let fit = bits_fit (is_progressive plan.out.frame.process) refl in
      record {
        few = omega (arith, l, most);
        there = All-map (λ (p : ScanPart). p.component < length plan.out.frame.components) (scan_part plan.out.colour (needs_dc (is_progressive plan.out.frame.process) e.ss e.ah) (needs_ac (is_progressive plan.out.frame.process) e.ss)) e.components can.there;
        slots = head_slots (is_progressive plan.out.frame.process) plan.out.colour e;
        high = fit.0;
        low = fit.1;
      }

  pub prog_scan : is_progressive f.process ≡ true → IsProgScan f (head_for plan e)
  prog_scan p =
      record {
        progressive = p;
        components = in_view;
        parameters = subst (λ n. are_parameters f n (head_for plan e) ≡ true) (sym count) (can.parameters p);
      }

  pub can_count : (due : ScanDue) → IsDue plan e due → CanCount plan.out.frame f blocks due.head
  can_count due is =
      let head : CanCount plan.out.frame f blocks (head_for plan e) = record {
        kind = can.kind;
        components = in_view;
        scan = λ p. prog_scan (can.kind ∙ p);
        distinct = ap is_distinct names ∙ can.distinct;
        slots = head_slots (is_progressive plan.out.frame.process) plan.out.colour e;
        writable = can.writable;
      } in
      subst (CanCount plan.out.frame f blocks) (sym is.head) head

  pub seq_scan : (set : TableSet) (tables : ℕ → ℕ → HuffmanTable) → GivesTables set tables → is_progressive f.process ≡ false → IsSeqScan f (head_for plan e) set
  seq_scan set tables has s =
      record {
        sequential = s;
        components = in_view;
        distinct = ap is_distinct names ∙ can.distinct;
        tables = All-weaker HasSlots (HasTables set) (λ p low. has_tables set tables p has low) (head_for plan e).parts (head_slots (is_progressive plan.out.frame.process) plan.out.colour e);
      }

-- the interval is the one before
pub no_interval : (last n : ℕ) → n ≡ last → [] ≡ interval_text last n
no_interval last n e = sym (ap (λ b. cond b [] (segment_text 0xdd (to_be_bytes w16 n))) (ap (λ m. m == last) e ∙ same_itself last))

-- What a scan is written with, and its text.

-- Tables that are pending, and the last ones of each class and slot.

abbrev seen : List (Option Table) → ℕ → Option HuffmanTable
seen tables slot = option_map table_of (in_slot tables slot)

-- NONE AT FIRST

none_in : (slot : ℕ) → seen no_tables slot ≡ None
none_in zero = refl
none_in (suc zero) = refl
none_in (suc (suc zero)) = refl
none_in (suc (suc (suc zero))) = refl
none_in (suc (suc (suc (suc n)))) = refl

pub none_by : (set : TableSet) → dc_tables set ≡ no_tables → ac_tables set ≡ no_tables → given_by set ≡ (λ class slot. None)
none_by set d a = fun_ext (λ class. fun_ext (λ slot. by slot (class == 0) (class == 1)))
  where
    by : (slot : ℕ) (k b : Bool) → cond k (seen (dc_tables set) slot) (cond b (seen (ac_tables set) slot) None) ≡ None
    by slot true b = ap (λ ts. seen ts slot) d ∙ none_in slot
    by slot false true = ap (λ ts. seen ts slot) a ∙ none_in slot
    by slot false false = refl

-- ONE IS PUT

next_slot : (s slot : ℕ) → (s == slot) ≡ (suc s == suc slot)
next_slot s slot = grind (arith, nat_tests)

slot_put : (tables : List (Option Table)) (slot s : ℕ) (t : Table) → slot < length tables → seen (slice_set tables slot (Some t)) s ≡ cond (s == slot) (Some (table_of t)) (seen tables s)
slot_put [] slot s t low = absurd (omega (arith, low))
slot_put (x ∷ tables) zero zero t low = refl
slot_put (x ∷ tables) zero (suc s) t low = ap (λ b. cond b (Some (table_of t)) (seen tables s)) (sym (not_zero s))
slot_put (x ∷ tables) (suc slot) zero t low = ap (λ b. cond b (Some (table_of t)) (option_map table_of x)) (sym (not_zero slot) ∙ eq_swap (suc slot) 0)
slot_put (x ∷ tables) (suc slot) (suc s) t low = slot_put tables slot s t (omega (arith, low)) ∙ ap (λ b. cond b (Some (table_of t)) (seen tables s)) (next_slot s slot)

pub put_dc : (old new : TableSet) (slot : ℕ) (t : Table) → slot < length (dc_tables old) → dc_tables new ≡ slice_set (dc_tables old) slot (Some t) → ac_tables new ≡ ac_tables old
    → given_by new ≡ with_table (given_by old) 0 slot (table_of t)
put_dc old new slot t low d a = fun_ext (λ c. fun_ext (λ s. by c s (c == 0)))
  where
    by : (c s : ℕ) (b : Bool) → cond b (seen (dc_tables new) s) (cond (c == 1) (seen (ac_tables new) s) None)
        ≡ cond (b && s == slot) (Some (table_of t)) (cond b (seen (dc_tables old) s) (cond (c == 1) (seen (ac_tables old) s) None))
    by c s true = ap (λ ts. seen ts s) d ∙ slot_put (dc_tables old) slot s t low
    by c s false = ap (λ ts. cond (c == 1) (seen ts s) None) a

pub put_ac : (old new : TableSet) (slot : ℕ) (t : Table) → slot < length (ac_tables old) → ac_tables new ≡ slice_set (ac_tables old) slot (Some t) → dc_tables new ≡ dc_tables old
    → given_by new ≡ with_table (given_by old) 1 slot (table_of t)
put_ac old new slot t low a d = fun_ext (λ c. fun_ext (λ s. by c s (c == 0) (c == 1) refl refl))
  where
    apart : (c : ℕ) → c ≡ 0 → c ≡ 1 → ⊥
    apart c x y = absurd (omega (arith, x, y))

    by : (c s : ℕ) (k b : Bool) → (c == 0) ≡ k → (c == 1) ≡ b → cond k (seen (dc_tables new) s) (cond b (seen (ac_tables new) s) None)
        ≡ cond (b && s == slot) (Some (table_of t)) (cond k (seen (dc_tables old) s) (cond b (seen (ac_tables old) s) None))
    by c s true true x y = absurd (apart c (same_of c 0 x) (same_of c 1 y))
    by c s true false x y = ap (λ ts. seen ts s) d
    by c s false true x y = ap (λ ts. seen ts s) a ∙ slot_put (ac_tables old) slot s t low
    by c s false false x y = refl

-- ONE IS KEPT

held : (given : TablesInForce) (class slot : ℕ) (table : HuffmanTable) → given class slot ≡ Some table → given ≡ with_table given class slot table
held given class slot table e = fun_ext (λ c. fun_ext (λ n. by c n (c == class && n == slot) refl))
  where
    by : (c n : ℕ) (b : Bool) → (c == class && n == slot) ≡ b → given c n ≡ cond b (Some table) (given c n)
    by c n true h = let k = both (c == class) (n == slot) h in ap (λ m. given m n) (same_of c class k.0) ∙ ap (λ m. given class m) (same_of n slot k.1) ∙ e
    by c n false h = refl

-- ITS TEXT, and that of the remaining ones

abbrev pub table_segment : ℕ → ℕ → HuffmanTable → List ℕ
table_segment class slot table = segment_text 0xc4 ((16 * class + slot) ∷ table.counts ++ table.symbols)

first_text : (given : TablesInForce) (due : ℕ → ℕ → HuffmanTable) (class slot : ℕ) (rest : List (ℕ × ℕ))
    → tables_text given due ((class, slot) ∷ rest) ≡ tables_text given due ((class, slot) ∷ []) ++ tables_text (with_table given class slot (due class slot)) due rest
first_text given due class slot rest = by (holds_table (given class slot) (due class slot)) refl
  where
    text : TablesInForce → List ℕ
    text g = tables_text g due rest

    by : (b : Bool) → holds_table (given class slot) (due class slot) ≡ b
        → cond b (tables_text given due rest) (table_segment class slot (due class slot) ++ tables_text (with_table given class slot (due class slot)) due rest)
        ≡ cond b [] (table_segment class slot (due class slot) ++ []) ++ tables_text (with_table given class slot (due class slot)) due rest
    by true e = ap text (held given class slot (due class slot) (holds_is (given class slot) (due class slot) e))
    by false e = ap (λ x. x ++ text (with_table given class slot (due class slot))) (sym (append-nil (table_segment class slot (due class slot))))

pub held_text : (given : TablesInForce) (due : ℕ → ℕ → HuffmanTable) (class slot : ℕ) (t : HuffmanTable) → due class slot ≡ t → holds_table (given class slot) t ≡ true → [] ≡ tables_text given due ((class, slot) ∷ [])
held_text given due class slot t e h = sym (ap (λ b. cond b [] (table_segment class slot (due class slot) ++ [])) (ap (holds_table (given class slot)) e ∙ h))

pub sent_text : (given : TablesInForce) (due : ℕ → ℕ → HuffmanTable) (class slot : ℕ) (t : HuffmanTable) → due class slot ≡ t → holds_table (given class slot) t ≡ false → table_segment class slot t ≡ tables_text given due ((class, slot) ∷ [])
sent_text given due class slot t e h =
    sym (append-nil (table_segment class slot t)) ∙ ap (λ u. table_segment class slot u ++ []) (sym e)
    ∙ sym (ap (λ b. cond b [] (table_segment class slot (due class slot) ++ [])) (ap (holds_table (given class slot)) e ∙ h))

-- ONE THAT IS LEFT, and the remaining ones

left_from : (needed : List (ℕ × ℕ)) (i : ℕ) (d : ℕ × ℕ) → i < length needed → drop i needed ≡ get_or needed i d ∷ drop (i + 1) needed
left_from needed i d h = let e : suc i ≡ i + 1 = omega arith in drop-cons needed i d h ∙ ap (λ n. get_or needed i d ∷ drop n needed) e

pub left_due : (given : TablesInForce) (due : ℕ → ℕ → HuffmanTable) (needed : List (ℕ × ℕ)) (i : ℕ) (d : ℕ × ℕ) → i < length needed
    → (let n = get_or needed i d in tables_text given due (drop i needed) ≡ tables_text given due ((n.0, n.1) ∷ []) ++ tables_text (with_table given n.0 n.1 (due n.0 n.1)) due (drop (i + 1) needed))
left_due given due needed i d h =
    let n = get_or needed i d in
    ap (tables_text given due) (left_from needed i d h) ∙ first_text given due n.0 n.1 (drop (i + 1) needed)

pub left_given : (given : TablesInForce) (due : ℕ → ℕ → HuffmanTable) (needed : List (ℕ × ℕ)) (i : ℕ) (d : ℕ × ℕ) → i < length needed
    → (let n = get_or needed i d in tables_given given due (drop i needed) ≡ tables_given (with_table given n.0 n.1 (due n.0 n.1)) due (drop (i + 1) needed))
left_given given due needed i d h = ap (tables_given given due) (left_from needed i d h)

-- BY OTHER TABLES that are the same where they are needed

abbrev pub AreSame : (ℕ → ℕ → HuffmanTable) → (ℕ → ℕ → HuffmanTable) → List (ℕ × ℕ) → Type 0
AreSame due other needed = All (λ (n : ℕ × ℕ). due n.0 n.1 ≡ other n.0 n.1) needed

pub text_same : (given : TablesInForce) (due other : ℕ → ℕ → HuffmanTable) (ns : List (ℕ × ℕ)) → AreSame due other ns → tables_text given due ns ≡ tables_text given other ns
text_same given due other [] h = refl
text_same given due other (n ∷ ns) h =
    let P : ℕ × ℕ → Type 0 = λ n. due n.0 n.1 ≡ other n.0 n.1 in
    let t = other n.0 n.1 in
    let after : TablesInForce = with_table given n.0 n.1 t in
    let text : HuffmanTable → List ℕ → List ℕ → List ℕ = λ t kept sent. cond (holds_table (given n.0 n.1) t) kept (table_segment n.0 n.1 t ++ sent) in
    ap (λ t. text t (tables_text given due ns) (tables_text (with_table given n.0 n.1 t) due ns)) (All-head P n ns h)
    ∙ ap (λ x. text t x (tables_text after due ns)) (text_same given due other ns (All-tail P n ns h))
    ∙ ap (text t (tables_text given other ns)) (text_same after due other ns (All-tail P n ns h))

pub given_same : (given : TablesInForce) (due other : ℕ → ℕ → HuffmanTable) (ns : List (ℕ × ℕ)) → AreSame due other ns → tables_given given due ns ≡ tables_given given other ns
given_same given due other [] h = refl
given_same given due other (n ∷ ns) h =
    let P : ℕ × ℕ → Type 0 = λ n. due n.0 n.1 ≡ other n.0 n.1 in
    ap (λ t. tables_given (with_table given n.0 n.1 t) due ns) (All-head P n ns h) ∙ given_same (with_table given n.0 n.1 (other n.0 n.1)) due other ns (All-tail P n ns h)

module _ (plan : Plan) (f : Frame) (blocks : Blocks) (e : Entry) (due : ScanDue) (set : TableSet) (is : IsDue plan e due) (has : GivesTables set (tables_due plan f blocks due)) where
  abbrev tables : ℕ → ℕ → HuffmanTable
  tables = tables_due plan f blocks due

  slots : All HasSlots due.head.parts
  slots = subst (λ (h : ScanHead). All HasSlots h.parts) (sym is.head) (head_slots (is_progressive plan.out.frame.process) plan.out.colour e)

  places : All IsTablePlace due.needed.items
  places =
      let is_prog = is_progressive plan.out.frame.process in
      subst (All IsTablePlace) (sym is.needed) (places_needed (needs_dc is_prog e.ss e.ah) (needs_ac is_prog e.ss) due.head.parts slots)

  pub can_write : CanWriteScan plan f blocks e → CanWriteDue plan.out.frame f blocks due set
  can_write can =
      record {
        start = record {
          head = subst (IsHeadOf plan.out.frame) (sym is.head) (head_is_of plan f blocks e can);
          needed = places;
          tables = given_own set tables has;
        };
        sequential = λ s. subst (λ h. IsSeqScan f h set) (sym is.head) (seq_scan plan f blocks e can set tables has (can.kind ∙ s));
        progressive = λ p. subst (IsProgScan f) (sym is.head) (prog_scan plan f blocks e can (can.kind ∙ p));
        writable = can.writable;
      }

  same : AreSame (tables_in set) tables due.needed.items
  same = All-weaker IsTablePlace (λ (n : ℕ × ℕ). tables_in set n.0 n.1 ≡ tables n.0 n.1) (λ n p. set_same set tables has n.0 n.1 p.class p.slot) due.needed.items places

  -- by its numbers, and by those that the entry asks for
  by_entry : {X : Type 0} (of : ScanHead → ℕ → List (ℕ × ℕ) → X) → of due.head due.interval due.needed.items ≡ of (head_for plan e) (interval_for plan e) (needed_for plan e)
  by_entry of =
      let is_prog = is_progressive plan.out.frame.process in
      ap (of due.head due.interval) is.needed ∙ ap (λ n. of due.head n (tables_needed is_prog e due.head)) is.interval
      ∙ ap (λ h. of h (interval_of plan.out.frame h (restart_of plan.restart)) (tables_needed is_prog e h)) is.head

  pub text_is : (w : Written) → due_text plan.out.frame f blocks w due set ≡ scan_bytes plan f blocks w e
  text_is w =
      let file = plan.out.frame in
      let ids = identifiers file.components in
      let text : (ℕ → ℕ → HuffmanTable) → ScanHead → ℕ → List (ℕ × ℕ) → List ℕ → List ℕ = λ tables h n ns d. tables_text w.tables tables ns ++ (head_due ids h w.interval n ++ d) in
      let coded = scan_data (tables_in set) due.head (scan_elements f due.head due.interval blocks) in
      append_assoc (tables_text w.tables (tables_in set) due.needed.items) (head_due ids due.head w.interval due.interval) coded
      ∙ ap (λ t. t ++ (head_due ids due.head w.interval due.interval ++ coded)) (text_same w.tables (tables_in set) tables due.needed.items same)
      ∙ ap (text tables due.head due.interval due.needed.items) (data_same (tables_in set) tables due.head (scan_elements f due.head due.interval blocks) slots (set_same set tables has))
      ∙ by_entry (λ h n ns. (let es = scan_elements f h n blocks in text (scan_tables plan.huffman file h es) h n ns (scan_data (scan_tables plan.huffman file h es) h es)))

  pub written_is : (w : Written) → due_written w due set ≡ written_after plan f blocks w e
  written_is w =
      let both : (ℕ → ℕ → HuffmanTable) → ℕ → List (ℕ × ℕ) → Written = λ tables n ns. record { tables = tables_given w.tables tables ns; interval = n } in
      ap (λ t. (let w : Written = record { tables = t; interval = due.interval } in w)) (given_same w.tables (tables_in set) tables due.needed.items same)
      ∙ by_entry (λ h n ns. both (scan_tables plan.huffman plan.out.frame h (scan_elements f h n blocks)) n ns)

-- The text of a file that is written, scan by scan.

-- THE FRAME of the meaning

module _ {A : Type 0} (n : PictureComponent → A) (m : Component → A) where
  numbers : (cs : List Component) (ts : List QuantTable) → ((c : Component) (t : QuantTable) → n (record { id = c.id; h = c.h; v = c.v; quants = t }) ≡ m c) → length ts ≡ length cs → map n (with_tables cs ts) ≡ map m cs
  numbers [] ts h l = refl
  numbers (c ∷ cs) [] h l = absurd (omega (arith, l))
  numbers (c ∷ cs) (t ∷ ts) h l = ap (λ x. x ∷ map n (with_tables cs ts)) (h c t) ∙ ap (λ xs. m c ∷ xs) (numbers cs ts h (omega (arith, l)))

pub meaning_ids : (plan : Plan) (kept : List (ℕ × List ℕ)) (blocks : Blocks) → length plan.out.quants.items ≡ length plan.out.frame.components
    → map (λ c. c.id) (file_meaning plan kept blocks).components ≡ identifiers plan.out.frame.components
meaning_ids plan kept blocks l = numbers (λ c. c.id) (λ c. c.id) plan.out.frame.components plan.out.quants.items (λ c t. refl) l

framed : (f : Component → ℕ) (q : PictureComponent → Component) (cs : List PictureComponent) → map f (map q cs) ≡ map (λ c. f (q c)) cs
framed f q [] = refl
framed f q (c ∷ cs) = ap (λ xs. f (q c) ∷ xs) (framed f q cs)

pub meaning_grids : (plan : Plan) (kept : List (ℕ × List ℕ)) (blocks : Blocks) → length plan.out.quants.items ≡ length plan.out.frame.components
    → frame_grids (frame_of_meaning (file_meaning plan kept blocks)) ≡ frame_grids plan.out.frame
meaning_grids plan kept blocks l =
    let H = file_meaning plan kept blocks in
    let f = plan.out.frame in
    let made : PictureComponent → Component = λ c. record { id = c.id; h = c.h; v = c.v; quant = slot_in (distinct_quants H) c.quants } in
    let across : map (λ c. c.h) (map made H.components) ≡ map (λ c. c.h) f.components = framed (λ c. c.h) made H.components ∙ numbers (λ c. c.h) (λ c. c.h) f.components plan.out.quants.items (λ c t. refl) l in
    let down : map (λ c. c.v) (map made H.components) ≡ map (λ c. c.v) f.components = framed (λ c. c.v) made H.components ∙ numbers (λ c. c.v) (λ c. c.v) f.components plan.out.quants.items (λ c t. refl) l in
    let of : List ℕ → List ℕ → Grids = λ a d. record { width = f.width; height = f.height; across = a; down = d } in
    ap (λ a. of a (map (λ c. c.v) (map made H.components))) across ∙ ap (of (map (λ c. c.h) f.components)) down

-- the interval of a scan, by the file's frame and by that of its meaning
pub same_interval : (f g : Frame) (head : ScanHead) (restart : Restart) → frame_grids f ≡ frame_grids g → interval_of f head restart ≡ interval_of g head restart
same_interval f g head off e = refl
same_interval f g head (rows n) e = ap (λ wide. min (n * wide) 65535) (same_mcus f g (head_components head) e)
same_interval f g head (mcus n) e = refl

-- parts of a scan one after another
pub in_order : (T I S D R : List ℕ) → (T ++ ((I ++ S) ++ D)) ++ R ≡ T ++ I ++ S ++ D ++ R
in_order T I S D R = ap (λ x. x ++ R) (sym (append_assoc T (I ++ S) D) ∙ ap (λ x. x ++ D) (sym (append_assoc T I S)))

each_of : (P : ℕ → Type 0) (xs : List ℕ) → All P xs → Each P xs
each_of P [] h = tt
each_of P (x ∷ xs) h = (All-head P x xs h, each_of P xs (All-tail P x xs h))

-- THE SCRIPT

-- what an entry of a script that passes has
record IsAllowed (plan : Plan) (F : Frame) (e : Entry) : Type 0 where
  some : 1 ≤ length e.components
  few : length e.components ≤ 4
  known : Each (λ i. i < length F.components) e.components
  distinct : is_distinct e.components ≡ true
  parameters : is_progressive plan.out.frame.process ≡ true → are_parameters F (length e.components) (head_for plan e) ≡ true

-- the parameters depend only on the precision
same_parameters : (f F : Frame) (count : ℕ) (head : ScanHead) → f.precision ≡ F.precision → are_parameters f count head ≡ are_parameters F count head
same_parameters f F count head e = ap (λ n. is_band count head && ((head.ah == 0 || head.ah == head.al + 1) && nat_le head.al (bounds_of n).al)) e

module _ (plan : Plan) (kept : List (ℕ × List ℕ)) (f : Frame) (blocks : Blocks) (can : CanWriteFile plan kept f blocks) where
  abbrev H : Meaning
  H = file_meaning plan kept blocks

  abbrev F : Frame
  F = frame_of_meaning H

  grids : frame_grids F ≡ frame_grids plan.out.frame
  grids = meaning_grids plan kept blocks can.tables

  can_scan : (e : Entry) → IsAllowed plan F e → CanWriteScan plan f blocks e
  can_scan e is =
      let g = plan.out.frame in
      let Below : ℕ → Type 0 = λ n. All (λ i. i < n) e.components in
      let in_file : Below (length g.components) = subst Below (same_count F g grids) (each_all (λ i. i < length F.components) e.components is.known) in
      record {
        kind = can.seen;
        seen = record { some = is.some; few = is.few; there = subst Below (sym (same_count f g can.grids)) in_file };
        there = in_file;
        distinct = is.distinct;
        parameters = λ p. same_parameters f F (length e.components) (head_for plan e) can.precision ∙ is.parameters (sym can.seen ∙ p);
        writable = can.writable;
      }

  seq_scans : (done : List ℕ) (script : List Entry) → is_progressive plan.out.frame.process ≡ false → is_script_after F done script ≡ true → All (CanWriteScan plan f blocks) script
  seq_scans done [] s h = All-nil (CanWriteScan plan f blocks)
  seq_scans done (e ∷ script) s h =
      let k = both (is_sequential_entry F done e) (is_script_after F (e.components ++ done) script) h in
      let is = entry_is F done e k.0 in
      All-cons (CanWriteScan plan f blocks) e script
      (can_scan e (record { some = is.some; few = is.few; known = is.known; distinct = is.distinct; parameters = λ p. absurd (clash (is_progressive plan.out.frame.process) p s) }))
      (seq_scans (e.components ++ done) script s k.1)

  prog_scans : (heads : List ScanHead) (script : List Entry) → is_progressive plan.out.frame.process ≡ true → is_progressive_after H heads script ≡ true → All (CanWriteScan plan f blocks) script
  prog_scans heads [] p h = All-nil (CanWriteScan plan f blocks)
  prog_scans heads (e ∷ script) p h =
      let k = both (is_progressive_entry F heads (written_head H e)) (is_progressive_after H (written_head H e ∷ heads) script) h in
      let is = progressive_entry F heads (head_for plan e) (ap (λ c. is_progressive_entry F heads (scan_head (is_progressive plan.out.frame.process) c e)) can.colour ∙ k.0) in
      let names = head_names (is_progressive plan.out.frame.process) plan.out.colour e in
      let count = head_count (is_progressive plan.out.frame.process) plan.out.colour e in
      All-cons (CanWriteScan plan f blocks) e script
      (can_scan e (record {
        some = subst (λ n. 1 ≤ n) count is.some;
        few = subst (λ n. n ≤ 4) count is.few;
        known = subst (Each (λ i. i < length F.components)) names is.known;
        distinct = sym (ap is_distinct names) ∙ is.distinct;
        parameters = λ q. subst (λ n. are_parameters F n (head_for plan e) ≡ true) count is.parameters;
      }))
      (prog_scans (written_head H e ∷ heads) script p k.1)

  pub can_scans : CanWriteScans plan f blocks
  can_scans = by (is_progressive plan.out.frame.process) refl
    where
      passes : (b : Bool) → is_progressive plan.out.frame.process ≡ b → cond b (is_progressive_after H [] plan.script) (is_script_after F [] plan.script) ≡ true
      passes b e = sym (ap (λ b. cond b (is_progressive_after H [] plan.script) (is_script_after F [] plan.script)) e) ∙ can.passes

      by : (b : Bool) → is_progressive plan.out.frame.process ≡ b → CanWriteScans plan f blocks
      by true p = prog_scans [] plan.script p (passes true p)
      by false s = seq_scans [] plan.script s (passes false s)

  -- a scan and the remaining ones
  pub scans_are_text : (w : Written) (script : List Entry) → All (CanWriteScan plan f blocks) script
      → scans_bytes plan f blocks w script ≡ scans_text plan.huffman H (restart_of plan.restart) w script
  unfolding scans_text
  scans_are_text w [] all = refl
  scans_are_text w (e ∷ script) all =
      let g = plan.out.frame in
      let restart = restart_of plan.restart in
      let is_prog = is_progressive g.process in
      let head = written_head H e in
      let N = interval_of F head restart in
      let E = scan_elements F head N H.blocks in
      let needed = tables_needed is_prog e head in
      let names = head_names is_prog (colour_of H) e in
      let there : Each (λ i. i < length g.components) (head_components head) = subst (Each (λ i. i < length g.components)) (sym names) (each_of (λ i. i < length g.components) e.components (All-head (CanWriteScan plan f blocks) e script all).there) in
      let after : ScanHead → ℕ → List (List Owned) → Written = λ h n es. record { tables = tables_given w.tables (scan_tables plan.huffman g h es) (tables_needed is_prog e h); interval = n } in
      let own : ScanHead → ℕ → List ℕ → List (List Owned) → List ℕ = λ h n ids es.
      tables_text w.tables (scan_tables plan.huffman g h es) (tables_needed is_prog e h) ++ ((interval_text w.interval n ++ segment_text 0xda (head_bytes ids h)) ++ scan_data (scan_tables plan.huffman g h es) h es) in
      let whole : ScanHead → ℕ → List ℕ → List (List Owned) → List ℕ = λ h n ids es. own h n ids es ++ scans_bytes plan f blocks (after h n es) script in
      let ids = map (λ c. c.id) H.components in
      ap (λ c. (let h = scan_head is_prog c e in let n = interval_of g h restart in whole h n (identifiers g.components) (scan_elements f h n blocks))) can.colour
      ∙ ap (λ n. whole head n (identifiers g.components) (scan_elements f head n blocks)) (same_interval g F head restart (sym grids))
      ∙ ap (λ i. whole head N i (scan_elements f head N blocks)) (sym (meaning_ids plan kept blocks can.tables))
      ∙ ap (whole head N ids) (elements_same g f F head N blocks can.seen can.grids grids there)
      ∙ ap (λ r. own head N ids E ++ r) (scans_are_text (after head N E) script (All-tail (CanWriteScan plan f blocks) e script all))
      ∙ in_order (tables_text w.tables (scan_tables plan.huffman g head E) needed) (interval_text w.interval N) (segment_text 0xda (head_bytes ids head)) (scan_data (scan_tables plan.huffman g head E) head E) (scans_text plan.huffman H restart (after head N E) script)

  pub file_is : front_text (head_meaning plan.out kept) ++ (scans_due plan f blocks ++ eoi) ≡ file_bytes plan kept blocks
  unfolding file_text
  file_is =
      let front = front_text (head_meaning plan.out kept) in
      ap (λ t. front ++ (t ++ eoi)) (scans_are_text nothing_written plan.script can_scans) ∙ sym (append_assoc front (scans_text plan.huffman H (restart_of plan.restart) nothing_written plan.script) eoi)

-- A SCAN THAT IS LEFT, and the remaining ones

pub scan_left : (plan : Plan) (f : Frame) (blocks : Blocks) (w : Written) (i : ℕ) (e : Entry) → slice_get plan.script i ≡ Some e
    → scans_bytes plan f blocks w (drop i plan.script) ≡ scan_bytes plan f blocks w e ++ scans_bytes plan f blocks (written_after plan f blocks w e) (drop (i + 1) plan.script)
scan_left plan f blocks w i e at =
    ap (scans_bytes plan f blocks w) (left_at plan.script i e (slice_get_within plan.script i e at) (sym (get_or_from_slice_get plan.script i e e at)))

pub entry_can : (P : Entry → Type 0) (script : List Entry) (i : ℕ) (e : Entry) → slice_get script i ≡ Some e → All P script → P e
entry_can P script i e at all = subst P (get_or_from_slice_get script i e e at) (All-get_or P script i e (slice_get_within script i e at) all)

-- Bytes that were sent from where nothing waited, until nothing waits.

all_written : (s0 s1 : DeskState) (old new : Waiting) (due : List ℕ) (r : Result (Unit {0}) WriteFault) → old ≡ nothing_waits → new.bytes ≡ [] → Sends s0 old due r new s1 → WritesDue s0 due r s1
all_written s0 s1 old new due r empty none h =
    let P : List ℕ → Type 0 = λ bytes. Emits s0 bytes due r new.bytes s1 in
    record { only = h.kept; bytes = by r (subst P (ap (λ (w : Waiting). w.bytes) empty) h.bytes) }
  where
    by : (r : Result (Unit {0}) WriteFault) → Emits s0 [] due r new.bytes s1 → AreAppended s0 due r s1
    by (Ok u) e =
        let P : List ℕ → Type 0 = λ b. AppendsLast s0.outputs b s1.outputs in
        subst P (sym (e.2 ∙ ap (λ n. e.0 ++ n) none ∙ append-nil e.0)) e.1
    by (Err fault) e = (e.0, e.2)

-- A FILE of a head, scans and an end, or a first part of it
module _ (s0 : DeskState) (o0 : Waiting) (empty : o0 ≡ nothing_waits) (head scans due : List ℕ) (same : head ++ (scans ++ eoi) ≡ due) where
  pub head_stops : (s1 : DeskState) (o1 : Waiting) (fault : WriteFault) → Sends s0 o0 head (Err fault) o1 s1 → WritesDue s0 due (Err fault) s1
  head_stops s1 o1 fault sent = all_written s0 s1 o0 o1 due (Err fault) empty sent.bytes.1 (sends_same _ _ _ _ _ _ _ same (sends_fault _ _ _ _ _ _ _ sent))

  pub scans_stop : (s1 s2 : DeskState) (o1 o2 : Waiting) (fault : WriteFault) → Sends s0 o0 head (Ok tt) o1 s1 → Sends s1 o1 scans (Err fault) o2 s2 → WritesDue s0 due (Err fault) s2
  scans_stop s1 s2 o1 o2 fault front sent =
      all_written s0 s2 o0 o2 due (Err fault) empty sent.bytes.1
      (sends_same _ _ _ _ _ _ _ same (sends_then _ _ _ _ _ _ _ _ _ front (sends_fault _ _ _ _ _ _ _ sent)))

  pub file_ends : (s1 s2 s3 : DeskState) (o1 o2 o3 : Waiting) (r : Result (Unit {0}) WriteFault) → o3.bytes ≡ [] → Sends s0 o0 head (Ok tt) o1 s1 → Sends s1 o1 scans (Ok tt) o2 s2 → Sends s2 o2 eoi r o3 s3 → WritesDue s0 due r s3
  file_ends s1 s2 s3 o1 o2 o3 r none front sent end =
      all_written s0 s3 o0 o3 due r empty none
      (sends_same _ _ _ _ _ _ _ same (sends_then _ _ _ _ _ _ _ _ _ front (sends_then _ _ _ _ _ _ _ _ _ sent end)))

-- The only scan of a file: it has all components, and its text is that of the scans.

-- DISTINCT NUMBERS below one, and all of them, are as many

few : (n : ℕ) (xs : List ℕ) (k : ℕ) → is_distinct xs ≡ true → AreBelow n xs → length xs ≡ suc n + k → ⊥
few n [] k d h long = absurd (omega (arith, long))
few n (x ∷ xs) zero d h long =
    let b = both (not (is_among x xs)) (is_distinct xs) d in
    clash (is_among x xs) (all_named n xs x b.1 h.1 (omega (arith, long)) h.0) (negated (is_among x xs) b.0)
few n (x ∷ xs) (suc k) d h long = few n xs k (both (not (is_among x xs)) (is_distinct xs) d).1 h.1 (omega (arith, long))

abbrev without : ℕ → List ℕ → List ℕ
without n [] = []
without n (x ∷ xs) = cond (x == n) xs (x ∷ without n xs)

still_among : (m n : ℕ) (xs : List ℕ) → m < n → is_among m xs ≡ true → is_among m (without n xs) ≡ true
still_among m n [] lt e = e
still_among m n (x ∷ xs) lt e = by (x == n) (x == m) refl refl e (still_among m n xs lt)
  where
    other : (x m n : ℕ) → m < n → (x == n) ≡ true → (x == m) ≡ true → ⊥
    other x m n lt a b = absurd (omega (arith, lt, same_of x n a, same_of x m b))

    by : (a b : Bool) → (x == n) ≡ a → (x == m) ≡ b → (b || is_among m xs) ≡ true → (is_among m xs ≡ true → is_among m (without n xs) ≡ true) → is_among m (cond a xs (x ∷ without n xs)) ≡ true
    by true true p q e later = absurd (other x m n lt p q)
    by true false p q e later = e
    by false true p q e later = ap (λ b. b || is_among m (without n xs)) q
    by false false p q e later = ap (λ b. b || is_among m (without n xs)) q ∙ later e

one_less : (n : ℕ) (xs : List ℕ) → is_among n xs ≡ true → length xs ≡ suc (length (without n xs))
one_less n [] e = cc
one_less n (x ∷ xs) e = by (x == n) e (one_less n xs)
  where
    by : (b : Bool) → (b || is_among n xs) ≡ true → (is_among n xs ≡ true → length xs ≡ suc (length (without n xs))) → length (x ∷ xs) ≡ suc (length (cond b xs (x ∷ without n xs)))
    by true e later = refl
    by false e later = ap suc (later e)

many : (n : ℕ) (xs : List ℕ) → ((k : ℕ) → k < n → is_among k xs ≡ true) → n ≤ length xs
many zero xs all = omega arith
many (suc n) xs all =
    let long = one_less n xs (all n (omega arith)) in
    omega (arith, long, many n (without n xs) (λ k lt. still_among k n xs lt (all k (omega (arith, lt)))))

as_many : (n : ℕ) (xs : List ℕ) → is_distinct xs ≡ true → AreBelow n xs → ((k : ℕ) → k < n → is_among k xs ≡ true) → length xs ≡ n
as_many n xs d h all = by (difference n (length xs) (many n xs all))
  where
    difference : (n m : ℕ) → n ≤ m → (k : ℕ) × (m ≡ n + k)
    difference n m le = (m - n, omega (arith, le))

    by : (k : ℕ) × (length xs ≡ n + k) → length xs ≡ n
    by (zero, e) = omega (arith, e)
    by (suc k, e) = absurd (few n xs k d h (omega (arith, e)))

-- THE ONLY SCAN of a plan

only_entry : (script : List Entry) (e : Entry) → length script ≡ 1 → slice_get script 0 ≡ Some e → script ≡ e ∷ []
only_entry [] e one at = cc
only_entry (x ∷ []) e one at = ap (λ y. y ∷ []) (some_same at)
  where
    some_same : {x y : Entry} → Some x ≡ Some y → x ≡ y
    some_same h = cc
only_entry (x ∷ y ∷ script) e one at = absurd (omega (arith, one))

pub is_sole_scan : (plan : Plan) (e : Entry) (scan : SoleScan) → length plan.script ≡ 1 → slice_get plan.script 0 ≡ Some e → has_typical plan.huffman plan.out.frame ≡ true → IsDue plan e scan.due → GivesTables scan.tables typical_table → IsSole plan scan
is_sole_scan plan e scan one at typical due tables = record { entry = e; only = only_entry plan.script e one at; typical = typical; due = due; tables = tables }

module _ (plan : Plan) (kept : List (ℕ × List ℕ)) (f : Frame) (blocks : Blocks) (scan : SoleScan) (can : CanWriteFile plan kept f blocks) (sole : IsSole plan scan) where
  abbrev meant : Frame
  meant = frame_of_meaning (file_meaning plan kept blocks)

  can_only : CanWriteScan plan f blocks sole.entry
  can_only = let P = CanWriteScan plan f blocks in All-head P sole.entry [] (subst (All P) sole.only (can_scans plan kept f blocks can))

  has : GivesTables scan.tables (tables_due plan f blocks scan.due)
  has =
      let due = scan.due in
      kind_given plan.huffman plan.out.frame due.head (scan_elements f due.head due.interval blocks) scan.tables true sole.typical sole.tables

  can_due : CanWriteDue plan.out.frame f blocks scan.due scan.tables
  can_due = can_write plan f blocks sole.entry scan.due scan.tables sole.due has can_only

  pub can_start : CanStart plan.out.frame scan.due scan.tables
  can_start = can_due.start

  is_seq : is_progressive plan.out.frame.process ≡ false
  is_seq = negated (is_progressive plan.out.frame.process) (both (not (is_progressive plan.out.frame.process)) (plan.out.frame.precision == 8 && is_plain plan.huffman) sole.typical).0

  passes : is_script_after meant [] (sole.entry ∷ []) ≡ true
  passes =
      let H = file_meaning plan kept blocks in
      ap (is_script_after meant []) (sym sole.only) ∙ sym (ap (λ b. cond b (is_progressive_after H [] plan.script) (is_script_after meant [] plan.script)) is_seq) ∙ can.passes

  all_there : length (head_components (scan.due).head) ≡ length f.components
  all_there =
      let e = sole.entry in
      let due = sole.due in
      let b = both (is_sequential_entry meant [] e) (is_script_after meant (e.components ++ []) []) passes in
      let is = entry_is meant [] e b.0 in
      let n = length meant.components in
      let among : all_of (λ i. is_among i e.components) (below n) ≡ true = ap (λ done. all_of (λ i. is_among i done) (below n)) (sym (append-nil e.components)) ∙ b.1 in
      ap (λ (h : ScanHead). length (head_components h)) due.head
      ∙ ap length (head_names (is_progressive plan.out.frame.process) plan.out.colour e)
      ∙ as_many n e.components is.distinct is.known (λ k lt. all_below (λ i. is_among i e.components) n k among lt)
      ∙ same_count meant plan.out.frame (meaning_grids plan kept blocks can.tables)
      ∙ sym (same_count f plan.out.frame can.grids)

  pub is_of_all : IsOfAll f scan
  is_of_all = record { sequential = can_due.sequential is_seq; all = all_there }

  -- its text is that of all scans
  text_due : (bytes : List ℕ) → bytes ≡ written_data f (scan.due).head scan.tables (scan.due).interval blocks → sole_text plan.out.frame scan bytes ≡ scans_due plan f blocks
  text_due bytes is =
      let e = sole.entry in
      ap (sole_text plan.out.frame scan) is
      ∙ text_is plan f blocks e scan.due scan.tables sole.due has nothing_written
      ∙ sym (append-nil (scan_bytes plan f blocks nothing_written e))
      ∙ ap (scans_bytes plan f blocks nothing_written) (sym sole.only)

  -- and with the end behind it, that of the file after its head
  pub sole_file : (bytes : List ℕ) → bytes ≡ written_data f (scan.due).head scan.tables (scan.due).interval blocks
      → front_text (head_meaning plan.out kept) ++ (sole_text plan.out.frame scan bytes ++ eoi) ≡ file_bytes plan kept blocks
  sole_file bytes is = ap (λ t. front_text (head_meaning plan.out kept) ++ (t ++ eoi)) (text_due bytes is) ∙ file_is plan kept f blocks can
