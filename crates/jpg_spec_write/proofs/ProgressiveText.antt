-- A scan of a progressive script: its header, its tables, and its text.
use Rattle.std.proofs.Common.{◌≡◌, ℕ, ◌<◌, ◌≤◌, Bool, true, false, cond, not, List, [], ◌∷◌, ◌++◌, length, refl, sym, ap, ◌∙◌, subst, arith, lit≤, Option, Some, None, pos, ◌==◌, ◌&&◌}
use Rattle.std.specs.Prelude.{◌||◌, map, flat_map, nat_lt, Ok, is_none}
use Rattle.std.specs.Int.{to_be_bytes, w16}
use Rattle.jpg_spec.specs.Bits.{data_of, stuffed}
use Rattle.jpg_spec.specs.Lists.{any_of, all_of}
use Rattle.jpg_spec.specs.Geometry.{Frame, component_at, is_progressive}
use Rattle.jpg_spec.specs.Segments.{HuffmanTable, QuantTable, ScanHead, head_components, needs_dc, needs_ac}
use Rattle.jpg_spec_write.specs.declared.huffman.Huffman.{Huffman}
use Rattle.jpg_spec_write.specs.ScanText.{Owned, units_due, interval_elements, element_bits, intervals_text, scan_data, typical_table, is_plain, own_table}
use Rattle.jpg_spec.specs.Meaning.{Meaning, colour_of}
use Rattle.jpg_spec_write.specs.Script.{Entry}
use Rattle.jpg_spec.specs.ScanContents.{are_parameters}
use Rattle.jpg_spec.specs.Markers.{Segment}
use Rattle.jpg_spec.specs.InForce.{huffman_in_force, quant_in_force, heads_of}
use Rattle.jpg_spec.specs.History.{has_begun, is_next, needs_dc_table, needs_ac_table, lacks_table, quant_of, is_same_table, admitted}
use Rattle.jpg_spec_write.specs.FileText.{Written, segment_text, frame_of_meaning, slot_for, written_head, head_text, tables_needed, with_table, tables_text, tables_given, Restart, interval_of, scans_text}
use Rattle.jpg_spec.specs.declared.fault.Fault.TheVariants.{RepeatedScan, Progression, MissingTable, QuantChanged}
use Rattle.jpg_spec.specs.declared.frame.Place.{Place}
use Rattle.jpg_spec.specs.declared.frame.ScanPart.{ScanPart}
use Rattle.jpg_spec.proofs.Basics.Rows.{map_map}
use Rattle.jpg_spec.proofs.Basics.Each.{Each}
use Rattle.jpg_spec.proofs.Writing.WrittenHead.{IsPartOf, IsSpoken}
use Rattle.jpg_spec_write.proofs.WrittenScan.{scan_rows}
use Rattle.jpg_spec.proofs.Writing.WrittenState.{IsTellable}
use Rattle.jpg_spec_write.proofs.WrittenSequential.{given_stays, given_now, length_ids, slot_few}
use Rattle.jpg_spec_write.proofs.ProgressiveRows.{progressive_coded}
use Rattle.jpg_spec_write.proofs.ProgressiveKnown.{IsProgressiveEntry}
use Rattle.jpg_spec.proofs.Basics.Small.{are_bounds}
use Rattle.jpg_spec.proofs.Basics.Common.{not_refused, equal_itself}

-- THE HEAD

abbrev pub HasSlots : ScanPart → Type 0
HasSlots p = (p.dc ≤ 1) × (p.ac ≤ 1)

slots_of : (H : Meaning) (a b : Bool) (components : List ℕ) → Each HasSlots (map (λ i. (let p : ScanPart = record { component = i; dc = cond a (slot_for (colour_of H) i) 0; ac = cond b (slot_for (colour_of H) i) 0 } in p)) components)
slots_of H a b [] = tt
slots_of H a b (i ∷ components) = ((few a, few b), slots_of H a b components)
  where
    few : (a : Bool) → cond a (slot_for (colour_of H) i) 0 ≤ 1
    few true = slot_few (colour_of H) i
    few false = lit≤ tt

pub head_slots : (H : Meaning) (e : Entry) → Each HasSlots (written_head H e).parts
head_slots H e = slots_of H (needs_dc (is_progressive H.process) e.ss e.ah) (needs_ac (is_progressive H.process) e.ss) e.components

parts_spoken : (f : Frame) (parts : List ScanPart) → Each HasSlots parts → Each (λ i. i < length f.components) (map (λ (p : ScanPart). p.component) parts) → Each (IsPartOf f) parts
parts_spoken f [] s h = tt
parts_spoken f (p ∷ parts) s h =
    let d = (s.0).0 in
    let a = (s.0).1 in
    ((subst (λ n. p.component < n) (sym (length_ids f)) h.0, omega (arith, d), omega (arith, a)), parts_spoken f parts s.1 h.1)

pub entry_spoken : (f : Frame) (heads : List ScanHead) (head : ScanHead) → is_progressive f.process ≡ true → Each HasSlots head.parts → IsProgressiveEntry f heads head → IsSpoken f head
entry_spoken f heads head p s e =
    let l = e.al in
    let most = (are_bounds f.precision).al_few in
    record {
      some = e.some;
      few = e.few;
      parts = parts_spoken f head.parts s e.known;
      distinct = e.distinct;
      small = e.small;
      al = omega (arith, l, most);
      allowed = ap (λ b. b && not (are_parameters f (length head.parts) head)) p ∙ ap not e.parameters;
    }

-- THE TABLES: DC in a first pass of DC, AC in a band

abbrev pub dc_due : ScanHead → Bool
dc_due head = head.ss == 0 && head.ah == 0

abbrev pub ac_due : ScanHead → Bool
ac_due head = nat_lt 0 head.ss

abbrev pub needed_of : Bool → Bool → List ScanPart → List (ℕ × ℕ)
needed_of a b parts = flat_map (λ (p : ScanPart). cond a ((0, p.dc) ∷ []) [] ++ cond b ((1, p.ac) ∷ []) []) parts

pub needed_tell : (due : ℕ → ℕ → HuffmanTable) (a b : Bool) (parts : List ScanPart) → Each HasSlots parts → ((c n : ℕ) → c ≤ 1 → n ≤ 1 → IsTellable c n (due c n)) → Each (λ (n : ℕ × ℕ). IsTellable n.0 n.1 (due n.0 n.1)) (needed_of a b parts)
needed_tell due a b [] s h = tt
needed_tell due true true (p ∷ parts) s h = (h 0 p.dc (lit≤ tt) (s.0).0, (h 1 p.ac (lit≤ tt) (s.0).1, needed_tell due true true parts s.1 h))
needed_tell due true false (p ∷ parts) s h = (h 0 p.dc (lit≤ tt) (s.0).0, needed_tell due true false parts s.1 h)
needed_tell due false true (p ∷ parts) s h = (h 1 p.ac (lit≤ tt) (s.0).1, needed_tell due false true parts s.1 h)
needed_tell due false false (p ∷ parts) s h = needed_tell due false false parts s.1 h

abbrev pub IsGivenBy : Bool → Bool → (ℕ → ℕ → Option HuffmanTable) → (ℕ → ℕ → HuffmanTable) → ScanPart → Type 0
IsGivenBy a b tables due p = (a ≡ true → tables 0 p.dc ≡ Some (due 0 p.dc)) × (b ≡ true → tables 1 p.ac ≡ Some (due 1 p.ac))

absurd_test : {A : Type 0} → false ≡ true → A
absurd_test e = cc

pub needed_given : (due : ℕ → ℕ → HuffmanTable) (a b : Bool) (parts : List ScanPart) (given : ℕ → ℕ → Option HuffmanTable) → Each (IsGivenBy a b (tables_given given due (needed_of a b parts)) due) parts
needed_given due a b [] given = tt
needed_given due true true (p ∷ parts) given =
    let g = with_table given 0 p.dc (due 0 p.dc) in
    let h = with_table g 1 p.ac (due 1 p.ac) in
    ((λ e. given_stays due (needed_of true true parts) h 0 p.dc (stays due g 0 1 p.dc p.ac (given_now due given 0 p.dc)), λ e. given_stays due (needed_of true true parts) h 1 p.ac (given_now due g 1 p.ac)), needed_given due true true parts h)
  where
    stays : (due : ℕ → ℕ → HuffmanTable) (g : ℕ → ℕ → Option HuffmanTable) (c d n m : ℕ) → g c n ≡ Some (due c n) → with_table g d m (due d m) c n ≡ Some (due c n)
    stays due g c d n m e = given_stays due ((d, m) ∷ []) g c n e
needed_given due true false (p ∷ parts) given =
    let g = with_table given 0 p.dc (due 0 p.dc) in
    ((λ e. given_stays due (needed_of true false parts) g 0 p.dc (given_now due given 0 p.dc), λ e. absurd_test e), needed_given due true false parts g)
needed_given due false true (p ∷ parts) given =
    let h = with_table given 1 p.ac (due 1 p.ac) in
    ((λ e. absurd_test e, λ e. given_stays due (needed_of false true parts) h 1 p.ac (given_now due given 1 p.ac)), needed_given due false true parts h)
needed_given due false false (p ∷ parts) given = ((λ e. absurd_test e, λ e. absurd_test e), needed_given due false false parts given)

-- THE SCAN IS ALLOWED

lacks_none : (f : Frame) (before : List Segment) (head : ScanHead) (due : ℕ → ℕ → HuffmanTable) (parts : List ScanPart) → is_progressive f.process ≡ true
    → Each (λ (p : ScanPart). (q : QuantTable) × (quant_in_force before (component_at f p.component).quant ≡ Some q)) parts → Each (IsGivenBy (dc_due head) (ac_due head) (huffman_in_force before) due) parts
    → any_of (λ (p : ScanPart). is_none (quant_in_force before (component_at f p.component).quant) || (needs_dc_table f head && is_none (huffman_in_force before 0 p.dc) || needs_ac_table f head && is_none (huffman_in_force before 1 p.ac))) parts ≡ false
lacks_none f before head due [] prog q g = refl
lacks_none f before head due (p ∷ parts) prog q g =
    let rest = any_of (λ (p : ScanPart). is_none (quant_in_force before (component_at f p.component).quant) || (needs_dc_table f head && is_none (huffman_in_force before 0 p.dc) || needs_ac_table f head && is_none (huffman_in_force before 1 p.ac))) parts in
    ap (λ o. (is_none o || (needs_dc_table f head && is_none (huffman_in_force before 0 p.dc) || needs_ac_table f head && is_none (huffman_in_force before 1 p.ac))) || rest) (q.0).1
    ∙ ap (λ b. ((not b || dc_due head) && is_none (huffman_in_force before 0 p.dc) || (not b || ac_due head) && is_none (huffman_in_force before 1 p.ac)) || rest) prog
    ∙ ap (λ b. (b || ac_due head && is_none (huffman_in_force before 1 p.ac)) || rest) (by (dc_due head) (huffman_in_force before 0 p.dc) (due 0 p.dc) (g.0).0)
    ∙ ap (λ b. b || rest) (by (ac_due head) (huffman_in_force before 1 p.ac) (due 1 p.ac) (g.0).1) ∙ lacks_none f before head due parts prog q.1 g.1
  where
    by : (a : Bool) (o : Option HuffmanTable) (t : HuffmanTable) → (a ≡ true → o ≡ Some t) → (a && is_none o) ≡ false
    by true o t h = ap is_none (h refl)
    by false o t h = refl

same_quants : (f : Frame) (before : List Segment) (components : List ℕ) → Each (λ i. (b : Bool) × (q : QuantTable) × (quant_of f before i ≡ cond b (Some q) None) × (quant_in_force before (component_at f i).quant ≡ Some q)) components
    → all_of (λ i. is_same_table (quant_of f before i) (quant_in_force before (component_at f i).quant)) components ≡ true
same_quants f before [] h = refl
same_quants f before (i ∷ components) h =
    let rest = all_of (λ i. is_same_table (quant_of f before i) (quant_in_force before (component_at f i).quant)) components in
    ap (λ o. is_same_table o (quant_in_force before (component_at f i).quant) && rest) (h.0).2 ∙ ap (λ o. is_same_table (cond (h.0).0 (Some (h.0).1) None) o && rest) (h.0).3
    ∙ ap (λ b. b && rest) (by (h.0).0 (h.0).1) ∙ same_quants f before components h.1
  where
    by : (b : Bool) (q : QuantTable) → is_same_table (cond b (Some q) None) (Some q) ≡ true
    by true q = equal_itself q
    by false q = refl

pub progressive_admitted : (f : Frame) (before : List Segment) (heads : List ScanHead) (head : ScanHead) (due : ℕ → ℕ → HuffmanTable) → is_progressive f.process ≡ true → heads_of f before ≡ heads → all_of (is_next heads head) (head_components head) ≡ true
    → Each (λ (p : ScanPart). (q : QuantTable) × (quant_in_force before (component_at f p.component).quant ≡ Some q)) head.parts → Each (IsGivenBy (dc_due head) (ac_due head) (huffman_in_force before) due) head.parts
    → Each (λ i. (b : Bool) × (q : QuantTable) × (quant_of f before i ≡ cond b (Some q) None) × (quant_in_force before (component_at f i).quant ≡ Some q)) (head_components head) → admitted f before head ≡ Ok head
progressive_admitted f before heads head due p h next q g sent =
    not_refused RepeatedScan _ _ (ap (λ b. not b && any_of (has_begun (heads_of f before)) (head_components head)) p)
    ∙ not_refused Progression _ _ (ap (λ b. b && not (all_of (is_next (heads_of f before) head) (head_components head))) p ∙ ap (λ hs. not (all_of (is_next hs head) (head_components head))) h ∙ ap not next)
    ∙ not_refused MissingTable (lacks_table f before head) _ (lacks_none f before head due head.parts p q g) ∙ not_refused QuantChanged _ _ (ap not (same_quants f before (head_components head) sent))

-- ITS TEXT

abbrev pub progressive_elements : Meaning → ScanHead → ℕ → List (List Owned)
progressive_elements H head n = map (λ places. interval_elements true head (units_due H.blocks (λ i. pos 0) places)) (scan_rows (frame_of_meaning H) head n)

abbrev pub progressive_tables : Huffman → Meaning → ScanHead → ℕ → ℕ → ℕ → HuffmanTable
progressive_tables huffman H head n = own_table huffman head (progressive_elements H head n)

abbrev pub progressive_data : Huffman → Meaning → ScanHead → ℕ → List ℕ
progressive_data huffman H head n = intervals_text 0 (map stuffed (map (progressive_coded (progressive_tables huffman H head n) head H.blocks) (scan_rows (frame_of_meaning H) head n)))

data_is : (H : Meaning) (head : ScanHead) (n : ℕ) (tables : ℕ → ℕ → HuffmanTable) → scan_data tables head (progressive_elements H head n) ≡ intervals_text 0 (map stuffed (map (progressive_coded tables head H.blocks) (scan_rows (frame_of_meaning H) head n)))
unfolding scan_data
data_is H head n tables =
    let rows = scan_rows (frame_of_meaning H) head n in
    ap (intervals_text 0) (map_map (λ (es : List Owned). data_of (flat_map (element_bits tables head) es)) (λ (places : List Place). interval_elements true head (units_due H.blocks (λ i. pos 0) places)) rows
    ∙ sym (map_map stuffed (progressive_coded tables head H.blocks) rows))

needed_is : (H : Meaning) (e : Entry) → is_progressive H.process ≡ true → tables_needed true e (written_head H e) ≡ needed_of (dc_due (written_head H e)) (ac_due (written_head H e)) (written_head H e).parts
needed_is H e s =
    let parts = (written_head H e).parts in
    let a : (e.ss == 0 && e.ah == 0) ≡ dc_due (written_head H e) = sym (ap (λ b. cond b e.ss 0 == 0 && cond b e.ah 0 == 0) s) in
    let b : nat_lt 0 e.ss ≡ ac_due (written_head H e) = sym (ap (λ b. nat_lt 0 (cond b e.ss 0)) s) in
    ap (λ x. needed_of x (nat_lt 0 e.ss) parts) a ∙ ap (λ x. needed_of (dc_due (written_head H e)) x parts) b

pub progressive_scans : (huffman : Huffman) (H : Meaning) (restart : Restart) (w : Written) (e : Entry) (script : List Entry) → is_progressive H.process ≡ true
    → (let head = written_head H e in let n = interval_of (frame_of_meaning H) head restart in let tables = progressive_tables huffman H head n in let needed = needed_of (dc_due head) (ac_due head) head.parts in
    scans_text huffman H restart w (e ∷ script)
    ≡ tables_text w.tables tables needed ++ cond (n == w.interval) [] (segment_text 0xdd (to_be_bytes w16 n)) ++ head_text H head ++ progressive_data huffman H head n
    ++ scans_text huffman H restart (record { tables = tables_given w.tables tables needed; interval = n }) script)
unfolding scans_text
progressive_scans huffman H restart w e script s =
    let f = frame_of_meaning H in
    let head = written_head H e in
    let n = interval_of f head restart in
    let elements : Bool → List (List Owned) = λ b. map (λ places. interval_elements b head (units_due H.blocks (λ i. pos 0) places)) (scan_rows f head n) in
    let tables : Bool → ℕ → ℕ → HuffmanTable = λ b class slot. cond (not b && (H.precision == 8 && is_plain huffman)) (typical_table class slot) (own_table huffman head (elements b) class slot) in
    let whole : (ℕ → ℕ → HuffmanTable) → List (ℕ × ℕ) → List ℕ → List ℕ = λ t needed coded.
    tables_text w.tables t needed ++ cond (n == w.interval) [] (segment_text 0xdd (to_be_bytes w16 n)) ++ head_text H head ++ coded ++ scans_text huffman H restart (record { tables = tables_given w.tables t needed; interval = n }) script in
    ap (λ b. whole (tables b) (tables_needed b e head) (scan_data (tables b) head (elements b))) s
    ∙ ap (λ needed. whole (progressive_tables huffman H head n) needed (scan_data (progressive_tables huffman H head n) head (progressive_elements H head n))) (needed_is H e s)
    ∙ ap (whole (progressive_tables huffman H head n) (needed_of (dc_due head) (ac_due head) head.parts)) (data_is H head n (progressive_tables huffman H head n))
