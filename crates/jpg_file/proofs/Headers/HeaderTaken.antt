-- A scan header: its parameters, its tables, and the rules that it is judged by.
use Rattle.std.proofs.Common.{◌≡◌, ℕ, ◌+◌, ◌*◌, true, not, ◌==◌, ◌&&◌, List, [], ◌∷◌, length, take, drop, sym, ap, ◌∙◌, subst, arith, Ok, refl, Option, Some, None, zero, suc, ◌<◌, map, ◌≤◌, Bool, false, cond, ◌-◌, ◌^◌, ℤ, pos, nat_abs, inl, Err, ◌||◌, nat_lt, is_none, option_map, nat_le, int_le, unwrap_or, Result, length-take, All}
use Rattle.std.proofs.lemmas.List.{length-map}
use Rattle.jpg_spec.specs.Lists.{is_distinct, any_of, all_of, is_among}
use Rattle.jpg_spec.specs.Geometry.{Frame, factor_sum, is_progressive, component_at, bounds}
use Rattle.jpg_spec.specs.Segments.{ScanHead, head_components}
use Rattle.jpg_spec.specs.ScanContents.{are_among, are_parameters, checked_head, parsed_scan_header, parsed_ids, scan_header, IsHead, are_bits, is_band}
use Rattle.jpg_spec.specs.declared.fault.Fault.TheVariants.{BadLength, McuTooLarge, ScanComponent, ScanParameters, MissingTable, QuantChanged}
use Rattle.jpg_spec.proofs.Basics.Common.{refused, same_of, same_told, both, le_of, or_right, some_of, neither, and_intro, from_test, some_once}
use Rattle.jpg_spec.proofs.Segments.TablesInForce.{affirmed}
use Rattle.jpg_spec.proofs.Headers.AcceptedHeads.{parts_length}
use Rattle.std.proofs.Math.Path.{fun_ext}
use Rattle.jpg_spec.specs.Markers.{Segment, code_fault, has_frame, is_frame_code, SpellsSegment}
use Rattle.jpg_spec.specs.InForce.{huffman_in_force, quant_in_force, frame_of, head_in, heads_of, no_frame, no_head, parsed_or}
use Rattle.jpg_spec.specs.History.{needs_dc_table, needs_ac_table, has_coefficient, is_next, known_to, names, admitted, is_same_table, order_fault, quant_of}
use Rattle.jpg_spec.specs.declared.frame.Limits.{Limits}
use Rattle.jpg_spec.specs.declared.frame.ScanPart.{ScanPart}
use Rattle.jpg_spec.specs.HuffContents.{huffman_in, HuffmanSlots}
use Rattle.jpg_file.specs.Read.SegmentState.{SegmentView, Holds, lacks_any, lacks_part, segments_view, HasBegun, RepresentsHeads, is_same_kept, Judged}
use Rattle.std.proofs.lemmas.List.Elements.{All-head, All-tail, All-nil, All-cons, All-weaker}
use Rattle.jpg_base.specs.Cursor.{AreIn}
use Rattle.jpg_spec.specs.Scan.{Blocks, Scan, coefficient}
use Rattle.jpg_spec.specs.Items.{Item, segment, scan, segments_of, contents_rule, fault_in}
use Rattle.jpg_spec.specs.FileMeaning.{Leads, scan_after}
use Rattle.jpg_spec.proofs.Bits.FirstPasses.{all_among, head_at}
use Rattle.jpg_spec.proofs.Headers.FrameFound.{framed}
use Rattle.jpg_spec.proofs.Places.Known.{known_new, known_old, band_next}
use Rattle.jpg_spec.proofs.Places.Untouched.{frame_stays}
use Rattle.jpg_huff.specs.declared.set.TableSet.{TableSet}
use Rattle.jpg_huff.specs.Sets.{dc_tables, ac_tables, in_slot, slots_of}
use Rattle.jpg_huff.specs.Tables.{table_of}
use Rattle.jpg_seq.specs.Reader.{in_force}
use Rattle.jpg_file.specs.Read.Machine.{HasNeeded}
use Rattle.jpg_spec.proofs.Segments.InForce.{same_coding}
use Rattle.jpg_huff.proofs.Sets.{slot_seen}
use Rattle.std.proofs.lemmas.Bool.Decides.{nat_tests}
use Rattle.std.proofs.lemmas.Int.{ints}
use Rattle.jpg_spec.specs.Elements.{is_zero}
use Rattle.jpg_spec.specs.PictureInWork.{BeginsScan, head_behind}
use Rattle.jpg_spec.specs.declared.frame.Place.{Place}
use Rattle.jpg_spec.proofs.Files.Ranges.{in_range}
use Rattle.jpg_prog_read.specs.RepresentsAcScan.{BandHasRoom, HasCorrectionRoom}
use Rattle.jpg_prog_read.specs.DcRefinement.{HasRoomAt}
use Rattle.jpg_prog_read.specs.Known.{AreKnown, EachHasRoom, known_after}
use Rattle.jpg_prog_read.proofs.DcRoom.{room_known}
use Rattle.jpg_prog_read.proofs.Known.{band_room, gives_room}
use Rattle.jpg_prog_read.proofs.KnownBits.{are_known}
use Rattle.jpg_prog_read.proofs.Precisions.{fits_words}
use Rattle.jpg_spec.specs.Faults.{Parsed, refuse}
use Rattle.jpg_spec.specs.QuantContents.{quant_in, ◌>>=◌}
use Rattle.jpg_spec.specs.declared.fault.Fault.{Fault}
use Rattle.jpg_scans.proofs.Histories.{passed_is, same_all}
use Rattle.jpg_file.specs.declared.read.scan_history.ScanHistory.{ScanHistory}
use Rattle.jpg_spec.specs.FrameHeader.{IsFrame}
use Rattle.jpg_spec.specs.FirstFault.{Reveals}
use Rattle.jpg_coefs.specs.Picture.{Picture, map_of}
use Rattle.jpg_huff.specs.Definitions.{definitions_of}
use Rattle.jpg_markers.specs.Reading.{reading_of}
use Rattle.jpg_file.specs.Read.ScanStart.{Begins}
use Rattle.jpg_file.specs.Read.File.{HeadWhole}
use Rattle.jpg_file.specs.declared.read.file.FileState.{FileState}
use Rattle.jpg_file.proofs.Files.ItemBytes.{segment_fault}
use Rattle.jpg_file.specs.declared.read.window.Window.TheVariants as window
use Rattle.jpg_file.proofs.Headers.InForce.{all_once}

-- The parameters of a scan header that is accepted (T.81, B.2.3, G.1.1.1).

-- THE LAW: in a progressive frame they are DC or a band of AC, and bits within the frame's bounds
pub head_parameters : (f : Frame) (contents : List ℕ) (head : ScanHead) → scan_header f contents ≡ Ok head → is_progressive f.process ≡ true → are_parameters f (length head.parts) head ≡ true
unfolding checked_head
head_parameters f [] head told progressive = cc
head_parameters f (count ∷ bytes) head told progressive =
    let ids = parsed_ids (take (2 * count) bytes) in
    let made = parsed_scan_header f (take (2 * count) bytes) (drop (2 * count) bytes) in
    let e = refused BadLength (not (length bytes == 2 * count + 3)) (checked_head f count ids made) head told in
    let long : length bytes ≡ 2 * count + 3 = same_of (length bytes) (2 * count + 3) (affirmed (length bytes == 2 * count + 3) e.0) in
    let e1 = refused ScanComponent (count == 0 || nat_lt 4 count) _ head e.1 in
    let e2 = refused ScanComponent (not (are_among f ids)) _ head e1.1 in
    let e3 = refused ScanComponent (not (is_distinct ids)) _ head e2.1 in
    let e4 = refused McuTooLarge (nat_lt 1 count && nat_lt 10 (factor_sum f (head_components made))) _ head e3.1 in
    let e5 = refused ScanParameters (is_progressive f.process && not (are_parameters f count made)) _ head e4.1 in
    let are = affirmed (are_parameters f count made) (sym (ap (λ b. b && not (are_parameters f count made)) progressive) ∙ e5.0) in
    let many = parts_length f count (take (2 * count) bytes) (omega (arith, long, length-take (2 * count) bytes)) in
    subst (λ (h : ScanHead). are_parameters f (length h.parts) h ≡ true) (same_told made head e5.1) (ap (λ n. are_parameters f n made) many ∙ are)

-- The tables that a scan needs are there if they are in force.

pub none_same : {A B : Type 0} (f : A → B) (o : Option A) → is_none (option_map f o) ≡ is_none o
none_same f None = refl
none_same f (Some x) = refl

part_lacks : (limits : Limits) (h : SegmentView) (before : List Segment) (f : Frame) (head : ScanHead) (p : ScanPart) → Holds limits h before
    → lacks_part h f head p ≡ (is_none (quant_in_force before (component_at f p.component).quant)
    || (needs_dc_table f head && is_none (huffman_in_force before 0 p.dc) || needs_ac_table f head && is_none (huffman_in_force before 1 p.ac)))
part_lacks limits h before f head p holds =
    let slot = (component_at f p.component).quant in
    let dc = huffman_in h.tables.dc p.dc in
    let ac = huffman_in h.tables.ac p.ac in
    ap (λ o. is_none o || (needs_dc_table f head && is_none dc || needs_ac_table f head && is_none ac)) (holds.quants slot)
    ∙ ap (λ o. is_none (quant_in_force before slot) || (needs_dc_table f head && is_none o || needs_ac_table f head && is_none ac)) (holds.dc p.dc)
    ∙ ap (λ o. is_none (quant_in_force before slot) || (needs_dc_table f head && is_none (huffman_in_force before 0 p.dc) || needs_ac_table f head && is_none o)) (holds.ac p.ac)

-- A scan header that was checked, with what is kept, is ready to begin its scan.

there : (f : Frame) (parts : List ScanPart) → All (λ p. p.component < length f.components) parts → All (λ i. i < length f.components) (map (λ p. p.component) parts)
there f [] all k d low = absurd (omega arith)
there f (p ∷ parts) all zero d low = All-head (λ (p : ScanPart). p.component < length f.components) p parts all
there f (p ∷ parts) all (suc k) d low = there f parts (All-tail (λ (p : ScanPart). p.component < length f.components) p parts all) k d (omega arith)

pub are_in : (f : Frame) (head : ScanHead) → IsHead f head → AreIn f (head_components head)
are_in f head h =
    let n = length-map head.parts (λ (p : ScanPart). p.component) in
    record { some = omega (arith, n, h.some); few = omega (arith, n, h.few); there = there f head.parts h.known }

-- The parameters of a scan header of a progressive frame that breaks no rule, and the bit down to which the scans
-- before it may have encoded (T.81, G.1.1.1).

-- DC only, or a band of AC; and which bit
pub record Says (f : Frame) (head : ScanHead) : Type 0 where
  pub dc : (head.ss == 0) ≡ true → head.se ≡ 0
  pub band : (head.ss == 0) ≡ false → (head.ss ≤ head.se) × (head.se ≤ 63)
  pub later : (head.ah == 0) ≡ false → head.ah ≡ head.al + 1
  pub al : head.al ≤ (bounds f).al

pub says_of : (f : Frame) (count : ℕ) (head : ScanHead) → are_parameters f count head ≡ true → Says f head
says_of f count head e =
    let p = both (is_band count head) (are_bits f head) e in
    let b = both (head.ah == 0 || head.ah == head.al + 1) (nat_le head.al (bounds f).al) p.1 in
    record {
      dc = λ z. same_of head.se 0 (sym (ap (λ t. cond t (head.se == 0) (count == 1 && (nat_le head.ss head.se && nat_le head.se 63))) z) ∙ p.0);
      band = λ z. (let q = both (count == 1) (nat_le head.ss head.se && nat_le head.se 63) (sym (ap (λ t. cond t (head.se == 0) (count == 1 && (nat_le head.ss head.se && nat_le head.se 63))) z) ∙ p.0) in
          let r = both (nat_le head.ss head.se) (nat_le head.se 63) q.1 in
          (le_of head.ss head.se r.0, le_of head.se 63 r.1));
      later = λ z. same_of head.ah (head.al + 1) (sym (ap (λ t. t || head.ah == head.al + 1) z) ∙ b.0);
      al = le_of head.al (bounds f).al b.1;
    }

pub head_says : (limits : Limits) (before : List Segment) (contents : List ℕ) → is_progressive (frame_of limits before).process ≡ true → contents_rule limits before 0xda contents ≡ None → Says (frame_of limits before) (head_in (frame_of limits before) contents)
head_says limits before contents progressive rule =
    let f = frame_of limits before in
    let at = head_at limits before contents rule in
    subst (Says f) (sym at.is_head) (says_of f (length (at.head).parts) at.head (head_parameters f contents at.head at.told progressive))

-- it is the next scan of each of its components
pub head_is_next : (limits : Limits) (before : List Segment) (contents : List ℕ) (i : ℕ) → is_progressive (frame_of limits before).process ≡ true → contents_rule limits before 0xda contents ≡ None
    → is_among i (head_components (head_in (frame_of limits before) contents)) ≡ true → is_next (heads_of (frame_of limits before) before) (head_in (frame_of limits before) contents) i ≡ true
head_is_next limits before contents i progressive rule =
    let f = frame_of limits before in
    let heads = heads_of f before in
    let at = head_at limits before contents rule in
    let next : ScanHead → Bool = λ h. all_of (is_next heads h) (head_components h) in
    let all : next at.head ≡ true = affirmed (next at.head) (sym (ap (λ b. b && not (next at.head)) progressive) ∙ (at.is_admitted).progression) in
    subst (λ (h : ScanHead). is_among i (head_components h) ≡ true → is_next heads h i ≡ true) (sym at.is_head) (λ among. all_among (is_next heads at.head) (head_components at.head) i all among)

-- THE BIT down to which a coefficient is known

abbrev pub IsLow : Frame → Option ℕ → Type 0
IsLow f None = Unit {0}
IsLow f (Some n) = n ≤ (bounds f).al

one_more : (f : Frame) (heads : List ScanHead) (head : ScanHead) (i k : ℕ) → head.al ≤ (bounds f).al → IsLow f (known_to heads i k) → IsLow f (known_to (head ∷ heads) i k)
one_more f heads head i k low h = by (has_coefficient head i k) refl
  where
    by : (b : Bool) → has_coefficient head i k ≡ b → IsLow f (known_to (head ∷ heads) i k)
    by true e = subst (IsLow f) (sym (known_new heads head i k e)) low
    by false e = subst (IsLow f) (sym (known_old heads head i k e)) h

item_low : (limits : Limits) (before : List Segment) (contents : List ℕ) (f : Frame) → frame_of limits before ≡ f → is_progressive f.process ≡ true → contents_rule limits before 0xda contents ≡ None → (head_in f contents).al ≤ (bounds f).al
item_low limits before contents f e progressive rule =
    subst (λ (g : Frame). (head_in g contents).al ≤ (bounds g).al) e (head_says limits before contents (ap (λ (g : Frame). is_progressive g.process) e ∙ progressive) rule).al

known_low : (limits : Limits) (items : List Item) (blocks : Blocks) (f : Frame) → Leads limits items blocks → (has_frame (segments_of items) ≡ true → frame_of limits (segments_of items) ≡ f) → is_progressive f.process ≡ true
    → (i k : ℕ) → IsLow f (known_to (heads_of f (segments_of items)) i k)
known_low limits [] blocks f l same progressive i k = tt
known_low limits (segment code contents ∷ items) blocks f l same progressive i k =
    by (code == 0xda) refl
    (known_low limits items blocks f l.2 (λ h. sym (frame_stays limits (segments_of items) code contents h l.0) ∙ same (or_right (is_frame_code code) (has_frame (segments_of items)) h)) progressive i k)
  where
    by : (b : Bool) → (code == 0xda) ≡ b → IsLow f (known_to (heads_of f (segments_of items)) i k) → IsLow f (known_to (cond b (head_in f contents ∷ heads_of f (segments_of items)) (heads_of f (segments_of items))) i k)
    by false h old = old
    by true h old =
        let before = segments_of items in
        let sos : code ≡ 0xda = same_of code 0xda h in
        let found = framed before (subst (λ c. code_fault before c ≡ None) sos l.0) in
        let e = sym (frame_stays limits before code contents found l.0) ∙ same (or_right (is_frame_code code) (has_frame before) found) in
        one_more f (heads_of f before) (head_in f contents) i k (item_low limits before contents f e progressive (subst (λ c. contents_rule limits before c contents ≡ None) sos l.1)) old
known_low limits (scan contents intervals ∷ items) blocks f l same progressive i k =
    let before = segments_of items in
    let found = framed before l.1 in
    let e : frame_of limits before ≡ f = sym (frame_stays limits before 0xda contents found l.1) ∙ same (or_right (is_frame_code 0xda) (has_frame before) found) in
    one_more f (heads_of f before) (head_in f contents) i k (item_low limits before contents f e progressive l.2) (known_low limits items l.0 f l.3 (λ h. e) progressive i k)

-- The tables that are kept, for the scan that follows.

-- THE CODING by the tables that are kept
pub tables_held : (limits : Limits) (h : SegmentView) (before : List Segment) (set : TableSet) → Holds limits h before → h.tables ≡ slots_of set → (class slot : ℕ) → class ≤ 1 → in_force set class slot ≡ huffman_in_force before class slot
tables_held limits h before set holds same zero slot few =
    slot_seen (dc_tables set) slot ∙ ap (λ (s : HuffmanSlots). huffman_in s.dc slot) (sym same) ∙ holds.dc slot
tables_held limits h before set holds same (suc zero) slot few =
    slot_seen (ac_tables set) slot ∙ ap (λ (s : HuffmanSlots). huffman_in s.ac slot) (sym same) ∙ holds.ac slot
tables_held limits h before set holds same (suc (suc class)) slot few = absurd (omega (arith, few))

-- THE TABLES that a scan needs

needed : (a b : Bool) → a ≡ true → (a && b) ≡ false → b ≡ false
needed true b e f = f
needed false b e f = cc

-- those that the scan needs of each part
part_needs : (h : SegmentView) (f : Frame) (head : ScanHead) (set : TableSet) (p : ScanPart) → h.tables ≡ slots_of set → lacks_part h f head p ≡ false → HasNeeded f head set p
part_needs h f head set p same e =
    let (dc, ac) = neither _ _ (neither _ _ e).1 in
    record {
      dc = λ needs. (let none = needed _ _ needs dc in
          let t = some_of (in_slot (dc_tables set) p.dc) (sym (none_same table_of (in_slot (dc_tables set) p.dc)) ∙ ap is_none (slot_seen (dc_tables set) p.dc) ∙ ap (λ (s : HuffmanSlots). is_none (huffman_in s.dc p.dc)) (sym same) ∙ none) in
          record { table = t.0; there = t.1 });
      ac = λ needs. (let none = needed _ _ needs ac in
          let t = some_of (in_slot (ac_tables set) p.ac) (sym (none_same table_of (in_slot (ac_tables set) p.ac)) ∙ ap is_none (slot_seen (ac_tables set) p.ac) ∙ ap (λ (s : HuffmanSlots). is_none (huffman_in s.ac p.ac)) (sym same) ∙ none) in
          record { ac = t.0; in_ac = t.1 });
    }

pub tables_there : (h : SegmentView) (f : Frame) (head : ScanHead) (set : TableSet) → h.tables ≡ slots_of set → lacks_any h f head ≡ false → All (HasNeeded f head set) head.parts
tables_there h f head set same none = at head.parts none
  where
    at : (parts : List ScanPart) → any_of (lacks_part h f head) parts ≡ false → All (HasNeeded f head set) parts
    at [] e = All-nil (HasNeeded f head set)
    at (p ∷ parts) e =
        let n = neither (lacks_part h f head p) (any_of (lacks_part h f head) parts) e in
        All-cons (HasNeeded f head set) p parts (part_needs h f head set p same n.0) (at parts n.1)

-- In a progressive frame the values of a scan's band, as the scan finds them, take its bits (T.81, G.1.2.1, G.1.2.3).

-- a scan of a progressive frame that may begin after these items, and a place of one of its components
pub record BeginsPass (limits : Limits) (items : List Item) (blocks : Blocks) (contents : List ℕ) (q : Place) : Type 0 where
  pub begins : BeginsScan limits items blocks contents q
  pub progressive : is_progressive (frame_of limits (segments_of items)).process ≡ true

-- what was known of a coefficient of the band
was_known : (limits : Limits) (items : List Item) (blocks : Blocks) (contents : List ℕ) (q : Place) (k : ℕ) → BeginsPass limits items blocks contents q → (let head = head_behind limits items contents in head.ss ≤ k → k ≤ head.se → k < 64
    → known_after limits items q.component k ≡ cond (head.ah == 0) None (Some head.ah))
was_known limits items blocks contents q k b low high small =
    let f = frame_of limits (segments_of items) in
    let head = head_behind limits items contents in
    let t : nat_le head.ss k ≡ true = grind (arith, nat_tests, low) in
    let u : nat_le k head.se ≡ true = grind (arith, nat_tests, high) in
    band_next (heads_of f (segments_of items)) head q.component k (head_is_next limits (segments_of items) contents q.component b.progressive (b.begins).allowed (b.begins).among)
    (and_intro (names head q.component) (nat_le head.ss k && nat_le k head.se) (b.begins).among (and_intro (nat_le head.ss k) (nat_le k head.se) t u)) small

-- a refinement's bit is below the greatest
later_low : (limits : Limits) (items : List Item) (blocks : Blocks) (contents : List ℕ) (q : Place) (k : ℕ) → BeginsPass limits items blocks contents q → (let head = head_behind limits items contents in (head.ah == 0) ≡ false
    → known_after limits items q.component k ≡ Some head.ah → head.al + 1 ≤ (bounds (frame_of limits (segments_of items))).al)
later_low limits items blocks contents q k b z was =
    let head = head_behind limits items contents in
    let says = head_says limits (segments_of items) contents b.progressive (b.begins).allowed in
    let f = frame_of limits (segments_of items) in
    subst (λ n. n ≤ (bounds f).al) (says.later z) (subst (IsLow f) was (known_low limits items blocks f (b.begins).leads (λ h. refl) b.progressive q.component k))

-- AC

ac_bound : (n k : ℕ) (v b : ℤ) (low high : Bool) → b ≡ pos n → 1 ≤ k → cond (k == 0) (low && high) (int_le (pos (nat_abs v)) b) ≡ true → nat_abs v ≤ n
ac_bound n k v b low high is some e =
    let t : (k == 0) ≡ false = grind (arith, nat_tests, some) in
    let h = from_test (pos (nat_abs v)) b (sym (ap (λ c. cond c (low && high) (int_le (pos (nat_abs v)) b)) t) ∙ e) in
    omega (arith, ints, h, is)

ac_room : (limits : Limits) (items : List Item) (blocks : Blocks) (contents : List ℕ) (q : Place) (k : ℕ) → BeginsPass limits items blocks contents q → (let head = head_behind limits items contents in 1 ≤ head.ss → head.ss ≤ k → k ≤ head.se → k < 64
    → HasCorrectionRoom (scan_after limits (segments_of items) contents).coding (coefficient blocks q.component q.x q.y k))
ac_room limits items blocks contents q k b some low high small = by (head.ah == 0) refl
  where
    head : ScanHead
    head = head_behind limits items contents

    v : ℤ
    v = coefficient blocks q.component q.x q.y k

    known : AreKnown limits items blocks
    known = are_known limits items b.progressive blocks (b.begins).leads

    was : known_after limits items q.component k ≡ cond ((head_behind limits items contents).ah == 0) None (Some (head_behind limits items contents).ah)
    was = was_known limits items blocks contents q k b low high small

    by : (t : Bool) → ((head_behind limits items contents).ah == 0) ≡ t → HasCorrectionRoom (scan_after limits (segments_of items) contents).coding (coefficient blocks q.component q.x q.y k)
    by true z =
        let none : known_after limits items q.component k ≡ None = was ∙ ap (λ t. cond t None (Some head.ah)) z in
        let zero_value = known.unsent q.component q.x q.y k none in
        inl (ap is_zero zero_value)
    by false z =
        let told : known_after limits items q.component k ≡ Some head.ah = was ∙ ap (λ t. cond t None (Some head.ah)) z in
        let says = head_says limits (segments_of items) contents b.progressive (b.begins).allowed in
        let c = (scan_after limits (segments_of items) contents).coding in
        let al : c.al ≡ head.al = ap (λ t. cond t head.al 0) b.progressive in
        let ah : head.ah ≡ c.al + 1 = says.later z ∙ ap (λ n. n + 1) (sym al) in
        let f = frame_of limits (segments_of items) in
        let w = fits_words f.precision in
        let n = (bounds f).ac_cat in
        let below = subst (λ n. n + 1 ≤ (bounds f).al) (sym al) (later_low limits items blocks contents q k b z told) in
        let most = w.bits in
        let few : c.al + 1 ≤ n = omega (arith, below, most) in
        let refines : c.refines ≡ true = ap (λ t. t && nat_lt 0 head.ah) b.progressive ∙ grind (arith, nat_tests, z) in
        gives_room c n refines few w.ac v (known.told q.component q.x q.y k (c.al + 1) (told ∙ ap (λ n. (let o : Option ℕ = Some n in o)) ah))
        (ac_bound (2 ^ n - 1) k v (bounds f).ac (int_le (bounds f).dc_low v) (int_le v (bounds f).dc_high) w.ac (omega (arith, some, low)) (in_range limits items blocks (b.begins).leads q.component q.x q.y k))

-- the band of a block
pub ac_band_room : (limits : Limits) (items : List Item) (blocks : Blocks) (contents : List ℕ) (q : Place) → BeginsPass limits items blocks contents q → (let head = head_behind limits items contents in 1 ≤ head.ss → head.se ≤ 63
    → BandHasRoom (scan_after limits (segments_of items) contents) blocks q)
ac_band_room limits items blocks contents q b some few = band_room s blocks q each
  where
    s : Scan
    s = scan_after limits (segments_of items) contents

    head : ScanHead
    head = head_behind limits items contents

    each : EachHasRoom (scan_after limits (segments_of items) contents) blocks q
    each k inside =
        let w = both (nat_le s.ss k) (nat_le k s.se) inside in
        let low : head.ss ≤ k = subst (λ n. n ≤ k) (ap (λ t. cond t head.ss 0) b.progressive) (le_of s.ss k w.0) in
        let high : k ≤ head.se = subst (λ n. k ≤ n) (ap (λ t. cond t head.se 63) b.progressive) (le_of k s.se w.1) in
        ac_room limits items blocks contents q k b some low high (omega (arith, high, few))

-- DC

pub dc_room : (limits : Limits) (items : List Item) (blocks : Blocks) (contents : List ℕ) (q : Place) → BeginsPass limits items blocks contents q → (let head = head_behind limits items contents in head.ss ≡ 0 → (head.ah == 0) ≡ false
    → HasRoomAt (scan_after limits (segments_of items) contents).coding blocks q)
dc_room limits items blocks contents q b none z =
    let f = frame_of limits (segments_of items) in
    let head = head_behind limits items contents in
    let c = (scan_after limits (segments_of items) contents).coding in
    let v = coefficient blocks q.component q.x q.y 0 in
    let known = are_known limits items b.progressive blocks (b.begins).leads in
    let was = was_known limits items blocks contents q 0 b (omega (arith, none)) (omega arith) (omega arith) in
    let told : known_after limits items q.component 0 ≡ Some head.ah = was ∙ ap (λ t. cond t None (Some head.ah)) z in
    let says = head_says limits (segments_of items) contents b.progressive (b.begins).allowed in
    let al : c.al ≡ head.al = ap (λ t. cond t head.al 0) b.progressive in
    let ah : head.ah ≡ c.al + 1 = says.later z ∙ ap (λ n. n + 1) (sym al) in
    let few : c.al + 1 ≤ (bounds f).al = subst (λ n. n + 1 ≤ (bounds f).al) (sym al) (later_low limits items blocks contents q 0 b z told) in
    let range = both (int_le (bounds f).dc_low v) (int_le v (bounds f).dc_high) (in_range limits items blocks (b.begins).leads q.component q.x q.y 0) in
    room_known f c v refl few (record {
      low = from_test (bounds f).dc_low v range.0;
      high = from_test v (bounds f).dc_high range.1;
      known = known.told q.component q.x q.y 0 (c.al + 1) (told ∙ ap (λ n. (let o : Option ℕ = Some n in o)) ah);
    })

-- Scan headers, checked against the scans and the tables before them.

pub small_parts : (f : Frame) (head : ScanHead) → IsHead f head → length f.components ≤ 4 → All (λ p. p.component < 4) head.parts
small_parts f head h few = All-weaker (λ (p : ScanPart). p.component < length f.components) (λ (p : ScanPart). p.component < 4) (λ p low. omega (arith, low, few)) head.parts h.known

rule_is : (limits : Limits) (before : List Segment) (contents : List ℕ) (f : Frame) (head : ScanHead) → frame_of limits before ≡ f → scan_header f contents ≡ Ok head → contents_rule limits before 0xda contents ≡ fault_in (admitted f before head)
rule_is limits before contents f head e told = ap (λ g. fault_in (scan_header g contents >>= admitted g before)) e ∙ ap (λ (t : Parsed ScanHead). fault_in (t >>= admitted f before)) told

-- the answer on the order of a scan, whatever scans of this frame there were
abbrev pub TellsOrder : ScanHistory → Frame → ScanHead → Option Fault → Type 0
TellsOrder b f head told = (heads : List ScanHead) → RepresentsHeads b.progress f heads → told ≡ order_fault f heads head

told_order : (limits : Limits) (before : List Segment) (f : Frame) (head : ScanHead) (b : ScanHistory) (told : Option Fault) → frame_of limits before ≡ f → HasBegun limits b before → TellsOrder b f head told → order_fault f (heads_of f before) head ≡ told
told_order limits before f head b told e k tells = sym (tells (heads_of f before) (subst (λ g. RepresentsHeads b.progress g (heads_of g before)) e k.scans))

-- the tables that are kept are those of the first scans
same_kept : (limits : Limits) (before : List Segment) (f : Frame) (head : ScanHead) (b : ScanHistory) (h : SegmentView) → frame_of limits before ≡ f → HasBegun limits b before → Holds limits h before → All (λ p. p.component < 4) head.parts
    → all_of (is_same_kept b.quants f h.quants) (head_components head) ≡ all_of (λ i. is_same_table (quant_of f before i) (quant_in_force before (component_at f i).quant)) (head_components head)
same_kept limits before f head b h e k holds low =
    same_all (is_same_kept b.quants f h.quants) (λ i. is_same_table (quant_of f before i) (quant_in_force before (component_at f i).quant)) head head.parts
    (λ i few named.
    ap (λ o. is_same_table o (quant_in h.quants (component_at f i).quant)) (k.quants i few ∙ ap (λ g. quant_of g before i) e)
    ∙ ap (is_same_table (quant_of f before i)) (holds.quants (component_at f i).quant))
    low (λ i named. named)

-- what the tables then decide
pub in_order : (limits : Limits) (before : List Segment) (contents : List ℕ) (f : Frame) (head : ScanHead) (b : ScanHistory) (h : SegmentView) (lacks same : Bool) (parts : List ScanPart) → frame_of limits before ≡ f → scan_header f contents ≡ Ok head → IsHead f head
    → length f.components ≤ 4 → HasBegun limits b before → Holds limits h before → TellsOrder b f head None → lacks ≡ lacks_any h f head → parts ≡ head.parts → same ≡ all_of (is_same_kept b.quants f h.quants) (map (λ p. p.component) parts)
    → contents_rule limits before 0xda contents ≡ fault_in (refuse MissingTable lacks (refuse QuantChanged (not same) (Ok head)))
in_order limits before contents f head b h lacks same parts e told is_head few k holds none is_lacking are is_same =
    rule_is limits before contents f head e told
    ∙ ap fault_in (passed_is f before head (told_order limits before f head b None e k none))
    ∙ ap (λ t. fault_in (refuse MissingTable t (refuse QuantChanged (not (all_of (λ i. is_same_table (quant_of f before i) (quant_in_force before (component_at f i).quant)) (head_components head))) (Ok head))))
    (sym (is_lacking ∙ ap (λ test. any_of test head.parts) (fun_ext (λ p. part_lacks limits h before f head p holds))))
    ∙ ap (λ t. fault_in (refuse MissingTable lacks (refuse QuantChanged (not t) (Ok head))))
    (sym (is_same ∙ ap (λ (l : List ScanPart). all_of (is_same_kept b.quants f h.quants) (map (λ (p : ScanPart). p.component) l)) are ∙ same_kept limits before f head b h e k holds (small_parts f head is_head few)))

-- A scan header taken by the reader of a file.

abbrev pub Judges : FileState → ScanHistory → Frame → List ℕ → Result ScanHead Fault → Type 0
Judges r b f k answer = (limits : Limits) (before : List Segment) → frame_of limits before ≡ f → Holds limits (segments_view r.items.held) before → HasBegun limits b before → Judged limits before k f (segments_view r.items.held) answer

-- where this frame and this picture are kept, and the contents of the header were judged
module _ (limits : Limits) (bytes : List ℕ) (items : List Item) (blocks : Blocks) (r : FileState) (f held : Frame) (q : Picture) (contents : List ℕ)
    (h : HeadWhole limits bytes items blocks r) (kept : r.items.held.frame ≡ Some held) (copied : f ≡ held) (pictured : r.window ≡ window.All q)
    (given : contents ≡ (reading_of (r.items).segments).contents) where
  is_held : h.frame ≡ f
  is_held = some_once h.frame held (sym h.framed ∙ kept) ∙ sym copied

  frame_is : frame_of limits (segments_of items) ≡ f
  frame_is = ap (λ (o : Option Frame). unwrap_or o no_frame) (sym ((h.segment).holds).frame ∙ h.framed) ∙ is_held

  judged : (answer : Result ScanHead Fault) → Judges r r.begun f contents answer
      → Judged limits (segments_of items) (reading_of (r.items).segments).contents f (segments_view r.items.held) answer
  judged answer j =
      subst (λ c. Judged limits (segments_of items) c f (segments_view r.items.held) answer) given (j limits (segments_of items) frame_is (h.segment).holds h.begun)

  pub head_begins : (head : ScanHead) (set : TableSet) → slots_of set ≡ definitions_of r.items.held.tables → Judges r r.begun f contents (Ok head)
      → Begins limits items blocks (reading_of (r.items).segments).contents bytes f head set r.items.held.interval q × (lacks_any (segments_view r.items.held) f head ≡ false)
  head_begins head set built judges =
      let k = h.segment in
      let view = segments_view r.items.held in
      let j = judged (Ok head) judges in (
        record {
          sent = k.sent;
          tail = k.tail;
          at = k.at;
          spelled = subst (λ n. SpellsSegment n (reading_of (r.items).segments).contents k.tail) h.code k.spelled;
          allowed = subst (λ n. code_fault (segments_of items) n ≡ None) h.code k.allowed;
          rule = j.0;
          header = record {
            framed = frame_is;
            header = ap (λ (t : Parsed ScanHead). parsed_or no_head t) j.1;
            is_frame = subst (λ g. IsFrame g) is_held h.is_frame;
            is_head = j.2;
            scan_header = record {
              components = are_in f head j.2;
              distinct = (j.2).distinct;
              parameters = head_parameters f (reading_of (r.items).segments).contents head j.1;
              tables = tables_there view f head set (sym built) j.3;
            };
            codings = same_coding f head (in_force set) (huffman_in_force (segments_of items)) (tables_held limits view (segments_of items) set k.holds (sym built));
            restart = (k.holds).interval;
            pictured = sym (ap (λ (c : Picture). c.frame) (all_once h.coefs q (sym h.has ∙ pictured))) ∙ h.pictured ∙ is_held;
            as_map = h.as_map ∙ ap (λ c. map_of c) (all_once h.coefs q (sym h.has ∙ pictured));
          };
        },
        j.3,
      )

  pub head_shows : (fault : Fault) → Judges r r.begun f contents (Err fault) → Reveals limits fault bytes × (r.taken ≡ length bytes)
  head_shows fault j =
      (segment_fault limits bytes items blocks r.items h.segment fault (subst (λ n. contents_rule limits (segments_of items) n (reading_of (r.items).segments).contents ≡ Some fault) (sym h.code) (judged (Err fault) j)), h.count)
