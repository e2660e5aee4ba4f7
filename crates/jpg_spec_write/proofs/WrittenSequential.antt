-- A scan of a sequential script: its header, its tables, its text, and what it adds.
use Rattle.std.proofs.Common.{◌≡◌, ℕ, suc, ◌+◌, ◌<◌, ◌≤◌, Bool, true, false, cond, not, List, [], ◌∷◌, ◌++◌, length, get_or, refl, sym, ap, ◌∙◌, subst, arith, lit<, lit≤, Option, Some, None, ℤ, pos, ◌==◌, ◌&&◌}
use Rattle.std.specs.Prelude.{◌||◌, map, flat_map, nat_lt, nat_le, Ok, is_none}
use Rattle.std.specs.Int.{to_be_bytes, w16}
use Rattle.std.proofs.lemmas.List.{length-map}
use Rattle.jpg_spec.specs.Bits.{data_of, stuffed}
use Rattle.jpg_spec.specs.Codes.{are_codes}
use Rattle.jpg_spec.specs.Lists.{any_of, all_of, is_among, is_distinct, index_of}
use Rattle.jpg_spec.specs.Geometry.{Frame, component_at, factor_sum, is_progressive}
use Rattle.jpg_spec.specs.FrameHeader.{identifiers}
use Rattle.jpg_spec.specs.Segments.{HuffmanTable, QuantTable, ScanHead, head_components, needs_dc, needs_ac}
use Rattle.jpg_spec.specs.Scan.{TablesInForce}
use Rattle.jpg_spec_write.specs.declared.huffman.Huffman.{Huffman}
use Rattle.jpg_spec_write.specs.ScanText.{Owned, units_due, interval_elements, scan_elements, element_bits, intervals_text, scan_data, typical_table, is_plain, own_table, scan_tables}
use Rattle.jpg_spec.specs.Meaning.{Meaning, colour_of}
use Rattle.jpg_spec_write.specs.Script.{Entry}
use Rattle.jpg_spec.specs.HuffContents.{huffman_table_of, huffman_tables_of}
use Rattle.jpg_spec.specs.ScanContents.{are_parameters}
use Rattle.jpg_spec.specs.Markers.{Segment}
use Rattle.jpg_spec.specs.InForce.{huffman_in_force, quant_in_force, heads_of}
use Rattle.jpg_spec.specs.History.{has_begun, is_next, needs_dc_table, needs_ac_table, lacks_table, quant_of, is_same_table, admitted}
use Rattle.jpg_spec_write.specs.FileText.{Written, segment_text, frame_of_meaning, slot_for, has_chroma, written_head, head_text, tables_needed, with_table, tables_text, tables_given, Restart, interval_of, scans_text}
use Rattle.jpg_spec_write.specs.WrittenFile.{is_sequential_entry}
use Rattle.jpg_spec.specs.declared.fault.Fault.TheVariants.{RepeatedScan, Progression, MissingTable, QuantChanged}
use Rattle.jpg_spec.specs.declared.frame.Colour.{Colour}
use Rattle.jpg_spec.specs.declared.frame.Place.{Place}
use Rattle.jpg_spec.specs.declared.frame.ScanPart.{ScanPart}
use Rattle.jpg_spec.proofs.Basics.Rows.{map_map}
use Rattle.jpg_spec.proofs.Basics.Each.{Each}
use Rattle.jpg_spec_write.proofs.WrittenCoding.{Gives}
use Rattle.jpg_spec_write.proofs.WrittenScan.{sequential_coded, scan_rows}
use Rattle.jpg_spec.proofs.Writing.WrittenHead.{IsPartOf, IsSpoken}
use Rattle.jpg_spec.proofs.Writing.WrittenState.{IsTellable}
use Rattle.jpg_spec.proofs.Basics.Common.{both, negated, le_of, lt_of, same_of, same_itself, not_refused}
use Rattle.jpg_spec_write.proofs.ProgressiveCodes.{own_tell}

-- THE HEAD

abbrev pub plain_part : Colour → ℕ → ScanPart
plain_part colour i = record { component = i; dc = slot_for colour i; ac = slot_for colour i }

abbrev pub plain_head : Colour → List ℕ → ScanHead
plain_head colour components = record { parts = map (plain_part colour) components; ss = 0; se = 63; ah = 0; al = 0 }

pub head_is_plain : (H : Meaning) (e : Entry) → is_progressive H.process ≡ false → written_head H e ≡ plain_head (colour_of H) e.components
head_is_plain H e s =
    ap (λ is_prog. (let h : ScanHead = record {
      parts = map (λ i. record { component = i; dc = cond (needs_dc is_prog e.ss e.ah) (slot_for (colour_of H) i) 0; ac = cond (needs_ac is_prog e.ss) (slot_for (colour_of H) i) 0 }) e.components;
      ss = cond is_prog e.ss 0;
      se = cond is_prog e.se 63;
      ah = cond is_prog e.ah 0;
      al = cond is_prog e.al 0;
    } in h)) s

pub plain_components : (colour : Colour) (components : List ℕ) → head_components (plain_head colour components) ≡ components
plain_components colour [] = refl
plain_components colour (i ∷ components) = ap (λ l. i ∷ l) (plain_components colour components)

pub slot_few : (colour : Colour) (i : ℕ) → slot_for colour i ≤ 1
slot_few colour i = by (has_chroma colour && (i == 1 || i == 2))
  where
    by : (b : Bool) → cond b 1 0 ≤ 1
    by true = lit≤ tt
    by false = lit≤ tt

-- THE CONDITIONS OF AN ENTRY

pub record IsEntry (f : Frame) (done : List ℕ) (components : List ℕ) : Type 0 where
  pub some : 1 ≤ length components
  pub few : length components ≤ 4
  pub known : Each (λ i. i < length f.components) components
  pub distinct : is_distinct components ≡ true
  pub small : (nat_lt 1 (length components) && nat_lt 10 (factor_sum f components)) ≡ false
  pub new : any_of (λ i. is_among i done) components ≡ false

pub each_below : (n : ℕ) (xs : List ℕ) → all_of (λ i. nat_lt i n) xs ≡ true → Each (λ i. i < n) xs
each_below n [] e = tt
each_below n (x ∷ xs) e = let b = both (nat_lt x n) (all_of (λ i. nat_lt i n) xs) e in (lt_of x n b.0, each_below n xs b.1)

pub entry_is : (f : Frame) (done : List ℕ) (e : Entry) → is_sequential_entry f done e ≡ true → IsEntry f done e.components
entry_is f done e h =
    let n = length e.components in
    let size = nat_le 1 n && nat_le n 4 in
    let known = all_of (λ i. nat_lt i (length f.components)) e.components in
    let d = is_distinct e.components in
    let big = nat_lt 1 n && nat_lt 10 (factor_sum f e.components) in
    let old = any_of (λ i. is_among i done) e.components in
    let a = both size (known && (d && (not big && not old))) h in
    let b = both (nat_le 1 n) (nat_le n 4) a.0 in
    let k = both known (d && (not big && not old)) a.1 in
    let m = both d (not big && not old) k.1 in
    let o = both (not big) (not old) m.1 in
    record { some = le_of 1 n b.0; few = le_of n 4 b.1; known = each_below (length f.components) e.components k.0; distinct = m.0; small = negated big o.0; new = negated old o.1 }

pub among_below : (n i : ℕ) (xs : List ℕ) → Each (λ i. i < n) xs → is_among i xs ≡ true → i < n
among_below n i [] h e = cc
among_below n i (x ∷ xs) h e = by (x == i) refl e (among_below n i xs h.1)
  where
    by : (b : Bool) → (x == i) ≡ b → (b || is_among i xs) ≡ true → (is_among i xs ≡ true → i < n) → i < n
    by true s k later = subst (λ m. m < n) (same_of x i s) h.0
    by false s k later = later k

-- the head may be written
pub length_ids : (f : Frame) → length (identifiers f.components) ≡ length f.components
length_ids f = length-map f.components (λ c. c.id)

parts_of : (f : Frame) (colour : Colour) (components : List ℕ) → Each (λ i. i < length f.components) components → Each (IsPartOf f) (map (plain_part colour) components)
parts_of f colour [] h = tt
parts_of f colour (i ∷ components) h =
    let few = slot_few colour i in
    ((subst (λ n. i < n) (sym (length_ids f)) h.0, omega (arith, few), omega (arith, few)), parts_of f colour components h.1)

pub plain_spoken : (f : Frame) (colour : Colour) (done components : List ℕ) → is_progressive f.process ≡ false → IsEntry f done components → IsSpoken f (plain_head colour components)
plain_spoken f colour done components p e =
    let head = plain_head colour components in
    let l : length head.parts ≡ length components = length-map components (plain_part colour) in
    let c = plain_components colour components in
    record {
      some = subst (λ n. 1 ≤ n) (sym l) e.some;
      few = subst (λ n. n ≤ 4) (sym l) e.few;
      parts = parts_of f colour components e.known;
      distinct = ap is_distinct c ∙ e.distinct;
      small = ap (λ n. nat_lt 1 n && nat_lt 10 (factor_sum f (head_components head))) l ∙ ap (λ cs. nat_lt 1 (length components) && nat_lt 10 (factor_sum f cs)) c ∙ e.small;
      al = lit< tt;
      allowed = ap (λ b. b && not (are_parameters f (length head.parts) head)) p;
    }

-- THE TABLES: typical ones, or the scan's own

abbrev pub plain_tables : Huffman → Meaning → ScanHead → ℕ → ℕ → ℕ → HuffmanTable
plain_tables huffman H head n = scan_tables huffman (frame_of_meaning H) head (scan_elements (frame_of_meaning H) head n H.blocks)

typical_tellable : (a b : Bool) → IsTellable (cond a 1 0) (cond b 1 0) (typical_table (cond a 1 0) (cond b 1 0))
unfolding huffman_tables_of huffman_table_of are_codes
typical_tellable false false = record { told = refl; short = lit< tt }
typical_tellable false true = record { told = refl; short = lit< tt }
typical_tellable true false = record { told = refl; short = lit< tt }
typical_tellable true true = record { told = refl; short = lit< tt }

plain_tellable : (huffman : Huffman) (H : Meaning) (head : ScanHead) (n : ℕ) (a b : Bool) → IsTellable (cond a 1 0) (cond b 1 0) (plain_tables huffman H head n (cond a 1 0) (cond b 1 0))
plain_tellable huffman H head n a b = by (not (is_progressive H.process) && (H.precision == 8 && is_plain huffman))
  where
    low : (t : Bool) → cond t 1 0 ≤ 1
    low true = lit≤ tt
    low false = lit≤ tt

    by : (t : Bool) → IsTellable (cond a 1 0) (cond b 1 0) (cond t (typical_table (cond a 1 0) (cond b 1 0)) (own_table huffman head (scan_elements (frame_of_meaning H) head n H.blocks) (cond a 1 0) (cond b 1 0)))
    by true = typical_tellable a b
    by false = own_tell huffman head (scan_elements (frame_of_meaning H) head n H.blocks) (cond a 1 0) (cond b 1 0) (low a) (low b)

abbrev pub plain_needed : List ScanPart → List (ℕ × ℕ)
plain_needed parts = flat_map (λ (p : ScanPart). (0, p.dc) ∷ (1, p.ac) ∷ []) parts

pub needed_tellable : (huffman : Huffman) (H : Meaning) (head : ScanHead) (k : ℕ) (colour : Colour) (components : List ℕ)
    → Each (λ (n : ℕ × ℕ). IsTellable n.0 n.1 (plain_tables huffman H head k n.0 n.1)) (plain_needed (map (plain_part colour) components))
needed_tellable huffman H head k colour [] = tt
needed_tellable huffman H head k colour (i ∷ components) =
    let chroma = has_chroma colour && (i == 1 || i == 2) in
    (plain_tellable huffman H head k false chroma, (plain_tellable huffman H head k true chroma, needed_tellable huffman H head k colour components))

-- a table that was given remains
pub given_stays : (due : ℕ → ℕ → HuffmanTable) (needed : List (ℕ × ℕ)) (given : ℕ → ℕ → Option HuffmanTable) (c n : ℕ) → given c n ≡ Some (due c n) → tables_given given due needed c n ≡ Some (due c n)
given_stays due [] given c n e = e
given_stays due (k ∷ needed) given c n e = given_stays due needed (with_table given k.0 k.1 (due k.0 k.1)) c n (by (c == k.0 && n == k.1) refl)
  where
    by : (b : Bool) → (c == k.0 && n == k.1) ≡ b → cond b (Some (due k.0 k.1)) (given c n) ≡ Some (due c n)
    by true h =
        let m = both (c == k.0) (n == k.1) h in
        ap (λ (x : ℕ). (let r : Option HuffmanTable = Some (due x k.1) in r)) (sym (same_of c k.0 m.0)) ∙ ap (λ (x : ℕ). (let r : Option HuffmanTable = Some (due c x) in r)) (sym (same_of n k.1 m.1))
    by false h = e

pub given_now : (due : ℕ → ℕ → HuffmanTable) (given : ℕ → ℕ → Option HuffmanTable) (c n : ℕ) → with_table given c n (due c n) c n ≡ Some (due c n)
given_now due given c n = ap (λ b. cond (b && n == n) (Some (due c n)) (given c n)) (same_itself c) ∙ ap (λ b. cond b (Some (due c n)) (given c n)) (same_itself n)

abbrev pub IsGiven : (ℕ → ℕ → Option HuffmanTable) → (ℕ → ℕ → HuffmanTable) → ScanPart → Type 0
IsGiven tables due p = (tables 0 p.dc ≡ Some (due 0 p.dc)) × (tables 1 p.ac ≡ Some (due 1 p.ac))

pub all_given : (due : ℕ → ℕ → HuffmanTable) (parts : List ScanPart) (given : ℕ → ℕ → Option HuffmanTable) → Each (IsGiven (tables_given given due (plain_needed parts)) due) parts
all_given due [] given = tt
all_given due (p ∷ parts) given =
    let g = with_table given 0 p.dc (due 0 p.dc) in
    let h = with_table g 1 p.ac (due 1 p.ac) in (
      (given_stays due (plain_needed parts) h 0 p.dc (given_now due given 0 p.dc), given_stays due (plain_needed parts) h 1 p.ac (given_now due g 1 p.ac)),
      all_given due parts h,
    )

-- the part of a component that is named is among the parts
pub part_holds : (P : ScanPart → Type 0) (i : ℕ) (d : ScanPart) (parts : List ScanPart) → Each P parts → is_among i (map (λ (p : ScanPart). p.component) parts) ≡ true
    → P (get_or parts (index_of i (map (λ (p : ScanPart). p.component) parts)) d)
part_holds P i d [] h e = cc
part_holds P i d (p ∷ parts) h e = by (p.component == i) e (λ k. part_holds P i d parts h.1 k)
  where
    next : (n : ℕ) → P (get_or parts n d) → P (get_or (p ∷ parts) (1 + n) d)
    next n k = let e : suc n ≡ 1 + n = omega arith in subst (λ m. P (get_or (p ∷ parts) m d)) e k

    by : (b : Bool) → (b || is_among i (map (λ (p : ScanPart). p.component) parts)) ≡ true
        → (is_among i (map (λ (p : ScanPart). p.component) parts) ≡ true → P (get_or parts (index_of i (map (λ (p : ScanPart). p.component) parts)) d))
        → P (get_or (p ∷ parts) (cond b 0 (1 + index_of i (map (λ (p : ScanPart). p.component) parts))) d)
    by true k later = h.0
    by false k later = next (index_of i (map (λ (p : ScanPart). p.component) parts)) (later k)

pub parts_given : (due : ℕ → ℕ → HuffmanTable) (tables : TablesInForce) (head : ScanHead) → Each (IsGiven tables due) head.parts → Gives due tables head
parts_given due tables head h = λ i e. part_holds (IsGiven tables due) i (record { component = i; dc = 0; ac = 0 }) head.parts h e

-- THE SCAN IS ALLOWED

none_begun : (heads : List ScanHead) (done components : List ℕ) → ((i : ℕ) → has_begun heads i ≡ is_among i done) → any_of (has_begun heads) components ≡ any_of (λ i. is_among i done) components
none_begun heads done [] h = refl
none_begun heads done (i ∷ components) h = ap (λ b. b || any_of (has_begun heads) components) (h i) ∙ ap (λ b. is_among i done || b) (none_begun heads done components h)

lacks_none : (f : Frame) (before : List Segment) (head : ScanHead) (due : ℕ → ℕ → HuffmanTable) (parts : List ScanPart) → Each (λ (p : ScanPart). (q : QuantTable) × (quant_in_force before (component_at f p.component).quant ≡ Some q)) parts → Each (IsGiven (huffman_in_force before) due) parts
    → any_of (λ (p : ScanPart). is_none (quant_in_force before (component_at f p.component).quant) || (needs_dc_table f head && is_none (huffman_in_force before 0 p.dc) || needs_ac_table f head && is_none (huffman_in_force before 1 p.ac))) parts ≡ false
lacks_none f before head due [] q g = refl
lacks_none f before head due (p ∷ parts) q g =
    let rest = any_of (λ (p : ScanPart). is_none (quant_in_force before (component_at f p.component).quant) || (needs_dc_table f head && is_none (huffman_in_force before 0 p.dc) || needs_ac_table f head && is_none (huffman_in_force before 1 p.ac))) parts in
    ap (λ o. (is_none o || (needs_dc_table f head && is_none (huffman_in_force before 0 p.dc) || needs_ac_table f head && is_none (huffman_in_force before 1 p.ac))) || rest) (q.0).1
    ∙ ap (λ o. (needs_dc_table f head && is_none o || needs_ac_table f head && is_none (huffman_in_force before 1 p.ac)) || rest) (g.0).0
    ∙ ap (λ o. (needs_dc_table f head && false || needs_ac_table f head && is_none o) || rest) (g.0).1
    ∙ ap (λ b. b || rest) (none (needs_dc_table f head) (needs_ac_table f head)) ∙ lacks_none f before head due parts q.1 g.1
  where
    none : (a b : Bool) → (a && false || b && false) ≡ false
    none true true = refl
    none true false = refl
    none false true = refl
    none false false = refl

same_quants : (f : Frame) (before : List Segment) (components : List ℕ) → Each (λ i. quant_of f before i ≡ None) components → all_of (λ i. is_same_table (quant_of f before i) (quant_in_force before (component_at f i).quant)) components ≡ true
same_quants f before [] h = refl
same_quants f before (i ∷ components) h = ap (λ o. is_same_table o (quant_in_force before (component_at f i).quant) && all_of (λ i. is_same_table (quant_of f before i) (quant_in_force before (component_at f i).quant)) components) h.0 ∙ same_quants f before components h.1

pub sequential_admitted : (f : Frame) (before : List Segment) (heads : List ScanHead) (done : List ℕ) (head : ScanHead) (due : ℕ → ℕ → HuffmanTable) → is_progressive f.process ≡ false → heads_of f before ≡ heads
    → ((i : ℕ) → has_begun heads i ≡ is_among i done) → any_of (λ i. is_among i done) (head_components head) ≡ false
    → Each (λ (p : ScanPart). (q : QuantTable) × (quant_in_force before (component_at f p.component).quant ≡ Some q)) head.parts → Each (IsGiven (huffman_in_force before) due) head.parts
    → Each (λ i. quant_of f before i ≡ None) (head_components head) → admitted f before head ≡ Ok head
sequential_admitted f before heads done head due p h begun new q g unsent =
    let a : (not (is_progressive f.process) && any_of (has_begun (heads_of f before)) (head_components head)) ≡ false =
    ap (λ b. not b && any_of (has_begun (heads_of f before)) (head_components head)) p ∙ ap (λ hs. any_of (has_begun hs) (head_components head)) h ∙ none_begun heads done (head_components head) begun ∙ new in
    not_refused RepeatedScan _ _ a ∙ not_refused Progression _ _ (ap (λ b. b && not (all_of (is_next (heads_of f before) head) (head_components head))) p)
    ∙ not_refused MissingTable (lacks_table f before head) _ (lacks_none f before head due head.parts q g) ∙ not_refused QuantChanged _ _ (ap not (same_quants f before (head_components head) unsent))

-- ITS TEXT

abbrev pub rows_of : Meaning → ScanHead → ℕ → List (List Place)
rows_of H head interval = scan_rows (frame_of_meaning H) head interval

abbrev pub plain_data : Huffman → Meaning → ScanHead → ℕ → List ℕ
plain_data huffman H head interval = intervals_text 0 (map stuffed (map (sequential_coded (plain_tables huffman H head interval) head H.blocks) (rows_of H head interval)))

data_is : (H : Meaning) (tables : ℕ → ℕ → HuffmanTable) (head : ScanHead) (interval : ℕ) → is_progressive H.process ≡ false
    → scan_data tables head (scan_elements (frame_of_meaning H) head interval H.blocks) ≡ intervals_text 0 (map stuffed (map (sequential_coded tables head H.blocks) (rows_of H head interval)))
unfolding scan_data
data_is H tables head interval e =
    let rows = rows_of H head interval in
    let first : ℕ → ℤ = λ i. pos 0 in
    let coded : Bool → List Place → List ℕ = λ b places. data_of (flat_map (element_bits tables head) (interval_elements b head (units_due H.blocks first places))) in
    ap (intervals_text 0) (map_map (λ (es : List Owned). data_of (flat_map (element_bits tables head) es)) (λ (places : List Place). interval_elements (is_progressive H.process) head (units_due H.blocks first places)) rows
    ∙ ap (λ b. map (coded b) rows) e ∙ sym (map_map stuffed (sequential_coded tables head H.blocks) rows))

-- what a scan writes: its tables, its restart interval, its header and its data
abbrev pub plain_scan : Huffman → Meaning → ScanHead → ℕ → Written → List ℕ
plain_scan huffman H head n w =
    tables_text w.tables (plain_tables huffman H head n) (plain_needed head.parts) ++ cond (n == w.interval) [] (segment_text 0xdd (to_be_bytes w16 n)) ++ head_text H head ++ plain_data huffman H head n

-- and what was written after it
abbrev pub plain_written : Huffman → Meaning → ScanHead → ℕ → Written → Written
plain_written huffman H head n w = record { tables = tables_given w.tables (plain_tables huffman H head n) (plain_needed head.parts); interval = n }

pub scans_are : (huffman : Huffman) (H : Meaning) (restart : Restart) (w : Written) (e : Entry) (script : List Entry) → is_progressive H.process ≡ false
    → (let head = plain_head (colour_of H) e.components in let n = interval_of (frame_of_meaning H) head restart in
    scans_text huffman H restart w (e ∷ script) ≡ plain_scan huffman H head n w ++ scans_text huffman H restart (plain_written huffman H head n w) script)
unfolding scans_text
scans_are huffman H restart w e script s =
    let f = frame_of_meaning H in
    let head = plain_head (colour_of H) e.components in
    let n = interval_of f head restart in
    let whole : ScanHead → (ℕ → ℕ → HuffmanTable) → List (ℕ × ℕ) → List ℕ → List ℕ = λ head tables needed coded.
    tables_text w.tables tables needed ++ cond (interval_of f head restart == w.interval) [] (segment_text 0xdd (to_be_bytes w16 (interval_of f head restart))) ++ head_text H head ++ coded
    ++ scans_text huffman H restart (record { tables = tables_given w.tables tables needed; interval = interval_of f head restart }) script in
    let elements : ScanHead → List (List Owned) = λ head. scan_elements f head (interval_of f head restart) H.blocks in
    ap (λ h. whole h (scan_tables huffman f h (elements h)) (tables_needed (is_progressive H.process) e h) (scan_data (scan_tables huffman f h (elements h)) h (elements h))) (head_is_plain H e s)
    ∙ ap (λ b. whole head (plain_tables huffman H head n) (tables_needed b e head) (scan_data (plain_tables huffman H head n) head (elements head))) s
    ∙ ap (λ d. whole head (plain_tables huffman H head n) (plain_needed head.parts) d) (data_is H (plain_tables huffman H head n) head n s)
