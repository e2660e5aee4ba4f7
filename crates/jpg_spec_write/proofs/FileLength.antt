-- A file that is written in a sequential script has fewer than 2^39 bytes.
use Rattle.std.proofs.Common.{◌≡◌, ℕ, zero, suc, ◌+◌, ◌*◌, ◌%◌, ◌^◌, ◌<◌, ◌≤◌, Bool, true, false, cond, List, [], ◌∷◌, ◌++◌, length, refl, sym, ap, ◌∙◌, subst, arith, lit≤, ⊎_elim, ℤ, pos, Option, ◌==◌, not, ◌&&◌}
use Rattle.std.specs.Prelude.{◌||◌, map, flat_map, slice_index_or}
use Rattle.std.specs.Int.{to_be_bytes, w16}
use Rattle.std.specs.List.{All}
use Rattle.std.proofs.lemmas.Bool.{cases_lt}
use Rattle.std.proofs.lemmas.List.{length-append, length-map}
use Rattle.std.proofs.lemmas.List.Elements.{All-head, All-tail}
use Rattle.jpg_spec.specs.Bits.{stuffed}
use Rattle.jpg_spec.specs.Lists.{any_of, is_among, joined}
use Rattle.jpg_spec.specs.Geometry.{Frame, is_progressive, units, mcu_units}
use Rattle.jpg_spec.specs.FrameHeader.{AreLimits}
use Rattle.jpg_spec.specs.Segments.{HuffmanTable, ScanHead, head_components, standard_limits}
use Rattle.jpg_spec.specs.Scan.{Blocks, scan_coding}
use Rattle.jpg_spec_write.specs.declared.huffman.Huffman.{Huffman}
use Rattle.jpg_spec_write.specs.ScanText.{units_due, last_dc, intervals_text, typical_table, Owned, scan_elements, is_plain, own_table}
use Rattle.jpg_spec.specs.Markers.{eoi}
use Rattle.jpg_spec.specs.Meaning.{Meaning, PictureComponent, colour_of}
use Rattle.jpg_spec_write.specs.Script.{Entry, sequential_script}
use Rattle.jpg_spec_write.specs.Written.{IsWritable, HasCode, all_in_force}
use Rattle.jpg_spec_write.specs.FileText.{Written, nothing_written, Restart, segment_text, front_text, frame_of_meaning, head_text, tables_text, with_table, holds_table, interval_of, scans_text, file_text}
use Rattle.jpg_spec_write.specs.WrittenFile.{HasQuants, IsHeaded, is_sequential_entry, is_script_after}
use Rattle.jpg_spec.specs.declared.frame.Place.{Place}
use Rattle.jpg_spec.specs.declared.frame.ScanPart.{ScanPart}
use Rattle.jpg_spec.specs.declared.frame.Limits.{Limits}
use Rattle.jpg_spec.proofs.Files.BlocksOnce.{joined_chunks}
use Rattle.jpg_spec.proofs.Basics.Rows.{map_map}
use Rattle.jpg_spec.proofs.Places.PlacesFound.{each_units}
use Rattle.jpg_spec.proofs.Basics.Each.{Each}
use Rattle.jpg_spec_write.proofs.PlacedBlocks.{block_due, IsRealSendable, each_both}
use Rattle.jpg_spec.proofs.Writing.WrittenFront.{standard_are_limits, frame_is}
use Rattle.jpg_spec_write.proofs.WrittenScan.{sequential_coded, rows_elements}
use Rattle.jpg_spec_write.proofs.WrittenScript.{IsFit, among_join}
use Rattle.jpg_spec_write.proofs.WrittenSequential.{plain_part, plain_head, plain_components, IsEntry, entry_is, among_below, plain_needed, plain_data, rows_of, scans_are, plain_tables, plain_scan, plain_written}
use Rattle.jpg_spec_write.proofs.WrittenMeans.{count_is, sequential_means}
use Rattle.jpg_spec_write.proofs.FrontLength.{HasLength, length_segment, front_few}
use Rattle.jpg_spec_write.proofs.ScanLength.{due_few}
use Rattle.jpg_spec.proofs.Bits.UnitsCount.{intervals_few, scan_few}
use Rattle.jpg_spec.specs.FileMeaning.{Means}
use Rattle.jpg_spec_write.specs.Laws.{IsOwnText}
use Rattle.jpg_spec_write.proofs.WrittenScripts.{sequential_passes}
use Rattle.jpg_spec.proofs.Basics.Common.{both, neither, same_itself}
use Rattle.jpg_spec_write.proofs.SequentialCodes.{scan_coded, rows_writable}
use Rattle.jpg_spec_write.proofs.ProgressiveCodes.{own_valid}

-- THE DATA of a scan

pub length_due : (blocks : Blocks) (last : ℕ → ℤ) (places : List Place) → length (units_due blocks last places) ≡ length places
length_due blocks last [] = refl
length_due blocks last (p ∷ places) = ap suc (length_due blocks (last_dc last p.component (block_due blocks last p)) places)

-- the data of intervals, and two bytes between each two
intervals_long : {A : Type 0} (coded : List A → List ℕ) (turn : ℕ) (rows : List (List A)) → Each (λ row. length (coded row) ≤ 496 * length row + 2) rows
    → length (intervals_text turn (map coded rows)) ≤ 496 * length (joined rows) + 4 * length rows
intervals_long coded turn [] h = omega arith
intervals_long coded turn (row ∷ []) h = omega (arith, h.0, length-append row [])
intervals_long coded turn (row ∷ next ∷ rows) h =
    let later = intervals_long coded (turn + 1) (next ∷ rows) h.1 in
    let text = intervals_text (turn + 1) (map coded (next ∷ rows)) in
    omega (arith, h.0, later, length-append (coded row) (255 ∷ (0xd0 + turn % 8) ∷ text), length-append row (joined (next ∷ rows)))

-- a table of at most 272 counts and symbols
abbrev pub IsSmallTable : HuffmanTable → Type 0
IsSmallTable t = length t.counts + length t.symbols ≤ 272

interval_long : (f : Frame) (tables : ℕ → ℕ → HuffmanTable) (head : ScanHead) (blocks : Blocks) (places : List Place) → is_progressive f.process ≡ false → ((class slot : ℕ) → length (tables class slot).counts ≤ 16)
    → Each (IsWritable (scan_coding f (all_in_force tables) head)) (units_due blocks (λ i. pos 0) places) → Each (HasCode tables head) (rows_elements head blocks places)
    → length (stuffed (sequential_coded tables head blocks places)) ≤ 496 * length places + 2
interval_long f tables head blocks places e short ok coded =
    let first : ℕ → ℤ = λ i. pos 0 in
    omega (arith, due_few f tables head (units_due blocks first places) e short ok coded, length_due blocks first places)

plain_counts : (huffman : Huffman) (H : Meaning) (head : ScanHead) (n class slot : ℕ) → IsSmallTable (plain_tables huffman H head n class slot) × (length (plain_tables huffman H head n class slot).counts ≤ 16)
plain_counts huffman H head n class slot = by (not (is_progressive H.process) && (H.precision == 8 && is_plain huffman))
  where
    es : List (List Owned)
    es = scan_elements (frame_of_meaning H) head n H.blocks

    IsGood : HuffmanTable → Type 0
    IsGood t = IsSmallTable t × (length t.counts ≤ 16)

    typical : (a b : Bool) → IsGood (cond a (cond b (typical_table 0 0) (typical_table 0 1)) (cond b (typical_table 1 0) (typical_table 1 1)))
    typical true true = (lit≤ tt, lit≤ tt)
    typical true false = (lit≤ tt, lit≤ tt)
    typical false true = (lit≤ tt, lit≤ tt)
    typical false false = (lit≤ tt, lit≤ tt)

    by : (t : Bool) → IsGood (cond t (typical_table class slot) (own_table huffman head es class slot))
    by true = typical (class == 0) (slot == 0)
    by false =
        let valid = own_valid huffman head es class slot in
        (omega (arith, valid.counts, valid.few), omega (arith, valid.counts))

data_long : (huffman : Huffman) (H : Meaning) (head : ScanHead) (n : ℕ) → IsFit H → ((i : ℕ) → is_among i (head_components head) ≡ true → i < length H.components)
    → length (plain_data huffman H head n) ≤ 500 * length (units (frame_of_meaning H) (head_components head)) + 4
data_long huffman H head n fit known =
    let f = frame_of_meaning H in
    let parts = head_components head in
    let tables = plain_tables huffman H head n in
    let c = scan_coding f (all_in_force tables) head in
    let rows = rows_of H head n in
    let size = n * mcu_units f parts in
    let sendable = each_units (IsRealSendable c H.blocks) f parts
    (λ i x y e real. fit.blocks i x y (known i e) real) in
    let writable = rows_writable f head n H.blocks sendable in
    let each = each_both (λ row. Each (IsWritable c) (units_due H.blocks (λ i. pos 0) row)) (λ row. Each (HasCode tables head) (rows_elements head H.blocks row)) (λ row. length (stuffed (sequential_coded tables head H.blocks row)) ≤ 496 * length row + 2) rows
    (λ row h k. interval_long f tables head H.blocks row fit.sequential (λ class slot. (plain_counts huffman H head n class slot).1) h k) writable (scan_coded huffman f head n H.blocks fit.sequential writable) in
    let long = intervals_long (λ row. stuffed (sequential_coded tables head H.blocks row)) 0 rows each in
    let same = ap (λ t. length (intervals_text 0 t)) (map_map stuffed (sequential_coded tables head H.blocks) rows) in
    omega (arith, long, same, ap length (joined_chunks size (units f parts)), intervals_few size (units f parts))

-- ITS HEAD AND TABLES

table_few : (class slot : ℕ) (t : HuffmanTable) → IsSmallTable t → length (segment_text 0xc4 ((16 * class + slot) ∷ t.counts ++ t.symbols)) ≤ 277
table_few class slot t few = omega (arith, few, length-append t.counts t.symbols, length_segment 0xc4 ((16 * class + slot) ∷ t.counts ++ t.symbols))

pub tables_few : (given : ℕ → ℕ → Option HuffmanTable) (due : ℕ → ℕ → HuffmanTable) (needed : List (ℕ × ℕ)) → ((c n : ℕ) → IsSmallTable (due c n)) → length (tables_text given due needed) ≤ 277 * length needed
tables_few given due [] small = omega arith
tables_few given due (n ∷ needed) small = by (holds_table (given n.0 n.1) (due n.0 n.1)) (tables_few given due needed small) (tables_few (with_table given n.0 n.1 (due n.0 n.1)) due needed small)
  where
    table : List ℕ
    table = segment_text 0xc4 ((16 * n.0 + n.1) ∷ (due n.0 n.1).counts ++ (due n.0 n.1).symbols)

    more : List ℕ
    more = tables_text (with_table given n.0 n.1 (due n.0 n.1)) due needed

    by : (b : Bool) → length (tables_text given due needed) ≤ 277 * length needed → length more ≤ 277 * length needed
        → length (cond b (tables_text given due needed) (table ++ more)) ≤ 277 * length (n ∷ needed)
    by true h k = omega (arith, h)
    by false h k = omega (arith, k, table_few n.0 n.1 (due n.0 n.1) (small n.0 n.1), length-append table more)

length_needed : (parts : List ScanPart) → length (plain_needed parts) ≡ 2 * length parts
length_needed [] = refl
length_needed (p ∷ parts) = let h = length_needed parts in omega (arith, h)

length_pairs : (f g : ScanPart → ℕ) (parts : List ScanPart) → length (flat_map (λ p. f p ∷ g p ∷ []) parts) ≡ 2 * length parts
length_pairs f g [] = refl
length_pairs f g (p ∷ parts) = let h = length_pairs f g parts in omega (arith, h)

pub head_few : (H : Meaning) (head : ScanHead) → length head.parts ≤ 4 → length (head_text H head) ≤ 16
head_few H head few =
    let id : ScanPart → ℕ = λ p. slice_index_or (map (λ (c : PictureComponent). c.id) H.components) p.component 0 in
    let slots : ScanPart → ℕ = λ p. 16 * p.dc + p.ac in
    let named = flat_map (λ p. id p ∷ slots p ∷ []) head.parts in
    let band = head.ss ∷ head.se ∷ (16 * head.ah + head.al) ∷ [] in
    omega (arith, few, length_pairs id slots head.parts, length-append (length head.parts ∷ named) band, length_segment 0xda (length head.parts ∷ named ++ band))

pub restart_few : (n : ℕ) (b : Bool) → length (cond b [] (segment_text 0xdd (to_be_bytes w16 n))) ≤ 6
restart_few n true = lit≤ tt
restart_few n false = omega (arith, length_segment 0xdd (to_be_bytes w16 n))

-- A SCAN of a script, with its tables and its head
scan_long : (huffman : Huffman) (H : Meaning) (restart : Restart) (w : Written) (done components : List ℕ) → IsFit H → IsEntry (frame_of_meaning H) done components
    → (let head = plain_head (colour_of H) components in let n = interval_of (frame_of_meaning H) head restart in
    length (plain_scan huffman H head n w) ≤ 41943042242)
scan_long huffman H restart w done components fit entry =
    let f = frame_of_meaning H in
    let colour = colour_of H in
    let head = plain_head colour components in
    let n = interval_of f head restart in
    let tables = tables_text w.tables (plain_tables huffman H head n) (plain_needed head.parts) in
    let dri = cond (n == w.interval) [] (segment_text 0xdd (to_be_bytes w16 n)) in
    let names_are = plain_components colour components in
    let known : (i : ℕ) → is_among i (head_components head) ≡ true → i < length H.components = λ i e.
    subst (λ m. i < m) fit.count (among_below (length f.components) i components entry.known (ap (is_among i) (sym names_are) ∙ e)) in
    let units_are = ap (λ l. length (units f l)) names_are in
    let few = scan_few f components fit.frame entry.known entry.small in
    let parts = length-map components (plain_part colour) in
    let needed = length_needed head.parts in
    let a = length-append tables dri in
    let b = length-append (tables ++ dri) (head_text H head) in
    let d = length-append (tables ++ dri ++ head_text H head) (plain_data huffman H head n) in
    omega (arith, data_long huffman H head n fit known, units_are, few, fit.frame.blocks, tables_few w.tables (plain_tables huffman H head n) (plain_needed head.parts) (λ c m. (plain_counts huffman H head n c m).0), needed, parts, entry.few, restart_few n (n == w.interval), head_few H head (omega (arith, parts, entry.few)), a, b, d)

-- THE SCRIPT: each scan takes a component that none before it had

abbrev untaken : Bool → ℕ
untaken b = cond b 0 1

-- how many components below a number are in no scan so far
abbrev left_of : ℕ → List ℕ → ℕ
left_of zero done = 0
left_of (suc n) done = untaken (is_among n done) + left_of n done

left_most : (n : ℕ) (done : List ℕ) → left_of n done ≤ n
left_most zero done = omega arith
left_most (suc n) done = by (is_among n done) (left_most n done)
  where
    by : (b : Bool) → left_of n done ≤ n → untaken b + left_of n done ≤ suc n
    by true h = omega (arith, h)
    by false h = omega (arith, h)

one_side : (a b : Bool) (m k : ℕ) → m ≤ k → untaken (a || b) + m ≤ untaken b + k
one_side true true m k h = omega (arith, h)
one_side true false m k h = omega (arith, h)
one_side false true m k h = omega (arith, h)
one_side false false m k h = omega (arith, h)

left_less : (n : ℕ) (components done : List ℕ) → left_of n (components ++ done) ≤ left_of n done
left_less zero components done = omega arith
left_less (suc n) components done =
    subst (λ b. untaken b + left_of n (components ++ done) ≤ left_of (suc n) done) (sym (among_join n components done))
    (one_side (is_among n components) (is_among n done) (left_of n (components ++ done)) (left_of n done) (left_less n components done))

left_fewer : (n i : ℕ) (components done : List ℕ) → i < n → is_among i components ≡ true → is_among i done ≡ false → left_of n (components ++ done) + 1 ≤ left_of n done
left_fewer zero i components done h e d = absurd (omega (arith, h))
left_fewer (suc n) i components done h e d =
    ⊎_elim
    (λ (l : i < n). (let k = left_fewer n i components done l e d in
    let s = one_side (is_among n components) (is_among n done) (left_of n (components ++ done) + 1) (left_of n done) k in
    let j = ap untaken (among_join n components done) in
    omega (arith, s, j)))
    (λ (l : n ≤ i). (let z : i ≡ n = omega (arith, h, l) in
    let here : is_among n components ≡ true = ap (λ m. is_among m components) (sym z) ∙ e in
    let old : is_among n done ≡ false = ap (λ m. is_among m done) (sym z) ∙ d in
    let joined = ap untaken (among_join n components done ∙ ap (λ b. b || is_among n done) here) in
    let k = left_less n components done in
    let o = ap untaken old in
    omega (arith, joined, k, o)))
    (cases_lt i n)

entry_fewer : (n : ℕ) (components done : List ℕ) → 1 ≤ length components → Each (λ i. i < n) components → any_of (λ i. is_among i done) components ≡ false → left_of n (components ++ done) + 1 ≤ left_of n done
entry_fewer n [] done some known new = absurd (omega (arith, some))
entry_fewer n (i ∷ components) done some known new =
    let k = neither (is_among i done) (any_of (λ i. is_among i done) components) new in
    left_fewer n i (i ∷ components) done known.0 (ap (λ b. b || is_among i components) (same_itself i)) k.0

scans_long : (huffman : Huffman) (H : Meaning) (restart : Restart) (w : Written) (done : List ℕ) (script : List Entry) → IsFit H → is_script_after (frame_of_meaning H) done script ≡ true
    → length (scans_text huffman H restart w script) ≤ 41943042242 * left_of (length (frame_of_meaning H).components) done
unfolding scans_text
scans_long huffman H restart w done [] fit e = omega arith
scans_long huffman H restart w done (entry ∷ script) fit e =
    let f = frame_of_meaning H in
    let b = both (is_sequential_entry f done entry) (is_script_after f (entry.components ++ done) script) e in
    let is = entry_is f done entry b.0 in
    let head = plain_head (colour_of H) entry.components in
    let n = interval_of f head restart in
    let next = plain_written huffman H head n w in
    let here = plain_scan huffman H head n w in
    let later = scans_long huffman H restart next (entry.components ++ done) script fit b.1 in
    let cut = ap length (scans_are huffman H restart w entry script fit.sequential) in
    let few = entry_fewer (length f.components) entry.components done is.some is.known is.new in
    omega (arith, later, cut, length-append here (scans_text huffman H restart next script), scan_long huffman H restart w done entry.components fit is, few)

-- THE LAW

pub quants_each : (cs : List PictureComponent) → All HasQuants cs → Each HasLength (map (λ (c : PictureComponent). c.quants) cs)
quants_each [] all = tt
quants_each (c ∷ cs) all = ((All-head HasQuants c cs all).0, quants_each cs (All-tail HasQuants c cs all))

pub sequential_short : (huffman : Huffman) (limits : Limits) (H : Meaning) (script : List Entry) (restart : Restart) → AreLimits limits → IsHeaded limits H → is_progressive H.process ≡ false → is_script_after (frame_of_meaning H) [] script ≡ true
    → length (file_text huffman H script restart) < 2 ^ 39
unfolding file_text
sequential_short huffman limits H script restart limited headed sequential passes =
    let f = frame_of_meaning H in
    let is = frame_is limits f f limited headed.frame in
    let fit : IsFit H = record { frame = is; sequential = sequential; blocks = headed.blocks; count = count_is H } in
    let few : length H.components ≤ 4 = omega (arith, is.count_high, count_is H) in
    let front = front_few H few (quants_each H.components headed.quants) in
    let scans = scans_long huffman H restart nothing_written [] script fit passes in
    let left = left_most (length f.components) [] in
    let a = length-append (front_text H) (scans_text huffman H restart nothing_written script) in
    let b = length-append (front_text H ++ scans_text huffman H restart nothing_written script) eoi in
    omega (arith, front, headed.count, limited.kept, scans, left, is.count_high, a, b)

-- THE DEFAULT FILE within the standard limits means its picture
pub own_means : (H : Meaning) (bytes : List ℕ) → IsOwnText standard_limits H bytes → Means standard_limits bytes H
own_means H bytes w =
    let f = frame_of_meaning H in
    let script = sequential_script f in
    let passes = sequential_passes f (frame_is standard_limits f f standard_are_limits w.headed.frame) in
    let short = sequential_short w.huffman standard_limits H script w.restart standard_are_limits w.headed w.sequential passes in
    subst (λ (l : List ℕ). Means standard_limits l H) (sym w.text)
    (sequential_means w.huffman standard_limits H script w.restart standard_are_limits w.headed w.sequential passes w.small (omega (arith, short)))
