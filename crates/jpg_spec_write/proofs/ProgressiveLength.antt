-- A file that is written in a progressive script has fewer than 2^39 bytes.
use Rattle.std.proofs.Common.{◌≡◌, ℕ, zero, suc, ◌+◌, ◌-◌, ◌*◌, ◌%◌, ◌^◌, ◌<◌, ◌≤◌, Bool, true, false, cond, List, [], ◌∷◌, ◌++◌, length, drop, refl, sym, ap, ◌∙◌, subst, arith, lit≤, ℤ, Some, ◌==◌, ◌&&◌}
use Rattle.std.specs.Prelude.{◌||◌, map, flat_map, nat_le, nat_lt}
use Rattle.std.specs.Int.{to_be_bytes, w16}
use Rattle.std.proofs.lemmas.Nat.{mul-le}
use Rattle.std.proofs.lemmas.List.{length-append, length-map, length-take, length-drop}
use Rattle.jpg_spec.specs.Bits.{bits_of, bits_of_bytes, stuffed}
use Rattle.jpg_spec.specs.Geometry.{Frame, is_progressive, factor_sum, single_units, units, mcu_units, bounds_of, bounds}
use Rattle.jpg_spec.specs.FrameHeader.{AreLimits}
use Rattle.jpg_spec.specs.Segments.{ScanHead, head_components}
use Rattle.jpg_spec.specs.Scan.{Blocks, Scan, TablesInForce, codes_of, part_of, scan_coding, scan_of, band, block_at, unit_at, SpellsInterval, SpellsIntervals}
use Rattle.jpg_spec_write.specs.declared.huffman.Huffman.{Huffman}
use Rattle.jpg_spec_write.specs.ScanText.{intervals_text}
use Rattle.jpg_spec.specs.Markers.{eoi}
use Rattle.jpg_spec.specs.Meaning.{Meaning}
use Rattle.jpg_spec_write.specs.Script.{Entry}
use Rattle.jpg_spec.specs.ScanContents.{is_band, are_bits}
use Rattle.jpg_spec.specs.History.{is_next}
use Rattle.jpg_spec.specs.Lists.{joined}
use Rattle.jpg_spec_write.specs.FileText.{Written, nothing_written, Restart, segment_text, front_text, frame_of_meaning, written_head, head_text, tables_text, tables_given, interval_of, scans_text, file_text}
use Rattle.jpg_spec_write.specs.WrittenFile.{IsHeaded, IsRestart, is_progressive_entry, is_progressive_after}
use Rattle.jpg_spec.specs.declared.frame.Place.{Place}
use Rattle.jpg_spec.specs.declared.frame.ScanPart.{ScanPart}
use Rattle.jpg_spec.specs.declared.frame.Limits.{Limits}
use Rattle.jpg_spec.proofs.Places.PictureInWork.{leads_sizes}
use Rattle.jpg_spec.proofs.Files.BlocksOnce.{joined_chunks}
use Rattle.jpg_spec.proofs.Basics.Each.{Each}
use Rattle.jpg_spec.proofs.Basics.Strings.{length-bits_of}
use Rattle.jpg_spec.proofs.Writing.WrittenFront.{frame_is}
use Rattle.jpg_spec_write.proofs.WrittenMeans.{count_is}
use Rattle.jpg_spec_write.proofs.WrittenScan.{scan_rows}
use Rattle.jpg_spec_write.proofs.WrittenSequential.{among_below}
use Rattle.jpg_spec_write.proofs.WrittenStart.{starts}
use Rattle.jpg_spec_write.proofs.WrittenState as state
use Rattle.jpg_spec.proofs.Bits.DataLength.{AreShort, table_short, IsBrief, AreLeft, stuffed_few}
use Rattle.jpg_spec_write.proofs.FrontLength.{front_few}
use Rattle.jpg_spec_write.proofs.ScanLength.{units_few}
use Rattle.jpg_spec.proofs.Bits.UnitsCount.{intervals_few, single_few, scan_few}
use Rattle.jpg_spec_write.proofs.FileLength.{tables_few, head_few, restart_few, quants_each}
use Rattle.jpg_spec_write.proofs.ProgressiveCodes.{own_valid}
use Rattle.jpg_spec_write.proofs.ProgressiveKnown.{IsKnown, IsProgressiveEntry, progressive_entry}
use Rattle.jpg_spec_write.proofs.ProgressiveRows.{progressive_coded}
use Rattle.jpg_spec_write.proofs.ProgressiveScan.{progressive_scan}
use Rattle.jpg_spec_write.proofs.ProgressiveText.{head_slots, dc_due, ac_due, needed_of, IsGivenBy, progressive_elements, progressive_tables, progressive_data, progressive_scans}
use Rattle.jpg_spec_write.proofs.ProgressiveScript.{IsFit, scan_leads, first_component, entry_step, band_say, one_component}
use Rattle.jpg_spec_write.proofs.ProgressiveFile.{none_known}
use Rattle.jpg_spec.proofs.Places.ProgressiveShares.{left_of_all, sent_of, Descends, all_start, all_fewer, dc_sent, band_is_sent}
use Rattle.jpg_spec.proofs.Bits.FirstPasses.{all_among}
use Rattle.jpg_spec.proofs.Basics.Small.{are_bounds}
use Rattle.jpg_spec.proofs.Basics.Common.{both, same_of}

-- AN INTERVAL that spells its units, with this many values each

pub bytes_long : (bytes : List ℕ) → length (bits_of_bytes bytes) ≡ 8 * length bytes
bytes_long [] = refl
bytes_long (b ∷ bytes) = omega (arith, length-append (bits_of 8 b) (bits_of_bytes bytes), length-bits_of 8 b, bytes_long bytes)

spread : (m a b : ℕ) → m * (a + b) ≡ m * a + m * b
spread m a b = grind arith

-- bands of m values in each block
abbrev HasBands : Scan → ℕ → Type 0
HasBands s m = (1 ≤ m) × ((block : List ℤ) → length block ≡ 64 → length (band s block) ≡ m)

abbrev AreWhole : Blocks → Type 0
AreWhole blocks = (i x y : ℕ) → length (blocks i x y) ≡ 64

bands_long : (s : Scan) (m : ℕ) (blocks : Blocks) (places : List Place) → HasBands s m → AreWhole blocks → length (flat_map (λ p. band s (block_at blocks p)) places) ≡ m * length places
bands_long s m blocks [] h w = let z : m * 0 ≡ 0 = grind arith in sym z
bands_long s m blocks (p ∷ places) h w =
    let later = bands_long s m blocks places h w in
    omega (arith, later, h.1 (block_at blocks p) (w p.component p.x p.y), length-append (band s (block_at blocks p)) (flat_map (λ p. band s (block_at blocks p)) places), spread m 1 (length places), one m)
  where
    one : (m : ℕ) → m * 1 ≡ m
    one m = grind arith

units_left : (s : Scan) (m : ℕ) (blocks : Blocks) (places : List Place) → HasBands s m → AreWhole blocks → AreLeft (map (unit_at s blocks) places)
units_left s m blocks [] h w = tt
units_left s m blocks (p ∷ places) h w = (omega (arith, h.0, h.1 (block_at blocks p) (w p.component p.x p.y)), units_left s m blocks places h w)

interval_long : (s : Scan) (m : ℕ) (before after : Blocks) (places : List Place) (coded : List ℕ) → IsBrief s.coding → HasBands s m → AreWhole before → AreWhole after → SpellsInterval s before after places coded
    → length (stuffed coded) ≤ 8 * (m * length places) + 2
interval_long s m before after places coded brief h w v (bits, packs, spells) =
    let told = flat_map (λ p. band s (block_at after p)) places in
    let few = units_few s.coding (map (unit_at s before) places) told bits brief (units_left s m before places h w) spells in
    omega (arith, few, bands_long s m after places h v, bytes_long coded, ap length packs.2, length-append bits packs.0, packs.1, stuffed_few coded)

intervals_long : (s : Scan) (m : ℕ) (before after : Blocks) (turn : ℕ) (rows : List (List Place)) (coded : List (List ℕ)) → IsBrief s.coding → HasBands s m → AreWhole before → AreWhole after → SpellsIntervals s before after rows coded
    → length (intervals_text turn (map stuffed coded)) ≤ 8 * (m * length (joined rows)) + 4 * length rows
intervals_long s m before after turn [] [] brief h w v k = omega arith
intervals_long s m before after turn [] (c ∷ coded) brief h w v k = absurd k
intervals_long s m before after turn (row ∷ rows) [] brief h w v k = absurd k
intervals_long s m before after turn (row ∷ []) (c ∷ []) brief h w v k =
    let here = interval_long s m before after row c brief h w v k.0 in
    let whole = ap (λ n. m * n) (length-append row []) in
    let split = spread m (length row) 0 in
    omega (arith, here, whole, split)
intervals_long s m before after turn (row ∷ []) (c ∷ d ∷ coded) brief h w v k = absurd k.1
intervals_long s m before after turn (row ∷ next ∷ rows) (c ∷ []) brief h w v k = absurd k.1
intervals_long s m before after turn (row ∷ next ∷ rows) (c ∷ d ∷ coded) brief h w v k =
    let here = interval_long s m before after row c brief h w v k.0 in
    let later = intervals_long s m before after (turn + 1) (next ∷ rows) (d ∷ coded) brief h w v k.1 in
    let text = intervals_text (turn + 1) (map stuffed (d ∷ coded)) in
    let whole = ap (λ n. m * n) (length-append row (joined (next ∷ rows))) in
    let split = spread m (length row) (length (joined (next ∷ rows))) in
    omega (arith, here, later, whole, split, length-append (stuffed c) (255 ∷ (0xd0 + turn % 8) ∷ text))

-- THE DATA OF A SCAN

abbrev tables_due : Huffman → Meaning → ScanHead → ℕ → TablesInForce
tables_due huffman H head n class slot = Some (progressive_tables huffman H head n class slot)

due_brief : (huffman : Huffman) (H : Meaning) (head : ScanHead) (n : ℕ) → IsBrief (scan_coding (frame_of_meaning H) (tables_due huffman H head n) head)
due_brief huffman H head n = record {
  dc = λ i. short 0 (part_of head i).dc;
  ac = λ i. short 1 (part_of head i).ac;
  dc_cat = (let few = (are_bounds H.precision).dc_few in omega (arith, few));
  categories = categories (is_progressive H.process && nat_lt 0 head.ah);
  runs = runs (is_progressive H.process);
}
  where
    short : (class slot : ℕ) → AreShort (codes_of (tables_due huffman H head n class slot))
    short class slot =
        let t = progressive_tables huffman H head n class slot in
        let valid = own_valid huffman head (progressive_elements H head n) class slot in
        table_short t.counts t.symbols (omega (arith, valid.counts))

    categories : (b : Bool) → cond b 1 (bounds_of H.precision).ac_cat ≤ 14
    categories true = lit≤ tt
    categories false = (are_bounds H.precision).ac_few

    runs : (b : Bool) → cond b 14 0 ≤ 14
    runs true = lit≤ tt
    runs false = lit≤ tt

band_is : (s : Scan) → s.ss ≤ s.se → s.se ≤ 63 → HasBands s (s.se + 1 - s.ss)
band_is s low high = (omega (arith, low), λ block l. omega (arith, low, high, l, length-take (s.se + 1 - s.ss) (drop s.ss block), length-drop s.ss block))

all_given : (huffman : Huffman) (H : Meaning) (head : ScanHead) (n : ℕ) (a b : Bool) (parts : List ScanPart) → Each (IsGivenBy a b (tables_due huffman H head n) (progressive_tables huffman H head n)) parts
all_given huffman H head n a b [] = tt
all_given huffman H head n a b (p ∷ parts) = ((λ e. refl, λ e. refl), all_given huffman H head n a b parts)

-- the values that a scan sends, of this many units
record IsCounted (H : Meaning) (head : ScanHead) : Type 0 where
  low : head.ss ≤ head.se
  high : head.se ≤ 63
  few : (head.se + 1 - head.ss) * length (units (frame_of_meaning H) (head_components head)) ≤ sent_of head 64 * 8388608
  some : 1 ≤ sent_of head 64

ones : (f : Frame) (i : ℕ) → length (units f (i ∷ [])) ≡ length (single_units f i)
unfolding units
ones f i = refl

counted : (H : Meaning) (heads : List ScanHead) (head : ScanHead) → IsFit H → IsProgressiveEntry (frame_of_meaning H) heads head → IsCounted H head
counted H heads head fit entry = by (head.ss == 0) refl
  where
    f : Frame
    f = frame_of_meaning H

    by : (b : Bool) → (head.ss == 0) ≡ b → IsCounted H head
    by true e =
        let r = both (is_band (length head.parts) head) (are_bits f head) entry.parameters in
        let b = sym (ap (λ b. cond b (head.se == 0) (length head.parts == 1 && (nat_le head.ss head.se && nat_le head.se 63))) e) ∙ r.0 in
        let z = same_of head.ss 0 e in
        let w = same_of head.se 0 b in
        let parts = length-map head.parts (λ (p : ScanPart). p.component) in
        let small = ap (λ n. nat_lt 1 n && nat_lt 10 (factor_sum f (head_components head))) parts ∙ entry.small in
        let count = scan_few f (head_components head) fit.frame entry.known small in
        let ten = dc_sent head z in
        let m : head.se + 1 - head.ss ≡ 1 = omega (arith, z, w) in
        let one : 1 * length (units f (head_components head)) ≡ length (units f (head_components head)) = grind arith in
        let t = ap (λ k. k * length (units f (head_components head))) m in
        record { low = omega (arith, z); high = omega (arith, w); few = omega (arith, t, one, count, fit.frame.blocks, ten); some = omega (arith, ten) }
    by false e =
        let say = band_say f heads head entry e in
        let one = one_component head.parts say.0 in
        let some : 1 ≤ head.ss = not_none head.ss e in
        let known = subst (λ l. Each (λ i. i < length f.components) l) one.1 entry.known in
        let count = single_few f one.0 fit.frame known.0 in
        let names = ap (λ l. length (units f l)) one.1 in
        let sent = band_is_sent head some say.2 in
        let product = mul-le (head.se + 1 - head.ss) (length (units f (head_components head))) (sent_of head 64) 8388608 sent (omega (arith, names, ones f one.0, count, fit.frame.blocks)) in
        record { low = say.1; high = say.2; few = product; some = omega (arith, sent, say.1) }
      where
        not_none : (n : ℕ) → (n == 0) ≡ false → 1 ≤ n
        not_none zero e = cc
        not_none (suc n) e = omega arith

data_long : (huffman : Huffman) (H : Meaning) (heads : List ScanHead) (head : ScanHead) (n : ℕ) (before : Blocks) → IsFit H → IsProgressiveEntry (frame_of_meaning H) heads head → AreWhole before → IsKnown H heads before
    → length (progressive_data huffman H head n) ≤ 12 * (sent_of head 64 * 8388608) + 4
data_long huffman H heads head n before fit entry sizes known =
    let f = frame_of_meaning H in
    let comps = head_components head in
    let tabs = tables_due huffman H head n in
    let s = scan_of f tabs n head in
    let sc = progressive_scan f tabs n head fit.progressive in
    let k = scan_leads huffman H heads head n tabs before (record { fit = fit; entry = entry; sizes = sizes; known = known; given = all_given huffman H head n (dc_due head) (ac_due head) head.parts }) in
    let c = counted H heads head fit entry in
    let m = s.se + 1 - s.ss in
    let rows = scan_rows f head n in
    let size = n * mcu_units f comps in
    let coded = map (progressive_coded (progressive_tables huffman H head n) head H.blocks) rows in
    let bands = band_is s (omega (arith, sc.ss, sc.se, c.low)) (omega (arith, sc.se, c.high)) in
    let long = intervals_long s m before k.0 0 rows coded (due_brief huffman H head n) bands sizes (k.1).sizes (k.1).spelled in
    let same : m ≡ head.se + 1 - head.ss = omega (arith, sc.ss, sc.se) in
    let whole = ap (λ (l : List Place). m * length l) (joined_chunks size (units f comps)) in
    let there = ap (λ j. j * length (units f comps)) same in
    let least = mul-le 1 (length (units f comps)) m (length (units f comps)) bands.0 (omega arith) in
    let once : 1 * length (units f comps) ≡ length (units f comps) = grind arith in
    let count = intervals_few size (units f comps) in
    omega (arith, long, whole, there, least, once, count, c.few)

-- A SCAN OF A SCRIPT, with its tables and its head

length_needed : (a b : Bool) (parts : List ScanPart) → length (needed_of a b parts) ≤ 2 * length parts
length_needed a b [] = omega arith
length_needed true true (p ∷ parts) = let h = length_needed true true parts in omega (arith, h)
length_needed true false (p ∷ parts) = let h = length_needed true false parts in omega (arith, h)
length_needed false true (p ∷ parts) = let h = length_needed false true parts in omega (arith, h)
length_needed false false (p ∷ parts) = let h = length_needed false false parts in omega (arith, h)

scan_long : (huffman : Huffman) (H : Meaning) (restart : Restart) (w : Written) (heads : List ScanHead) (head : ScanHead) (before : Blocks) → IsFit H → IsProgressiveEntry (frame_of_meaning H) heads head → AreWhole before → IsKnown H heads before
    → (let n = interval_of (frame_of_meaning H) head restart in let tables = progressive_tables huffman H head n in
    length (tables_text w.tables tables (needed_of (dc_due head) (ac_due head) head.parts) ++ cond (n == w.interval) [] (segment_text 0xdd (to_be_bytes w16 n)) ++ head_text H head ++ progressive_data huffman H head n)
    ≤ 100665538 * sent_of head 64)
scan_long huffman H restart w heads head before fit entry sizes known =
    let n = interval_of (frame_of_meaning H) head restart in
    let tables = progressive_tables huffman H head n in
    let needed = needed_of (dc_due head) (ac_due head) head.parts in
    let dht = tables_text w.tables tables needed in
    let dri = cond (n == w.interval) [] (segment_text 0xdd (to_be_bytes w16 n)) in
    let small : (c s : ℕ) → length (tables c s).counts + length (tables c s).symbols ≤ 272 = λ c s.
    (let valid = own_valid huffman head (progressive_elements H head n) c s in omega (arith, valid.counts, valid.few)) in
    let a = length-append dht dri in
    let b = length-append (dht ++ dri) (head_text H head) in
    let d = length-append (dht ++ dri ++ head_text H head) (progressive_data huffman H head n) in
    let some = (counted H heads head fit entry).some in
    omega (arith, data_long huffman H heads head n before fit entry sizes known, tables_few w.tables tables needed small, length_needed (dc_due head) (ac_due head) head.parts, entry.few, restart_few n (n == w.interval), head_few H head entry.few, a, b, d, some)

descends : (f : Frame) (heads : List ScanHead) (head : ScanHead) → IsProgressiveEntry f heads head → Descends heads head
descends f heads head entry = record {
  al = (let few = entry.al in let most = (are_bounds f.precision).al_few in omega (arith, few, most));
  bits = (let r = both (is_band (length head.parts) head) (are_bits f head) entry.parameters in (both (head.ah == 0 || head.ah == head.al + 1) (nat_le head.al (bounds f).al) r.1).0);
  next = λ i e. all_among (is_next heads head) (head_components head) i entry.next e;
}

-- THE SCRIPT
scans_long : (huffman : Huffman) (limits : Limits) (H : Meaning) (restart : Restart) (heads : List ScanHead) (w : Written) (text : List ℕ) (script : List Entry) → IsFit H → IsRestart restart → is_progressive_after H heads script ≡ true
    → state.Sends limits H heads (IsKnown H heads) w text → length (scans_text huffman H restart w script) ≤ 100665538 * left_of_all heads (length (frame_of_meaning H).components)
unfolding scans_text
scans_long huffman limits H restart heads w text [] fit small e s = omega arith
scans_long huffman limits H restart heads w text (entry ∷ script) fit small e s =
    let f = frame_of_meaning H in
    let head = written_head H entry in
    let b = both (is_progressive_entry f heads head) (is_progressive_after H (head ∷ heads) script) e in
    let is = progressive_entry f heads head b.0 in
    let n = interval_of f head restart in
    let tables = progressive_tables huffman H head n in
    let needed = needed_of (dc_due head) (ac_due head) head.parts in
    let next : Written = record { tables = tables_given w.tables tables needed; interval = n } in
    let here = tables_text w.tables tables needed ++ cond (n == w.interval) [] (segment_text 0xdd (to_be_bytes w16 n)) ++ head_text H head ++ progressive_data huffman H head n in
    let k = entry_step huffman limits H restart heads w text head fit small (head_slots H entry) is s in
    let later = scans_long huffman limits H restart (head ∷ heads) next (text ++ here) script fit small b.1 k in
    let st = s.1 in
    let scan = scan_long huffman H restart w heads head st.blocks fit is (leads_sizes limits s.0 st.blocks st.leads) st.picture in
    let cut = ap length (progressive_scans huffman H restart w entry script fit.progressive) in
    let i = first_component head.parts is.some in
    let few = all_fewer heads head (length f.components) i.0 (descends f heads head is) (among_below (length f.components) i.0 (head_components head) is.known i.1) i.1 in
    omega (arith, later, scan, cut, length-append here (scans_text huffman H restart next script), few)

-- THE LAW
pub progressive_short : (huffman : Huffman) (limits : Limits) (H : Meaning) (script : List Entry) (restart : Restart) → AreLimits limits → IsHeaded limits H → is_progressive H.process ≡ true → is_progressive_after H [] script ≡ true → IsRestart restart
    → length (file_text huffman H script restart) < 2 ^ 39
unfolding file_text
progressive_short huffman limits H script restart limited headed progressive passes small =
    let f = frame_of_meaning H in
    let is = frame_is limits f f limited headed.frame in
    let fit : IsFit H = record { frame = is; progressive = progressive; blocks = headed.blocks; count = count_is H } in
    let few : length H.components ≤ 4 = omega (arith, is.count_high, count_is H) in
    let front = front_few H few (quants_each H.components headed.quants) in
    let scans = scans_long huffman limits H restart [] nothing_written (front_text H) script fit small passes (starts limits H (IsKnown H []) limited headed (none_known H)) in
    let left = all_start (length f.components) in
    let a = length-append (front_text H) (scans_text huffman H restart nothing_written script) in
    let b = length-append (front_text H ++ scans_text huffman H restart nothing_written script) eoi in
    omega (arith, front, headed.count, limited.kept, scans, left, is.count_high, a, b)
