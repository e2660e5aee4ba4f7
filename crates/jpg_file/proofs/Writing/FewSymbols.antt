-- A scan of distinct components has at most as many units as the padded grids have blocks.
use Rattle.std.proofs.Common.{◌≡◌, ℕ, zero, suc, ◌+◌, ◌*◌, ◌<◌, ◌≤◌, Bool, true, false, cond, not, List, [], ◌∷◌, length, take, get_or, refl, sym, ap, ◌∙◌, subst, arith, ◌==◌, nat_lt, sum_by, take_all, All, ◌-◌, ◌++◌, drop, ℤ, pos, negsuc, ◌&&◌, ⊎_elim, ◌||◌, map, flat_map, slice_index_or, filter, count_by, slice_index, length-append, length-take, length-drop, lit<}
use Rattle.std.proofs.lemmas.Nat.{mul-le}
use Rattle.std.proofs.lemmas.Bool.Decides.{nat_tests}
use Rattle.std.proofs.lemmas.List.Elements.{All-head, All-tail}
use Rattle.std.proofs.lemmas.List.Sums.{sum_by-cons, sum_by_more, length-filter, count_by-le-length}
use Rattle.jpg_spec.specs.Lists.{is_among, is_distinct, is_empty, any_of, below, chunks, joined}
use Rattle.jpg_spec.specs.Geometry.{Frame, no_component, component_at, mcus_across, mcus_down, padded_blocks, factor_sum, units, is_progressive, IsReal, mcu_units, place, blocks_across, blocks_down, div_up, greatest, h_max, v_max, scan_mcus_across, is_real}
use Rattle.jpg_spec.specs.FrameHeader.{IsFrame}
use Rattle.jpg_spec.specs.declared.frame.Component.{Component}
use Rattle.jpg_spec.proofs.Bits.UnitsCount.{single_few, intervals_few}
use Rattle.jpg_spec.proofs.Basics.Common.{both, neither, negated, same_of, lt_yes, lt_of, length_below}
use Rattle.jpg_base.specs.Cursor.{AreIn}
use Rattle.jpg_base.proofs.UnitCounts.{length_units}
use Rattle.std.proofs.lemmas.List.{length-map, length-replicate, get_or-map, get_or_past}
use Rattle.jpg_spec.specs.Segments.{ScanHead, head_components, HuffmanTable, table_codes}
use Rattle.jpg_spec.specs.Elements.{Element, long_run, predicted, zeros, is_dc_bit, symbol_of, bits_after}
use Rattle.jpg_spec.proofs.Basics.Each.{Each, each_rows}
use Rattle.jpg_spec_write.specs.Sending.{Sent, sent, correction, newly_significant, is_new, shifted, up_to_last, after_last, corrections_of, value_elements, ended_bands, band_elements}
use Rattle.jpg_spec_write.specs.ScanText.{UnitDue, Owned, band_of, unit_elements, interval_elements, last_dc, units_due, scan_elements, table_place, symbols_written, symbol_counts, element_bits, intervals_text, is_dc, scan_data}
use Rattle.std.proofs.lemmas.Bool.{cases_lt}
use Rattle.jpg_spec.specs.Scan.{Blocks, block_at, part_of}
use Rattle.jpg_spec.specs.declared.frame.Place.{Place}
use Rattle.jpg_spec.proofs.Files.BlocksOnce.{joined_chunks}
use Rattle.jpg_spec.proofs.Places.PlacesFound.{each_units}
use Rattle.jpg_spec_write.specs.WrittenFile.{HasBlocksIn}
use Rattle.jpg_spec_write.proofs.PlacedBlocks.{block_due}
use Rattle.jpg_spec_write.proofs.WrittenSequential.{among_below}
use Rattle.jpg_spec_write.proofs.FileLength.{length_due}
use Rattle.jpg_spec_write.proofs.SequentialCodes.{all_each}
use Rattle.jpg_huff.specs.Counts.{capped}
use Rattle.jpg_huff.specs.declared.counts.SymbolCounts.{SymbolCounts}
use Rattle.jpg_coefs.specs.MarkSinks.{CountsClass, HasSlots}
use Rattle.jpg_file.specs.Write.WriteScan.{CanCount, CountsScan}
use Rattle.std.proofs.Math.Path.{fun_ext}
use Rattle.jpg_spec.specs.Grids.{Grids, frame_grids}
use Rattle.jpg_spec.proofs.Headers.FrameFound.{real_side, factor_across, factor_down}
use Rattle.jpg_spec.specs.Bits.{data_of}
use Rattle.jpg_spec.specs.Codes.{code_of}
use Rattle.jpg_spec.specs.Meaning.{real_blocks}
use Rattle.jpg_coefs.proofs.MarkSinks.{slots_of}

-- A SUM OVER DISTINCT NUMBERS is at most the sum over all

-- of those below n
abbrev sum_below : (ℕ → ℕ) → ℕ → List ℕ → ℕ
sum_below g n [] = 0
sum_below g n (i ∷ parts) = cond (nat_lt i n) (g i) 0 + sum_below g n parts

none_below : (g : ℕ → ℕ) (parts : List ℕ) → sum_below g 0 parts ≡ 0
none_below g [] = refl
none_below g (i ∷ parts) =
    let no : nat_lt i 0 ≡ false = grind (arith, nat_tests) in
    omega (arith, ap (λ b. cond b (g i) 0) no, none_below g parts)

all_below : (g : ℕ → ℕ) (n : ℕ) (parts : List ℕ) → All (λ i. i < n) parts → sum_below g n parts ≡ sum_by g parts
all_below g n [] h = refl
all_below g n (i ∷ parts) h =
    let Below : ℕ → Type 0 = λ i. i < n in
    ap (λ b. cond b (g i) 0 + sum_below g n parts) (lt_yes i n (All-head Below i parts h))
    ∙ ap (λ m. g i + m) (all_below g n parts (All-tail Below i parts h)) ∙ sym (sum_by-cons g i parts)

same_below : (i n : ℕ) → (i == n) ≡ false → nat_lt i (suc n) ≡ nat_lt i n
same_below i n e = grind (arith, nat_tests)

same_without : (g : ℕ → ℕ) (n : ℕ) (parts : List ℕ) → is_among n parts ≡ false → sum_below g (suc n) parts ≡ sum_below g n parts
same_without g n [] e = refl
same_without g n (i ∷ parts) e =
    let k = neither (i == n) (is_among n parts) e in
    ap (λ b. cond b (g i) 0 + sum_below g (suc n) parts) (same_below i n k.0) ∙ ap (λ m. cond (nat_lt i n) (g i) 0 + m) (same_without g n parts k.1)

one_more : (g : ℕ → ℕ) (n : ℕ) (parts : List ℕ) → is_distinct parts ≡ true → sum_below g (suc n) parts ≤ sum_below g n parts + g n
one_more g n [] d = omega arith
one_more g n (i ∷ parts) d = by (i == n) refl (one_more g n parts apart.1)
  where
    apart : (is_among i parts ≡ false) × (is_distinct parts ≡ true)
    apart = let k = both (not (is_among i parts)) (is_distinct parts) d in (negated (is_among i parts) k.0, k.1)

    most : (b : Bool) → cond b (g i) 0 ≤ g i
    most true = omega arith
    most false = omega arith

    by : (b : Bool) → (i == n) ≡ b → sum_below g (suc n) parts ≤ sum_below g n parts + g n → sum_below g (suc n) (i ∷ parts) ≤ sum_below g n (i ∷ parts) + g n
    by true e later =
        let s = same_of i n e in
        let none = subst (λ m. is_among m parts ≡ false) s apart.0 in
        omega (arith, ap g s, most (nat_lt i (suc n)), same_without g n parts none)
    by false e later = omega (arith, ap (λ b. cond b (g i) 0) (same_below i n e), later)

-- of the numbers of components
sum_few : (k : Component → ℕ) (cs : List Component) (n : ℕ) (parts : List ℕ) → is_distinct parts ≡ true → n ≤ length cs → sum_below (λ i. k (get_or cs i no_component)) n parts ≤ sum_by k (take n cs)
sum_few k cs zero parts d h = omega (arith, none_below (λ i. k (get_or cs i no_component)) parts)
sum_few k cs (suc n) parts d h =
    let g : ℕ → ℕ = λ i. k (get_or cs i no_component) in
    let next : suc n ≡ n + 1 = omega arith in
    omega (arith, one_more g n parts d, sum_few k cs n parts d (omega (arith, h)), ap (λ m. sum_by k (take m cs)) next, sum_by_more k cs n no_component (omega (arith, h)))

factors_few : (f : Frame) (parts : List ℕ) → is_distinct parts ≡ true → All (λ i. i < length f.components) parts → factor_sum f parts ≤ sum_by (λ (c : Component). c.h * c.v) f.components
factors_few f parts d there =
    let k : Component → ℕ = λ c. c.h * c.v in
    let cs = f.components in
    omega (arith, all_below (λ i. k (component_at f i)) (length cs) parts there, sum_few k cs (length cs) parts d (omega arith), ap (sum_by k) (take_all (length cs) cs (omega arith)))

-- THE UNITS

padded_are : (a b : ℕ) (cs : List Component) → sum_by (λ (c : Component). (a * c.h) * (b * c.v)) cs ≡ b * (a * sum_by (λ (c : Component). c.h * c.v) cs)
padded_are a b [] = omega arith
padded_are a b (c ∷ cs) =
    let whole : Component → ℕ = λ c. (a * c.h) * (b * c.v) in
    let part : Component → ℕ = λ c. c.h * c.v in
    let here : whole c ≡ b * (a * part c) = grind arith in
    let apart : b * (a * (part c + sum_by part cs)) ≡ b * (a * part c) + b * (a * sum_by part cs) = grind arith in
    omega (arith, sum_by-cons whole c cs, here, padded_are a b cs, apart, ap (λ n. b * (a * n)) (sum_by-cons part c cs))

pub units_within : (f : Frame) (parts : List ℕ) → IsFrame f → AreIn f parts → is_distinct parts ≡ true → length (units f parts) ≤ padded_blocks f
unfolding units
units_within f [] is known d = omega arith
units_within f (i ∷ []) is known d = single_few f i is (All-head (λ i. i < length f.components) i [] known.there)
units_within f (i ∷ j ∷ more) is known d =
    let parts = i ∷ j ∷ more in
    let few = factors_few f parts d known.there in
    let all = sum_by (λ (c : Component). c.h * c.v) f.components in
    let row = mul-le (mcus_across f) (factor_sum f parts) (mcus_across f) all (omega arith) few in
    let rows = mul-le (mcus_down f) (mcus_across f * factor_sum f parts) (mcus_down f) (mcus_across f * all) (omega arith) row in
    omega (arith, length_units f parts, rows, padded_are (mcus_across f) (mcus_down f) f.components)

-- How often a scan writes a symbol fits in 32 bits.

-- An interval of a scan has at most 68 elements for each unit, and one.

-- BANDS: at most an element for each value, an EOB before the band and one after it

values_few : (run : ℕ) (bits : List Bool) (band : List Sent) → length (value_elements run bits band) ≤ length band
values_few run bits [] = omega arith
values_few run bits (correction b ∷ band) = omega (arith, values_few run (bits ++ b ∷ []) band)
values_few run bits (newly_significant (pos zero) ∷ band) = by (run == 15) (values_few 0 [] band) (values_few (run + 1) bits band)
  where
    by : (t : Bool) → length (value_elements 0 [] band) ≤ length band → length (value_elements (run + 1) bits band) ≤ length band
        → length (cond t (long_run bits ∷ value_elements 0 [] band) (value_elements (run + 1) bits band)) ≤ suc (length band)
    by true h k = omega (arith, h)
    by false h k = omega (arith, k)
values_few run bits (newly_significant (pos (suc n)) ∷ band) = omega (arith, values_few 0 [] band)
values_few run bits (newly_significant (negsuc n) ∷ band) = omega (arith, values_few 0 [] band)

front_few : (band : List Sent) → length (up_to_last band) ≤ length band
front_few [] = omega arith
front_few (s ∷ band) = by (any_of is_new (s ∷ band)) (front_few band)
  where
    by : (t : Bool) → length (up_to_last band) ≤ length band → length (cond t (s ∷ up_to_last band) []) ≤ suc (length band)
    by true h = omega (arith, h)
    by false h = omega arith

ended_few : (n : ℕ) (bits : List Bool) → length (ended_bands n bits) ≤ 1
ended_few zero bits = omega arith
ended_few (suc n) bits = omega arith

abbrev IsShort : List Sent → Type 0
IsShort band = length band ≤ 64

pub bands_few : (most n : ℕ) (bits : List Bool) (bands : List (List Sent)) → Each IsShort bands → length (band_elements most n bits bands) ≤ 66 * length bands + 1
bands_few most n bits [] short = omega (arith, ended_few n bits)
bands_few most n bits (band ∷ later) short =
    omega (arith, length-append before after, first (is_empty front), second (is_empty rest) (waits + 1 == most || nat_lt 937 (length waiting)) (λ m bs. bands_few most m bs later short.1))
  where
    front : List Sent
    front = up_to_last band

    rest : List Sent
    rest = after_last band

    waits : ℕ
    waits = cond (is_empty front) n 0

    waiting : List Bool
    waiting = cond (is_empty front) bits [] ++ corrections_of rest

    before : List Element
    before = cond (is_empty front) [] (ended_bands n bits ++ value_elements 0 [] front)

    after : List Element
    after =
        cond (is_empty rest) (band_elements most 0 [] later)
        (cond (waits + 1 == most || nat_lt 937 (length waiting)) (ended_bands (waits + 1) waiting ++ band_elements most 0 [] later) (band_elements most (waits + 1) waiting later))

    first : (t : Bool) → length (cond t [] (ended_bands n bits ++ value_elements 0 [] front)) ≤ 65
    first true = omega arith
    first false = omega (arith, length-append (ended_bands n bits) (value_elements 0 [] front), ended_few n bits, values_few 0 [] front, front_few band, short.0)

    second : (t u : Bool) → ((m : ℕ) (bs : List Bool) → length (band_elements most m bs later) ≤ 66 * length later + 1)
        → length (cond t (band_elements most 0 [] later) (cond u (ended_bands (waits + 1) waiting ++ band_elements most 0 [] later) (band_elements most (waits + 1) waiting later))) ≤ 66 * length later + 2
    second true u h = omega (arith, h 0 [])
    second false true h = omega (arith, length-append (ended_bands (waits + 1) waiting) (band_elements most 0 [] later), ended_few (waits + 1) waiting, h 0 [])
    second false false h = omega (arith, h (waits + 1) waiting)

-- an element with the component of its unit
abbrev owned : Element → UnitDue → Owned
owned e u = (u.0, e)

-- AN INTERVAL of units whose blocks have at most 64 values

abbrev pub IsBlockDue : UnitDue → Type 0
IsBlockDue u = length u.1 ≤ 64

units_few : (is_seq refines : Bool) (al : ℕ) (predictions : ℕ → ℤ) (due : List UnitDue) → Each IsBlockDue due → length (unit_elements is_seq refines al predictions due) ≤ 68 * length due
units_few is_seq refines al predictions [] short = omega arith
units_few is_seq refines al predictions (u ∷ due) short =
    let next : ℕ → ℤ = predicted predictions u.0 (shifted al (slice_index_or u.1 0 (pos 0))) in
    omega (arith, length-append (own is_seq) (unit_elements is_seq refines al next due), own_few is_seq, units_few is_seq refines al next due short.1)
  where
    band : List Sent
    band = map (sent false 0) (drop 1 u.1)

    own : Bool → List Owned
    own t = cond t (map (λ (e : Element). owned e u) (band_elements 1 0 [] (band ∷ []))) []

    own_few : (t : Bool) → length (own t) ≤ 67
    own_few true =
        let short_band : IsShort band = omega (arith, length-map (drop 1 u.1) (sent false 0), length-drop 1 u.1, short.0) in
        omega (arith, length-map (band_elements 1 0 [] (band ∷ [])) (λ (e : Element). owned e u), bands_few 1 0 [] (band ∷ []) (short_band, tt))
    own_few false = omega arith

bands_short : (head : ScanHead) (due : List UnitDue) → Each IsBlockDue due → Each IsShort (map (λ (u : UnitDue). band_of head u.1) due)
bands_short head [] short = tt
bands_short head (u ∷ due) short =
    let n = head.se + 1 - head.ss in
    let values = drop head.ss u.1 in
    (omega (arith, short.0, length-map (take n values) (sent (nat_lt 0 head.ah) head.al), length-take n values, length-drop head.ss u.1), bands_short head due short.1)

-- each element with the first unit's component
owned_few : (due : List UnitDue) (elements : List Element) → length (flat_map (λ (e : Element). map (owned e) (take 1 due)) elements) ≤ length elements
owned_few due [] = omega arith
owned_few due (e ∷ elements) =
    let one = map (owned e) (take 1 due) in
    omega (arith, length-map (take 1 due) (owned e), length-take 1 due, length-append one (flat_map (λ (e : Element). map (owned e) (take 1 due)) elements), owned_few due elements)

pub interval_few : (is_prog : Bool) (head : ScanHead) (due : List UnitDue) → Each IsBlockDue due → length (interval_elements is_prog head due) ≤ 68 * length due + 1
interval_few is_prog head due short = by (is_prog && nat_lt 0 head.ss)
  where
    bands : List (List Sent)
    bands = map (λ (u : UnitDue). band_of head u.1) due

    by : (t : Bool) → length (cond t (flat_map (λ (e : Element). map (owned e) (take 1 due)) (band_elements 32767 0 [] bands))
        (unit_elements (not is_prog) (is_prog && nat_lt 0 head.ah) (cond is_prog head.al 0) (λ i. pos 0) due)) ≤ 68 * length due + 1
    by true =
        let few = bands_few 32767 0 [] bands (bands_short head due short) in
        omega (arith, owned_few due (band_elements 32767 0 [] bands), few, length-map due (λ (u : UnitDue). band_of head u.1))
    by false = omega (arith, units_few (not is_prog) (is_prog && nat_lt 0 head.ah) (cond is_prog head.al 0) (λ i. pos 0) due short)

-- THE BLOCKS of a scan have 64 values

abbrev HasRealBlock : Blocks → Place → Type 0
HasRealBlock blocks p = p.real ≡ true → length (block_at blocks p) ≡ 64

due_blocks : (blocks : Blocks) (last : ℕ → ℤ) (places : List Place) → Each (HasRealBlock blocks) places → Each IsBlockDue (units_due blocks last places)
due_blocks blocks last [] h = tt
due_blocks blocks last (p ∷ places) h = (by p.real h.0, due_blocks blocks (last_dc last p.component (block_due blocks last p)) places h.1)
  where
    by : (b : Bool) → (b ≡ true → length (block_at blocks p) ≡ 64) → length (cond b (block_at blocks p) (last p.component ∷ zeros 63)) ≤ 64
    by true k = omega (arith, k refl)
    by false k = omega (arith, length-replicate 63 (pos 0))

blocks_real : (f : Frame) (parts : List ℕ) (blocks : Blocks) → AreIn f parts → HasBlocksIn f blocks → Each (HasRealBlock blocks) (units f parts)
blocks_real f parts blocks known sizes = each_units (HasRealBlock blocks) f parts at
  where
    at : (i x y : ℕ) → is_among i parts ≡ true → HasRealBlock blocks (place f i x y)
    at i x y e real =
        let r = both (nat_lt x (blocks_across f (component_at f i))) (nat_lt y (blocks_down f (component_at f i))) real in
        let is : IsReal f i x y = record {
          component = among_below (length f.components) i parts (all_each (λ i. i < length f.components) parts known.there) e;
          across = lt_of x (blocks_across f (component_at f i)) r.0;
          down = lt_of y (blocks_down f (component_at f i)) r.1;
        } in
        (sizes i x y is).0

-- THE ELEMENTS of all intervals

rows_few : (is_prog : Bool) (head : ScanHead) (blocks : Blocks) (rows : List (List Place)) → Each (λ row. Each (HasRealBlock blocks) row) rows
    → length (joined (map (λ places. interval_elements is_prog head (units_due blocks (λ i. pos 0) places)) rows)) ≤ 68 * length (joined rows) + length rows
rows_few is_prog head blocks [] h = omega arith
rows_few is_prog head blocks (row ∷ rows) h =
    let elements : List Place → List Owned = λ places. interval_elements is_prog head (units_due blocks (λ i. pos 0) places) in
    let here = interval_few is_prog head (units_due blocks (λ i. pos 0) row) (due_blocks blocks (λ i. pos 0) row h.0) in
    omega (arith, here, length_due blocks (λ i. pos 0) row, rows_few is_prog head blocks rows h.1, length-append row (joined rows), length-append (elements row) (joined (map elements rows)))

-- THE SYMBOLS that they have in a table

written_few : (own : Owned → Bool) (all : List Owned) → length (map (λ (e : Owned). symbol_of e.1) (filter own all)) ≤ length all
written_few own all = omega (arith, length-map (filter own all) (λ (e : Owned). symbol_of e.1), length-filter own all, count_by-le-length own all)

counts_most : (head : ScanHead) (intervals : List (List Owned)) (class slot symbol : ℕ) → slice_index (symbol_counts head intervals class slot) symbol ≤ length (joined intervals)
unfolding symbol_counts
counts_most head intervals class slot symbol = ⊎_elim inside outside (cases_lt symbol 256)
  where
    own : Owned → Bool
    own e = not (is_dc_bit e.1) && (table_place head e).0 == class && (table_place head e).1 == slot

    written : List ℕ
    written = symbols_written head intervals class slot

    count : ℕ → ℕ
    count s = count_by (λ t. t == s) written

    most : (n : ℕ) → n ≤ length written → n ≤ length (joined intervals)
    most n h = omega (arith, h, written_few own (joined intervals))

    inside : symbol < 256 → slice_index (map count (below 256)) symbol ≤ length (joined intervals)
    inside h =
        let at = get_or-map count (below 256) symbol 0 0 (omega (arith, h, length_below 256)) in
        let k : ℕ = slice_index (below 256) symbol in
        most (slice_index (map count (below 256)) symbol) (omega (arith, at, count_by-le-length (λ t. t == k) written))

    outside : 256 ≤ symbol → slice_index (map count (below 256)) symbol ≤ length (joined intervals)
    outside h = omega (arith, get_or_past (map count (below 256)) symbol 0 (omega (arith, h, length-map (below 256) count, length_below 256)))

-- THE LAW
module _ (f : Frame) (head : ScanHead) (interval : ℕ) (blocks : Blocks) (is : IsFrame f) (known : AreIn f (head_components head)) (distinct : is_distinct (head_components head) ≡ true) (sizes : HasBlocksIn f blocks) where
  elements_few : length (joined (scan_elements f head interval blocks)) ≤ 4294967295
  elements_few =
      let parts = head_components head in
      let size = interval * mcu_units f parts in
      let all = units f parts in
      let few = rows_few (is_progressive f.process) head blocks (chunks size all) (each_rows (HasRealBlock blocks) size all (blocks_real f parts blocks known sizes)) in
      omega (arith, few, ap length (joined_chunks size all), intervals_few size all, units_within f parts is known distinct, is.blocks)

  pub counts_fit : (class slot symbol : ℕ) → slice_index (symbol_counts head (scan_elements f head interval blocks) class slot) symbol ≤ 4294967295
  counts_fit class slot symbol = omega (arith, counts_most head (scan_elements f head interval blocks) class slot symbol, elements_few)

-- Counts that fit in 32 bits stay as they are.

kept : (n : ℕ) → n ≤ 4294967295 → capped n ≡ n
unfolding capped
kept n h = omega (arith, h)

all_kept : (counts : List ℕ) → ((i : ℕ) → slice_index counts i ≤ 4294967295) → map capped counts ≡ counts
all_kept [] h = refl
all_kept (n ∷ counts) h = ap (λ m. m ∷ map capped counts) (kept n (h 0)) ∙ ap (λ l. n ∷ l) (all_kept counts (λ i. h (suc i)))

-- the counts of a scan
pub scan_counted : (file f : Frame) (head : ScanHead) (interval : ℕ) (blocks : Blocks) → IsFrame f → CanCount file f blocks head
    → (counts : SymbolCounts) → CountsClass f head interval blocks 0 counts.dc → CountsClass f head interval blocks 1 counts.ac → CountsScan counts head (scan_elements f head interval blocks)
scan_counted file f head interval blocks is can counts dc ac =
    let fits = counts_fit f head interval blocks is can.components can.distinct can.writable in
    let often : (class slot : ℕ) → map capped (symbol_counts head (scan_elements f head interval blocks) class slot) ≡ symbol_counts head (scan_elements f head interval blocks) class slot
    = λ class slot. all_kept (symbol_counts head (scan_elements f head interval blocks) class slot) (fits class slot) in
    record {
      used = record { dc = dc.used; ac = ac.used };
      often = record { dc = λ slot h. dc.counts slot h ∙ often 0 slot; ac = λ slot h. ac.counts slot h ∙ often 1 slot };
      few = record { dc = dc.few; ac = ac.few };
    }

-- Frames with the same grids have the same units.

-- the sides, the greatest factors, and those of each component
record Sides : Type 0 where
  pub width : ℕ
  pub height : ℕ
  pub most_across : ℕ
  pub most_down : ℕ

abbrev place_by : Sides → (ℕ → ℕ) → (ℕ → ℕ) → ℕ → ℕ → ℕ → Place
place_by s hs vs i x y = record { component = i; x = x; y = y; real = nat_lt x (real_side s.width (hs i) s.most_across) && nat_lt y (real_side s.height (vs i) s.most_down) }

abbrev sides_of : Frame → Sides
sides_of f = record { width = f.width; height = f.height; most_across = h_max f; most_down = v_max f }

abbrev by_grid : {A : Type 0} → (Sides → (ℕ → ℕ) → (ℕ → ℕ) → A) → Grids → A
by_grid {A} F G = F (record { width = G.width; height = G.height; most_across = greatest G.across; most_down = greatest G.down }) (λ i. get_or G.across i 1) (λ i. get_or G.down i 1)

-- what is by these alone is the same
by_grids : {A : Type 0} (F : Sides → (ℕ → ℕ) → (ℕ → ℕ) → A) (f : Frame) → F (sides_of f) (λ i. (component_at f i).h) (λ i. (component_at f i).v) ≡ by_grid F (frame_grids f)
by_grids F f =
    let across : (λ i. (component_at f i).h) ≡ (λ i. get_or (map (λ c. c.h) f.components) i 1) = fun_ext (factor_across f) in
    let down : (λ i. (component_at f i).v) ≡ (λ i. get_or (map (λ c. c.v) f.components) i 1) = fun_ext (factor_down f) in
    ap (λ hs. F (sides_of f) hs (λ i. (component_at f i).v)) across ∙ ap (λ vs. F (sides_of f) (λ i. get_or (map (λ c. c.h) f.components) i 1) vs) down

same_by : {A : Type 0} (F : Sides → (ℕ → ℕ) → (ℕ → ℕ) → A) (f g : Frame) → frame_grids f ≡ frame_grids g
    → F (sides_of f) (λ i. (component_at f i).h) (λ i. (component_at f i).v) ≡ F (sides_of g) (λ i. (component_at g i).h) (λ i. (component_at g i).v)
same_by F f g e = by_grids F f ∙ ap (λ G. by_grid F G) e ∙ sym (by_grids F g)

pub same_units : (f g : Frame) (parts : List ℕ) → frame_grids f ≡ frame_grids g → units f parts ≡ units g parts
unfolding units
same_units f g [] e = refl
same_units f g (i ∷ []) e =
    same_by (λ s hs vs. flat_map (λ y. map (λ x. place_by s hs vs i x y) (below (real_side s.width (hs i) s.most_across))) (below (real_side s.height (vs i) s.most_down))) f g e
same_units f g (i ∷ j ∷ parts) e =
    same_by (λ s hs vs. flat_map (λ my. flat_map (λ mx. flat_map (λ i. flat_map (λ v. map (λ h. place_by s hs vs i (mx * hs i + h) (my * vs i + v)) (below (hs i))) (below (vs i))) (i ∷ j ∷ parts))
    (below (div_up s.width (8 * s.most_across)))) (below (div_up s.height (8 * s.most_down)))) f g e

-- THE NUMBER OF MCUs of a row, and of units of an MCU

pub same_mcus : (f g : Frame) (parts : List ℕ) → frame_grids f ≡ frame_grids g → scan_mcus_across f parts ≡ scan_mcus_across g parts
same_mcus f g [] e = refl
same_mcus f g (i ∷ []) e = same_by (λ s hs vs. real_side s.width (hs i) s.most_across) f g e
same_mcus f g (i ∷ j ∷ parts) e = same_by (λ s hs vs. div_up s.width (8 * s.most_across)) f g e

pub same_sizes : (f g : Frame) (parts : List ℕ) → frame_grids f ≡ frame_grids g → mcu_units f parts ≡ mcu_units g parts
same_sizes f g [] e = refl
same_sizes f g (i ∷ []) e = refl
same_sizes f g (i ∷ j ∷ parts) e = same_by (λ s hs vs. sum_by (λ i. hs i * vs i) (i ∷ j ∷ parts)) f g e

-- The data of a scan: by tables that are the same in slots 0 and 1, and by the real blocks only.

-- BY THE TABLES

abbrev table_place_by : Bool → ℕ → ℕ → ℕ × ℕ
table_place_by b dc ac = cond b (0, dc) (1, ac)

bits_same : (T U : ℕ → ℕ → HuffmanTable) (head : ScanHead) → ((i : ℕ) → T 0 (part_of head i).dc ≡ U 0 (part_of head i).dc) → ((i : ℕ) → T 1 (part_of head i).ac ≡ U 1 (part_of head i).ac)
    → (e : Owned) → element_bits T head e ≡ element_bits U head e
unfolding element_bits
bits_same T U head dc ac e = ap (λ t. cond (is_dc_bit e.1) [] (code_of (table_codes t) (symbol_of e.1)) ++ bits_after e.1) (by (is_dc e.1))
  where
    by : (b : Bool) → (let p = table_place_by b (part_of head e.0).dc (part_of head e.0).ac in T p.0 p.1 ≡ U p.0 p.1)
    by true = dc e.0
    by false = ac e.0

pub data_same : (T U : ℕ → ℕ → HuffmanTable) (head : ScanHead) (intervals : List (List Owned)) → All HasSlots head.parts → ((class slot : ℕ) → class < 2 → slot < 2 → T class slot ≡ U class slot) → scan_data T head intervals ≡ scan_data U head intervals
unfolding scan_data
data_same T U head intervals slots same =
    ap (λ (bits : Owned → List Bool). intervals_text 0 (map (λ elements. data_of (flat_map bits elements)) intervals))
    (fun_ext (bits_same T U head (λ i. same 0 (part_of head i).dc (lit< tt) (slots_of head i slots).dc) (λ i. same 1 (part_of head i).ac (lit< tt) (slots_of head i slots).ac)))

-- BY THE REAL BLOCKS only

abbrev IsShown : Frame → Blocks → Place → Type 0
IsShown f blocks p = p.real ≡ true → block_at blocks p ≡ block_at (real_blocks f blocks) p

due_shown : (f : Frame) (blocks : Blocks) (last : ℕ → ℤ) (places : List Place) → Each (IsShown f blocks) places → units_due blocks last places ≡ units_due (real_blocks f blocks) last places
due_shown f blocks last [] h = refl
due_shown f blocks last (p ∷ places) h =
    let same = by p.real h.0 in
    ap (λ b. (p.component, b) ∷ units_due blocks (last_dc last p.component b) places) same
    ∙ ap (λ us. (p.component, block_due (real_blocks f blocks) last p) ∷ us) (due_shown f blocks (last_dc last p.component (block_due (real_blocks f blocks) last p)) places h.1)
  where
    by : (b : Bool) → (b ≡ true → block_at blocks p ≡ block_at (real_blocks f blocks) p) → cond b (block_at blocks p) (last p.component ∷ zeros 63) ≡ cond b (block_at (real_blocks f blocks) p) (last p.component ∷ zeros 63)
    by true k = k refl
    by false k = refl

abbrev elements_by : Bool → ScanHead → Blocks → List Place → List Owned
elements_by is_prog head blocks places = interval_elements is_prog head (units_due blocks (λ i. pos 0) places)

rows_shown : (f : Frame) (b : Bool) (head : ScanHead) (blocks : Blocks) (rows : List (List Place)) → Each (λ row. Each (IsShown f blocks) row) rows
    → map (elements_by b head blocks) rows ≡ map (elements_by b head (real_blocks f blocks)) rows
rows_shown f b head blocks [] h = refl
rows_shown f b head blocks (row ∷ rows) h =
    ap (λ due. interval_elements b head due ∷ map (elements_by b head blocks) rows) (due_shown f blocks (λ i. pos 0) row h.0)
    ∙ ap (λ es. elements_by b head (real_blocks f blocks) row ∷ es) (rows_shown f b head blocks rows h.1)

-- the elements of a scan depend only on the grids and the real blocks
pub elements_same : (g f F : Frame) (head : ScanHead) (n : ℕ) (blocks : Blocks) → is_progressive f.process ≡ is_progressive F.process → frame_grids f ≡ frame_grids g → frame_grids F ≡ frame_grids g
    → Each (λ i. i < length g.components) (head_components head) → scan_elements f head n blocks ≡ scan_elements F head n (real_blocks g blocks)
elements_same g f F head n blocks p ef eF there =
    let named = head_components head in
    let b = is_progressive f.process in
    let real = real_blocks g blocks in
    let of : Bool → Blocks → ℕ → List Place → List (List Owned) = λ b bs m us. map (elements_by b head bs) (chunks (n * m) us) in
    ap (λ m. of b blocks m (units f named)) (same_sizes f g named ef) ∙ ap (of b blocks (mcu_units g named)) (same_units f g named ef)
    ∙ rows_shown g b head blocks (chunks (n * mcu_units g named) (units g named))
    (each_rows (IsShown g blocks) (n * mcu_units g named) (units g named)
    (each_units (IsShown g blocks) g named
    (λ i x y e r. sym (ap (λ b. cond (b && is_real g i x y) (blocks i x y) (zeros 64)) (lt_yes i (length g.components) (among_below (length g.components) i named there e)) ∙ ap (λ b. cond b (blocks i x y) (zeros 64)) r))))
    ∙ ap (λ b. of b real (mcu_units g named) (units g named)) p
    ∙ sym (ap (λ m. of (is_progressive F.process) real m (units F named)) (same_sizes F g named eF) ∙ ap (of (is_progressive F.process) real (mcu_units g named)) (same_units F g named eF))
