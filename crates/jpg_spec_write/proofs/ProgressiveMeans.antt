-- A progressive scan that is written has its meaning: its intervals spell what it renews.
use Rattle.std.proofs.Common.{◌≡◌, ℕ, ◌≤◌, Bool, true, false, cond, not, List, [], ◌∷◌, ◌++◌, refl, sym, ap, ◌∙◌, subst, lit<, Some, ℤ, pos, ◌==◌, ◌&&◌}
use Rattle.std.specs.Prelude.{map, flat_map, nat_lt, nat_abs, int_le, slice_index_or}
use Rattle.jpg_spec.specs.Lists.{is_among}
use Rattle.jpg_spec.specs.Codes.{Code, code_of}
use Rattle.jpg_spec.specs.Geometry.{Frame, is_progressive}
use Rattle.jpg_spec.specs.Segments.{HuffmanTable, ScanHead, head_components, table_codes}
use Rattle.jpg_spec.specs.Elements.{Element, difference, dc_bit, SpellsUnits, at_start, symbol_of, bits_after, scaled}
use Rattle.jpg_spec_write.specs.declared.huffman.Huffman.{Huffman}
use Rattle.jpg_spec_write.specs.Sending.{sent, divided, band_elements}
use Rattle.jpg_spec.specs.Scan.{Blocks, Scan, TablesInForce, codes_of, part_of, scan_of, band, block_at, unit_at, SpellsInterval, SpellsIntervals, ScanMeans}
use Rattle.jpg_spec_write.specs.ScanText.{UnitDue, Owned, units_due, last_dc, unit_elements, interval_elements, element_bits, is_dc, band_of}
use Rattle.jpg_spec.specs.Meaning.{Meaning}
use Rattle.jpg_spec_write.specs.FileText.{frame_of_meaning}
use Rattle.jpg_spec.specs.declared.frame.Place.{Place}
use Rattle.jpg_spec.proofs.Basics.Small.{IsDc, AreBounds, IsAcValue, are_bounds}
use Rattle.jpg_spec_write.proofs.Writing.{Sends, AllHave}
use Rattle.jpg_spec_write.proofs.Behind.{IsChosen}
use Rattle.jpg_spec.proofs.Bits.Full.{Has}
use Rattle.jpg_spec.proofs.Bits.Packing.{packs}
use Rattle.jpg_spec.proofs.Places.PlacesFound.{each_units}
use Rattle.jpg_spec.proofs.Basics.Each.{Each, each_map, each_flat}
use Rattle.jpg_spec_write.proofs.PlacedBlocks.{block_due, placed_due, each_both}
use Rattle.jpg_spec_write.proofs.WrittenCoding.{coded_by, AllIn, AreSameCodes, covers_coded}
use Rattle.jpg_spec_write.proofs.WrittenScan.{scan_rows}
use Rattle.jpg_spec_write.proofs.RenewedScan.{after_renewed, renew_means}
use Rattle.jpg_spec_write.proofs.ProgressiveSpelled.{HasCode, IsFirstCode, all_bands}
use Rattle.jpg_spec_write.proofs.ProgressiveRows.{IsDcDue, IsBandDue, progressive_bits, progressive_coded, elements_dc, dc_first_row, dc_refining_row, bands_due, bands_are, band_small, band_row}
use Rattle.jpg_spec_write.proofs.ProgressiveCodes.{is_own, IsCodedAll, elements_coded, IsAc, bands_ac, IsDifference, differences}
use Rattle.jpg_spec_write.proofs.ProgressiveKnown.{ac_known}
use Rattle.jpg_spec.proofs.Places.Known.{was_known}
use Rattle.jpg_spec_write.proofs.ProgressiveScan.{rows_each, IsDcScan, dc_renews, dc_due}
use Rattle.jpg_spec_write.proofs.ProgressiveBands.{IsBandScan, band_renews, band_due}
use Rattle.jpg_spec_write.proofs.ProgressiveText.{progressive_elements, progressive_tables}
use Rattle.jpg_spec.proofs.Basics.Common.{same_itself}

-- EACH ELEMENT has its code

abbrev pub IsCodedHere : Huffman → Meaning → ScanHead → ℕ → Owned → Type 0
IsCodedHere huffman H head n o = IsCodedAll huffman head (progressive_elements H head n) o

rows_coded : (huffman : Huffman) (H : Meaning) (head : ScanHead) (n : ℕ) → Each (λ row. Each (IsCodedHere huffman H head n) (interval_elements true head (units_due H.blocks (λ i. pos 0) row))) (scan_rows (frame_of_meaning H) head n)
rows_coded huffman H head n = elements_coded huffman head (λ places. interval_elements true head (units_due H.blocks (λ i. pos 0) places)) (scan_rows (frame_of_meaning H) head n)

own_dc : (head : ScanHead) (o : Owned) → IsDifference o.1 → is_own head 0 (part_of head o.0).dc o ≡ true
own_dc head o d =
    ap (λ b. not b && (cond (is_dc o.1) (let t : ℕ × ℕ = (0, (part_of head o.0).dc) in t) (1, (part_of head o.0).ac)).0 == 0 && (cond (is_dc o.1) (let t : ℕ × ℕ = (0, (part_of head o.0).dc) in t) (1, (part_of head o.0).ac)).1 == (part_of head o.0).dc) d.coded
    ∙ ap (λ b. (cond b (let t : ℕ × ℕ = (0, (part_of head o.0).dc) in t) (1, (part_of head o.0).ac)).0 == 0 && (cond b (let t : ℕ × ℕ = (0, (part_of head o.0).dc) in t) (1, (part_of head o.0).ac)).1 == (part_of head o.0).dc) d.dc
    ∙ same_itself (part_of head o.0).dc

own_ac : (head : ScanHead) (o : Owned) → IsAc o.1 → is_own head 1 (part_of head o.0).ac o ≡ true
own_ac head o d =
    ap (λ b. not b && (cond (is_dc o.1) (let t : ℕ × ℕ = (0, (part_of head o.0).dc) in t) (1, (part_of head o.0).ac)).0 == 1 && (cond (is_dc o.1) (let t : ℕ × ℕ = (0, (part_of head o.0).dc) in t) (1, (part_of head o.0).ac)).1 == (part_of head o.0).ac) d.coded
    ∙ ap (λ b. (cond b (let t : ℕ × ℕ = (0, (part_of head o.0).dc) in t) (1, (part_of head o.0).ac)).0 == 1 && (cond b (let t : ℕ × ℕ = (0, (part_of head o.0).dc) in t) (1, (part_of head o.0).ac)).1 == (part_of head o.0).ac) d.ac
    ∙ same_itself (part_of head o.0).ac

-- INTERVALS

rows_spelled : (s : Scan) (before after : Blocks) (coded : List Place → List ℕ) (rows : List (List Place)) → Each (λ row. SpellsInterval s before after row (coded row)) rows → SpellsIntervals s before after rows (map coded rows)
rows_spelled s before after coded [] h = tt
rows_spelled s before after coded (row ∷ rows) h = (h.0, rows_spelled s before after coded rows h.1)

abbrev RowSpelled : (ℕ → ℕ → HuffmanTable) → ScanHead → Blocks → Scan → Blocks → Blocks → List Place → Type 0
RowSpelled tables head blocks s before after row =
    (bits : List Bool) × (bits ≡ progressive_bits tables head (units_due blocks (λ i. pos 0) row)) × SpellsUnits s.coding (map (unit_at s before) row) (flat_map (λ p. band s (block_at after p)) row) bits

units_in : (test : ℕ → Bool) (s : Scan) (before : Blocks) (row : List Place) → Each (λ (p : Place). test p.component ≡ true) row → AllIn test (map (unit_at s before) row)
units_in test s before [] h = tt
units_in test s before (p ∷ row) h = (h.0, units_in test s before row h.1)

module _ (tables : ℕ → ℕ → HuffmanTable) (head : ScanHead) (blocks : Blocks) (s : Scan) (before after : Blocks) where
  row_interval : (row : List Place) → RowSpelled tables head blocks s before after row → SpellsInterval s before after row (progressive_coded tables head blocks row)
  row_interval row k =
      let bits = progressive_bits tables head (units_due blocks (λ i. pos 0) row) in
      (bits, packs bits, subst (λ b. SpellsUnits s.coding (map (unit_at s before) row) (flat_map (λ p. band s (block_at after p)) row) b) k.1 k.2)

  -- the same by the codes in force
  row_coded : (dc ac : ℕ → List Code) (test : ℕ → Bool) (row : List Place) → AreSameCodes s.coding dc ac test → Each (λ (p : Place). test p.component ≡ true) row
      → RowSpelled tables head blocks s before after row → RowSpelled tables head blocks (record s { coding = coded_by s.coding dc ac }) before after row
  row_coded dc ac test row same named (bits, e, k) =
      (bits, e, (k.0, k.1, covers_coded s.coding dc ac test (at_start (map (unit_at s before) row)) k.1 k.0 (flat_map (λ p. band s (block_at after p)) row) bits same (units_in test s before row named) k.2, k.3))

-- DC FIRST

abbrev pub with_class : ℕ → TablesInForce → (ℕ → ℕ → HuffmanTable) → TablesInForce
with_class class tabs tables c n = cond (c == class) (Some (tables c n)) (tabs c n)

due_values : (s : Scan) (r : Bool) (before after blocks : Blocks) (last : ℕ → ℤ) (places : List Place) → Each (IsDcDue s r before after) (placed_due blocks last places) → Each (λ (u : UnitDue). IsDc s.coding.bounds (slice_index_or u.1 0 (pos 0))) (units_due blocks last places)
due_values s r before after blocks last [] h = tt
due_values s r before after blocks last (p ∷ places) h = ((h.0).due, due_values s r before after blocks (last_dc last p.component (block_due blocks last p)) places h.1)

abbrev pub among_rows : Meaning → ScanHead → ℕ → Type 0
among_rows H head n = Each (λ row. Each (λ (p : Place). is_among p.component (head_components head) ≡ true) row) (scan_rows (frame_of_meaning H) head n)

rows_among : (H : Meaning) (head : ScanHead) (n : ℕ) (tabs : TablesInForce) → among_rows H head n
rows_among H head n tabs =
    rows_each (λ (p : Place). is_among p.component (head_components head) ≡ true) (scan_of (frame_of_meaning H) tabs n head) (head_components head) (frame_of_meaning H) refl
    (each_units (λ (p : Place). is_among p.component (head_components head) ≡ true) (frame_of_meaning H) (head_components head) (λ i x y h. h))

first_codes : (f : Frame) (tabs : TablesInForce) (tables : ℕ → ℕ → HuffmanTable) (n : ℕ) (head : ScanHead) → IsFirstCode (scan_of f (with_class 0 tabs tables) n head).coding (element_bits tables head)
unfolding element_bits
first_codes f tabs tables n head = λ i d. refl

abbrev pub IsInForce : ℕ → TablesInForce → (ℕ → ℕ → HuffmanTable) → ScanHead → Type 0
IsInForce class tabs tables head = (i : ℕ) → is_among i (head_components head) ≡ true → (let slot = cond (class == 0) (part_of head i).dc (part_of head i).ac in tabs class slot ≡ Some (tables class slot))

pub dc_first_means : (huffman : Huffman) (H : Meaning) (heads : List ScanHead) (head : ScanHead) (n : ℕ) (tabs : TablesInForce) (before : Blocks) → is_progressive H.process ≡ true → nat_lt 0 head.ah ≡ false
    → IsDcScan H heads (scan_of (frame_of_meaning H) (with_class 0 tabs (progressive_tables huffman H head n)) n head) head before → IsInForce 0 tabs (progressive_tables huffman H head n) head
    → (let s = scan_of (frame_of_meaning H) tabs n head in
    ScanMeans s (map (progressive_coded (progressive_tables huffman H head n) head H.blocks) (scan_rows (frame_of_meaning H) head n)) before (after_renewed s (dc_renews s head) H.blocks before))
dc_first_means huffman H heads head n tabs before prog none is force =
    let f = frame_of_meaning H in
    let tables = progressive_tables huffman H head n in
    let s' = scan_of f (with_class 0 tabs tables) n head in
    let s = scan_of f tabs n head in
    let rows = scan_rows f head n in
    let after = after_renewed s' (dc_renews s' head) H.blocks before in
    let first : ℕ → ℤ = λ i. pos 0 in
    let sc = is.scan in
    let test : ℕ → Bool = λ i. is_among i (head_components head) in
    let dc = λ (i : ℕ). codes_of (tabs 0 (part_of head i).dc) in
    let ac = λ (i : ℕ). codes_of (tabs 1 (part_of head i).ac) in
    let same : AreSameCodes s'.coding dc ac test = λ i h. (sym (ap codes_of (force i h)), refl) in
    let are : AreBounds s'.coding.bounds = are_bounds H.precision in
    let low : s'.coding.al ≤ s'.coding.bounds.al = subst (λ m. m ≤ s'.coding.bounds.al) (sym sc.al) is.low in
    let due = subst (λ r. Each (λ row. Each (IsDcDue s' r before after) (placed_due H.blocks first row)) rows) none (dc_due H heads s' head before is) in
    let spelled : Each (λ row. SpellsInterval s before after row (progressive_coded tables head H.blocks row)) rows =
    each_both (λ row. Each (λ (p : Place). is_among p.component (head_components head) ≡ true) row) (λ row. RowSpelled tables head H.blocks s' before after row) (λ row. SpellsInterval s before after row (progressive_coded tables head H.blocks row)) rows
    (λ row a k. row_interval tables head H.blocks s before after row (row_coded tables head H.blocks s' before after dc ac test row same a k)) (rows_among H head n tabs)
    (each_both (λ row. Each (IsDcDue s' false before after) (placed_due H.blocks first row)) (λ row. Each (IsCodedHere huffman H head n) (interval_elements true head (units_due H.blocks first row))) (λ row. RowSpelled tables head H.blocks s' before after row) rows
    (λ row d k. (let units = units_due H.blocks first row in
    let coded = subst (λ es. Each (IsCodedHere huffman H head n) es) (elements_dc head units is.ss false none ∙ ap (λ m. unit_elements false false m first units) (sym sc.al)) k in
    let have = each_both (IsCodedHere huffman H head n) (λ (o : Owned). IsDifference o.1) (HasCode s'.coding) (unit_elements false false s'.coding.al first units) (λ o h e. h 0 (part_of head o.0).dc (own_dc head o e) e.byte) coded
    (differences are s'.coding.al first units low (λ j. are.zero_dc) (due_values s' false before after H.blocks first row d)) in
    dc_first_row s' tables head H.blocks before after row (sc.ss ∙ is.ss) (sc.se ∙ is.se) is.ss none sc.al (sc.refines ∙ none) low are (first_codes f tabs tables n head) d have))
    due (rows_coded huffman H head n)) in
    renew_means s (dc_renews s head) H.blocks before (map (progressive_coded tables head H.blocks) rows) is.sizes (rows_spelled s before after (progressive_coded tables head H.blocks) rows spelled)

-- DC REFINED

bit_codes : (tables : ℕ → ℕ → HuffmanTable) (head : ScanHead) (i : ℕ) (b : Bool) → element_bits tables head (i, dc_bit b) ≡ b ∷ []
unfolding element_bits
bit_codes tables head i b = refl

pub dc_refined_means : (huffman : Huffman) (H : Meaning) (heads : List ScanHead) (head : ScanHead) (n : ℕ) (tabs : TablesInForce) (before : Blocks) → nat_lt 0 head.ah ≡ true
    → IsDcScan H heads (scan_of (frame_of_meaning H) tabs n head) head before
    → (let s = scan_of (frame_of_meaning H) tabs n head in
    ScanMeans s (map (progressive_coded (progressive_tables huffman H head n) head H.blocks) (scan_rows (frame_of_meaning H) head n)) before (after_renewed s (dc_renews s head) H.blocks before))
dc_refined_means huffman H heads head n tabs before set is =
    let f = frame_of_meaning H in
    let tables = progressive_tables huffman H head n in
    let s = scan_of f tabs n head in
    let rows = scan_rows f head n in
    let after = after_renewed s (dc_renews s head) H.blocks before in
    let first : ℕ → ℤ = λ i. pos 0 in
    let sc = is.scan in
    let due = subst (λ r. Each (λ row. Each (IsDcDue s r before after) (placed_due H.blocks first row)) rows) set (dc_due H heads s head before is) in
    let spelled : Each (λ row. SpellsInterval s before after row (progressive_coded tables head H.blocks row)) rows =
    each_map (λ row. Each (IsDcDue s true before after) (placed_due H.blocks first row)) (λ row. SpellsInterval s before after row (progressive_coded tables head H.blocks row)) rows
    (λ row d. row_interval tables head H.blocks s before after row
    (dc_refining_row s tables head H.blocks before after row (sc.ss ∙ is.ss) (sc.se ∙ is.se) is.ss set sc.al (sc.refines ∙ set) (bit_codes tables head) d)) due in
    renew_means s (dc_renews s head) H.blocks before (map (progressive_coded tables head H.blocks) rows) is.sizes (rows_spelled s before after (progressive_coded tables head H.blocks) rows spelled)

-- A BAND

band_codes : (f : Frame) (tabs : TablesInForce) (tables : ℕ → ℕ → HuffmanTable) (n : ℕ) (head : ScanHead) (i : ℕ) → IsChosen ((scan_of f (with_class 1 tabs tables) n head).coding.ac i) (λ e. element_bits tables head (i, e))
unfolding element_bits
band_codes f tabs tables n head i = λ e h. other e h
  where
    other : (e : Element) → is_dc e ≡ false → element_bits tables head (i, e) ≡ code_of ((scan_of f (with_class 1 tabs tables) n head).coding.ac i) (symbol_of e) ++ bits_after e
    other (difference d) h = cc
    other (dc_bit b) h = cc
    other e h = refl

to_have : (codes : List Code) (es : List Element) → Each (λ e. Has codes (symbol_of e)) es → AllHave codes es
to_have codes [] h = tt
to_have codes (e ∷ es) h = (h.0, to_have codes es h.1)

module _ (huffman : Huffman) (H : Meaning) (head : ScanHead) (n : ℕ) (s : Scan) (i : ℕ) (old new : ℤ → ℤ) where
  -- what the elements of a row have
  row_have : (before after : Blocks) (row : List Place) → nat_lt 0 head.ss ≡ true → s.ss ≡ head.ss → s.se ≡ head.se → s.coding.al ≡ head.al → s.coding.most_category ≤ 14
      → ((v : ℤ) → IsAcValue s.coding.bounds v → Sends s.coding (sent (nat_lt 0 head.ah) s.coding.al v) (old v) (new v)) → Each (IsBandDue s i old new before after) (placed_due H.blocks (λ i. pos 0) row)
      → Each (IsCodedHere huffman H head n) (interval_elements true head (units_due H.blocks (λ i. pos 0) row))
      → AllHave (table_codes (progressive_tables huffman H head n 1 (part_of head i).ac)) (band_elements 32767 0 [] (map (map (sent (nat_lt 0 head.ah) s.coding.al)) (bands_due s H.blocks (λ i. pos 0) row)))
  row_have before after [] z a e same most step due coded = tt
  row_have before after (p ∷ row) z a e same most step due coded =
      let first : ℕ → ℤ = λ i. pos 0 in
      let r = nat_lt 0 head.ah in
      let units = units_due H.blocks first (p ∷ row) in
      let block = block_due H.blocks first p in
      let bands = map (map (sent r s.coding.al)) (bands_due s H.blocks first (p ∷ row)) in
      let es = band_elements 32767 0 [] (map (λ (u : UnitDue). band_of head u.1) units) in
      let eq : es ≡ band_elements 32767 0 [] bands = ap (band_elements 32767 0 []) (bands_are head s units a e ∙ ap (λ m. map (map (sent r m)) (map (λ (u : UnitDue). band s u.1) units)) (sym same)) in
      let mine : Each (IsCodedHere huffman H head n) (flat_map (λ (x : Element). (let o : Owned = (p.component, x) in o) ∷ []) es) =
      subst (λ b. Each (IsCodedHere huffman H head n) (cond b (flat_map (λ (x : Element). (let o : Owned = (p.component, x) in o) ∷ []) es) (unit_elements false r head.al first units))) z coded in
      let all = each_map (λ (x : Element). Each (IsCodedHere huffman H head n) ((let o : Owned = (p.component, x) in o) ∷ [])) (λ (x : Element). IsCodedHere huffman H head n (i, x)) es (λ x h. subst (λ m. IsCodedHere huffman H head n (m, x)) (due.0).component h.0)
      (each_flat (IsCodedHere huffman H head n) (λ (x : Element). (let o : Owned = (p.component, x) in o) ∷ []) es mine) in
      let small = band_small s i old new H.blocks before after first (p ∷ row) due in
      let acs = bands_ac s.coding 0 [] bands (map (map old) (bands_due s H.blocks first (p ∷ row))) (map (map new) (bands_due s H.blocks first (p ∷ row))) most (lit< tt) (all_bands s.coding r old new step (bands_due s H.blocks first (p ∷ row)) small) in
      to_have (table_codes (progressive_tables huffman H head n 1 (part_of head i).ac)) (band_elements 32767 0 [] bands)
      (each_both (λ (x : Element). IsCodedHere huffman H head n (i, x)) IsAc (λ x. Has (table_codes (progressive_tables huffman H head n 1 (part_of head i).ac)) (symbol_of x)) (band_elements 32767 0 [] bands)
      (λ x h d. h 1 (part_of head i).ac (own_ac head (i, x) d) d.byte) (subst (λ l. Each (λ (x : Element). IsCodedHere huffman H head n (i, x)) l) eq all) acs)

pub band_means : (huffman : Huffman) (H : Meaning) (heads : List ScanHead) (head : ScanHead) (i n : ℕ) (tabs : TablesInForce) (before : Blocks) → nat_lt 0 head.ss ≡ true
    → IsBandScan H heads (scan_of (frame_of_meaning H) (with_class 1 tabs (progressive_tables huffman H head n)) n head) head i before → IsInForce 1 tabs (progressive_tables huffman H head n) head
    → (let s = scan_of (frame_of_meaning H) (with_class 1 tabs (progressive_tables huffman H head n)) n head in (s.coding.most_category ≤ 14)
    × ((v : ℤ) → IsAcValue s.coding.bounds v → Sends s.coding (sent (nat_lt 0 head.ah) s.coding.al v) (ac_known (was_known head) v) (scaled s.coding.al (divided s.coding.al v)))
    × ((v : ℤ) → IsAcValue s.coding.bounds v → int_le (pos (nat_abs (scaled s.coding.al (divided s.coding.al v)))) s.coding.bounds.ac ≡ true))
    → (let s = scan_of (frame_of_meaning H) tabs n head in
    ScanMeans s (map (progressive_coded (progressive_tables huffman H head n) head H.blocks) (scan_rows (frame_of_meaning H) head n)) before (after_renewed s (band_renews s) H.blocks before))
band_means huffman H heads head i n tabs before z is force (most, step, ok) =
    let f = frame_of_meaning H in
    let tables = progressive_tables huffman H head n in
    let s' = scan_of f (with_class 1 tabs tables) n head in
    let s = scan_of f tabs n head in
    let rows = scan_rows f head n in
    let after = after_renewed s' (band_renews s') H.blocks before in
    let first : ℕ → ℤ = λ i. pos 0 in
    let old = ac_known (was_known head) in
    let new : ℤ → ℤ = λ v. scaled s'.coding.al (divided s'.coding.al v) in
    let sc = is.scan in
    let test : ℕ → Bool = λ i. is_among i (head_components head) in
    let dc = λ (i : ℕ). codes_of (tabs 0 (part_of head i).dc) in
    let ac = λ (i : ℕ). codes_of (tabs 1 (part_of head i).ac) in
    let same : AreSameCodes s'.coding dc ac test = λ i h. (refl, sym (ap codes_of (force i h))) in
    let spelled : Each (λ row. SpellsInterval s before after row (progressive_coded tables head H.blocks row)) rows =
    each_both (λ row. Each (λ (p : Place). is_among p.component (head_components head) ≡ true) row) (λ row. RowSpelled tables head H.blocks s' before after row) (λ row. SpellsInterval s before after row (progressive_coded tables head H.blocks row)) rows
    (λ row a k. row_interval tables head H.blocks s before after row (row_coded tables head H.blocks s' before after dc ac test row same a k)) (rows_among H head n tabs)
    (each_both (λ row. Each (IsBandDue s' i old new before after) (placed_due H.blocks first row)) (λ row. Each (IsCodedHere huffman H head n) (interval_elements true head (units_due H.blocks first row))) (λ row. RowSpelled tables head H.blocks s' before after row) rows
    (λ row d k. band_row s' i old new H.blocks before after tables head row z sc.ss sc.se sc.al step ok sc.run (band_codes f tabs tables n head i) d
    (row_have huffman H head n s' i old new before after row z sc.ss sc.se sc.al most step d k))
    (band_due H heads s' head i before is) (rows_coded huffman H head n)) in
    renew_means s (band_renews s) H.blocks before (map (progressive_coded tables head H.blocks) rows) is.sizes (rows_spelled s before after (progressive_coded tables head H.blocks) rows spelled)
