-- The intervals of a progressive scan that are written spell what the scan renews.
use Rattle.std.proofs.Common.{◌≡◌, ℕ, ◌+◌, ◌-◌, ◌≤◌, Bool, true, false, cond, List, [], ◌∷◌, ◌++◌, length, take, drop, get_or, refl, sym, ap, ◌∙◌, subst, arith, ℤ, pos, ◌==◌, ◌&&◌}
use Rattle.std.specs.Prelude.{map, flat_map, int_le, nat_abs, nat_le, nat_lt, slice_index_or}
use Rattle.std.proofs.lemmas.Bool.Decides.{nat_tests}
use Rattle.jpg_spec.specs.Bits.{whole_bytes, padded}
use Rattle.jpg_spec.specs.Segments.{HuffmanTable, ScanHead}
use Rattle.jpg_spec.specs.Elements.{UnitLeft, Element, SpellsUnits, dc_bit}
use Rattle.jpg_spec_write.specs.Sending.{sent, band_elements}
use Rattle.jpg_spec.specs.Scan.{Blocks, Scan, band, block_at, unit_at}
use Rattle.jpg_spec_write.specs.ScanText.{UnitDue, Owned, units_due, last_dc, unit_elements, band_of, interval_elements, element_bits}
use Rattle.jpg_spec.specs.declared.frame.Place.{Place}
use Rattle.jpg_spec.proofs.Basics.Rows.{map_map}
use Rattle.jpg_spec.proofs.Basics.Small.{AreBounds, IsAcValue, IsDc}
use Rattle.jpg_spec_write.proofs.Writing.{Sends, AllHave}
use Rattle.jpg_spec_write.proofs.Bands.{flat, units_of}
use Rattle.jpg_spec_write.proofs.Behind.{IsChosen}
use Rattle.jpg_spec.proofs.Basics.Each.{Each}
use Rattle.jpg_spec_write.proofs.PlacedBlocks.{Placed, block_due, placed_due}
use Rattle.jpg_spec_write.proofs.RenewedScan.{renewed, renewed_size, renewed_get, renew_block}
use Rattle.jpg_spec_write.proofs.ProgressiveSpelled.{IsBand, bands_spelled, dc_new, DcUnits, HasCode, IsFirstCode, dc_first, dc_refining}

-- ONE COEFFICIENT of a block

single_band : (s : Scan) → s.ss ≡ 0 → s.se ≡ 0 → (b : List ℤ) → length b ≡ 64 → band s b ≡ get_or b 0 (pos 0) ∷ []
single_band s a e b l = ap (λ n. take (s.se + 1 - n) (drop n b)) a ∙ ap (λ n. take (n + 1 - 0) b) e ∙ one b l
  where
    one : (b : List ℤ) → length b ≡ 64 → take 1 b ≡ get_or b 0 (pos 0) ∷ []
    one [] l = absurd (omega (arith, l))
    one (v ∷ b) l = refl

-- what a place of a DC scan needs
pub record IsDcDue (s : Scan) (r : Bool) (before after : Blocks) (q : Placed) : Type 0 where
  pub size : length (block_at before q.0) ≡ 64
  pub due : IsDc s.coding.bounds (slice_index_or q.1 0 (pos 0))
  pub told : IsDc s.coding.bounds (dc_new r s.coding.al (get_or (block_at before q.0) 0 (pos 0)) (slice_index_or q.1 0 (pos 0)))
  pub found : block_at after q.0 ≡ renew_block s (dc_new r s.coding.al) before q

dc_band : (s : Scan) (r : Bool) (before after : Blocks) (q : Placed) → s.ss ≡ 0 → s.se ≡ 0 → IsDcDue s r before after q
    → band s (block_at after q.0) ≡ dc_new r s.coding.al (get_or (block_at before q.0) 0 (pos 0)) (slice_index_or q.1 0 (pos 0)) ∷ []
dc_band s r before after q a e h =
    let new = dc_new r s.coding.al in
    let old = block_at before q.0 in
    let block = renewed s.ss s.se new old q.1 in
    let low : nat_le s.ss 0 ≡ true = grind (arith, nat_tests, a) in
    let high : nat_le 0 s.se ≡ true = grind (arith, nat_tests) in
    ap (band s) h.found ∙ single_band s a e block (renewed_size s.ss s.se new old q.1)
    ∙ ap (λ v. v ∷ []) (renewed_get s.ss s.se new old q.1 0 (omega arith) ∙ ap (λ b. cond (b && nat_le 0 s.se) (new (get_or old 0 (pos 0)) (get_or q.1 0 (pos 0))) (get_or old 0 (pos 0))) low
    ∙ ap (λ b. cond b (new (get_or old 0 (pos 0)) (get_or q.1 0 (pos 0))) (get_or old 0 (pos 0))) high)

dc_units : (s : Scan) (r : Bool) (blocks before after : Blocks) (last : ℕ → ℤ) (places : List Place) → s.ss ≡ 0 → s.se ≡ 0 → Each (IsDcDue s r before after) (placed_due blocks last places)
    → DcUnits s.coding r (map (unit_at s before) places) (units_due blocks last places) (flat_map (λ p. band s (block_at after p)) places)
dc_units s r blocks before after last [] a e h = refl
dc_units s r blocks before after last (p ∷ places) a e h =
    let q : Placed = (p, block_due blocks last p) in
    let more = flat_map (λ p. band s (block_at after p)) places in
    let first : (s.ss == 0) ≡ true = ap (λ n. n == 0) a in (
      get_or (block_at before p) 0 (pos 0),
      more,
      refl,
      first,
      single_band s a e (block_at before p) (h.0).size,
      (h.0).due,
      (h.0).told,
      ap (λ l. l ++ more) (dc_band s r before after q a e h.0),
      dc_units s r blocks before after (last_dc last p.component (block_due blocks last p)) places a e h.1,
    )

abbrev pub progressive_bits : (ℕ → ℕ → HuffmanTable) → ScanHead → List UnitDue → List Bool
progressive_bits tables head due = flat_map (element_bits tables head) (interval_elements true head due)

abbrev pub progressive_coded : (ℕ → ℕ → HuffmanTable) → ScanHead → Blocks → List Place → List ℕ
progressive_coded tables head blocks places = whole_bytes (padded (progressive_bits tables head (units_due blocks (λ i. pos 0) places)))

pub elements_dc : (head : ScanHead) (due : List UnitDue) → head.ss ≡ 0 → (r : Bool) → nat_lt 0 head.ah ≡ r → interval_elements true head due ≡ unit_elements false r head.al (λ i. pos 0) due
elements_dc head due e r h =
    let none : nat_lt 0 head.ss ≡ false = grind (arith, nat_tests, e) in
    ap (λ b. cond b (flat_map (λ (e : Element). map (λ (u : UnitDue). (let o : Owned = (u.0, e) in o)) (take 1 due)) (band_elements 32767 0 [] (map (λ (u : UnitDue). band_of head u.1) due))) (unit_elements false (nat_lt 0 head.ah) head.al (λ i. pos 0) due)) none
    ∙ ap (λ b. unit_elements false b head.al (λ i. pos 0) due) h

-- a first pass of DC
pub dc_first_row : (s : Scan) (tables : ℕ → ℕ → HuffmanTable) (head : ScanHead) (blocks before after : Blocks) (places : List Place) → s.ss ≡ 0 → s.se ≡ 0 → head.ss ≡ 0 → nat_lt 0 head.ah ≡ false → s.coding.al ≡ head.al
    → s.coding.refines ≡ false → s.coding.al ≤ s.coding.bounds.al → AreBounds s.coding.bounds → IsFirstCode s.coding (element_bits tables head)
    → Each (IsDcDue s false before after) (placed_due blocks (λ i. pos 0) places) → Each (HasCode s.coding) (unit_elements false false s.coding.al (λ i. pos 0) (units_due blocks (λ i. pos 0) places))
    → (bits : List Bool) × (bits ≡ progressive_bits tables head (units_due blocks (λ i. pos 0) places)) × SpellsUnits s.coding (map (unit_at s before) places) (flat_map (λ p. band s (block_at after p)) places) bits
dc_first_row s tables head blocks before after places a e z n same r l b first due have =
    let c = s.coding in
    let p : ℕ → ℤ = λ i. pos 0 in
    let units = units_due blocks p places in
    let k = dc_first c r l b (element_bits tables head) first p (λ j. b.zero_dc) (map (unit_at s before) places) units (flat_map (λ p. band s (block_at after p)) places) (dc_units s false blocks before after p places a e due) have in
    let bits = flat_map (element_bits tables head) (unit_elements false false c.al p units) in (
      bits,
      ap (λ m. flat_map (element_bits tables head) (unit_elements false false m p units)) same ∙ ap (flat_map (element_bits tables head)) (sym (elements_dc head units z false n)),
      (map (λ (o : Owned). o.1) (unit_elements false false c.al p units), k.0, k.1, k.2),
    )

-- one more bit of DC
pub dc_refining_row : (s : Scan) (tables : ℕ → ℕ → HuffmanTable) (head : ScanHead) (blocks before after : Blocks) (places : List Place) → s.ss ≡ 0 → s.se ≡ 0 → head.ss ≡ 0 → nat_lt 0 head.ah ≡ true → s.coding.al ≡ head.al
    → s.coding.refines ≡ true → ((i : ℕ) (b : Bool) → element_bits tables head (i, dc_bit b) ≡ b ∷ [])
    → Each (IsDcDue s true before after) (placed_due blocks (λ i. pos 0) places)
    → (bits : List Bool) × (bits ≡ progressive_bits tables head (units_due blocks (λ i. pos 0) places)) × SpellsUnits s.coding (map (unit_at s before) places) (flat_map (λ p. band s (block_at after p)) places) bits
dc_refining_row s tables head blocks before after places a e z n same r first due =
    let c = s.coding in
    let p : ℕ → ℤ = λ i. pos 0 in
    let units = units_due blocks p places in
    let k = dc_refining c r (element_bits tables head) first p p (map (unit_at s before) places) units (flat_map (λ p. band s (block_at after p)) places) (dc_units s true blocks before after p places a e due) in
    let bits = flat_map (element_bits tables head) (unit_elements false true c.al p units) in (
      bits,
      ap (λ m. flat_map (element_bits tables head) (unit_elements false true m p units)) same ∙ ap (flat_map (element_bits tables head)) (sym (elements_dc head units z true n)),
      (map (λ (o : Owned). o.1) (unit_elements false true c.al p units), k.0, k.1, k.2),
    )

-- BANDS of AC of one component

-- what a place of such a scan needs: what its band was and is, by what is encoded
pub record IsBandDue (s : Scan) (i : ℕ) (old new : ℤ → ℤ) (before after : Blocks) (q : Placed) : Type 0 where
  pub component : (q.0).component ≡ i
  pub was : band s (block_at before q.0) ≡ map old (band s q.1)
  pub is : band s (block_at after q.0) ≡ map new (band s q.1)
  pub small : IsBand s.coding.bounds (band s q.1)

abbrev pub bands_due : Scan → Blocks → (ℕ → ℤ) → List Place → List (List ℤ)
bands_due s blocks last places = map (λ (u : UnitDue). band s u.1) (units_due blocks last places)

owned_bits : (chosen : Owned → List Bool) (i : ℕ) (es : List Element) → flat_map chosen (flat_map (λ (e : Element). (let o : Owned = (i, e) in o) ∷ []) es) ≡ flat_map (λ e. chosen (i, e)) es
owned_bits chosen i [] = refl
owned_bits chosen i (e ∷ es) = ap (λ l. chosen (i, e) ++ l) (owned_bits chosen i es)

pub bands_are : (head : ScanHead) (s : Scan) (due : List UnitDue) → s.ss ≡ head.ss → s.se ≡ head.se
    → map (λ (u : UnitDue). band_of head u.1) due ≡ map (map (sent (nat_lt 0 head.ah) head.al)) (map (λ (u : UnitDue). band s u.1) due)
bands_are head s due a e =
    ap (λ n. map (λ (u : UnitDue). map (sent (nat_lt 0 head.ah) head.al) (take (head.se + 1 - n) (drop n u.1))) due) (sym a)
    ∙ ap (λ n. map (λ (u : UnitDue). map (sent (nat_lt 0 head.ah) head.al) (take (n + 1 - s.ss) (drop s.ss u.1))) due) (sym e)
    ∙ sym (map_map (map (sent (nat_lt 0 head.ah) head.al)) (λ (u : UnitDue). band s u.1) due)

elements_ac : (tables : ℕ → ℕ → HuffmanTable) (head : ScanHead) (s : Scan) (i : ℕ) (due : List UnitDue) → nat_lt 0 head.ss ≡ true → s.ss ≡ head.ss → s.se ≡ head.se → Each (λ (u : UnitDue). u.0 ≡ i) due
    → progressive_bits tables head due ≡ flat_map (λ e. element_bits tables head (i, e)) (band_elements 32767 0 [] (map (map (sent (nat_lt 0 head.ah) head.al)) (map (λ (u : UnitDue). band s u.1) due)))
elements_ac tables head s i due z a e own =
    let es = band_elements 32767 0 [] (map (λ (u : UnitDue). band_of head u.1) due) in
    let bands : map (λ (u : UnitDue). band_of head u.1) due ≡ map (map (sent (nat_lt 0 head.ah) head.al)) (map (λ (u : UnitDue). band s u.1) due) =
    ap (λ n. map (λ (u : UnitDue). map (sent (nat_lt 0 head.ah) head.al) (take (head.se + 1 - n) (drop n u.1))) due) (sym a)
    ∙ ap (λ n. map (λ (u : UnitDue). map (sent (nat_lt 0 head.ah) head.al) (take (n + 1 - s.ss) (drop s.ss u.1))) due) (sym e)
    ∙ sym (map_map (map (sent (nat_lt 0 head.ah) head.al)) (λ (u : UnitDue). band s u.1) due) in
    ap (λ b. flat_map (element_bits tables head) (cond b (flat_map (λ (e : Element). map (λ (u : UnitDue). (let o : Owned = (u.0, e) in o)) (take 1 due)) es) (unit_elements false (nat_lt 0 head.ah) head.al (λ i. pos 0) due))) z
    ∙ taken due own es (λ n. none n) ∙ ap (λ l. flat_map (λ e. element_bits tables head (i, e)) (band_elements 32767 0 [] l)) bands
  where
    none : due ≡ [] → band_elements 32767 0 [] (map (λ (u : UnitDue). band_of head u.1) due) ≡ []
    none n = ap (λ (d : List UnitDue). band_elements 32767 0 [] (map (λ (u : UnitDue). band_of head u.1) d)) n

    taken : (due : List UnitDue) → Each (λ (u : UnitDue). u.0 ≡ i) due → (es : List Element) → (due ≡ [] → es ≡ [])
        → flat_map (element_bits tables head) (flat_map (λ (e : Element). map (λ (u : UnitDue). (let o : Owned = (u.0, e) in o)) (take 1 due)) es) ≡ flat_map (λ e. element_bits tables head (i, e)) es
    taken [] own es n =
        ap (λ l. flat_map (element_bits tables head) (flat_map (λ (e : Element). []) l)) (n refl) ∙ ap (λ l. flat_map (λ e. element_bits tables head (i, e)) l) (sym (n refl))
    taken (u ∷ due) own es n =
        ap (λ m. flat_map (element_bits tables head) (flat_map (λ (e : Element). (let o : Owned = (m, e) in o) ∷ []) es)) own.0 ∙ owned_bits (element_bits tables head) i es

module _ (s : Scan) (i : ℕ) (old new : ℤ → ℤ) (blocks before after : Blocks) where
  band_units : (last : ℕ → ℤ) (places : List Place) → (s.ss == 0) ≡ false → Each (IsBandDue s i old new before after) (placed_due blocks last places)
      → map (unit_at s before) places ≡ units_of i (map (map old) (bands_due s blocks last places))
  band_units last [] z h = refl
  band_units last (p ∷ places) z h =
      let block = block_due blocks last p in
      let later = map (unit_at s before) places in
      ap (λ (n : ℕ). (let u : UnitLeft = record { component = n; has_dc = s.ss == 0; old = band s (block_at before p) } in u ∷ later)) (h.0).component
      ∙ ap (λ (b : Bool). (let u : UnitLeft = record { component = i; has_dc = b; old = band s (block_at before p) } in u ∷ later)) z
      ∙ ap (λ (l : List ℤ). (let u : UnitLeft = record { component = i; has_dc = false; old = l } in u ∷ later)) (h.0).was
      ∙ ap (λ (us : List UnitLeft). (let u : UnitLeft = record { component = i; has_dc = false; old = map old (band s block) } in u ∷ us)) (band_units (last_dc last p.component block) places z h.1)

  parsed_band : (last : ℕ → ℤ) (places : List Place) → Each (IsBandDue s i old new before after) (placed_due blocks last places)
      → flat_map (λ p. band s (block_at after p)) places ≡ flat (map (map new) (bands_due s blocks last places))
  parsed_band last [] h = refl
  parsed_band last (p ∷ places) h =
      let block = block_due blocks last p in
      ap (λ l. l ++ flat_map (λ p. band s (block_at after p)) places) (h.0).is ∙ ap (λ l. map new (band s block) ++ l) (parsed_band (last_dc last p.component block) places h.1)

  pub band_small : (last : ℕ → ℤ) (places : List Place) → Each (IsBandDue s i old new before after) (placed_due blocks last places) → Each (IsBand s.coding.bounds) (bands_due s blocks last places)
  band_small last [] h = tt
  band_small last (p ∷ places) h = ((h.0).small, band_small (last_dc last p.component (block_due blocks last p)) places h.1)

  band_owned : (last : ℕ → ℤ) (places : List Place) → Each (IsBandDue s i old new before after) (placed_due blocks last places) → Each (λ (u : UnitDue). u.0 ≡ i) (units_due blocks last places)
  band_owned last [] h = tt
  band_owned last (p ∷ places) h = ((h.0).component, band_owned (last_dc last p.component (block_due blocks last p)) places h.1)

  pub band_row : (tables : ℕ → ℕ → HuffmanTable) (head : ScanHead) (places : List Place) → nat_lt 0 head.ss ≡ true → s.ss ≡ head.ss → s.se ≡ head.se → s.coding.al ≡ head.al
      → ((v : ℤ) → IsAcValue s.coding.bounds v → Sends s.coding (sent (nat_lt 0 head.ah) s.coding.al v) (old v) (new v)) → ((v : ℤ) → IsAcValue s.coding.bounds v → int_le (pos (nat_abs (new v))) s.coding.bounds.ac ≡ true)
      → s.coding.most_run ≡ 14 → IsChosen (s.coding.ac i) (λ e. element_bits tables head (i, e)) → Each (IsBandDue s i old new before after) (placed_due blocks (λ i. pos 0) places)
      → AllHave (s.coding.ac i) (band_elements 32767 0 [] (map (map (sent (nat_lt 0 head.ah) s.coding.al)) (bands_due s blocks (λ i. pos 0) places)))
      → (bits : List Bool) × (bits ≡ progressive_bits tables head (units_due blocks (λ i. pos 0) places)) × SpellsUnits s.coding (map (unit_at s before) places) (flat_map (λ p. band s (block_at after p)) places) bits
  band_row tables head places z a e same step ok run first due have =
      let c = s.coding in
      let p : ℕ → ℤ = λ i. pos 0 in
      let r = nat_lt 0 head.ah in
      let bands = bands_due s blocks p places in
      let none : (s.ss == 0) ≡ false = ap (λ n. n == 0) a ∙ not_zero head.ss z in
      let k = bands_spelled c r i old new bands (λ e. element_bits tables head (i, e)) step ok (band_small p places due) run first have in
      let bits = flat_map (λ e. element_bits tables head (i, e)) (band_elements 32767 0 [] (map (map (sent r c.al)) bands)) in (
        bits,
        ap (λ m. flat_map (λ e. element_bits tables head (i, e)) (band_elements 32767 0 [] (map (map (sent r m)) bands))) same
            ∙ sym (elements_ac tables head s i (units_due blocks p places) z a e (band_owned p places due)),
        subst (λ us. SpellsUnits c us (flat_map (λ p. band s (block_at after p)) places) bits) (sym (band_units p places none due))
            (subst (λ vs. SpellsUnits c (units_of i (map (map old) bands)) vs bits) (sym (parsed_band p places due)) k),
      )
    where
      not_zero : (n : ℕ) → nat_lt 0 n ≡ true → (n == 0) ≡ false
      not_zero n h = grind (arith, nat_tests, h)
