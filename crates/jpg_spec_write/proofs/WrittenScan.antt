-- A sequential scan that is written leads to the blocks that it writes.
use Rattle.std.proofs.Common.{◌≡◌, ℕ, ◌+◌, ◌-◌, ◌*◌, ◌<◌, ◌≤◌, Bool, true, false, cond, List, [], ◌∷◌, ◌++◌, length, take, drop, get_or, refl, sym, ap, ◌∙◌, subst, arith, ⊎_elim, ℤ, pos, ◌==◌, ◌&&◌}
use Rattle.std.specs.Prelude.{◌||◌, map, flat_map, nat_le}
use Rattle.std.proofs.lemmas.Bool.{cases_lt}
use Rattle.std.proofs.lemmas.Bool.Decides.{nat_tests}
use Rattle.std.proofs.Math.Seq.{take_all}
use Rattle.std.proofs.lemmas.List.{get_or_past}
use Rattle.jpg_spec.specs.Bits.{whole_bytes, padded}
use Rattle.jpg_spec.specs.Lists.{any_of, chunks, is_among, is_distinct}
use Rattle.jpg_spec.specs.Geometry.{Frame, units, is_progressive, is_real, mcu_units}
use Rattle.jpg_spec.specs.FrameHeader.{IsFrame}
use Rattle.jpg_spec.specs.Segments.{HuffmanTable, ScanHead, head_components}
use Rattle.jpg_spec.specs.Elements.{SpellsUnits, zeros, new_unit}
use Rattle.jpg_spec.specs.Scan.{Blocks, Scan, TablesInForce, scan_coding, scan_of, band, block_at, unit_at, SpellsInterval, SpellsIntervals, coefficient, is_named, ScanMeans}
use Rattle.jpg_spec_write.specs.ScanText.{UnitDue, Owned, units_due, unit_elements, last_dc}
use Rattle.jpg_spec_write.specs.Written.{HasCode, all_in_force, sequential_bits}
use Rattle.jpg_spec.specs.PictureInWork.{is_at, AreDistinct}
use Rattle.jpg_spec.specs.Laws.{IsNewUnit}
use Rattle.jpg_spec.specs.declared.frame.Place.{Place}
use Rattle.jpg_spec.proofs.Bits.Packing.{packs}
use Rattle.jpg_spec.proofs.Files.BlocksOnce.{joined_chunks}
use Rattle.jpg_spec.proofs.Places.PlacesDistinct.{units_distinct}
use Rattle.jpg_spec.proofs.Places.PlacesFound.{each_units, real_found}
use Rattle.jpg_spec.proofs.Basics.Each.{Each, each_map, each_rows, each_flat}
use Rattle.jpg_spec_write.proofs.PlacedBlocks.{Placed, block_due, placed_due, all_placed, all_places, blocks_after, found_none, IsFound, found_each, found_size, IsRealSendable, IsPlacedWritable, placed_writable, due_writable, placed_sizes, found_real}
use Rattle.jpg_spec_write.proofs.WrittenCoding.{Gives, scan_spells}
use Rattle.jpg_spec.proofs.Headers.Precisions.{zero_ac, zero_dc}
use Rattle.jpg_spec.proofs.Basics.Common.{both, same_of, and_intro}

-- AN INTERVAL

-- its elements
abbrev pub rows_elements : ScanHead → Blocks → List Place → List Owned
rows_elements head blocks row = unit_elements true false 0 (λ i. pos 0) (units_due blocks (λ i. pos 0) row)

abbrev pub sequential_coded : (ℕ → ℕ → HuffmanTable) → ScanHead → Blocks → List Place → List ℕ
sequential_coded by head blocks places = whole_bytes (padded (sequential_bits by head (units_due blocks (λ i. pos 0) places)))

units_new : (s : Scan) (before blocks : Blocks) (last : ℕ → ℤ) (places : List Place) → Each (IsNewUnit s before) places → map (unit_at s before) places ≡ map (λ (u : UnitDue). new_unit u.0) (units_due blocks last places)
units_new s before blocks last [] h = refl
units_new s before blocks last (p ∷ places) h =
    ap (λ u. u ∷ map (unit_at s before) places) h.0 ∙ ap (λ us. new_unit p.component ∷ us) (units_new s before blocks (last_dc last p.component (block_due blocks last p)) places h.1)

band_whole : (s : Scan) → s.ss ≡ 0 → s.se ≡ 63 → (block : List ℤ) → length block ≡ 64 → band s block ≡ block
band_whole s a b block l = ap (λ n. take (s.se + 1 - n) (drop n block)) a ∙ ap (λ n. take (n + 1 - 0) block) b ∙ take_all 64 block (omega (arith, l))

bands_new : (s : Scan) (after blocks : Blocks) (last : ℕ → ℤ) (places : List Place) → s.ss ≡ 0 → s.se ≡ 63 → Each (IsFound after) (placed_due blocks last places) → Each (λ (q : Placed). length q.1 ≡ 64) (placed_due blocks last places)
    → flat_map (λ p. band s (block_at after p)) places ≡ flat_map (λ (u : UnitDue). u.1) (units_due blocks last places)
bands_new s after blocks last [] a b h l = refl
bands_new s after blocks last (p ∷ places) a b h l =
    let block = block_due blocks last p in
    ap (λ x. band s x ++ flat_map (λ p. band s (block_at after p)) places) h.0 ∙ ap (λ x. x ++ flat_map (λ p. band s (block_at after p)) places) (band_whole s a b block l.0)
    ∙ ap (λ t. block ++ t) (bands_new s after blocks (last_dc last p.component block) places a b h.1 l.1)

due_among : (test : ℕ → Bool) (blocks : Blocks) (last : ℕ → ℤ) (places : List Place) → Each (λ (p : Place). test p.component ≡ true) places → Each (λ (u : UnitDue). test u.0 ≡ true) (units_due blocks last places)
due_among test blocks last [] h = tt
due_among test blocks last (p ∷ places) h = (h.0, due_among test blocks (last_dc last p.component (block_due blocks last p)) places h.1)

-- what an interval of a scan of the frame needs
record IsIntervalDue (f : Frame) (s : Scan) (by : ℕ → ℕ → HuffmanTable) (head : ScanHead) (before after blocks : Blocks) (places : List Place) : Type 0 where
  new : Each (IsNewUnit s before) places
  among : Each (λ (p : Place). is_among p.component (head_components head) ≡ true) places
  writable : Each (IsPlacedWritable (scan_coding f (all_in_force by) head)) (placed_due blocks (λ i. pos 0) places)
  coded : Each (HasCode by head) (rows_elements head blocks places)
  found : Each (IsFound after) (placed_due blocks (λ i. pos 0) places)

module _ (f : Frame) (by : ℕ → ℕ → HuffmanTable) (tables : TablesInForce) (restart : ℕ) (head : ScanHead) (before after blocks : Blocks) where
  interval_spelled : (places : List Place) → is_progressive f.process ≡ false → Gives by tables head → IsIntervalDue f (scan_of f tables restart head) by head before after blocks places → SpellsInterval (scan_of f tables restart head) before after places (sequential_coded by head blocks places)
  interval_spelled places e given is =
      let s = scan_of f tables restart head in
      let c = scan_coding f (all_in_force by) head in
      let first : ℕ → ℤ = λ i. pos 0 in
      let due = units_due blocks first places in
      let bits = sequential_bits by head due in
      let sizes = each_map (IsPlacedWritable c) (λ (q : Placed). length q.1 ≡ 64) (placed_due blocks first places) (λ q w. w.0) is.writable in
      let k = scan_spells f by tables head due e given (due_among (λ i. is_among i (head_components head)) blocks first places is.among) (due_writable c blocks first places is.writable) is.coded in
      let units = units_new s before blocks first places is.new in
      let bands = bands_new s after blocks first places (ap (λ b. cond b head.ss 0) e) (ap (λ b. cond b head.se 63) e) is.found sizes in (
        bits,
        packs bits,
        subst (λ us. SpellsUnits s.coding us (flat_map (λ p. band s (block_at after p)) places) bits) (sym units)
            (subst (λ vs. SpellsUnits s.coding (map (λ (u : UnitDue). new_unit u.0) due) vs bits) (sym bands) k),
      )

  -- ALL INTERVALS
  intervals_spelled : (rows : List (List Place)) → is_progressive f.process ≡ false → Gives by tables head → Each (IsIntervalDue f (scan_of f tables restart head) by head before after blocks) rows → SpellsIntervals (scan_of f tables restart head) before after rows (map (sequential_coded by head blocks) rows)
  intervals_spelled [] e given is = tt
  intervals_spelled (places ∷ rows) e given is = (interval_spelled places e given is.0, intervals_spelled rows e given is.1)

all_due : (f : Frame) (s : Scan) (by : ℕ → ℕ → HuffmanTable) (head : ScanHead) (before after blocks : Blocks) (rows : List (List Place)) → Each (λ row. Each (IsNewUnit s before) row) rows
    → Each (λ row. Each (λ (p : Place). is_among p.component (head_components head) ≡ true) row) rows
    → Each (λ row. Each (IsPlacedWritable (scan_coding f (all_in_force by) head)) (placed_due blocks (λ i. pos 0) row)) rows
    → Each (λ row. Each (HasCode by head) (rows_elements head blocks row)) rows
    → Each (λ row. Each (IsFound after) (placed_due blocks (λ i. pos 0) row)) rows
    → Each (IsIntervalDue f s by head before after blocks) rows
all_due f s by head before after blocks [] a b c k d = tt
all_due f s by head before after blocks (row ∷ rows) a b c k d = (record { new = a.0; among = b.0; writable = c.0; coded = k.0; found = d.0 }, all_due f s by head before after blocks rows a.1 b.1 c.1 k.1 d.1)

-- THE SCAN

abbrev pub scan_rows : Frame → ScanHead → ℕ → List (List Place)
scan_rows f head restart = chunks (restart * mcu_units f (head_components head)) (units f (head_components head))

abbrev pub scan_after_blocks : Frame → ScanHead → ℕ → Blocks → Blocks → Blocks
scan_after_blocks f head restart blocks before = blocks_after (all_placed blocks (scan_rows f head restart)) before

-- the places of all blocks that are placed
placed_are : (f : Frame) (head : ScanHead) (restart : ℕ) (blocks : Blocks) → map (λ (q : Placed). q.0) (all_placed blocks (scan_rows f head restart)) ≡ units f (head_components head)
placed_are f head restart blocks = all_places blocks (scan_rows f head restart) ∙ joined_chunks (restart * mcu_units f (head_components head)) (units f (head_components head))

units_among : (f : Frame) (parts : List ℕ) → Each (λ (p : Place). is_among p.component parts ≡ true) (units f parts)
units_among f parts = each_units (λ (p : Place). is_among p.component parts ≡ true) f parts (λ i x y h. h)

-- blocks of other components don't change
pub none_other : (i x y : ℕ) (parts : List ℕ) (places : List Place) → Each (λ (p : Place). is_among p.component parts ≡ true) places → is_among i parts ≡ false → any_of (is_at i x y) places ≡ false
none_other i x y parts [] h e = refl
none_other i x y parts (p ∷ places) h e = by (is_at i x y p) refl (none_other i x y parts places h.1 e)
  where
    by : (b : Bool) → is_at i x y p ≡ b → any_of (is_at i x y) places ≡ false → (b || any_of (is_at i x y) places) ≡ false
    by true k later =
        let s = same_of p.component i (both (p.component == i) (p.x == x) (both (p.component == i && p.x == x) (p.y == y) k).0).0 in
        let z : true ≡ false = sym h.0 ∙ ap (λ n. is_among n parts) s ∙ e in
        cc
    by false k later = later

pub other_after : (f : Frame) (head : ScanHead) (restart : ℕ) (blocks before : Blocks) (i x y : ℕ) → is_among i (head_components head) ≡ false → scan_after_blocks f head restart blocks before i x y ≡ before i x y
other_after f head restart blocks before i x y e =
    found_none (all_placed blocks (scan_rows f head restart)) (before i x y) i x y
    (ap (any_of (is_at i x y)) (placed_are f head restart blocks) ∙ none_other i x y (head_components head) (units f (head_components head)) (units_among f (head_components head)) e)

-- real blocks are those of the picture
abbrev pub IsPlaceOf : Frame → Place → Type 0
IsPlaceOf f p = p.real ≡ is_real f p.component p.x p.y

abbrev pub IsPicture : Blocks → ℕ → ℕ → ℕ → Placed → Type 0
IsPicture blocks i x y q = is_at i x y q.0 ≡ true → q.1 ≡ blocks i x y

due_real : (f : Frame) (blocks : Blocks) (last : ℕ → ℤ) (places : List Place) (i x y : ℕ) → is_real f i x y ≡ true → Each (IsPlaceOf f) places → Each (IsPicture blocks i x y) (placed_due blocks last places)
due_real f blocks last [] i x y real h = tt
due_real f blocks last (p ∷ places) i x y real h = (λ e. here e, due_real f blocks (last_dc last p.component (block_due blocks last p)) places i x y real h.1)
  where
    here : is_at i x y p ≡ true → block_due blocks last p ≡ blocks i x y
    here e =
        let u = both (p.component == i && p.x == x) (p.y == y) e in
        let v = both (p.component == i) (p.x == x) u.0 in
        let a = same_of p.component i v.0 in
        let b = same_of p.x x v.1 in
        let d = same_of p.y y u.1 in
        let r : p.real ≡ true = h.0 ∙ ap (λ n. is_real f n p.x p.y) a ∙ ap (λ n. is_real f i n p.y) b ∙ ap (λ n. is_real f i x n) d ∙ real in
        ap (λ t. cond t (block_at blocks p) (last p.component ∷ zeros 63)) r ∙ ap (λ n. blocks n p.x p.y) a ∙ ap (λ n. blocks i n p.y) b ∙ ap (λ n. blocks i x n) d

pub all_real : (f : Frame) (blocks : Blocks) (rows : List (List Place)) (i x y : ℕ) → is_real f i x y ≡ true → Each (λ row. Each (IsPlaceOf f) row) rows → Each (IsPicture blocks i x y) (all_placed blocks rows)
all_real f blocks [] i x y real h = tt
all_real f blocks (row ∷ rows) i x y real h = each_append (placed_due blocks (λ i. pos 0) row) (all_placed blocks rows) (due_real f blocks (λ i. pos 0) row i x y real h.0) (all_real f blocks rows i x y real h.1)
  where
    each_append : (a b : List Placed) → Each (IsPicture blocks i x y) a → Each (IsPicture blocks i x y) b → Each (IsPicture blocks i x y) (a ++ b)
    each_append [] b h k = k
    each_append (q ∷ a) b h k = (h.0, each_append a b h.1 k)

pub real_after : (f : Frame) (head : ScanHead) (restart : ℕ) (blocks before : Blocks) (i x y : ℕ) → IsFrame f → i < length f.components → is_among i (head_components head) ≡ true → is_real f i x y ≡ true
    → scan_after_blocks f head restart blocks before i x y ≡ blocks i x y
real_after f head restart blocks before i x y is known among real =
    let parts = head_components head in
    found_real blocks before (all_placed blocks (scan_rows f head restart)) i x y
    (all_real f blocks (scan_rows f head restart) i x y real (each_rows (IsPlaceOf f) (restart * mcu_units f parts) (units f parts) (each_units (IsPlaceOf f) f parts (λ i x y h. refl))))
    (ap (any_of (is_at i x y)) (placed_are f head restart blocks) ∙ real_found f parts i x y is known among real)

-- THE LAW
pub scan_means : (f : Frame) (by : ℕ → ℕ → HuffmanTable) (tables : TablesInForce) (restart : ℕ) (head : ScanHead) (before blocks : Blocks) → is_progressive f.process ≡ false → Gives by tables head
    → is_distinct (head_components head) ≡ true → ((i x y : ℕ) → length (before i x y) ≡ 64) → Each (IsNewUnit (scan_of f tables restart head) before) (units f (head_components head))
    → Each (IsRealSendable (scan_coding f (all_in_force by) head) blocks) (units f (head_components head)) → Each (λ row. Each (HasCode by head) (rows_elements head blocks row)) (scan_rows f head restart)
    → ScanMeans (scan_of f tables restart head) (map (sequential_coded by head blocks) (scan_rows f head restart)) before (scan_after_blocks f head restart blocks before)
scan_means f by tables restart head before blocks e given distinct size new sendable coded =
    let s = scan_of f tables restart head in
    let c = scan_coding f (all_in_force by) head in
    let parts = head_components head in
    let n = restart * mcu_units f parts in
    let rows = scan_rows f head restart in
    let placed = all_placed blocks rows in
    let after = scan_after_blocks f head restart blocks before in
    let apart : AreDistinct (map (λ (q : Placed). q.0) placed) = subst AreDistinct (sym (placed_are f head restart blocks)) (units_distinct f parts distinct) in
    let writable = each_map (λ row. Each (IsRealSendable c blocks) row) (λ row. Each (IsPlacedWritable c) (placed_due blocks (λ i. pos 0) row)) rows
    (λ row h. placed_writable c blocks (λ i. pos 0) row (zero_ac f.precision) (λ i. zero_dc f.precision) h) (each_rows (IsRealSendable c blocks) n (units f parts) sendable) in
    let found = each_flat (IsFound after) (λ row. placed_due blocks (λ i. pos 0) row) rows (found_each before placed apart) in
    let sizes = placed_sizes c blocks rows writable in
    let long : (i x y : ℕ) → length (after i x y) ≡ 64 = λ i x y. found_size placed (before i x y) i x y (size i x y) sizes in
    record {
      spelled = intervals_spelled f by tables restart head before after blocks rows e given
          (all_due f s by head before after blocks rows (each_rows (IsNewUnit s before) n (units f parts) new) (each_rows (λ (p : Place). is_among p.component parts ≡ true) n (units f parts) (units_among f parts)) writable coded found);
      rest = λ i x y k h. stays i x y k h (long i x y);
      sizes = long;
    }
  where
    low : (n k : ℕ) → n ≡ 0 → nat_le n k ≡ true
    low n k e = grind (arith, nat_tests)

    high : (n k : ℕ) → n ≡ 63 → k < 64 → nat_le k n ≡ true
    high n k e l = grind (arith, nat_tests)

    stays : (i x y k : ℕ) → is_named (scan_of f tables restart head) i x y k ≡ false → length (scan_after_blocks f head restart blocks before i x y) ≡ 64
        → coefficient (scan_after_blocks f head restart blocks before) i x y k ≡ coefficient before i x y k
    stays i x y k h l = here (any_of (is_at i x y) (units f (head_components head))) refl
      where
        s : Scan
        s = scan_of f tables restart head

        here : (b : Bool) → any_of (is_at i x y) (units f (head_components head)) ≡ b → coefficient (scan_after_blocks f head restart blocks before) i x y k ≡ coefficient before i x y k
        here false z = ap (λ block. get_or block k (pos 0)) (found_none (all_placed blocks (scan_rows f head restart)) (before i x y) i x y (ap (any_of (is_at i x y)) (placed_are f head restart blocks) ∙ z))
        here true z =
            ⊎_elim
            (λ (m : k < 64). (let yes : is_named s i x y k ≡ true = and_intro (any_of (is_at i x y) s.places && nat_le s.ss k) (nat_le k s.se) (and_intro (any_of (is_at i x y) s.places) (nat_le s.ss k) z (low s.ss k (ap (λ b. cond b head.ss 0) e))) (high s.se k (ap (λ b. cond b head.se 63) e) m) in
            let f : true ≡ false = sym yes ∙ h in
            cc))
            (λ (m : 64 ≤ k). get_or_past (scan_after_blocks f head restart blocks before i x y) k (pos 0) (omega (arith, l, m)) ∙ sym (get_or_past (before i x y) k (pos 0) (omega (arith, size i x y, m))))
            (cases_lt k 64)
