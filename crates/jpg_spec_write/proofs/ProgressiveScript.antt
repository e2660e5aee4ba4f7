-- The scans of a progressive script, one after another.
use Rattle.std.proofs.Common.{◌≡◌, ℕ, zero, suc, ◌+◌, ◌*◌, ◌<◌, ◌≤◌, Bool, true, false, cond, List, [], ◌∷◌, ◌++◌, length, refl, sym, ap, ◌∙◌, subst, arith, Some, None, Option, ℤ, pos, ◌==◌, ◌&&◌}
use Rattle.std.specs.Prelude.{◌||◌, map, nat_lt, nat_le, nat_abs, int_le}
use Rattle.std.specs.Int.{to_be_bytes, w16}
use Rattle.std.proofs.lemmas.Bool.Decides.{nat_tests}
use Rattle.std.proofs.lemmas.List.{append_assoc, append-nil}
use Rattle.jpg_spec.specs.Bits.{stuffed}
use Rattle.jpg_spec.specs.Lists.{is_among}
use Rattle.jpg_spec.specs.Geometry.{Frame, component_at, is_progressive, is_real, units, mcu_units, bounds, bounds_of}
use Rattle.jpg_spec.specs.FrameHeader.{IsFrame}
use Rattle.jpg_spec.specs.Segments.{QuantTable, HuffmanTable, ScanHead, head_components}
use Rattle.jpg_spec.specs.Elements.{Coding, IsBlockIn, scaled}
use Rattle.jpg_spec_write.specs.declared.huffman.Huffman.{Huffman}
use Rattle.jpg_spec_write.specs.Sending.{sent, shifted, divided}
use Rattle.jpg_spec.specs.Scan.{Blocks, TablesInForce, scan_of, coefficient, ScanMeans}
use Rattle.jpg_spec_write.specs.ScanText.{intervals_text}
use Rattle.jpg_spec.specs.Meaning.{Meaning}
use Rattle.jpg_spec_write.specs.Script.{Entry}
use Rattle.jpg_spec.specs.ScanContents.{is_band, are_bits}
use Rattle.jpg_spec.specs.InForce.{huffman_in_force, quant_in_force}
use Rattle.jpg_spec.specs.History.{has_begun, has_coefficient, known_to, is_next, quant_of}
use Rattle.jpg_spec.specs.Items.{Item, segments_of, SpellsIntervalsText}
use Rattle.jpg_spec_write.specs.FileText.{Written, segment_text, frame_of_meaning, written_head, head_text, tables_text, tables_given, Restart, interval_of, scans_text}
use Rattle.jpg_spec_write.specs.WrittenFile.{is_progressive_entry, is_progressive_after, IsRestart}
use Rattle.jpg_spec.specs.declared.frame.Place.{Place}
use Rattle.jpg_spec.specs.declared.frame.ScanPart.{ScanPart}
use Rattle.jpg_spec.specs.declared.frame.Limits.{Limits}
use Rattle.jpg_spec_write.proofs.Writing.{Sends}
use Rattle.jpg_spec.proofs.Basics.Small.{are_bounds, IsAcValue, IsDc}
use Rattle.jpg_spec.proofs.Places.PictureInWork.{leads_sizes}
use Rattle.jpg_spec.proofs.Places.PlacesSome.{chunks_some}
use Rattle.jpg_spec.proofs.Basics.Each.{Each, each_map}
use Rattle.jpg_spec_write.proofs.WrittenSequential.{among_below, part_holds}
use Rattle.jpg_spec_write.proofs.WrittenScan.{scan_rows}
use Rattle.jpg_spec_write.proofs.WrittenScript.{units_many, interval_small, joined_text}
use Rattle.jpg_spec_write.proofs.WrittenState.{IsSent, quants_due, tables_step, interval_step}
use Rattle.jpg_spec_write.proofs.WrittenState as state
use Rattle.jpg_spec_write.proofs.WrittenStep.{intervals_text_spelled, scan_step}
use Rattle.jpg_spec_write.proofs.Shifts.{dc_refined}
use Rattle.jpg_spec_write.proofs.ProgressiveSpelled.{known_small, first_sends, refined_sends, dc_new}
use Rattle.jpg_spec_write.proofs.ProgressiveRows.{progressive_coded}
use Rattle.jpg_spec_write.proofs.ProgressiveKnown.{ac_known, dc_known_to, IsPad, IsKnown, IsRenewed, IsProgressiveEntry, progressive_entry, known_step}
use Rattle.jpg_spec.proofs.Places.Known.{was_known, band_next}
use Rattle.jpg_spec_write.proofs.ProgressiveScan.{IsProgressiveScan, progressive_scan, IsDcScan, dc_renewed, first_pad, refined_pad, zero_pad, less_pad}
use Rattle.jpg_spec_write.proofs.ProgressiveBands.{IsBandScan, band_renewed}
use Rattle.jpg_spec_write.proofs.ProgressiveCodes.{own_tell}
use Rattle.jpg_spec_write.proofs.ProgressiveText.{HasSlots, head_slots, entry_spoken, dc_due, ac_due, needed_of, needed_tell, IsGivenBy, needed_given, progressive_admitted, progressive_elements, progressive_tables, progressive_data, progressive_scans}
use Rattle.jpg_spec_write.proofs.ProgressiveMeans.{with_class, IsInForce, dc_first_means, dc_refined_means, band_means}
use Rattle.jpg_spec.proofs.Bits.FirstPasses.{all_among}
use Rattle.jpg_spec.proofs.Basics.Common.{both, le_of, same_of, same_itself}

-- a meaning that may be written in progressive scans
pub record IsFit (H : Meaning) : Type 0 where
  pub frame : IsFrame (frame_of_meaning H)
  pub progressive : is_progressive H.process ≡ true
  pub blocks : (i x y : ℕ) → i < length H.components → is_real (frame_of_meaning H) i x y ≡ true → IsBlockIn (bounds (frame_of_meaning H)) (H.blocks i x y)
  pub count : length (frame_of_meaning H).components ≡ length H.components

-- what a scan leads to
abbrev pub Leads : Huffman → Meaning → List ScanHead → ScanHead → ℕ → TablesInForce → Blocks → Type 0
Leads huffman H heads head n tabs before =
    (after : Blocks) × ScanMeans (scan_of (frame_of_meaning H) tabs n head) (map (progressive_coded (progressive_tables huffman H head n) head H.blocks) (scan_rows (frame_of_meaning H) head n)) before after × IsRenewed H heads head before after

-- the facts of an entry and of the state before it
pub record IsReady (huffman : Huffman) (H : Meaning) (heads : List ScanHead) (head : ScanHead) (n : ℕ) (tabs : TablesInForce) (before : Blocks) : Type 0 where
  pub fit : IsFit H
  pub entry : IsProgressiveEntry (frame_of_meaning H) heads head
  pub sizes : (i x y : ℕ) → length (before i x y) ≡ 64
  pub known : IsKnown H heads before
  pub given : Each (IsGivenBy (dc_due head) (ac_due head) tabs (progressive_tables huffman H head n)) head.parts

ready_known : (huffman : Huffman) (H : Meaning) (heads : List ScanHead) (head : ScanHead) (n : ℕ) (tabs : TablesInForce) (before : Blocks) → IsReady huffman H heads head n tabs before → (i : ℕ) → is_among i (head_components head) ≡ true → i < length H.components
ready_known huffman H heads head n tabs before is i e = subst (λ m. i < m) is.fit.count (among_below (length (frame_of_meaning H).components) i (head_components head) is.entry.known e)

has_at : (head : ScanHead) (i k : ℕ) → is_among i (head_components head) ≡ true → head.ss ≤ k → k ≤ head.se → has_coefficient head i k ≡ true
has_at head i k e a b =
    let x : nat_le head.ss k ≡ true = grind (arith, nat_tests, a) in
    let y : nat_le k head.se ≡ true = grind (arith, nat_tests, b) in
    ap (λ t. t && (nat_le head.ss k && nat_le k head.se)) e ∙ ap (λ t. t && nat_le k head.se) x ∙ y

was_at : (huffman : Huffman) (H : Meaning) (heads : List ScanHead) (head : ScanHead) (n : ℕ) (tabs : TablesInForce) (before : Blocks) → IsReady huffman H heads head n tabs before → (i k : ℕ) → is_among i (head_components head) ≡ true → head.ss ≤ k → k ≤ head.se → k < 64 → known_to heads i k ≡ was_known head
was_at huffman H heads head n tabs before is i k e a b l = band_next heads head i k (all_among (is_next heads head) (head_components head) i is.entry.next e) (has_at head i k e a b) l

-- Ah is 0, or one more than Al
record IsFirst (head : ScanHead) : Type 0 where
  first : nat_lt 0 head.ah ≡ false
  was : was_known head ≡ None

record IsLater (head : ScanHead) : Type 0 where
  later : nat_lt 0 head.ah ≡ true
  next : head.ah ≡ head.al + 1
  was : was_known head ≡ Some (head.al + 1)

bits_say : (f : Frame) (heads : List ScanHead) (head : ScanHead) → IsProgressiveEntry f heads head → (head.ah == 0 || head.ah == head.al + 1) ≡ true
bits_say f heads head e =
    let r = both (is_band (length head.parts) head) (are_bits f head) e.parameters in
    (both (head.ah == 0 || head.ah == head.al + 1) (nat_le head.al (bounds f).al) r.1).0

first_of : (head : ScanHead) → (head.ah == 0) ≡ true → IsFirst head
first_of head e = let z : head.ah ≡ 0 = same_of head.ah 0 e in record { first = ap (λ n. nat_lt 0 n) z; was = ap (λ b. cond b None (Some head.ah)) e }

later_of : (head : ScanHead) → (head.ah == 0) ≡ false → (head.ah == 0 || head.ah == head.al + 1) ≡ true → IsLater head
later_of head e h =
    let z : head.ah ≡ head.al + 1 = same_of head.ah (head.al + 1) (sym (ap (λ b. b || head.ah == head.al + 1) e) ∙ h) in
    let some : nat_lt 0 (head.al + 1) ≡ true = grind (arith, nat_tests) in
    record { later = ap (λ n. nat_lt 0 n) z ∙ some; next = z; was = ap (λ b. cond b None (Some head.ah)) e ∙ ap (λ (n : ℕ). (let r : Option ℕ = Some n in r)) z }

pub first_component : (parts : List ScanPart) → 1 ≤ length parts → (i : ℕ) × (is_among i (map (λ (p : ScanPart). p.component) parts) ≡ true)
first_component [] l = absurd (omega (arith, l))
first_component (p ∷ parts) l = (p.component, ap (λ b. b || is_among p.component (map (λ (p : ScanPart). p.component) parts)) (same_itself p.component))

ah_few : (huffman : Huffman) (H : Meaning) (heads : List ScanHead) (head : ScanHead) (n : ℕ) (tabs : TablesInForce) (before : Blocks) → IsReady huffman H heads head n tabs before → (k : ℕ) → head.ss ≤ k → k ≤ head.se → k < 64 → (head.ah == 0) ≡ false → head.ah ≤ (bounds_of H.precision).al
ah_few huffman H heads head n tabs before is k a b l e =
    let c = first_component head.parts is.entry.some in
    is.known.few c.0 k head.ah (was_at huffman H heads head n tabs before is c.0 k c.1 a b l ∙ ap (λ b. cond b None (Some head.ah)) e)

-- A SCAN OF DC
dc_scan : (huffman : Huffman) (H : Meaning) (heads : List ScanHead) (head : ScanHead) (n : ℕ) (tabs tabs' : TablesInForce) (before : Blocks) → IsReady huffman H heads head n tabs before → head.ss ≡ 0 → head.se ≡ 0
    → ((o v : ℤ) → IsPad H.precision (was_known head) o → IsDc (bounds_of H.precision) v → IsPad H.precision (Some head.al) (dc_new (nat_lt 0 head.ah) head.al o v))
    → ((v : ℤ) → dc_new (nat_lt 0 head.ah) head.al (dc_known_to (was_known head) v) v ≡ scaled head.al (shifted head.al v))
    → ((o : ℤ) → IsPad H.precision (was_known head) o → IsPad H.precision (Some head.al) o)
    → IsDcScan H heads (scan_of (frame_of_meaning H) tabs' n head) head before
dc_scan huffman H heads head n tabs tabs' before is z w pad real old =
    let f = frame_of_meaning H in
    let sc = progressive_scan f tabs' n head is.fit.progressive in
    let at = was_at huffman H heads head n tabs before is in
    let known = ready_known huffman H heads head n tabs before is in
    let low : head.ss ≤ 0 = omega (arith, z) in
    let high : 0 ≤ head.se = omega arith in
    let padded : (i x y : ℕ) → is_among i (head_components head) ≡ true → IsPad H.precision (was_known head) (coefficient before i x y 0) =
    λ i x y e. subst (λ o. IsPad H.precision o (coefficient before i x y 0)) (at i 0 e low high (omega arith)) (is.known.pad i x y (known i e)) in
    record {
      scan = sc;
      places = refl;
      ss = z;
      se = w;
      low = is.entry.al;
      bounded = refl;
      frame = is.fit.frame;
      count = is.fit.count;
      distinct = is.entry.distinct;
      known = known;
      blocks = is.fit.blocks;
      sizes = is.sizes;
      tells = λ i x y v e d. subst (λ a. IsPad H.precision (Some a) (dc_new (nat_lt 0 head.ah) a (coefficient before i x y 0) v)) (sym sc.al) (pad (coefficient before i x y 0) v (padded i x y e) d);
      real = λ i x y e r. ap (λ a. dc_new (nat_lt 0 head.ah) a (coefficient before i x y 0) (coefficient H.blocks i x y 0)) sc.al
          ∙ ap (λ o. dc_new (nat_lt 0 head.ah) head.al o (coefficient H.blocks i x y 0)) (is.known.dc i x y (known i e) r ∙ ap (λ o. dc_known_to o (coefficient H.blocks i x y 0)) (at i 0 e low high (omega arith)))
          ∙ real (coefficient H.blocks i x y 0);
      old = λ i x y e. old (coefficient before i x y 0) (padded i x y e);
    }

dc_leads : (huffman : Huffman) (H : Meaning) (heads : List ScanHead) (head : ScanHead) (n : ℕ) (tabs : TablesInForce) (before : Blocks) → IsReady huffman H heads head n tabs before → head.ss ≡ 0 → head.se ≡ 0 → Leads huffman H heads head n tabs before
dc_leads huffman H heads head n tabs before is z w = by (head.ah == 0) refl
  where
    al : head.al ≤ (bounds_of H.precision).al
    al = is.entry.al

    few_bits : head.al ≤ 13
    few_bits = (let most = (are_bounds H.precision).al_few in omega (arith, al, most))

    by : (b : Bool) → (head.ah == 0) ≡ b → Leads huffman H heads head n tabs before
    by true e =
        let k = first_of head e in
        let tabs' = with_class 0 tabs (progressive_tables huffman H head n) in
        let scan = dc_scan huffman H heads head n tabs tabs' before is z w
        (λ o v p d. subst (λ r. IsPad H.precision (Some head.al) (dc_new r head.al o v)) (sym k.first) (first_pad H.precision head.al o v al d))
        (λ v. ap (λ r. dc_new r head.al (dc_known_to (was_known head) v) v) k.first)
        (λ o p. subst (IsPad H.precision (Some head.al)) (sym (subst (λ t. IsPad H.precision t o) k.was p)) (zero_pad H.precision head.al)) in
        let due : dc_due head ≡ true = ap (λ m. m == 0 && head.ah == 0) z ∙ e in
        let force : IsInForce 0 tabs (progressive_tables huffman H head n) head = λ i h.
        (part_holds (IsGivenBy (dc_due head) (ac_due head) tabs (progressive_tables huffman H head n)) i (record { component = i; dc = 0; ac = 0 }) head.parts is.given h).0 due in
        (_, dc_first_means huffman H heads head n tabs before is.fit.progressive k.first scan force, dc_renewed H heads (scan_of (frame_of_meaning H) tabs' n head) head before scan)
    by false e =
        let k = later_of head e (bits_say (frame_of_meaning H) heads head is.entry) in
        let more : head.al + 1 ≤ (bounds_of H.precision).al = subst (λ m. m ≤ (bounds_of H.precision).al) k.next (few e) in
        let scan = dc_scan huffman H heads head n tabs tabs before is z w
        (λ o v p d. subst (λ r. IsPad H.precision (Some head.al) (dc_new r head.al o v)) (sym k.later) (refined_pad H.precision head.al o v more (subst (λ t. IsPad H.precision t o) k.was p)))
        (λ v. ap (λ r. dc_new r head.al (dc_known_to (was_known head) v) v) k.later ∙ ap (λ t. dc_new true head.al (dc_known_to t v) v) k.was ∙ dc_refined head.al v few_bits)
        (λ o p. less_pad H.precision head.al o more (subst (λ t. IsPad H.precision t o) k.was p)) in
        (_, dc_refined_means huffman H heads head n tabs before k.later scan, dc_renewed H heads (scan_of (frame_of_meaning H) tabs n head) head before scan)
      where
        few : (head.ah == 0) ≡ false → head.ah ≤ (bounds_of H.precision).al
        few e = ah_few huffman H heads head n tabs before is 0 (omega (arith, z)) (omega arith) (omega arith) e

-- A SCAN OF A BAND

pub band_say : (f : Frame) (heads : List ScanHead) (head : ScanHead) → IsProgressiveEntry f heads head → (head.ss == 0) ≡ false → (length head.parts ≡ 1) × (head.ss ≤ head.se) × (head.se ≤ 63)
band_say f heads head e z =
    let r = both (is_band (length head.parts) head) (are_bits f head) e.parameters in
    let b = sym (ap (λ b. cond b (head.se == 0) (length head.parts == 1 && (nat_le head.ss head.se && nat_le head.se 63))) z) ∙ r.0 in
    let k = both (length head.parts == 1) (nat_le head.ss head.se && nat_le head.se 63) b in
    let m = both (nat_le head.ss head.se) (nat_le head.se 63) k.1 in
    (same_of (length head.parts) 1 k.0, le_of head.ss head.se m.0, le_of head.se 63 m.1)

pub one_component : (parts : List ScanPart) → length parts ≡ 1 → (i : ℕ) × (map (λ (p : ScanPart). p.component) parts ≡ i ∷ [])
one_component [] l = absurd (omega (arith, l))
one_component (p ∷ []) l = (p.component, refl)
one_component (p ∷ q ∷ parts) l = absurd (omega (arith, l))

band_leads : (huffman : Huffman) (H : Meaning) (heads : List ScanHead) (head : ScanHead) (n : ℕ) (tabs : TablesInForce) (before : Blocks) → IsReady huffman H heads head n tabs before → (head.ss == 0) ≡ false → Leads huffman H heads head n tabs before
band_leads huffman H heads head n tabs before is z =
    let f = frame_of_meaning H in
    let say = band_say f heads head is.entry z in
    let low = say.1 in
    let high = say.2 in
    let one = one_component head.parts say.0 in
    let i = one.0 in
    let tabs' = with_class 1 tabs (progressive_tables huffman H head n) in
    let sc = progressive_scan f tabs' n head is.fit.progressive in
    let among : is_among i (head_components head) ≡ true = ap (is_among i) one.1 ∙ ap (λ b. b || false) (same_itself i) in
    let known = ready_known huffman H heads head n tabs before is i among in
    let some : 1 ≤ head.ss = not_none head.ss z in
    let is_ac : nat_lt 0 head.ss ≡ true = grind (arith, nat_tests, some) in
    let scan : IsBandScan H heads (scan_of f tabs' n head) head i before = record {
      scan = sc;
      one = one.1;
      places = refl;
      some = some;
      low = low;
      high = high;
      frame = is.fit.frame;
      count = is.fit.count;
      known = known;
      bounded = refl;
      blocks = is.fit.blocks;
      sizes = is.sizes;
      old = λ x y k r a b. is.known.ac i x y k known r (omega (arith, some, a)) (omega (arith, b, high)) ∙ ap (λ o. ac_known o (coefficient H.blocks i x y k)) (was_at huffman H heads head n tabs before is i k among a b (omega (arith, b, high)));
    } in
    let force : IsInForce 1 tabs (progressive_tables huffman H head n) head = λ j h.
    (part_holds (IsGivenBy (dc_due head) (ac_due head) tabs (progressive_tables huffman H head n)) j (record { component = j; dc = 0; ac = 0 }) head.parts is.given h).1 is_ac in
    let c = (scan_of f tabs' n head).coding in
    let most_al = (are_bounds H.precision).al_few in
    let al : c.al ≤ 13 = (let few = is.entry.al in omega (arith, ap (λ m. m) sc.al, few, most_al)) in
    (_, band_means huffman H heads head i n tabs before is_ac scan force (sends c sc al (head.ah == 0) refl low high), band_renewed H heads (scan_of f tabs' n head) head i before scan)
  where
    not_none : (m : ℕ) → (m == 0) ≡ false → 1 ≤ m
    not_none zero e = cc
    not_none (suc m) e = omega arith

    sends : (c : Coding) → IsProgressiveScan (scan_of (frame_of_meaning H) (with_class 1 tabs (progressive_tables huffman H head n)) n head) head → (scan_of (frame_of_meaning H) (with_class 1 tabs (progressive_tables huffman H head n)) n head).coding.al ≤ 13
        → (b : Bool) → (head.ah == 0) ≡ b → head.ss ≤ head.se → head.se ≤ 63
        → (let s = scan_of (frame_of_meaning H) (with_class 1 tabs (progressive_tables huffman H head n)) n head in (s.coding.most_category ≤ 14)
        × ((v : ℤ) → IsAcValue s.coding.bounds v → Sends s.coding (sent (nat_lt 0 head.ah) s.coding.al v) (ac_known (was_known head) v) (scaled s.coding.al (divided s.coding.al v)))
        × ((v : ℤ) → IsAcValue s.coding.bounds v → int_le (pos (nat_abs (scaled s.coding.al (divided s.coding.al v)))) s.coding.bounds.ac ≡ true))
    sends c sc al true e low high =
        let k = first_of head e in
        let d = (scan_of (frame_of_meaning H) (with_class 1 tabs (progressive_tables huffman H head n)) n head).coding in
        let are = are_bounds H.precision in
        let ac_few = are.ac_few in
        let most : d.most_category ≡ d.bounds.ac_cat = sc.most ∙ ap (λ b. cond b 1 d.bounds.ac_cat) k.first in (
          omega (arith, most, ac_few),
          λ v h. subst (λ r. Sends d (sent r d.al v) (ac_known (was_known head) v) (scaled d.al (divided d.al v))) (sym k.first)
              (subst (λ t. Sends d (sent false d.al v) (ac_known t v) (scaled d.al (divided d.al v))) (sym k.was) (first_sends d v are al most h)),
          λ v h. known_small d.bounds d.al v al h,
        )
    sends c sc al false e low high =
        let k = later_of head e (bits_say (frame_of_meaning H) heads head is.entry) in
        let d = (scan_of (frame_of_meaning H) (with_class 1 tabs (progressive_tables huffman H head n)) n head).coding in
        let most : d.most_category ≡ 1 = sc.most ∙ ap (λ b. cond b 1 d.bounds.ac_cat) k.later in
        let few = ah_few huffman H heads head n tabs before is head.ss (omega arith) low (omega (arith, low, high)) e in
        let most_al = (are_bounds H.precision).al_few in
        let more : d.al + 1 ≤ 13 = (let next = k.next in omega (arith, ap (λ m. m) sc.al, few, next, most_al)) in
        let was : was_known head ≡ Some (d.al + 1) = k.was ∙ ap (λ (m : ℕ). (let r : Option ℕ = Some (m + 1) in r)) (sym sc.al) in (
          omega (arith, most),
          λ v h. subst (λ r. Sends d (sent r d.al v) (ac_known (was_known head) v) (scaled d.al (divided d.al v))) (sym k.later)
              (subst (λ t. Sends d (sent true d.al v) (ac_known t v) (scaled d.al (divided d.al v))) (sym was) (refined_sends d v more most)),
          λ v h. known_small d.bounds d.al v al h,
        )

pub scan_leads : (huffman : Huffman) (H : Meaning) (heads : List ScanHead) (head : ScanHead) (n : ℕ) (tabs : TablesInForce) (before : Blocks) → IsReady huffman H heads head n tabs before → Leads huffman H heads head n tabs before
scan_leads huffman H heads head n tabs before is = by (head.ss == 0) refl
  where
    by : (b : Bool) → (head.ss == 0) ≡ b → Leads huffman H heads head n tabs before
    by true e =
        let r = both (is_band (length head.parts) head) (are_bits (frame_of_meaning H) head) is.entry.parameters in
        let b = sym (ap (λ b. cond b (head.se == 0) (length head.parts == 1 && (nat_le head.ss head.se && nat_le head.se 63))) e) ∙ r.0 in
        dc_leads huffman H heads head n tabs before is (same_of head.ss 0 e) (same_of head.se 0 b)
    by false e = band_leads huffman H heads head n tabs before is e

-- AN ENTRY

each_parts : (P : ℕ → Type 0) (Q : ScanPart → Type 0) (parts : List ScanPart) → ((p : ScanPart) → P p.component → Q p) → Each P (map (λ (p : ScanPart). p.component) parts) → Each Q parts
each_parts P Q [] f h = tt
each_parts P Q (p ∷ parts) f h = (f p h.0, each_parts P Q parts f h.1)

pub entry_step : (huffman : Huffman) (limits : Limits) (H : Meaning) (restart : Restart) (heads : List ScanHead) (w : Written) (text : List ℕ) (head : ScanHead) → IsFit H → IsRestart restart → Each HasSlots head.parts → IsProgressiveEntry (frame_of_meaning H) heads head
    → state.Sends limits H heads (IsKnown H heads) w text
    → (let n = interval_of (frame_of_meaning H) head restart in let tables = progressive_tables huffman H head n in let needed = needed_of (dc_due head) (ac_due head) head.parts in
    state.Sends limits H (head ∷ heads) (IsKnown H (head ∷ heads)) (record { tables = tables_given w.tables tables needed; interval = n })
    (text ++ (tables_text w.tables tables needed ++ cond (n == w.interval) [] (segment_text 0xdd (to_be_bytes w16 n)) ++ head_text H head ++ progressive_data huffman H head n)))
entry_step huffman limits H restart heads w text head fit small slots entry s =
    let dht = tables_text w.tables tables needed in
    let dri = cond (n == w.interval) [] (segment_text 0xdd (to_be_bytes w16 n)) in
    let s1 = tables_step limits H heads (IsKnown H heads) w.tables tables w.interval needed text (needed_tell tables (dc_due head) (ac_due head) head.parts slots (own_tell huffman head (progressive_elements H head n))) s in
    let s2 = interval_step limits H heads (IsKnown H heads) (record { tables = tables_given w.tables tables needed; interval = w.interval }) n (text ++ dht) (interval_small f head restart small) s1 in
    let k = last s2.0 ((text ++ dht) ++ dri) s2.1 in
    subst (λ t. state.Sends limits H (head ∷ heads) (IsKnown H (head ∷ heads)) now t) (joined_text text dht dri (head_text H head) (progressive_data huffman H head n)) k
  where
    f : Frame
    f = frame_of_meaning H

    n : ℕ
    n = interval_of (frame_of_meaning H) head restart

    tables : ℕ → ℕ → HuffmanTable
    tables = progressive_tables huffman H head n

    needed : List (ℕ × ℕ)
    needed = needed_of (dc_due head) (ac_due head) head.parts

    now : Written
    now = record { tables = tables_given w.tables tables needed; interval = n }

    last : (items : List Item) (t : List ℕ) → IsSent limits H heads (IsKnown H heads) now items t → state.Sends limits H (head ∷ heads) (IsKnown H (head ∷ heads)) now (t ++ (head_text H head ++ progressive_data huffman H head n))
    last items t st =
        let before = segments_of items in
        let tabs = huffman_in_force before in
        let coded = progressive_coded tables head H.blocks in
        let all = scan_rows f head n in
        let spoken = entry_spoken f heads head fit.progressive slots entry in
        let given : Each (IsGivenBy (dc_due head) (ac_due head) tabs tables) head.parts =
        each_map (IsGivenBy (dc_due head) (ac_due head) now.tables tables) (IsGivenBy (dc_due head) (ac_due head) tabs tables) head.parts (λ p h. (λ e. st.tables 0 p.dc ∙ h.0 e, λ e. st.tables 1 p.ac ∙ h.1 e))
        (needed_given tables (dc_due head) (ac_due head) head.parts w.tables) in
        let quants = each_parts (λ i. i < length f.components) (λ (p : ScanPart). (q : QuantTable) × (quant_in_force before (component_at f p.component).quant ≡ Some q)) head.parts
        (λ p l. (quants_due H p.component, st.quants p.component (subst (λ m. p.component < m) fit.count l))) entry.known in
        let sent = each_map (λ i. i < length f.components) (λ i. (b : Bool) × (q : QuantTable) × (quant_of f before i ≡ cond b (Some q) None) × (quant_in_force before (component_at f i).quant ≡ Some q)) (head_components head)
        (λ i l. (let m = subst (λ m. i < m) fit.count l in (has_begun heads i, quants_due H i, st.first i m, st.quants i m))) entry.known in
        let admits = progressive_admitted f before heads head tables fit.progressive st.sent_heads entry.next quants given sent in
        let k = scan_leads huffman H heads head n tabs st.blocks (record { fit = fit; entry = entry; sizes = leads_sizes limits items st.blocks st.leads; known = st.picture; given = given }) in
        let means = subst (λ m. ScanMeans (scan_of f tabs m head) (map coded all) st.blocks k.0) (sym st.interval) k.1 in
        let comps = head_components head in
        let some : 1 ≤ length (units f comps) = units_many f comps fit.frame (many head.parts entry.some) entry.known in
        let rows = chunks_some (n * mcu_units f comps) (units f comps) some in
        let spells : SpellsIntervalsText 0 (map coded all) (progressive_data huffman H head n) =
        subst (λ (r : List (List Place)). SpellsIntervalsText 0 (map coded r) (intervals_text 0 (map stuffed (map coded r)))) (sym rows.2) (intervals_text_spelled 0 (coded rows.0) (map coded rows.1)) in (
          _,
          scan_step st (IsKnown H (head ∷ heads)) head (map coded all) (progressive_data huffman H head n) k.0 fit.frame.distinct spoken admits spells means
              (known_step H heads head st.blocks k.0 entry.al st.picture k.2),
        )
      where
        many : (parts : List ScanPart) → 1 ≤ length parts → 1 ≤ length (map (λ (p : ScanPart). p.component) parts)
        many [] l = l
        many (p ∷ parts) l = omega arith

-- THE SCRIPT

pub record IsAllKnown (limits : Limits) (H : Meaning) (text : List ℕ) : Type 0 where
  pub heads : List ScanHead
  pub w : Written
  pub sends : state.Sends limits H heads (IsKnown H heads) w text
  pub complete : is_progressive_after H heads [] ≡ true

pub script_step : (huffman : Huffman) (limits : Limits) (H : Meaning) (restart : Restart) (heads : List ScanHead) (w : Written) (text : List ℕ) (script : List Entry) → IsFit H → IsRestart restart → is_progressive_after H heads script ≡ true
    → state.Sends limits H heads (IsKnown H heads) w text → IsAllKnown limits H (text ++ scans_text huffman H restart w script)
unfolding scans_text
script_step huffman limits H restart heads w text [] fit small e s = record { heads = heads; w = w; sends = subst (λ t. state.Sends limits H heads (IsKnown H heads) w t) (sym (append-nil text)) s; complete = e }
script_step huffman limits H restart heads w text (entry ∷ script) fit small e s =
    let f = frame_of_meaning H in
    let head = written_head H entry in
    let b = both (is_progressive_entry f heads head) (is_progressive_after H (head ∷ heads) script) e in
    let n = interval_of f head restart in
    let tables = progressive_tables huffman H head n in
    let needed = needed_of (dc_due head) (ac_due head) head.parts in
    let next : Written = record { tables = tables_given w.tables tables needed; interval = n } in
    let here = tables_text w.tables tables needed ++ cond (n == w.interval) [] (segment_text 0xdd (to_be_bytes w16 n)) ++ head_text H head ++ progressive_data huffman H head n in
    let k = entry_step huffman limits H restart heads w text head fit small (head_slots H entry) (progressive_entry f heads head b.0) s in
    let all = script_step huffman limits H restart (head ∷ heads) next (text ++ here) script fit small b.1 k in
    subst (λ t. IsAllKnown limits H t) (append_assoc text here (scans_text huffman H restart next script) ∙ ap (λ t. text ++ t) (sym (progressive_scans huffman H restart w entry script fit.progressive))) all
