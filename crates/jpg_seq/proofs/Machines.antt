-- The coding of a scan by the tables of a set.
use Rattle.std.proofs.Common.{◌≡◌, ℕ, ◌+◌, ◌*◌, ◌^◌, true, cond, List, [], ◌∷◌, length, refl, ap, subst, arith, Option, Some, None, ◌==◌, nat_lt, option_map, zero, suc, ◌<◌, ◌≤◌, false, map, set, get_or, sym, ◌∙◌, ⊎_elim, ◌&&◌, slice_get, slice_index_or, length-set, get_or-set_same, get_or-set_other, All, ◌-◌, Bool, ◌++◌, drop, ℤ, pos, inl, inr, nat_le, le-leb, take, slice_set, Ok, Err, append_assoc, append-nil, take_all, flat_map, get_or-drop, get_or-take, length-take, le-div_iff_mul-le, div-lt_iff_lt-mul}
use Rattle.std.proofs.lemmas.Bool.Decides.{nat_tests}
use Rattle.jpg_spec.specs.Codes.{AreCodes, are_codes}
use Rattle.jpg_spec.specs.Segments.{HuffmanTable, ScanHead, head_components}
use Rattle.jpg_spec.specs.Scan.{codes_of, part_of, scan_coding, Scan, band, block_at, coefficient}
use Rattle.jpg_spec.specs.Sound.{AreTables}
use Rattle.jpg_spec.proofs.Basics.Common.{and_intro, some_once, clash, part_more, not_same, same_itself, length_below}
use Rattle.jpg_huff.specs.declared.table.Table.{Table}
use Rattle.jpg_huff.specs.declared.set.TableSet.{TableSet}
use Rattle.jpg_huff.specs.Sets.{dc_tables, ac_tables, in_slot}
use Rattle.jpg_huff.specs.Tables.{table_of}
use Rattle.jpg_huff.proofs.Steps as steps
use Rattle.jpg_seq.specs.Reader.{in_force, IsPlaceReadable, SeqReady, IsSeqScan, IsOfScan, IsCoderOf, AreFilled, part_at, coder_at, prediction_at, behind, new_units_at, RepresentsSeqScan, sequential, new_at, AreInRow, BeginAt, IsInRow, rows_in_mcu, row_units, top_of}
use Rattle.std.proofs.lemmas.Int.{ints}
use Rattle.std.proofs.lemmas.List.{length-map, get_or-map, nil_from_length, get_or_past}
use Rattle.std.proofs.lemmas.List.Elements.{All-weaker, All-head, All-tail, All-from_get_or, All-get_or, All-nil}
use Rattle.std.proofs.lemmas.Bool.{cases_eq, cases_lt}
use Rattle.jpg_spec.specs.Lists.{is_distinct, index_of, slot_value, any_of, below}
use Rattle.jpg_spec.specs.Geometry.{Frame, bounds, is_progressive, units, padded_blocks, blocks_across, component_at, div_up, factor_sum, mcu_part, mcu_row_frame, mcus_across, mcus_down, no_component, place, v_max}
use Rattle.jpg_spec.specs.FrameHeader.{IsFrame, HasFactors, padded_across, padded_down}
use Rattle.jpg_spec.specs.declared.frame.Bounds.{Bounds}
use Rattle.jpg_spec.specs.declared.frame.Place.{Place}
use Rattle.jpg_spec.specs.declared.frame.ScanPart.{ScanPart}
use Rattle.jpg_spec.specs.PictureInWork.{AreDistinct, is_at, is_in_band, UnitsRead}
use Rattle.jpg_spec.proofs.Headers.Precisions.{of_bounds}
use Rattle.jpg_spec.proofs.Places.PlacesDistinct.{units_distinct}
use Rattle.jpg_spec.proofs.Bits.Sound.{sound}
use Rattle.jpg_base.proofs.ScanPlaces.{IsOneOf, units_in, all_rows, all_row, all_ids, in_row}
use Rattle.jpg_coefs.specs.Machine.{Interval, units_of, Step, Chain, IsUnfinished, KeepsUnits}
use Rattle.jpg_seq.specs.declared.reader.SeqReader.{SeqReader}
use Rattle.jpg_seq.specs.declared.work.Coder.{Coder}
use Rattle.jpg_seq.specs.Work.{AreSane, IsCodingOf, standing_at, unit_in_work, open_unit, Work, Env, IsPartOf, ReadsComponent, Adds, StepsTo, StepsThrough, IsLast, IsWrong, IsAtWork, no_work, env_in}
use Rattle.jpg_spec.proofs.Places.KnownParts.{part_same}
use Rattle.jpg_spec.proofs.Writing.WrittenHead.{index_at}
use Rattle.jpg_spec.specs.Elements.{Element, UnitLeft, Standing, Covers, going_on, predicted, zeros, at_start}
use Rattle.jpg_spec.proofs.Bits.Values.{covers_then}
use Rattle.jpg_spec.proofs.Places.PictureInWork.{distinct_behind, next_apart, some_places}
use Rattle.jpg_spec.proofs.Bits.UnitsRead.{units_next, units_last}
use Rattle.jpg_base.specs.Cursor.{IsPadded, AreIn, scan_mcus_down}
use Rattle.jpg_coefs.specs.Picture.{Picture, map_of, with_block, HasPlace, put_at}
use Rattle.jpg_coefs.proofs.Maps.{put_here, put_changes}
use Rattle.jpg_coefs.specs.declared.machine.UnitStep.TheVariants.{More, IntervalDone}
use Rattle.jpg_coefs.specs.declared.machine.UnitFault.{UnitFault}
use Rattle.jpg_seq.proofs.Elements.{left_at, work_part}
use Rattle.jpg_spec.specs.Parts.{StandsInUnits}
use Rattle.jpg_spec.specs.ScanRows.{scan_row}
use Rattle.jpg_spec.proofs.Places.PlacesFound.{real_in_padded}
use Rattle.jpg_base.proofs.Grids.{across_low, down_low}
use Rattle.jpg_base.proofs.UnitCounts.{length_rows, length_mcu, at_row}

-- codes pass the test
tested : (length c : ℕ) (counts : List ℕ) → AreCodes length c counts → are_codes length c counts ≡ true
unfolding are_codes
tested length c [] h = refl
tested length c (count ∷ counts) h =
    let l = h.0 in
    let t : nat_lt (c + count) (2 ^ length) ≡ true = grind (arith, nat_tests) in
    and_intro (nat_lt (c + count) (2 ^ length)) (are_codes (length + 1) (2 * (c + count)) counts) t (tested (length + 1) (2 * (c + count)) counts h.1)

table_valid : (t : Table) → are_codes 1 0 t.counts ≡ true
table_valid t =
    let x = t.indexed in
    let P : ℕ → Type 0 = λ c. AreCodes 1 c t.counts in
    tested 1 0 t.counts (subst P x.first (steps.are_codes t.counts t.symbols t.firsts t.starts t.limits 15 0 x refl))

found_valid : (o : Option Table) (table : HuffmanTable) → option_map table_of o ≡ Some table → are_codes 1 0 table.counts ≡ true
found_valid None table e = absurd cc
found_valid (Some t) table e = subst (λ (h : HuffmanTable). are_codes 1 0 h.counts ≡ true) (some_once (table_of t) table e) (table_valid t)

pub valid : (set : TableSet) → AreTables (in_force set)
valid set class slot table e = found_valid (in_slot (cond (class == 0) (dc_tables set) (ac_tables set)) slot) table e

-- The tables of a scan's components.

slot_is : (coders : List (Option Coder)) (k : ℕ) → slot_value (slice_get coders k) ≡ get_or coders k None
slot_is [] k = refl
slot_is (None ∷ coders) zero = refl
slot_is (Some x ∷ coders) zero = refl
slot_is (q ∷ coders) (suc k) = slot_is coders k

at_set : (coders : List (Option Coder)) (c : ℕ) (o : Option Coder) → c < length coders → slot_value (slice_get (set coders c o) c) ≡ o
at_set coders c o h = slot_is (set coders c o) c ∙ get_or-set_same coders c o None h

other_set : (coders : List (Option Coder)) (c k : ℕ) (o : Option Coder) → (k ≡ c → ⊥) → slot_value (slice_get (set coders c o) k) ≡ slot_value (slice_get coders k)
other_set coders c k o n = slot_is (set coders c o) k ∙ get_or-set_other coders c k o None n ∙ sym (slot_is coders k)

pub none_filled : (set : TableSet) (parts : List ScanPart) → AreFilled set parts 0 (None ∷ None ∷ None ∷ None ∷ [])
none_filled set parts = record { four = refl; found = λ k coder e. absurd (no_coder k coder e); there = λ j h. absurd (omega arith) }
  where
    no_coder : (k : ℕ) (coder : Coder) → slot_value (slice_get (None ∷ None ∷ None ∷ None ∷ []) k) ≡ Some coder → ⊥
    no_coder zero coder e = cc
    no_coder (suc zero) coder e = cc
    no_coder (suc (suc zero)) coder e = cc
    no_coder (suc (suc (suc zero))) coder e = cc
    no_coder (suc (suc (suc (suc k)))) coder e = cc

pub filled_more : (tables : TableSet) (parts : List ScanPart) (n : ℕ) (coders : List (Option Coder)) (o : Option Coder) (coder : Coder) → AreFilled tables parts n coders → (part_at parts n).component < 4 → o ≡ Some coder → IsCoderOf tables (part_at parts n) coder
    → AreFilled tables parts (n + 1) (set coders (part_at parts n).component o)
filled_more tables parts n coders o coder f small is of =
    let c = (part_at parts n).component in
    let here : slot_value (slice_get (set coders c o) c) ≡ Some coder = at_set coders c o (omega (arith, f.four, small)) ∙ is in
    record {
      four = length-set coders c o ∙ f.four;
      found = λ k x e.
          ⊎_elim
          (λ (s : k ≡ c). (let same : coder ≡ x = some_once coder x (sym here ∙ ap (λ (q : ℕ). slot_value (slice_get (set coders c o) q)) (sym s) ∙ e) in
          (n, omega arith, sym s, subst (λ (q : Coder). IsCoderOf tables (part_at parts n) q) same of)))
          (λ (d : k ≡ c → ⊥). (let r = f.found k x (sym (other_set coders c k o d) ∙ e) in (r.0, omega (arith, r.1), r.2, r.3)))
          (cases_eq k c);
      there = λ j h.
          ⊎_elim
          (λ (s : (part_at parts j).component ≡ c). (coder, ap (λ (q : ℕ). slot_value (slice_get (set coders c o) q)) s ∙ here))
          (λ (d : (part_at parts j).component ≡ c → ⊥).
          ⊎_elim
          (λ (a : j < n). (let r = f.there j a in (r.0, other_set coders c (part_at parts j).component o d ∙ r.1)))
          (λ (b : n ≤ j). (let q : j ≡ n = omega arith in absurd (d (ap (λ (z : ℕ). (part_at parts z).component) q))))
          (cases_lt j n))
          (cases_eq (part_at parts j).component c);
    }

-- THE PART OF A COMPONENT

component_at_part : (parts : List ScanPart) (j : ℕ) → j < length parts → get_or (map (λ (p : ScanPart). p.component) parts) j 0 ≡ (part_at parts j).component
component_at_part parts j h = get_or-map (λ (p : ScanPart). p.component) parts j (record { component = 0; dc = 0; ac = 0 }) 0 h

part_found : (head : ScanHead) (j k : ℕ) → is_distinct (head_components head) ≡ true → j < length head.parts → (part_at head.parts j).component ≡ k → part_of head k ≡ part_at head.parts j
part_found head j k d h e =
    let ids = head_components head in
    let n : j < length ids = omega (arith, h, length-map head.parts (λ (p : ScanPart). p.component)) in
    let x : index_of k ids ≡ j = ap (λ q. index_of q ids) (sym (component_at_part head.parts j h ∙ e)) ∙ index_at ids j d n in
    ap (λ (q : ℕ). slice_index_or head.parts q (record { component = k; dc = 0; ac = 0 })) x ∙ part_same head.parts j _ _ h

-- the coding of the scan, for a component of it
pub coding_at : (f : Frame) (head : ScanHead) (set : TableSet) (b : Bounds) (j k : ℕ) (coder : Coder) → IsSeqScan f head set → b ≡ bounds f → j < length head.parts → (part_at head.parts j).component ≡ k → IsCoderOf set (part_at head.parts j) coder
    → IsCodingOf b coder.dc coder.ac (scan_coding f (in_force set) head) k
coding_at f head set b j k coder is same lt comp of =
    let p : is_progressive f.process ≡ false = is.sequential in
    let r : (is_progressive f.process && nat_lt 0 head.ah) ≡ false = ap (λ x. x && nat_lt 0 head.ah) p in
    let q : part_of head k ≡ part_at head.parts j = part_found head j k is.distinct lt comp in
    record {
      sound = sound f (in_force set) head (valid set);
      plain = ap (λ x. cond x head.al 0) p;
      first = r;
      categories = ap (λ x. cond x 1 (bounds f).ac_cat) r ∙ ap (λ (x : Bounds). x.ac_cat) (sym same);
      runs = ap (λ x. cond x 14 0) p;
      bounds = sym same;
      dc_codes = ap (λ (x : ScanPart). codes_of (option_map table_of (in_slot (dc_tables set) x.dc))) q ∙ ap (λ (x : Option Table). codes_of (option_map table_of x)) of.in_dc ∙ sym of.dc_codes;
      ac_codes = ap (λ (x : ScanPart). codes_of (option_map table_of (in_slot (ac_tables set) x.ac))) q ∙ ap (λ (x : Option Table). codes_of (option_map table_of x)) of.in_ac ∙ sym of.ac_codes;
    }

bounds_sane : (f : Frame) → AreSane (bounds f)
bounds_sane f =
    of_bounds AreSane (record { low = omega (arith, ints); high = omega (arith, ints); ac = omega (arith, ints); dc_cat = omega arith; ac_cat = omega arith; nine = omega arith })
    (record { low = omega (arith, ints); high = omega (arith, ints); ac = omega (arith, ints); dc_cat = omega arith; ac_cat = omega arith; nine = omega arith }) f.precision

pub new_ready : (f : Frame) (head : ScanHead) (set : TableSet) (m : SeqReader) → IsFrame f → IsSeqScan f head set → m.bounds ≡ bounds f → AreFilled set head.parts (length head.parts) m.coders → m.cursor ≡ units f (head_components head) → length m.predictions ≡ 4 → m.left ≡ 0
    → (i : Interval) → IsOfScan f head set i → SeqReady m i
new_ready f head set m frame is b filled cursor four left i of =
    let ids = head_components head in
    let n : length ids ≡ length head.parts = length-map head.parts (λ (p : ScanPart). p.component) in
    let all : All (IsPlaceReadable m f) (units f ids) =
    All-weaker (IsOneOf f ids) (IsPlaceReadable m f)
    (λ p o. (let t = filled.there o.index (omega (arith, o.there, n)) in
    let e : (part_at head.parts o.index).component ≡ p.component = sym (component_at_part head.parts o.index (omega (arith, o.there, n))) ∙ o.same in
    record {
      small = omega (arith, o.place.component, frame.count_high);
      padded = o.place;
      coder = t.0;
      there = ap (λ (q : ℕ). slot_value (slice_get m.coders q)) (sym e) ∙ t.1;
    }))
    (units f ids) (units_in f ids frame is.components) in
    record {
      reads = rw of.coding (record {
        sane = subst (λ (x : Bounds). AreSane x) (sym b) (bounds_sane f);
        codes = λ k coder e. (let r = filled.found k coder e in coding_at f head set m.bounds r.0 k coder is b r.1 r.2 r.3);
      });
      kind = of.kind;
      distinct = subst (λ (l : List Place). AreDistinct l) (sym of.places) (units_distinct f ids is.distinct);
      sized = of.sized;
      cursor = cursor ∙ sym of.places;
      left = left;
      spots = rw (of.frame, of.places) all;
      four = four;
    }

-- Bits of a sequential scan, one after another.

abbrev pub env_at : SeqReader → Coder → ℕ → Env
env_at m coder k = env_in m.bounds coder (prediction_at m k)

-- the current unit is of the cursor's place
pub next_is : (m : SeqReader) (i : Interval) (bits : List Bool) (now : Picture) (p : Place) → slice_get m.cursor 0 ≡ Some p → (o : RepresentsSeqScan m i bits now) → o.next ≡ p
next_is m i bits now p e o = some_once o.next p (sym (ap (λ (l : List Place). slice_get l 0) o.cursor) ∙ e)

pub reads_of : (m : SeqReader) (i : Interval) (bits : List Bool) (now : Picture) (coder : Coder) → (o : RepresentsSeqScan m i bits now) → coder_at m o.next.component ≡ Some coder
    → ReadsComponent (env_at m coder o.next.component) i.scan.coding o.next.component o.predictions
reads_of m i bits now coder o there =
    let r = All-head (IsPlaceReadable m i.before.frame) o.next (o.more ++ i.later) o.spots in
    (o.reads.codes o.next.component coder there, sym (o.predicts o.next.component r.small))

-- with the unit's further bits
module _ {m : SeqReader} {i : Interval} {bits : List Bool} {now : Picture} (o : RepresentsSeqScan m i bits now) where
  with_unit : (b : Bool) (t : Work) (elements : List Element) (front : List Bool)
      → Covers i.scan.coding (standing_at o.predictions o.next.component (new_units_at o.more) []) elements t.values front (standing_at o.predictions o.next.component (new_units_at o.more) t.values)
      → o.part ++ b ∷ [] ≡ front ++ t.part → ((coder : Coder) → coder_at m o.next.component ≡ Some coder → IsAtWork (env_at m coder o.next.component) t)
      → RepresentsSeqScan (record m { unit = t }) i (bits ++ b ∷ []) now
  with_unit b t elements front covers split work =
      record {
        reads = record { sane = o.reads.sane; codes = o.reads.codes };
        kind = o.kind;
        distinct = o.distinct;
        done = o.done;
        next = o.next;
        more = o.more;
        all = o.all;
        cursor = o.cursor;
        left = o.left;
        spots = All-weaker (IsPlaceReadable m i.before.frame) (IsPlaceReadable (record m { unit = t }) i.before.frame) (λ p r. record { small = r.small; padded = r.padded; coder = r.coder; there = r.there }) (o.next ∷ (o.more ++ i.later)) o.spots;
        whole = o.whole;
        predictions = o.predictions;
        elements = o.elements;
        front = o.front;
        part = o.part ++ b ∷ [];
        covers = o.covers;
        split = part_more bits o.front o.part b o.split;
        four = o.four;
        predicts = o.predicts;
        unit_elements = elements;
        unit_front = front;
        unit_covers = covers;
        unit_split = split;
        at_work = work;
        frame = o.frame;
        read = o.read;
      }

pub step_within : (m : SeqReader) (p : Place) (coder : Coder) (now : Picture) (b : Bool) (t : Work) → slice_get m.cursor 0 ≡ Some p → coder_at m p.component ≡ Some coder
    → StepsTo (env_at m coder p.component) m.unit b t → Step sequential m now b (Ok More) (record m { unit = t }) now
step_within m p coder now b t first there (inl h) i bits o =
    let n = next_is m i bits now p first o in
    let values = ap (λ (w : Work). w.values) h.0 in let part = ap (λ (w : Work). w.part) h.0 in
    with_unit o b t o.unit_elements o.unit_front (rw values o.unit_covers)
    (part_more o.part o.unit_front m.unit.part b o.unit_split ∙ ap (λ z. o.unit_front ++ z) (sym part))
    (λ d e. let same = some_once d coder (sym (rw n at e) ∙ there) in
    let part : IsPartOf (env_at m d o.next.component) m.unit.values (m.unit.part ++ b ∷ []) = rw (same, n) h.1 in
    rw h.0 (record { left = (o.at_work d e).left; part = part }))
step_within m p coder now b t first there (inr h) i bits o =
    let n = next_is m i bits now p first o in
    let s = m.unit in
    let here = h.0 in
    let st : List ℤ → Standing = λ v. standing_at o.predictions o.next.component (new_units_at o.more) v in
    let told : Adds (env_at m coder o.next.component) s.values (s.part ++ b ∷ []) here = rw n h.2 in
    let coder' : coder_at m o.next.component ≡ Some coder = rw n there in
    let adds = told i.scan.coding o.next.component o.predictions (new_units_at o.more) (reads_of m i bits now coder o coder') in
    let values = ap (λ (w : Work). w.values) h.1 in let part = ap (λ (w : Work). w.part) h.1 in
    with_unit o b t (o.unit_elements ++ adds.0) (o.unit_front ++ (s.part ++ b ∷ []))
    (rw values (covers_then i.scan.coding (st []) (st s.values) (st (s.values ++ here)) o.unit_elements adds.0 s.values here o.unit_front (s.part ++ b ∷ []) o.unit_covers adds.1))
    (part_more o.part o.unit_front s.part b o.unit_split ∙ sym (append-nil (o.unit_front ++ (s.part ++ b ∷ []))) ∙ ap (λ z. (o.unit_front ++ (s.part ++ b ∷ [])) ++ z) (sym part))
    (λ d e. rw h.1 (record { left = h.3; part = inl refl }))

-- bits within a unit
pub chain_within : (m : SeqReader) (p : Place) (coder : Coder) (now : Picture) (bits : List Bool) (s t : Work) → slice_get m.cursor 0 ≡ Some p → coder_at m p.component ≡ Some coder
    → StepsThrough (env_at m coder p.component) s bits t → Chain sequential (record m { unit = s }) now bits (record m { unit = t }) now
chain_within m p coder now [] s t first there h = (ap (λ (w : Work). (let r : SeqReader = record m { unit = w } in r)) h, refl)
chain_within m p coder now (b ∷ bits) s t first there h =
    (record m { unit = h.0 }, now, step_within (record m { unit = s }) p coder now b h.0 first there h.1, chain_within m p coder now bits h.0 t first there h.2)

-- A COMPLETE UNIT

-- predictions after a block
pub after_block : (ℕ → ℤ) → ℕ → List ℤ → ℕ → ℤ
after_block p k [] = p
after_block p k (v ∷ values) = predicted p k v

whole_standing : (p : ℕ → ℤ) (k : ℕ) (others : List UnitLeft) (block : List ℤ) → length block ≡ 64 → standing_at p k others block ≡ record { predictions = after_block p k block; left = others }
unfolding after_block
whole_standing p k others [] e = absurd (omega arith)
whole_standing p k others (v ∷ values) e =
    let z : 63 - length values ≡ 0 = omega arith in
    ap (λ (n : ℕ). (let r : Standing = record { predictions = predicted p k v; left = going_on (open_unit k []) (zeros n) others } in r)) z

predicts_more : (predictions : List ℤ) (q : ℕ → ℤ) (c k : ℕ) (block : List ℤ) → length block ≡ 64 → length predictions ≡ 4 → c < 4 → slice_index_or predictions k (pos 0) ≡ q k
    → slice_index_or (slice_set predictions c (slice_index_or block 0 (pos 0))) k (pos 0) ≡ after_block q c block k
unfolding after_block
predicts_more predictions q c k [] whole four lt h = absurd (omega arith)
predicts_more predictions q c k (v ∷ block) whole four lt h =
    ⊎_elim
    (λ (e : k ≡ c). (let s : slice_index_or (slice_set predictions c v) c (pos 0) ≡ v = get_or-set_same predictions c v (pos 0) (omega arith) in
    ap (λ (n : ℕ). slice_index_or (slice_set predictions c v) n (pos 0)) e ∙ s ∙ ap (λ (b : Bool). cond b v (q k)) (sym (ap (λ (n : ℕ). n == c) e ∙ same_itself c))))
    (λ (n : k ≡ c → ⊥). (let s : slice_index_or (slice_set predictions c v) k (pos 0) ≡ slice_index_or predictions k (pos 0) = get_or-set_other predictions c k v (pos 0) n in
    s ∙ h ∙ ap (λ (b : Bool). cond b v (q k)) (sym (not_same _ _ n)))) (cases_eq k c)

-- a band that is a complete block
whole_band : (s : Scan) (block : List ℤ) → s.ss ≡ 0 → s.se ≡ 63 → length block ≡ 64 → band s block ≡ block
whole_band s block ss se long = ap (λ n. take (n + 1 - s.ss) (drop s.ss block)) se ∙ ap (λ n. take (63 + 1 - n) (drop n block)) ss ∙ take_all 64 block (omega (arith, long))

after_band : (s : Scan) (k : ℕ) → s.ss ≡ 0 → s.se ≡ 63 → is_in_band s k ≡ false → 64 ≤ k
after_band s k ss se e =
    ⊎_elim (λ (h : k < 64). absurd (clash (is_in_band s k) (and_intro (nat_le s.ss k) (nat_le k s.se) (le-leb s.ss k (omega (arith, ss))) (le-leb k s.se (omega (arith, se, h)))) e)) (λ (h : 64 ≤ k). h) (cases_lt k 64)

-- what is true after a complete unit
pub record UnitRead (m : SeqReader) (i : Interval) (bits : List Bool) (now : Picture) (p : Place) (block : List ℤ) (b : Bool) (o : RepresentsSeqScan m i bits now) : Type 0 where
  pub elements : List Element
  pub covers : Covers i.scan.coding (at_start (units_of i)) elements (o.whole ++ block) (bits ++ b ∷ []) (record { predictions = after_block o.predictions p.component block; left = new_units_at o.more })
  pub read : UnitsRead i.scan (o.done ++ p ∷ []) (map_of i.before) (map_of (put_at now p block)) (o.whole ++ block)

module _ {m : SeqReader} {i : Interval} {bits : List Bool} {now : Picture} (o : RepresentsSeqScan m i bits now) where
  unit_read : (p : Place) (coder : Coder) (block : List ℤ) (b : Bool) → o.next ≡ p → coder_at m p.component ≡ Some coder
      → length now.blocks ≡ padded_blocks now.frame → IsLast (env_at m coder p.component) m.unit b block → UnitRead m i bits now p block b o
  unit_read p coder block b n there count h =
      let k = p.component in
      let s = m.unit in
      let kk : o.next.component ≡ k = ap (λ (q : Place). q.component) n in
      let st : List ℤ → Standing = λ v. standing_at o.predictions o.next.component (new_units_at o.more) v in
      let coder' : coder_at m o.next.component ≡ Some coder = rw n there in
      let told : Adds (env_at m coder o.next.component) s.values (s.part ++ b ∷ []) h.0 = rw n h.1 in
      let adds = told i.scan.coding o.next.component o.predictions (new_units_at o.more) (reads_of m i bits now coder o coder') in
      let unit : Covers i.scan.coding (st []) (o.unit_elements ++ adds.0) (s.values ++ h.0) (o.unit_front ++ (s.part ++ b ∷ [])) (st (s.values ++ h.0)) =
      covers_then i.scan.coding (st []) (st s.values) (st (s.values ++ h.0)) o.unit_elements adds.0 s.values h.0 o.unit_front (s.part ++ b ∷ []) o.unit_covers adds.1 in
      let last : Standing = record { predictions = after_block o.predictions k block; left = new_units_at o.more } in
      let is : st block ≡ last = whole_standing o.predictions o.next.component (new_units_at o.more) block h.3 ∙ ap (λ (q : ℕ). (let r : Standing = record { predictions = after_block o.predictions q block; left = new_units_at o.more } in r)) kk in
      let whole : Covers i.scan.coding (st []) (o.unit_elements ++ adds.0) block (o.unit_front ++ (s.part ++ b ∷ [])) last = rw (sym is, h.2) unit in
      let all = covers_then i.scan.coding (at_start (units_of i)) (st []) last o.elements (o.unit_elements ++ adds.0) o.whole block o.front (o.unit_front ++ (s.part ++ b ∷ [])) o.covers whole in
      let text : o.front ++ (o.unit_front ++ (s.part ++ b ∷ [])) ≡ bits ++ b ∷ [] =
      ap (λ z. o.front ++ z) (sym (part_more o.part o.unit_front s.part b o.unit_split)) ∙ sym (part_more bits o.front o.part b o.split) in
      let r = All-head (IsPlaceReadable m i.before.frame) o.next (o.more ++ i.later) o.spots in
      let pad : IsPadded now.frame p.component p.x p.y = subst (λ (q : Place). IsPadded now.frame q.component q.x q.y) n (subst (λ (g : Frame). IsPadded g o.next.component o.next.x o.next.y) (sym o.frame) r.padded) in
      let places : i.places ++ i.later ≡ o.done ++ o.next ∷ (o.more ++ i.later) = ap (λ (l : List Place). l ++ i.later) o.all ∙ append_assoc o.done (o.next ∷ o.more) i.later in
      let apart : any_of (is_at p.component p.x p.y) o.done ≡ false =
      subst (λ (q : Place). any_of (is_at q.component q.x q.y) o.done ≡ false) n (next_apart o.done o.next (o.more ++ i.later) (subst (λ (l : List Place). AreDistinct l) places o.distinct)) in
      let short : (j : ℕ) → is_in_band i.scan j ≡ false → slice_index_or block j (pos 0) ≡ coefficient (map_of now) p.component p.x p.y j =
      λ j e. (let far = after_band i.scan j (o.kind).ss (o.kind).se e in
      get_or_past block j (pos 0) (omega (arith, far, h.3)) ∙ sym (get_or_past (map_of now p.component p.x p.y) j (pos 0) (omega (arith, far, (o.read.changes).sizes p.component p.x p.y)))) in
      let there_is : HasPlace now p = record { place = pad; count = count } in
      let read = units_next i.scan o.done p (map_of i.before) (map_of now) (map_of (put_at now p block)) o.whole apart o.read (put_changes i.scan now p block there_is (record { size = h.3; same = short })) in
      let told : band i.scan (block_at (map_of (put_at now p block)) p) ≡ block = ap (band i.scan) (put_here now p block there_is) ∙ whole_band i.scan block (o.kind).ss (o.kind).se h.3 in
      record {
        elements = o.elements ++ (o.unit_elements ++ adds.0);
        covers = rw text at all;
        read = subst (λ (l : List ℤ). UnitsRead i.scan (o.done ++ p ∷ []) (map_of i.before) (map_of (put_at now p block)) (o.whole ++ l)) told read;
      }

-- the machine after a complete unit
abbrev pub after_unit : SeqReader → Work → ℕ → SeqReader
after_unit m whole k = behind (record m { unit = whole }) k

pub fresh_work : (m : SeqReader) (coder : Coder) (k : ℕ) → IsAtWork (env_at m coder k) no_work
fresh_work m coder k = record { left = omega arith; part = inl refl }

pub step_unit : (m : SeqReader) (p : Place) (coder : Coder) (now : Picture) (b : Bool) (whole : Work) → slice_get m.cursor 0 ≡ Some p → coder_at m p.component ≡ Some coder
    → length now.blocks ≡ padded_blocks now.frame → IsLast (env_at m coder p.component) m.unit b whole.values → 2 ≤ m.left → Step sequential m now b (Ok More) (after_unit m whole p.component) (with_block now p.component p.x p.y whole.values)
step_unit m p coder now b whole first there count h many i bits o =
    let n = next_is m i bits now p first o in
    let k = p.component in
    let new : SeqReader = after_unit m whole k in
    let block = whole.values in
    let u = unit_read o p coder block b n there count h in
    let l = some_places o.more (omega (arith, o.left, many)) in
    let small = (All-head (IsPlaceReadable m i.before.frame) o.next (o.more ++ i.later) o.spots).small in
    let more : o.more ++ i.later ≡ l.0 ∷ (l.1 ++ i.later) = ap (λ (z : List Place). z ++ i.later) l.2 in
    let ps : ℕ → ℤ = after_block o.predictions k block in
    let S : List Place → Type 0 = λ z. Covers i.scan.coding (at_start (units_of i)) u.elements (o.whole ++ block) (bits ++ b ∷ []) (record { predictions = ps; left = new_units_at z }) in
    let later = All-weaker (IsPlaceReadable m i.before.frame) (IsPlaceReadable new i.before.frame) (λ q r. record { small = r.small; padded = r.padded; coder = r.coder; there = r.there }) (o.more ++ i.later) (All-tail (IsPlaceReadable m i.before.frame) o.next (o.more ++ i.later) o.spots) in
    record {
      reads = record { sane = o.reads.sane; codes = o.reads.codes };
      kind = o.kind;
      distinct = o.distinct;
      done = o.done ++ p ∷ [];
      next = l.0;
      more = l.1;
      all = o.all ∙ ap (λ (z : Place). o.done ++ z ∷ o.more) n ∙ ap (λ (z : List Place). o.done ++ p ∷ z) l.2 ∙ sym (append_assoc o.done (p ∷ []) (l.0 ∷ l.1));
      cursor = ap (drop 1) o.cursor ∙ more;
      left = omega (arith, o.left, ap length l.2);
      spots = rw more at later;
      whole = o.whole ++ block;
      predictions = ps;
      elements = u.elements;
      front = bits ++ b ∷ [];
      part = [];
      covers = subst S l.2 u.covers;
      split = sym (append-nil (bits ++ b ∷ []));
      four = length-set m.predictions k (slice_index_or block 0 (pos 0)) ∙ o.four;
      predicts = λ q lt. predicts_more m.predictions o.predictions k q block h.3 o.four (omega (arith, small, ap (λ (z : Place). z.component) n)) (o.predicts q lt);
      unit_elements = [];
      unit_front = [];
      unit_covers = (refl, refl, refl);
      unit_split = refl;
      at_work = λ c e. fresh_work new c l.0.component;
      frame = o.frame;
      read = u.read;
    }

pub step_last : (m : SeqReader) (p : Place) (coder : Coder) (now : Picture) (b : Bool) (whole : Work) → slice_get m.cursor 0 ≡ Some p → coder_at m p.component ≡ Some coder
    → length now.blocks ≡ padded_blocks now.frame → IsLast (env_at m coder p.component) m.unit b whole.values → m.left ≡ 1 → Step sequential m now b (Ok IntervalDone) (after_unit m whole p.component) (with_block now p.component p.x p.y whole.values)
step_last m p coder now b whole first there count h one i bits o =
    let n = next_is m i bits now p first o in
    let k = p.component in
    let new : SeqReader = after_unit m whole k in
    let block = whole.values in
    let u = unit_read o p coder block b n there count h in
    let none : o.more ≡ [] = nil_from_length o.more (omega (arith, o.left, one)) in
    let all : i.places ≡ o.done ++ p ∷ [] = o.all ∙ ap (λ (z : Place). o.done ++ z ∷ o.more) n ∙ ap (λ (z : List Place). o.done ++ p ∷ z) none in
    let after = with_block now p.component p.x p.y block in
    let cursor : drop 1 m.cursor ≡ i.later = ap (drop 1) o.cursor ∙ ap (λ (z : List Place). z ++ i.later) none in
    let later = All-weaker (IsPlaceReadable m i.before.frame) (IsPlaceReadable new i.before.frame) (λ q r. record { small = r.small; padded = r.padded; coder = r.coder; there = r.there }) (o.more ++ i.later) (All-tail (IsPlaceReadable m i.before.frame) o.next (o.more ++ i.later) o.spots) in
    let read : UnitsRead i.scan i.places (map_of i.before) (map_of after) (o.whole ++ block) = rw all u.read in (
      record {
        frame = o.frame;
        read = units_last i.scan i.places (map_of i.before) (map_of after) (o.whole ++ block) (bits ++ b ∷ []) read
            (u.elements, record { predictions = after_block o.predictions k block; left = new_units_at o.more }, u.covers, ap new_units_at none);
      },
      λ j follows fits. record {
        reads = rw follows.scan (record { sane = o.reads.sane; codes = o.reads.codes });
        kind = fits;
        distinct = rw follows.places (distinct_behind i.places i.later o.distinct);
        sized = rw follows.before (u.read.changes).sizes;
        cursor = cursor ∙ sym follows.places;
        left = omega (arith, one);
        spots = rw (follows.places, follows.before, o.frame) (rw none at later);
        four = length-set m.predictions k (slice_index_or block 0 (pos 0)) ∙ o.four;
      },
    )

-- A FAULT

pub step_fault : (m new : SeqReader) (p : Place) (coder : Coder) (now : Picture) (b : Bool) (fault : UnitFault) → slice_get m.cursor 0 ≡ Some p → coder_at m p.component ≡ Some coder
    → IsWrong (env_at m coder p.component) m.unit b fault → Step sequential m now b (Err fault) new now
step_fault m new p coder now b fault first there h i bits o =
    let n = next_is m i bits now p first o in
    let s = m.unit in
    let st : List ℤ → Standing = λ v. standing_at o.predictions o.next.component (new_units_at o.more) v in
    let coder' : coder_at m o.next.component ≡ Some coder = rw n there in
    let reads = reads_of m i bits now coder o coder' in
    let less = (o.at_work coder coder').left in
    let wrong : IsWrong (env_at m coder o.next.component) s b fault = rw n h in
    let shows = wrong i.scan.coding o.next.component o.predictions (new_units_at o.more) reads in (
      record {
        elements = o.elements ++ o.unit_elements;
        told = o.whole ++ s.values;
        front = o.front ++ o.unit_front;
        here = s.part ++ b ∷ [];
        rest = [];
        standing = st s.values;
        unit = unit_in_work o.next.component s.values;
        others = new_units_at o.more;
        cut = part_more bits o.front o.part b o.split ∙ ap (λ z. o.front ++ z) (part_more o.part o.unit_front s.part b o.unit_split)
            ∙ sym (append_assoc o.front o.unit_front (s.part ++ b ∷ [])) ∙ sym (append-nil ((o.front ++ o.unit_front) ++ (s.part ++ b ∷ [])));
        covers = covers_then i.scan.coding (at_start (units_of i)) (st []) (st s.values) o.elements o.unit_elements o.whole s.values o.front o.unit_front o.covers o.unit_covers;
        left = left_at o.predictions o.next.component (new_units_at o.more) s.values less;
        codes = λ q. clash i.scan.coding.refines q.1 reads.0.first;
        shows = shows;
      },
      refl,
    )

-- THE TABLES OF A COMPONENT

pub coder_same : (coders : List (Option Coder)) (k : ℕ) (d : Option Coder) (x y : Coder) → slot_value (slice_get coders k) ≡ Some y → get_or coders k d ≡ Some x → x ≡ y
coder_same [] k d x y e f = absurd cc
coder_same (o ∷ coders) zero d x y e f = some_once x y (sym f ∙ e)
coder_same (o ∷ coders) (suc k) d x y e f = coder_same coders k d x y e f

-- Where the machine of a sequential scan is, units are left: it has read complete elements, and a part of one more.

stands_is : (m : SeqReader) (i : Interval) (bits : List Bool) (now : Picture) → (o : RepresentsSeqScan m i bits now)
    → StandsInUnits i.scan.coding (units_of i) (o.whole ++ m.unit.values) (unit_in_work o.next.component m.unit.values ∷ new_units_at o.more) bits
stands_is m i bits now o =
    let r = All-head (IsPlaceReadable m i.before.frame) o.next (o.more ++ i.later) o.spots in
    let k = o.next.component in
    let others = new_units_at o.more in
    let st : List ℤ → Standing = λ v. standing_at o.predictions k others v in
    let work = o.at_work r.coder r.there in
    record {
      elements = o.elements ++ o.unit_elements;
      before = o.whole ++ m.unit.values;
      front = o.front ++ o.unit_front;
      standing = st m.unit.values;
      unit = unit_in_work k m.unit.values;
      others = others;
      here = [];
      part = m.unit.part;
      cut = o.split ∙ ap (λ z. o.front ++ z) o.unit_split ∙ sym (append_assoc o.front o.unit_front m.unit.part);
      covers = covers_then i.scan.coding (at_start (units_of i)) (st []) (st m.unit.values) o.elements o.unit_elements o.whole m.unit.values o.front o.unit_front o.covers o.unit_covers;
      same = sym (append-nil (o.whole ++ m.unit.values));
      first = refl;
      is_part = work_part i.scan.coding (env_in m.bounds r.coder (prediction_at m k)) k o.predictions others m.unit.values m.unit.part (o.reads.codes k r.coder r.there, sym (o.predicts k r.small)) work.left work.part;
      in_bounds = refl;
    }

unfinished : (m : SeqReader) (i : Interval) (bits : List Bool) (now : Picture) → RepresentsSeqScan m i bits now → IsUnfinished i bits now m.left
unfinished m i bits now o = record {
  done = o.done;
  due = o.next ∷ o.more;
  whole = o.whole;
  part = m.unit.values;
  left = unit_in_work o.next.component m.unit.values ∷ new_units_at o.more;
  all = o.all;
  some = omega (arith, o.left);
  due_count = omega (arith, o.left);
  left_count = omega (arith, o.left, length-map o.more new_at);
  frame = o.frame;
  read = o.read;
  stands = stands_is m i bits now o;
}

pub keeps_units : KeepsUnits SeqReader sequential
keeps_units = record { unfinished = unfinished; fits = λ m i bits now o. o.kind; none_left = λ m i r. r.left }

-- The MCU rows of a scan of all components, and where their places are.

-- LISTS of rows

-- THE MCU ROWS one after another

pub units_by_row : (f : Frame) (ids : List ℕ) → units f ids ≡ flat_map (scan_row f ids) (below (scan_mcus_down f ids))
unfolding units
units_by_row f [] = refl
units_by_row f (i ∷ []) = refl
units_by_row f (i ∷ j ∷ more) = refl

pub length_row : (f : Frame) (ids : List ℕ) (k : ℕ) → length (scan_row f ids k) ≡ row_units f ids
length_row f [] k = refl
length_row f (i ∷ []) k =
    let w = blocks_across f (component_at f i) in
    length-map (below w) (λ x. place f i x k) ∙ length_below w ∙ (let e : w ≡ w * 1 = omega arith in e)
length_row f (i ∷ j ∷ more) k =
    let ids = i ∷ j ∷ more in
    length_rows (λ mx. flat_map (mcu_part f mx k) ids) (mcus_across f) (factor_sum f ids) (λ mx. length_mcu f mx k ids)

-- As many of the next places as are left of an MCU row are in it.
pub row_next : (P : Place → Type 0) (f : Frame) (ids : List ℕ) (cursor : List Place) (k left : ℕ) → cursor ≡ drop (k * row_units f ids + (row_units f ids - left)) (units f ids) → k < scan_mcus_down f ids → left ≤ row_units f ids
    → All P (scan_row f ids k) → All P (take left cursor)
row_next P f ids cursor k left is row few all = All-from_get_or P (take left cursor) none each
  where
    none : Place
    none = place f 0 0 0

    each : (i : ℕ) → i < length (take left cursor) → P (get_or (take left cursor) i none)
    each i low =
        let m = row_units f ids in let first = k * m + (m - left) in
        let below_left : i < left = omega (arith, low, length-take left cursor) in
        let at : first + i ≡ k * m + ((m - left) + i) = omega arith in
        let inside : (m - left) + i < m = omega (arith, below_left, few) in
        let found : get_or (take left cursor) i none ≡ get_or (scan_row f ids k) ((m - left) + i) none =
        get_or-take left cursor i none below_left ∙ ap (λ (l : List Place). get_or l i none) is ∙ get_or-drop first (units f ids) i none
        ∙ ap (λ n. get_or (units f ids) n none) at ∙ ap (λ (l : List Place). get_or l (k * m + ((m - left) + i)) none) (units_by_row f ids)
        ∙ at_row (scan_row f ids) (scan_mcus_down f ids) m k ((m - left) + i) none (length_row f ids) row inside in
        subst P (sym found) (All-get_or P (scan_row f ids k) ((m - left) + i) none (omega (arith, inside, length_row f ids k)) all)

-- WHERE THE PLACES of an MCU row are

-- one row of MCUs has one
pub one_row : (f : Frame) → IsFrame f → mcus_down (mcu_row_frame f) ≡ 1
one_row f k =
    let low = down_low f.components k.factors k.count_low in
    by (length f.components == 1) (v_max f) low
  where
    by : (b : _) (v : ℕ) → 1 ≤ v → div_up (cond b 8 (8 * v)) (8 * v) ≡ 1
    by true v low = (let a : div_up 8 (8 * v) < 2 = (div-lt_iff_lt-mul (omega (arith, low))).1 (omega (arith, low)) in
        let b : 1 ≤ div_up 8 (8 * v) = (le-div_iff_mul-le (omega (arith, low))).1 (omega (arith, low)) in omega (arith, a, b))
    by false v low = (let a : div_up (8 * v) (8 * v) < 2 = (div-lt_iff_lt-mul (omega (arith, low))).1 (omega (arith, low)) in
        let b : 1 ≤ div_up (8 * v) (8 * v) = (le-div_iff_mul-le (omega (arith, low))).1 (omega (arith, low)) in omega (arith, a, b))

-- Those of a scan of all components are in its MCU row.
pub row_inside : (f : Frame) (ids : List ℕ) (tops : List ℕ) (k : ℕ) → IsFrame f → AreIn f ids → length ids ≡ length f.components → BeginAt f tops k → AreInRow (mcu_row_frame f) tops (scan_row f ids k)
row_inside f [] tops k frame there all begins = All-nil (IsInRow (mcu_row_frame f) tops)
row_inside f (i ∷ []) tops k frame there all begins =
    let c = component_at f i in
    let lt : i < length f.components = there.there 0 0 (omega arith) in
    let one : rows_in_mcu f i ≡ 1 = ap (λ n. cond (n == 1) 1 c.v) (sym all) in
    let top : top_of tops i ≡ k = begins i lt ∙ ap (λ n. k * n) one ∙ omega arith in
    let wide : blocks_across f c ≤ padded_across f c = real_in_padded f.width c.h _ (across_low f.components frame.factors frame.count_low) in
    let v = (All-get_or HasFactors f.components i no_component lt frame.factors).v_low in
    let high : 1 ≤ padded_down (mcu_row_frame f) c = omega (arith, v, ap (λ n. n * c.v) (one_row f frame)) in
    all_row (IsInRow (mcu_row_frame f) tops) (λ x. place f i x k) (blocks_across f c)
    (λ x hx. record { below = omega (arith, top); padded = record { component = lt; across = omega (arith, hx, wide); down = omega (arith, top, high) } })
row_inside f (i ∷ j ∷ more) tops k frame there all begins =
    let ids = i ∷ j ∷ more in
    all_rows (IsInRow (mcu_row_frame f) tops) (λ mx. flat_map (mcu_part f mx k) ids) (mcus_across f)
    (λ mx hx. all_ids (IsInRow (mcu_row_frame f) tops) (mcu_part f mx k) ids
    (λ n hn. let d = get_or ids n 0 in
    let c = component_at f d in
    let lt : d < length f.components = there.there n 0 hn in
    let several : (length f.components == 1) ≡ false = grind (arith, nat_tests, all) in
    let top : top_of tops d ≡ k * c.v = begins d lt ∙ ap (λ b. k * cond b 1 c.v) several in
    let high : padded_down (mcu_row_frame f) c ≡ c.v = ap (λ n. n * c.v) (one_row f frame) ∙ omega arith in
    all_rows (IsInRow (mcu_row_frame f) tops) (λ v. map (λ h. place f d (mx * c.h + h) (k * c.v + v)) (below c.h)) c.v
    (λ v hv. all_row (IsInRow (mcu_row_frame f) tops) (λ h. place f d (mx * c.h + h) (k * c.v + v)) c.h
    (λ h hh. record { below = omega (arith, top); padded = record { component = lt; across = in_row mx c.h h (mcus_across f) hx hh; down = omega (arith, top, high, hv) } }))))
