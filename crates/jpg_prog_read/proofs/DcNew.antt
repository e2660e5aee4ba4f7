-- The machines of DC scans before their first unit: their numbers, and the tables of their components.
use Rattle.std.proofs.Common.{◌≡◌, ℕ, ◌+◌, ◌^◌, ◌<◌, ◌≤◌, Bool, true, false, cond, List, length, map, set, get_or, refl, sym, ap, ◌∙◌, subst, arith, ⊎_elim, ◌&&◌}
use Rattle.std.specs.Prelude.{slice_index_or, nat_lt, Option, Some}
use Rattle.std.specs.Option.{option_map}
use Rattle.std.specs.List.{All}
use Rattle.std.proofs.lemmas.Bool.{cases_eq, cases_lt}
use Rattle.std.proofs.lemmas.List.{length-set, length-map, get_or-map}
use Rattle.std.proofs.lemmas.List.Elements.{All-weaker}
use Rattle.std.proofs.lemmas.Nat.{pow_pos}
use Rattle.jpg_spec.specs.Lists.{is_distinct, index_of, slot_value}
use Rattle.jpg_spec.specs.Elements.{Coding}
use Rattle.jpg_spec.specs.Geometry.{Frame, is_progressive, units}
use Rattle.jpg_spec.specs.FrameHeader.{IsFrame}
use Rattle.jpg_spec.specs.Segments.{ScanHead, head_components}
use Rattle.jpg_spec.specs.Scan.{TablesInForce, codes_of, part_of, scan_coding}
use Rattle.jpg_spec.specs.declared.frame.Place.{Place}
use Rattle.jpg_spec.specs.declared.frame.ScanPart.{ScanPart}
use Rattle.jpg_spec.specs.PictureInWork.{AreDistinct}
use Rattle.jpg_spec.proofs.Places.PlacesDistinct.{units_distinct}
use Rattle.jpg_spec.proofs.Bits.Sound.{sound}
use Rattle.jpg_spec.proofs.Writing.WrittenHead.{index_at}
use Rattle.jpg_spec.proofs.Basics.Common.{lt_yes, some_once}
use Rattle.jpg_base.proofs.ScanPlaces.{IsOneOf, units_in}
use Rattle.jpg_huff.specs.declared.table.Table.{Table}
use Rattle.jpg_huff.specs.declared.set.TableSet.{TableSet}
use Rattle.jpg_huff.specs.Sets.{dc_tables, in_slot, no_tables}
use Rattle.jpg_huff.specs.Tables.{table_of, symbol_codes}
use Rattle.jpg_coefs.specs.Machine.{Interval}
use Rattle.jpg_prog_read.specs.declared.dc_first.DcFirst.{DcFirst}
use Rattle.jpg_prog_read.specs.declared.dc_refine.DcRefine.{DcRefine}
use Rattle.jpg_prog_read.specs.declared.scan.DcScan.{DcScan}
use Rattle.jpg_prog_read.specs.DcWork.{AreDcSane}
use Rattle.jpg_prog_read.specs.RepresentsDcUnit.{IsDcCodingOf, IsDcRefinementOf}
use Rattle.jpg_prog_read.specs.DcPlaces.{IsDcBand, IsSpot, IsNextInterval}
use Rattle.jpg_prog_read.specs.DcFirstPass.{table_in, HasTable, ReadsBy, FirstReady}
use Rattle.jpg_prog_read.specs.DcRefinement.{TakesOneBit, RefineReady}
use Rattle.jpg_prog_read.proofs.Precisions.{fits_words}
use Rattle.jpg_prog_read.proofs.Slots.{at_set, other_set, all_empty}
use Rattle.jpg_prog_read.specs.DcLookedUp.{AreDcLookedUp}
use Rattle.jpg_prog_read.specs.DcNew.{IsDcHead, HasPartTable, IsFirstHead, IsRefineHead, AreInSet, IsOfScan, dc_scan_of, part_at, AreDcTablesFilled}
use Rattle.jpg_spec.proofs.Places.KnownParts.{part_same}

-- TABLES IN THE SLOTS OF THEIR COMPONENTS

pub none_filled : (own given : TableSet) (parts : List ScanPart) → dc_tables own ≡ no_tables → AreDcTablesFilled given parts 0 own
none_filled own given parts e = record {
  four = ap length e;
  found = λ k table f. absurd (all_empty k table (ap (λ (l : List (Option Table)). in_slot l k) (sym e) ∙ f));
  there = λ j h. absurd (omega (arith, h));
}

pub filled_more : (given : TableSet) (parts : List ScanPart) (n : ℕ) (own new : TableSet) → AreDcTablesFilled given parts n own → (part_at parts n).component < 4 → HasPartTable given (part_at parts n)
    → dc_tables new ≡ set (dc_tables own) (part_at parts n).component (table_in given (part_at parts n).dc) → AreDcTablesFilled given parts (n + 1) new
filled_more given parts n own new f small has e =
    let c = (part_at parts n).component in
    let o = table_in given (part_at parts n).dc in
    let at : (k : ℕ) → table_in new k ≡ in_slot (set (dc_tables own) c o) k = λ k. ap (λ (l : List (Option Table)). in_slot l k) e in
    let here : table_in new c ≡ Some has.table = at c ∙ at_set (dc_tables own) c o (omega (arith, f.four, small)) ∙ has.there in
    let away : (k : ℕ) → (k ≡ c → ⊥) → table_in new k ≡ table_in own k = λ k d. at k ∙ ap slot_value (other_set (dc_tables own) c k o d) in
    record {
      four = ap length e ∙ length-set (dc_tables own) c o ∙ f.four;
      found = λ k x g.
          ⊎_elim
          (λ (s : k ≡ c). (let same : has.table ≡ x = some_once has.table x (sym here ∙ ap (λ (q : ℕ). table_in new q) (sym s) ∙ g) in
          (n, omega arith, sym s, subst (λ (q : Table). o ≡ Some q) same has.there)))
          (λ (d : k ≡ c → ⊥). (let r = f.found k x (sym (away k d) ∙ g) in (r.0, omega (arith, r.1), r.2, r.3)))
          (cases_eq k c);
      there = λ j h.
          ⊎_elim
          (λ (s : (part_at parts j).component ≡ c). (has.table, ap (λ (q : ℕ). table_in new q) s ∙ here))
          (λ (d : (part_at parts j).component ≡ c → ⊥).
          ⊎_elim
          (λ (a : j < n). (let r = f.there j a in (r.0, away (part_at parts j).component d ∙ r.1)))
          (λ (b : n ≤ j). (let q : j ≡ n = omega (arith, b, h) in absurd (d (ap (λ (z : ℕ). (part_at parts z).component) q))))
          (cases_lt j n))
          (cases_eq (part_at parts j).component c);
    }

-- THE PART OF A COMPONENT

component_at_part : (parts : List ScanPart) (j : ℕ) → j < length parts → get_or (map (λ (p : ScanPart). p.component) parts) j 0 ≡ (part_at parts j).component
component_at_part parts j h = get_or-map (λ (p : ScanPart). p.component) parts j (record { component = 0; dc = 0; ac = 0 }) 0 h

part_found : (head : ScanHead) (j k : ℕ) → is_distinct (head_components head) ≡ true → j < length head.parts → (part_at head.parts j).component ≡ k → part_of head k ≡ part_at head.parts j
part_found head j k d h e =
    let ids = head_components head in
    let here : get_or ids j 0 ≡ k = component_at_part head.parts j h ∙ e in
    let x : index_of k ids ≡ j = ap (λ (n : ℕ). index_of n ids) (sym here) ∙ index_at ids j d (omega (arith, h, length-map head.parts (λ (p : ScanPart). p.component))) in
    ap (λ (q : ℕ). slice_index_or head.parts q (record { component = k; dc = 0; ac = 0 })) x ∙ part_same head.parts j _ _ h

-- WHAT THE MACHINES ARE BASED ON

pub scan_sane : (f : Frame) (al : ℕ) → AreDcSane (dc_scan_of f al)
scan_sane f al = let w = fits_words f.precision in record { low = w.low; high = w.high; some = pow_pos al; most = w.dc_cat }

first_test : (f : Frame) (head : ScanHead) → head.ah ≡ 0 → (is_progressive f.process && nat_lt 0 head.ah) ≡ false
first_test f head e = ap (λ (n : ℕ). is_progressive f.process && nat_lt 0 n) e ∙ none (is_progressive f.process)
  where
    none : (b : Bool) → (b && false) ≡ false
    none true = refl
    none false = refl

first_coding : (f : Frame) (head : ScanHead) (given : TableSet) (all : TablesInForce) (j k : ℕ) (table : Table) → IsFirstHead f head given → AreInSet given all → j < length head.parts → (part_at head.parts j).component ≡ k → table_in given (part_at head.parts j).dc ≡ Some table
    → IsDcCodingOf (dc_scan_of f head.al) (symbol_codes table) (scan_coding f all head) k
first_coding f head given all j k table is set lt comp there =
    let h = is.is_head in
    let q : part_of head k ≡ part_at head.parts j = part_found head j k h.distinct lt comp in
    record {
      sound = sound f all head set.valid;
      scale = ap (λ (b : Bool). 2 ^ cond b head.al 0) (sym h.progressive);
      first = first_test f head is.first;
      most = refl;
      low = refl;
      high = refl;
      dc_codes = ap codes_of (set.dc (part_of head k).dc) ∙ ap (λ (x : ScanPart). codes_of (option_map table_of (table_in given x.dc))) q ∙ ap (λ (o : Option Table). codes_of (option_map table_of o)) there;
    }

refine_coding : (f : Frame) (head : ScanHead) (all : TablesInForce) → IsRefineHead f head → IsDcRefinementOf (dc_scan_of f head.al) (scan_coding f all head)
refine_coding f head all is =
    let h = is.is_head in
    record {
      scale = ap (λ (b : Bool). 2 ^ cond b head.al 0) (sym h.progressive);
      refines = ap (λ (b : Bool). b && nat_lt 0 head.ah) h.progressive ∙ lt_yes 0 head.ah is.later;
      low = refl;
      high = refl;
    }

-- THE PLACES

spots : (f : Frame) (ids : List ℕ) → IsFrame f → (p : Place) → IsOneOf f ids p → IsSpot f p
spots f ids frame p o = record { small = omega (arith, o.place.component, frame.count_high); padded = o.place }

places_next : (f : Frame) (head : ScanHead) (all : TablesInForce) (places : List Place) (i : Interval) → IsFrame f → IsDcHead f head → places ≡ units f (head_components head) → IsOfScan f all head i → IsDcBand i.scan → IsNextInterval places 0 i
places_next f head all places i frame is cursor of band =
    let ids = head_components head in
    let there : All (IsSpot f) (units f ids) = All-weaker (IsOneOf f ids) (IsSpot f) (spots f ids frame) (units f ids) (units_in f ids frame is.components) in
    record {
      band = band;
      distinct = subst (λ (l : List Place). AreDistinct l) (sym of.places) (units_distinct f ids is.distinct);
      sized = of.sized;
      left = cursor ∙ sym of.places;
      none = refl;
      spots = subst (λ (g : Frame). All (IsSpot g) places) (sym of.frame) (subst (λ (l : List Place). All (IsSpot f) l) (sym cursor) there);
    }

tables_there : (f : Frame) (head : ScanHead) (given own : TableSet) → IsFrame f → IsDcHead f head → AreDcTablesFilled given head.parts (length head.parts) own → All (HasTable own) (units f (head_components head))
tables_there f head given own frame is filled =
    let ids = head_components head in
    let n : length ids ≡ length head.parts = length-map head.parts (λ (p : ScanPart). p.component) in
    All-weaker (IsOneOf f ids) (HasTable own)
    (λ p o. (let t = filled.there o.index (omega (arith, o.there, n)) in
    let e : (part_at head.parts o.index).component ≡ p.component = sym (component_at_part head.parts o.index (omega (arith, o.there, n))) ∙ o.same in
    record { table = t.0; there = ap (λ (q : ℕ). table_in own q) (sym e) ∙ t.1 }))
    (units f ids) (units_in f ids frame is.components)

-- THE NEW MACHINES

pub first_ready : (f : Frame) (head : ScanHead) (given : TableSet) (m : DcFirst) → IsFrame f → IsFirstHead f head given → m.scan ≡ dc_scan_of f head.al → AreDcTablesFilled given head.parts (length head.parts) m.tables → AreDcLookedUp m.tables m.looks → m.cursor ≡ units f (head_components head)
    → length m.predictions ≡ 4 → m.left ≡ 0 → (i : Interval) (all : TablesInForce) → AreInSet given all → IsOfScan f all head i → IsDcBand i.scan → FirstReady m i
first_ready f head given m frame is scan filled looks cursor four left i all set of band =
    let reads : ReadsBy (dc_scan_of f head.al) m.tables (scan_coding f all head) = record {
      sane = scan_sane f head.al;
      codes = λ k table e. (let r = filled.found k table e in first_coding f head given all r.0 k table is set r.1 r.2 r.3);
    } in
    record {
      reads = subst (λ (b : DcScan). ReadsBy b m.tables i.scan.coding) (sym scan) (subst (λ (c : Coding). ReadsBy (dc_scan_of f head.al) m.tables c) (sym of.coding) reads);
      looks = looks;
      tables = subst (λ (l : List Place). All (HasTable m.tables) l) (sym cursor) (tables_there f head given m.tables frame is.is_head filled);
      four = four;
      places = subst (λ (n : ℕ). IsNextInterval m.cursor n i) (sym left) (places_next f head all m.cursor i frame is.is_head cursor of band);
    }

pub refine_ready : (f : Frame) (head : ScanHead) (m : DcRefine) → IsFrame f → IsRefineHead f head → m.scan ≡ dc_scan_of f head.al → m.cursor ≡ units f (head_components head) → m.left ≡ 0
    → (i : Interval) (all : TablesInForce) → IsOfScan f all head i → TakesOneBit i → RefineReady m i
refine_ready f head m frame is scan cursor left i all of kind = record {
  sane = subst (λ (b : DcScan). AreDcSane b) (sym scan) (scan_sane f head.al);
  coded = subst (λ (b : DcScan). IsDcRefinementOf b i.scan.coding) (sym scan) (subst (λ (c : Coding). IsDcRefinementOf (dc_scan_of f head.al) c) (sym of.coding) (refine_coding f head all is));
  kind = kind;
  places = subst (λ (n : ℕ). IsNextInterval m.cursor n i) (sym left) (places_next f head all m.cursor i frame is.is_head cursor of kind.band);
}
