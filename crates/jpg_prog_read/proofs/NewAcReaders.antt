-- The machine of a progressive AC scan before its first unit: its coding, and the places of its component.
use Rattle.std.proofs.Common.{◌≡◌, ℕ, ◌+◌, ◌^◌, ◌<◌, ◌≤◌, Bool, true, false, cond, List, [], ◌∷◌, ◌++◌, length, map, get_or, refl, sym, ap, ◌∙◌, subst, arith, ◌==◌, ◌&&◌, nat_abs}
use Rattle.std.specs.Prelude.{slice_index_or, nat_lt, nat_le, ◌||◌, Option, Some}
use Rattle.std.specs.Option.{option_map}
use Rattle.std.specs.List.{All}
use Rattle.std.proofs.lemmas.List.Elements.{All-weaker}
use Rattle.jpg_spec.specs.Lists.{is_distinct, index_of}
use Rattle.jpg_spec.specs.Codes.{Code}
use Rattle.jpg_spec.specs.Elements.{Coding}
use Rattle.jpg_spec.specs.Geometry.{Frame, bounds, is_progressive, units}
use Rattle.jpg_spec.specs.FrameHeader.{IsFrame}
use Rattle.jpg_spec.specs.PictureInWork.{AreDistinct}
use Rattle.jpg_spec.specs.Segments.{ScanHead, head_components}
use Rattle.jpg_spec.specs.Scan.{TablesInForce, codes_of, part_of, scan_coding}
use Rattle.jpg_spec.specs.ScanContents.{is_band, are_bits}
use Rattle.jpg_spec.specs.declared.frame.Place.{Place}
use Rattle.jpg_spec.specs.declared.frame.ScanPart.{ScanPart}
use Rattle.jpg_spec.proofs.Basics.Common.{both, le_of, same_of, not_same, same_itself}
use Rattle.jpg_spec.proofs.Places.PlacesDistinct.{units_distinct}
use Rattle.jpg_spec.proofs.Bits.Sound.{sound}
use Rattle.jpg_base.proofs.ScanPlaces.{IsOneOf, units_in}
use Rattle.jpg_huff.specs.declared.set.TableSet.{TableSet}
use Rattle.jpg_huff.specs.declared.table.Table.{Table}
use Rattle.jpg_huff.specs.Sets.{ac_tables, in_slot}
use Rattle.jpg_huff.specs.Tables.{table_of, symbol_codes}
use Rattle.jpg_coefs.specs.Machine.{Interval}
use Rattle.jpg_prog_read.specs.declared.ac_reader.AcReader.{AcReader}
use Rattle.jpg_prog_read.specs.declared.scan.BandScan.{BandScan}
use Rattle.jpg_prog_read.specs.ReaderSteps.{IsSaneBand}
use Rattle.jpg_prog_read.specs.Stands.{IsCodingOf}
use Rattle.jpg_prog_read.specs.RepresentsAcScan.{IsReadable, AcReady}
use Rattle.jpg_prog_read.proofs.Precisions.{fits_words}
use Rattle.jpg_prog_read.specs.NewAcReader.{IsAcScan, AreAcTables, IsOfAcScan, IsBandOf}

-- the conditions on the parameters of the header of a scan that isn't a DC scan
pub record IsAcBand (f : Frame) (head : ScanHead) : Type 0 where
  pub one : length head.parts ≡ 1
  pub rise : head.ss ≤ head.se
  pub most : head.se ≤ 63
  pub low : head.al ≤ (bounds f).al

pub ac_band : (f : Frame) (head : ScanHead) (set : TableSet) → IsAcScan f head set → IsAcBand f head
ac_band f head set is =
    let n = length head.parts in
    let p = both (is_band n head) (are_bits f head) is.parameters in
    let no : (head.ss == 0) ≡ false = not_same head.ss 0 (λ e. omega (arith, e, is.some)) in
    let band : (n == 1 && (nat_le head.ss head.se && nat_le head.se 63)) ≡ true = sym (ap (λ (b : Bool). cond b (head.se == 0) (n == 1 && (nat_le head.ss head.se && nat_le head.se 63))) no) ∙ p.0 in
    let q = both (n == 1) (nat_le head.ss head.se && nat_le head.se 63) band in
    let r = both (nat_le head.ss head.se) (nat_le head.se 63) q.1 in
    let s = both (head.ah == 0 || head.ah == head.al + 1) (nat_le head.al (bounds f).al) p.1 in
    record { one = same_of n 1 q.0; rise = le_of head.ss head.se r.0; most = le_of head.se 63 r.1; low = le_of head.al (bounds f).al s.1 }

pub one_part : (parts : List ScanPart) (d : ScanPart) → length parts ≡ 1 → parts ≡ slice_index_or parts 0 d ∷ []
one_part (p ∷ []) d e = refl
one_part parts d e = absurd (omega (arith, e))

few : (b : Bool) (f : Frame) → cond b 1 (bounds f).ac_cat ≤ 15
few true f = omega arith
few false f = let h = (fits_words f.precision).ac_cat in omega (arith, h)

band_sane : (f : Frame) (head : ScanHead) (b : BandScan) → 1 ≤ head.ss → IsAcBand f head → IsBandOf f head b → IsSaneBand b
band_sane f head b some is of = record {
  some = omega (arith, of.start, some);
  begun = omega (arith, of.start, of.end, is.rise);
  inside = omega (arith, of.end, is.most);
  most = subst (λ n. n ≤ 15) (sym of.categories) (few (nat_lt 0 head.ah) f);
  magnitude = (let h = (fits_words f.precision).magnitude in omega (arith, h, ap nat_abs of.magnitude));
}

part_found : (head : ScanHead) (p : ScanPart) → head.parts ≡ p ∷ [] → part_of head p.component ≡ p
part_found head p e =
    let d : ScanPart = record { component = p.component; dc = 0; ac = 0 } in
    ap (λ (l : List ScanPart). slice_index_or l (index_of p.component (map (λ (q : ScanPart). q.component) l)) d) e
    ∙ ap (λ (b : Bool). slice_index_or (p ∷ []) (cond b 0 (1 + index_of p.component [])) d) (same_itself p.component)

-- the coding of the scan, for its component
coding_is : (f : Frame) (head : ScanHead) (set : TableSet) (tables : TablesInForce) (b : BandScan) (t : Table) (codes : List Code) (p : ScanPart) → IsAcScan f head set → AreAcTables set tables → IsBandOf f head b → head.parts ≡ p ∷ []
    → in_slot (ac_tables set) p.ac ≡ Some t → codes ≡ symbol_codes t → IsCodingOf b codes (scan_coding f tables head) p.component
coding_is f head set tables b t codes p is force of e there same =
    let g : is_progressive f.process ≡ true = is.progressive in
    record {
      sound = sound f tables head force.valid;
      scale = of.scale ∙ ap (λ n. 2 ^ n) (sym (ap (λ (x : Bool). cond x head.al 0) g));
      categories = ap (λ (x : Bool). cond (x && nat_lt 0 head.ah) 1 (bounds f).ac_cat) g ∙ sym of.categories;
      refines = ap (λ (x : Bool). x && nat_lt 0 head.ah) g ∙ sym of.refines;
      runs = ap (λ (x : Bool). cond x 14 0) g;
      bounds = sym of.magnitude;
      ac_codes = ap (λ (q : ScanPart). codes_of (tables 1 q.ac)) (part_found head p e) ∙ ap codes_of (force.same p.ac) ∙ ap (λ (o : Option Table). codes_of (option_map table_of o)) there ∙ sym same;
    }

one_distinct : (ids : List ℕ) (k : ℕ) → ids ≡ k ∷ [] → is_distinct ids ≡ true
one_distinct ids k e = ap is_distinct e

one_index : (ids : List ℕ) (k j : ℕ) → ids ≡ k ∷ [] → j < length ids → get_or ids j 0 ≡ k
one_index ids k j e h = let z : j ≡ 0 = omega (arith, h, ap length e) in ap (λ (l : List ℕ). get_or l j 0) e ∙ ap (λ n. get_or (k ∷ []) n 0) z

pub new_ready : (f : Frame) (head : ScanHead) (set : TableSet) (m : AcReader) (t : Table) (p : ScanPart) → IsFrame f → IsAcScan f head set → IsBandOf f head m.scan → head.parts ≡ p ∷ [] → in_slot (ac_tables set) p.ac ≡ Some t
    → m.codes ≡ symbol_codes t → m.cursor ≡ units f (head_components head) → m.left ≡ 0 → (i : Interval) → IsOfAcScan f head set i → AcReady m i
new_ready f head set m t p frame is band e there same cursor none i of =
    let ids = head_components head in
    let b = m.scan in
    let codes = m.codes in
    let one : ids ≡ p.component ∷ [] = ap (map (λ (q : ScanPart). q.component)) e in
    let coding = coding_is f head set of.tables b t m.codes p is of.in_force band e there same in
    let all : All (IsReadable b codes f (scan_coding f of.tables head)) (units f ids) =
    All-weaker (IsOneOf f ids) (IsReadable b codes f (scan_coding f of.tables head))
    (λ q o. record { padded = o.place; coding = subst (λ k. IsCodingOf b codes (scan_coding f of.tables head) k) (sym (one_index ids p.component o.index one o.there) ∙ o.same) coding })
    (units f ids) (units_in f ids frame is.components) in
    let C : Coding → Type 0 = λ c. All (IsReadable b codes i.before.frame c) (i.places ++ i.later) in
    let F : Frame → Type 0 = λ g. All (IsReadable b codes g (scan_coding f of.tables head)) (i.places ++ i.later) in
    let P : List Place → Type 0 = λ l. All (IsReadable b codes f (scan_coding f of.tables head)) l in
    record {
      reads = record { sane = band_sane f head b is.some (ac_band f head set is) band; start = band.start ∙ sym of.ss; end = band.end ∙ ap (λ n. n + 1) (sym of.se) };
      kind = of.kind;
      distinct = subst (λ (l : List Place). AreDistinct l) (sym of.places) (units_distinct f ids (one_distinct ids p.component one));
      sized = of.sized;
      cursor = cursor ∙ sym of.places;
      left = none;
      spots = subst C (sym of.coding) (subst F (sym of.frame) (subst P (sym of.places) all));
    }
