-- A header of a file whose scan header breaks no rule: its scan begins, so that its bytes have no fault.
use Rattle.std.proofs.Common.{◌≡◌, ℕ, zero, suc, ◌+◌, ◌*◌, ◌≤◌, ◌==◌, false, not, List, [], ◌∷◌, length, take, drop, refl, sym, ap, subst, arith, None, Ok}
use Rattle.std.specs.Prelude.{◌||◌, ◌&&◌, nat_lt, unwrap_or}
use Rattle.std.proofs.lemmas.List.{length-take}
use Rattle.jpg_spec.specs.Lists.{is_distinct}
use Rattle.jpg_spec.specs.Geometry.{Frame, factor_sum, is_progressive}
use Rattle.jpg_spec.specs.Segments.{ScanHead, head_components}
use Rattle.jpg_spec.specs.ScanContents.{parsed_parts, parsed_ids, are_among, are_parameters, parsed_scan_header, checked_head, scan_header}
use Rattle.jpg_spec.specs.Markers.{Segment, code_fault}
use Rattle.jpg_spec.specs.InForce.{no_frame, frame_of, head_in}
use Rattle.jpg_spec.specs.Items.{segments_of, contents_rule}
use Rattle.jpg_spec.specs.FileMeaning.{scan_after}
use Rattle.jpg_spec.specs.FirstFault.{AfterItems}
use Rattle.jpg_spec.specs.UnfinishedFile.{UnfinishedFile}
use Rattle.jpg_spec.specs.Header.{IsHeader}
use Rattle.jpg_spec.specs.declared.fault.Fault.TheVariants.{BadLength, ScanComponent, McuTooLarge, ScanParameters}
use Rattle.jpg_spec.specs.declared.frame.Limits.{Limits}
use Rattle.jpg_spec.proofs.Basics.Common.{neither, same_of, same_told, refused}
use Rattle.jpg_spec.proofs.Headers.FrameFound.{IsChecked, frame_found, framed, all_factors}
use Rattle.jpg_spec.proofs.Headers.HeadersOnce.{items_of, segments_of_items}
use Rattle.jpg_spec.proofs.Bits.FirstPasses.{head_at}
use Rattle.jpg_spec.proofs.Headers.HeaderShown.{after_header}
use Rattle.jpg_spec.proofs.Places.PlacesSome.{HasPlaces, AreSome, head_places_some, chunks_some}
use Rattle.jpg_spec.proofs.Files.ScanSteps.{first_place, scan_begins}
use Rattle.jpg_spec.proofs.Files.ScanAnswers.{begun_stands}
use Rattle.jpg_spec.proofs.Segments.TablesInForce.{affirmed}

-- A SCAN HEADER that has no fault names a component

parts_some : (f : Frame) (bytes : List ℕ) → 2 ≤ length bytes → 1 ≤ length (parsed_parts f bytes)
parts_some f [] long = absurd (omega (arith, long))
parts_some f (id ∷ []) long = absurd (omega (arith, long))
parts_some f (id ∷ slots ∷ bytes) long = omega arith

pub not_none : (count : ℕ) → (count == 0) ≡ false → 1 ≤ count
not_none zero e = cc
not_none (suc count) e = omega arith

checked_some : (f : Frame) (count : ℕ) (ids : List ℕ) (made head : ScanHead) → checked_head f count ids made ≡ Ok head → (1 ≤ count) × (made ≡ head)
unfolding checked_head
checked_some f count ids made head told =
    let e1 = refused ScanComponent (count == 0 || nat_lt 4 count) _ head told in
    let e2 = refused ScanComponent (not (are_among f ids)) _ head e1.1 in
    let e3 = refused ScanComponent (not (is_distinct ids)) _ head e2.1 in
    let e4 = refused McuTooLarge (nat_lt 1 count && nat_lt 10 (factor_sum f (head_components made))) _ head e3.1 in
    let e5 = refused ScanParameters (is_progressive f.process && not (are_parameters f count made)) _ head e4.1 in
    (not_none count (neither (count == 0) (nat_lt 4 count) e1.0).0, same_told made head e5.1)

head_some : (f : Frame) (contents : List ℕ) (head : ScanHead) → scan_header f contents ≡ Ok head → 1 ≤ length head.parts
head_some f [] head told = cc
head_some f (count ∷ bytes) head told =
    let made = parsed_scan_header f (take (2 * count) bytes) (drop (2 * count) bytes) in
    let e = refused BadLength (not (length bytes == 2 * count + 3)) (checked_head f count (parsed_ids (take (2 * count) bytes)) made) head told in
    let long : length bytes ≡ 2 * count + 3 = same_of (length bytes) (2 * count + 3) (affirmed (length bytes == 2 * count + 3) e.0) in
    let k = checked_some f count (parsed_ids (take (2 * count) bytes)) made head e.1 in
    let some = k.0 in
    subst (λ (h : ScanHead). 1 ≤ length h.parts) k.1 (parts_some f (take (2 * count) bytes) (omega (arith, long, some, length-take (2 * count) bytes)))

-- A FRAME that passed its checks gives places

pub checked_places : (limits : Limits) (f : Frame) → IsChecked limits f → HasPlaces f
checked_places limits f is =
    let sides = neither (f.width == 0) (f.height == 0) is.some in
    record {
      width = not_none f.width sides.0;
      height = not_none f.height sides.1;
      count = not_none (length f.components) (neither (length f.components == 0) (nat_lt 4 (length f.components)) is.count).0;
      factors = all_factors f.components is.factors;
    }

-- THE SCAN that a header begins has places

pub first_some_places : (limits : Limits) (bytes : List ℕ) (before : List Segment) (contents : List ℕ) → IsHeader limits bytes before contents → contents_rule limits before 0xda contents ≡ None → 1 ≤ length (scan_after limits before contents).places
first_some_places limits bytes before contents is unbroken =
    let found = frame_found limits before is.passed.2 (framed before is.passed.0) in
    let same : frame_of limits before ≡ found.0 = ap (λ o. unwrap_or o no_frame) found.1 in
    let places = subst HasPlaces (sym same) (checked_places limits found.0 found.2) in
    let head = head_at limits before contents unbroken in
    let some = subst (λ (h : ScanHead). 1 ≤ length h.parts) (sym head.is_head) (head_some (frame_of limits before) contents head.head head.told) in
    head_places_some (frame_of limits before) (head_in (frame_of limits before) contents) places some

-- THE LAW
pub header_stands : (limits : Limits) (bytes : List ℕ) (before : List Segment) (contents : List ℕ) → IsHeader limits bytes before contents → contents_rule limits before 0xda contents ≡ None → UnfinishedFile limits bytes
header_stands limits bytes before contents is unbroken =
    let items = items_of before in
    let same = sym (segments_of_items before) in
    let s = is.spelled in
    let w : AfterItems limits bytes items s.1 = after_header limits bytes before s.1 (record { front = s.0; cut = s.2; spelled = s.3; passed = is.passed.2 }, is.first) in
    let scan = scan_after limits (segments_of items) contents in
    let cut = chunks_some scan.interval scan.places (subst (λ xs. 1 ≤ length (scan_after limits xs contents).places) same (first_some_places limits bytes before contents is unbroken)) in
    let begun = scan_begins limits bytes items contents s.1 cut.0 cut.1 w s.4 (subst (λ xs. code_fault xs 0xda ≡ None) same is.passed.0) (subst (λ xs. contents_rule limits xs 0xda contents ≡ None) same unbroken) cut.2 in
    begun_stands limits bytes (first_place items w.blocks contents cut.0 cut.1) begun refl (subst AreSome cut.2 cut.3).0
