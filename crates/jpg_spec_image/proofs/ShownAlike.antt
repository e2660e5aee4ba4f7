-- A file that can't be displayed has the same reason as the picture that it means.
use Rattle.std.proofs.Common.{◌≡◌, ℕ, Bool, List, ◌∷◌, ◌++◌, length, map, refl, take, drop, sym, ap, ◌∙◌, subst, arith, inl, inr, true, false, None, Some}
use Rattle.std.proofs.lemmas.List.{append_assoc, length-append, take-append-drop}
use Rattle.std.proofs.Math.Seq.{take-append_seam}
use Rattle.jpg_spec_image.specs.Laws.{AreNotShownAlike}
use Rattle.jpg_spec.specs.Geometry.{Frame}
use Rattle.jpg_spec.specs.Meaning.{Meaning, PictureComponent}
use Rattle.jpg_spec.specs.Markers.{Segment, has_scan}
use Rattle.jpg_spec.specs.Items.{Item, scan, segments_of, contents_rule}
use Rattle.jpg_spec.specs.InForce.{frame_of, colours_after, factors_after}
use Rattle.jpg_spec.specs.Scan.{Blocks}
use Rattle.jpg_spec.specs.FileMeaning.{Leads, Means, meaning_of}
use Rattle.jpg_spec.specs.FirstFault.{InsideScan, HaveBegun}
use Rattle.jpg_spec.specs.Early.{EndsAfter, EndsInside, segments_with, IsMeaning}
use Rattle.jpg_spec.specs.Header.{IsHeader}
use Rattle.jpg_spec_image.specs.NotShown.{IsNotShown}
use Rattle.jpg_spec_image.specs.Pixels.{out_fault_of, out_fault}
use Rattle.jpg_spec.specs.declared.fault.FaultAt.{FaultAt}
use Rattle.jpg_spec.specs.declared.fault.Fault.{Fault}
use Rattle.jpg_spec.specs.declared.frame.Limits.{Limits}
use Rattle.jpg_spec.proofs.Headers.OneHeader.{whole_once}
use Rattle.jpg_spec_image.proofs.OneReason.{reason_after}
use Rattle.jpg_spec.proofs.Headers.FileHeader.{HasFirstScan, file_header, first_scan, items_header, no_scan_spelled}
use Rattle.jpg_spec.proofs.Headers.FrameAfter.{leads_pass}
use Rattle.jpg_spec.proofs.Headers.HeaderFirst.{AreOfHeader, scan_passed, with_scan}
use Rattle.jpg_spec.proofs.EndsEarly.EarlyBegun.{begun_behind}
use Rattle.jpg_spec.proofs.Headers.ColoursKept.{same_frame_after, same_colours_after, same_factors_after, picture_colours, picture_factors}

-- a picture can't be displayed because of its file's segments
picture_reason : (limits : Limits) (gray : Bool) (before : List Segment) (blocks : Blocks) → out_fault gray (meaning_of (frame_of limits before) before blocks) ≡ reason_after limits gray before
picture_reason limits gray before blocks =
    let M = meaning_of (frame_of limits before) before blocks in
    ap (λ c. out_fault_of M.precision c gray (map (λ (c : PictureComponent). (c.h, c.v)) M.components)) (picture_colours limits before blocks)
    ∙ ap (out_fault_of M.precision (colours_after limits before) gray) (picture_factors limits before blocks)

-- and because of those before the first scan header
first_reason : (limits : Limits) (gray : Bool) (items : List Item) (blocks : Blocks) (bytes : List ℕ) → Leads limits items blocks → (w : HasFirstScan limits items bytes)
    → reason_after limits gray (segments_of items) ≡ reason_after limits gray (segments_of w.before)
first_reason limits gray items blocks bytes l w =
    let leads : Leads limits (w.more ++ scan w.contents w.intervals ∷ w.before) blocks = subst (λ (z : List Item). Leads limits z blocks) w.joined l in
    let all = segments_of (w.more ++ scan w.contents w.intervals ∷ w.before) in
    let first = frame_of limits (segments_of w.before) in
    ap (λ (z : List Item). reason_after limits gray (segments_of z)) w.joined
    ∙ ap (λ (f : Frame). out_fault_of f.precision (colours_after limits all) gray (factors_after limits all)) (same_frame_after limits w.more w.contents w.intervals w.before blocks leads)
    ∙ ap (λ c. out_fault_of first.precision c gray (factors_after limits all)) (same_colours_after limits w.more w.contents w.intervals w.before blocks leads)
    ∙ ap (out_fault_of first.precision (colours_after limits (segments_of w.before)) gray) (same_factors_after limits w.more w.contents w.intervals w.before blocks leads)

-- BYTES THAT BEGIN with this header, and mean a picture that can't be displayed because of it
alike_by : (limits : Limits) (gray : Bool) (bytes : List ℕ) (M : Meaning) (before : List Segment) (contents head rest : List ℕ) → bytes ≡ head ++ rest → IsHeader limits head before contents → contents_rule limits before 0xda contents ≡ None
    → out_fault gray M ≡ reason_after limits gray before → AreNotShownAlike limits gray bytes M
alike_by limits gray bytes M before contents head rest cut header unbroken reason = record {
  same = λ f s. (let one = whole_once limits head (take f.at bytes) rest (drop f.at bytes) before s.before contents s.contents header s.header (sym cut ∙ sym (take-append-drop f.at bytes)) in
      reason ∙ ap (reason_after limits gray) one.1 ∙ s.fault);
  told = λ fault e. (let f : FaultAt = record { fault = fault; at = length head } in (f, told fault e, refl));
}
  where
    told : (fault : Fault) → out_fault gray M ≡ Some fault → (let f : FaultAt = record { fault = fault; at = length head } in IsNotShown limits gray bytes f)
    told fault e = record {
      before = before;
      contents = contents;
      within = (let l = ap length cut in omega (arith, l, length-append head rest));
      header = subst (λ l. IsHeader limits l before contents) (sym (ap (take (length head)) cut ∙ take-append_seam head rest)) header;
      unbroken = unbroken;
      fault = sym reason ∙ e;
    }

-- after these items, with bytes after them
items_alike : (limits : Limits) (gray : Bool) (bytes : List ℕ) (M : Meaning) (items : List Item) (blocks : Blocks) (front rest : List ℕ) → bytes ≡ front ++ rest → Leads limits items blocks → HasFirstScan limits items front
    → out_fault gray M ≡ reason_after limits gray (segments_of items) → AreNotShownAlike limits gray bytes M
items_alike limits gray bytes M items blocks front rest cut leads first reason =
    alike_by limits gray bytes M (segments_of first.before) first.contents first.head (first.rest ++ rest) (cut ∙ ap (λ l. l ++ rest) first.cut ∙ append_assoc first.head first.rest rest) first.header first.unbroken
    (reason ∙ first_reason limits gray items blocks front leads first)

whole_alike : (limits : Limits) (gray : Bool) (bytes : List ℕ) (M : Meaning) → Means limits bytes M → AreNotShownAlike limits gray bytes M
whole_alike limits gray bytes M w =
    let first = file_header limits bytes M w in
    items_alike limits gray bytes M w.items w.blocks w.front (w.marker ++ w.rest) (w.cut ∙ append_assoc w.front w.marker w.rest) w.leads first
    (ap (out_fault gray) w.meaning ∙ picture_reason limits gray (segments_of w.items) w.blocks)

after_alike : (limits : Limits) (gray : Bool) (bytes : List ℕ) (M : Meaning) → HaveBegun limits bytes → EndsAfter limits bytes M → AreNotShownAlike limits gray bytes M
after_alike limits gray bytes M begun p =
    let b = p.behind in
    let named = begun_behind limits bytes p.items p.tail b p.part begun in
    let first = items_header limits p.items b.blocks b.front b.spelled b.leads named.found named.complete in
    items_alike limits gray bytes M p.items b.blocks b.front p.tail b.cut b.leads first (ap (out_fault gray) p.meaning ∙ picture_reason limits gray (segments_of p.items) b.blocks)

-- inside a scan: it is the first, or after the first
inside_alike : (limits : Limits) (gray : Bool) (bytes : List ℕ) (M : Meaning) → EndsInside limits bytes M → AreNotShownAlike limits gray bytes M
inside_alike limits gray bytes M p = by (has_scan (segments_of i.items)) refl
  where
    i : InsideScan limits bytes p.tail
    i = p.at

    reason : out_fault gray M ≡ reason_after limits gray (segments_of i.items)
    reason = ap (out_fault gray) p.meaning ∙ picture_reason limits gray (segments_with i.items i.contents) p.after

    by : (b : Bool) → has_scan (segments_of i.items) ≡ b → AreNotShownAlike limits gray bytes M
    by true some =
        items_alike limits gray bytes M i.items i.blocks i.front (i.head ++ (i.text ++ p.tail)) (i.cut ∙ append_assoc (i.front ++ i.head) i.text p.tail ∙ append_assoc i.front i.head (i.text ++ p.tail)) i.leads
        (first_scan limits i.items i.blocks i.front i.spelled i.leads some) reason
    by false none =
        let are : AreOfHeader limits (segments_of i.items) i.front = (no_scan_spelled i.items i.front i.spelled none, leads_pass limits i.items i.blocks i.leads, none) in
        let told = scan_passed limits (segments_of i.items) i.contents i.allowed.1 in
        alike_by limits gray bytes M (segments_of i.items) i.contents (i.front ++ i.head) (i.text ++ p.tail) (i.cut ∙ append_assoc (i.front ++ i.head) i.text p.tail)
        (with_scan limits (segments_of i.items) i.front i.head i.contents are i.header i.allowed.0 told) i.allowed.1 reason

-- THE LAW
pub shown_alike : (limits : Limits) (gray : Bool) (bytes : List ℕ) (M : Meaning) → IsMeaning limits bytes M → AreNotShownAlike limits gray bytes M
shown_alike limits gray bytes M (inl w) = whole_alike limits gray bytes M w
shown_alike limits gray bytes M (inr (e, inl p)) = after_alike limits gray bytes M e.begun p
shown_alike limits gray bytes M (inr (e, inr p)) = inside_alike limits gray bytes M p
