-- The picture so far is displayed as its file is, and with all its rows it is the image of the file.
use Rattle.std.proofs.Common.{◌≡◌, ℕ, Bool, List, ◌∷◌, length, map, refl, take, drop, sym, ap, ◌∙◌, subst, arith, Some}
use Rattle.std.specs.Prelude.{reverse}
use Rattle.std.proofs.Math.Seq.{take-append_seam}
use Rattle.std.proofs.lemmas.List.{length-append, take-append-drop}
use Rattle.jpg_spec.specs.Geometry.{Frame}
use Rattle.jpg_spec.specs.FrameHeader.{identifiers}
use Rattle.jpg_spec.specs.Scan.{Blocks}
use Rattle.jpg_spec.specs.Jfif.{adobe_transform, jfif_of}
use Rattle.jpg_spec.specs.Colours.{colours_of}
use Rattle.jpg_spec.specs.Meaning.{PictureComponent, colour_of}
use Rattle.jpg_spec.specs.Markers.{Segment, kept_after}
use Rattle.jpg_spec.specs.InForce.{frame_of, colours_after, factors_after}
use Rattle.jpg_spec.specs.Header.{IsHeader}
use Rattle.jpg_spec_image.specs.NotShown.{IsNotShown}
use Rattle.jpg_spec_image.specs.Pixels.{out_fault, out_fault_of}
use Rattle.jpg_spec_image.specs.Laws.{AreNotShownAlike}
use Rattle.jpg_spec.specs.RowsParsed.{BeginsScanOfAll, picture_so_far}
use Rattle.jpg_spec.specs.declared.fault.FaultAt.{FaultAt}
use Rattle.jpg_spec.specs.declared.fault.Fault.{Fault}
use Rattle.jpg_spec.specs.declared.frame.Component.{Component}
use Rattle.jpg_spec.specs.declared.frame.Limits.{Limits}
use Rattle.jpg_spec.proofs.Headers.ColoursKept.{picture_colours, picture_factors}
use Rattle.jpg_spec.proofs.Headers.FrameFound.{framed}
use Rattle.jpg_spec.proofs.Headers.OneHeader.{whole_once}
use Rattle.jpg_spec_image.proofs.OneReason.{reason_after}
use Rattle.jpg_spec.proofs.Places.Untouched.{frame_stays}

-- WHAT THE SCAN HEADER CHANGES: neither frame nor kept markers

header_stays : (limits : Limits) (bytes : List ℕ) (before : List Segment) (contents : List ℕ) → BeginsScanOfAll limits bytes before contents → frame_of limits ((0xda, contents) ∷ before) ≡ frame_of limits before
header_stays limits bytes before contents w = frame_stays limits before 0xda contents (framed before (w.header).passed.0) (w.header).passed.0

pub colours_stay : (limits : Limits) (bytes : List ℕ) (before : List Segment) (contents : List ℕ) → BeginsScanOfAll limits bytes before contents → colours_after limits ((0xda, contents) ∷ before) ≡ colours_after limits before
colours_stay limits bytes before contents w =
    let kept = reverse (kept_after before) in
    ap (λ (f : Frame). colours_of (length f.components) (identifiers f.components) (jfif_of kept).seen (adobe_transform kept)) (header_stays limits bytes before contents w)

factors_stay : (limits : Limits) (bytes : List ℕ) (before : List Segment) (contents : List ℕ) → BeginsScanOfAll limits bytes before contents → factors_after limits ((0xda, contents) ∷ before) ≡ factors_after limits before
factors_stay limits bytes before contents w = ap (λ (f : Frame). map (λ (c : Component). (c.h, c.v)) f.components) (header_stays limits bytes before contents w)

so_far_reason : (limits : Limits) (gray : Bool) (bytes : List ℕ) (before : List Segment) (contents : List ℕ) (blocks : Blocks) → BeginsScanOfAll limits bytes before contents
    → out_fault gray (picture_so_far limits before contents blocks) ≡ reason_after limits gray before
so_far_reason limits gray bytes before contents blocks w =
    let after = (0xda, contents) ∷ before in
    let M = picture_so_far limits before contents blocks in
    let f = frame_of limits before in
    ap (λ (g : Frame). out_fault_of g.precision (colour_of M) gray (map (λ (c : PictureComponent). (c.h, c.v)) M.components)) (header_stays limits bytes before contents w)
    ∙ ap (λ c. out_fault_of f.precision c gray (map (λ (c : PictureComponent). (c.h, c.v)) M.components)) (picture_colours limits after blocks ∙ colours_stay limits bytes before contents w)
    ∙ ap (out_fault_of f.precision (colours_after limits before) gray) (picture_factors limits after blocks ∙ factors_stay limits bytes before contents w)

-- THE LAW: it can't be displayed for the reason that its file can't
pub so_far_alike : (limits : Limits) (gray : Bool) (bytes : List ℕ) (before : List Segment) (contents : List ℕ) (blocks : Blocks) → BeginsScanOfAll limits bytes before contents
    → AreNotShownAlike limits gray bytes (picture_so_far limits before contents blocks)
so_far_alike limits gray bytes before contents blocks w = record {
  same = λ f s. (let one = whole_once limits w.front (take f.at bytes) w.rest (drop f.at bytes) before s.before contents s.contents w.header s.header (sym w.cut ∙ sym (take-append-drop f.at bytes)) in
      reason ∙ ap (reason_after limits gray) one.1 ∙ s.fault);
  told = λ fault e. (let f : FaultAt = record { fault = fault; at = length w.front } in (f, told fault e, refl));
}
  where
    reason : out_fault gray (picture_so_far limits before contents blocks) ≡ reason_after limits gray before
    reason = so_far_reason limits gray bytes before contents blocks w

    told : (fault : Fault) → out_fault gray (picture_so_far limits before contents blocks) ≡ Some fault → (let f : FaultAt = record { fault = fault; at = length w.front } in IsNotShown limits gray bytes f)
    told fault e = record {
      before = before;
      contents = contents;
      within = (let l = ap length w.cut in omega (arith, l, length-append w.front w.rest));
      header = subst (λ l. IsHeader limits l before contents) (sym (ap (take (length w.front)) w.cut ∙ take-append_seam w.front w.rest)) w.header;
      unbroken = w.unbroken;
      fault = sym reason ∙ e;
    }
