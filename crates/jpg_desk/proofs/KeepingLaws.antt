-- A transformed picture and an image don't depend on markers that are left out.
use Rattle.std.proofs.Common.{◌≡◌, Bool, true, false, cond, not, ◌&&◌, ◌==◌, List, map, refl, sym, ap, ◌∙◌, Option, Some, None}
use Rattle.std.specs.Prelude.{filter}
use Rattle.jpg_spec_write.specs.FileText.{file_text, frame_of_meaning}
use Rattle.jpg_spec.specs.InForce.{first_some}
use Rattle.jpg_spec.specs.Jfif.{jfif_of}
use Rattle.jpg_spec.specs.Lists.{below}
use Rattle.jpg_spec.specs.Markers.{Segment}
use Rattle.jpg_spec.specs.Meaning.{Meaning, colour_of, component_of, most_across, most_down}
use Rattle.jpg_spec_move.specs.Cropped.{crop_fault, cropped_by}
use Rattle.jpg_spec_move.specs.declared.area.Area.{Area}
use Rattle.jpg_spec_move.specs.Moved.{Choice, gray_fault, grayed, headed_as, is_gray_or_ycbcr, moved, moved_script_fault, moved_text, picture_fault, trimmed, uncropped}
use Rattle.jpg_spec_write.specs.ScansAsked.{asks_progressive, process_due, script_due}
use Rattle.jpg_spec_write.specs.Headed.{copied, headed_kept}
use Rattle.jpg_spec_image.specs.Pixels.{info, metre, out_fault, out_fault_of, pixels, shown_row, shows_gray}
use Rattle.jpg_spec_write.specs.ScriptFaults.{script_fault}
use Rattle.jpg_spec_move.specs.Transforms.{transformed}
use Rattle.jpg_spec.specs.declared.frame.Colour.{Colour}
use Rattle.jpg_spec.specs.declared.frame.Copying.{Copying}
use Rattle.jpg_spec.specs.declared.frame.Process.{Process}
use Rattle.jpg_spec_image.specs.declared.image.ImageInfo.{ImageInfo}
use Rattle.jpg_spec_image.specs.declared.image.ImageKind.TheVariants as kind
use Rattle.jpg_spec.specs.declared.jfif.Jfif.{Jfif}
use Rattle.jpg_spec_write.specs.declared.picture_fault.PictureFault.{PictureFault}
use Rattle.jpg_spec_write.specs.declared.picture_fault.PictureFault.TheVariants.{GrayColour, GrayFactors}
use Rattle.jpg_spec_move.specs.declared.transform.Transform.{Transform}
use Rattle.jpg_spec_move.specs.declared.transform.Transform.TheVariants.{Keep}
use Rattle.jpg_file.specs.Read.SegmentState.{is_wanted, kept_for}
use Rattle.jpg_file.proofs.Headers.InForce.{colour_same, jfif_same, passed_same}
use Rattle.jpg_transform.proofs.MovedHead.{kept_stays}

-- TRANSFORMED: the markers are only used when the output gets its head

abbrev with_kept : List Segment → Meaning → Meaning
with_kept kept M = record M { kept = kept }

grayed_with : (gray : Bool) (kept : List Segment) (M : Meaning) → grayed gray (with_kept kept M) ≡ with_kept kept (grayed gray M)
grayed_with false kept M = refl
grayed_with true kept M = refl

transformed_with : (t : Transform) (kept : List Segment) (M : Meaning) → transformed t (with_kept kept M) ≡ with_kept kept (transformed t M)
transformed_with Keep kept M = refl
transformed_with other kept M = refl

trimmed_with : (trim : Bool) (t : Transform) (kept : List Segment) (M : Meaning) → trimmed trim t (with_kept kept M) ≡ with_kept kept (trimmed trim t M)
trimmed_with false t kept M = refl
trimmed_with true t kept M = refl

uncropped_with : (choice : Choice) (kept : List Segment) (M : Meaning) → uncropped choice (with_kept kept M) ≡ with_kept kept (uncropped choice M)
uncropped_with choice kept M =
    let t = choice.transform in
    ap (λ (N : Meaning). trimmed choice.trim t (transformed t N)) (grayed_with choice.gray kept M)
    ∙ ap (trimmed choice.trim t) (transformed_with t kept (grayed choice.gray M)) ∙ trimmed_with choice.trim t kept (transformed t (grayed choice.gray M))

cropped_with : (crop : Option Area) (kept : List Segment) (M : Meaning) → cropped_by crop (with_kept kept M) ≡ with_kept kept (cropped_by crop M)
cropped_with None kept M = refl
cropped_with (Some area) kept M = refl

abbrev unheaded : Choice → Meaning → Meaning
unheaded choice M = cropped_by choice.crop (uncropped choice M)

unheaded_with : (choice : Choice) (kept : List Segment) (M : Meaning) → unheaded choice (with_kept kept M) ≡ with_kept kept (unheaded choice M)
unheaded_with choice kept M = ap (cropped_by choice.crop) (uncropped_with choice kept M) ∙ cropped_with choice.crop kept (uncropped choice M)

process_same : (progressive : Bool) (keeping : Copying) (M : Meaning) → process_due progressive (kept_for keeping M) ≡ process_due progressive M
process_same true keeping M = refl
process_same false keeping M = refl

headed_same : (choice : Choice) (M : Meaning) → headed_as choice (kept_for choice.copying M) ≡ headed_as choice M
headed_same choice M =
    let c = choice.copying in
    let wanted = filter (is_wanted c) M.kept in
    let of : Process → List Segment → Meaning = λ p ks. record M { process = p; kept = ks } in
    let p = process_due (asks_progressive choice.scans) M in
    ap (λ (q : Process). of q (headed_kept (colour_of (kept_for c M)) (jfif_of wanted) (copied c wanted))) (process_same (asks_progressive choice.scans) c M)
    ∙ ap (λ (k : Colour). of p (headed_kept k (jfif_of wanted) (copied c wanted))) (colour_same c M)
    ∙ ap (λ (j : Jfif). of p (headed_kept (colour_of M) j (copied c wanted))) (jfif_same c M.kept)
    ∙ ap (λ (ks : List Segment). of p (headed_kept (colour_of M) (jfif_of M.kept) ks)) (passed_same c M.kept)

pub moved_same : (choice : Choice) (M : Meaning) → moved choice (kept_for choice.copying M) ≡ moved choice M
moved_same choice M =
    let c = choice.copying in
    let N = unheaded choice M in
    ap (headed_as choice) (unheaded_with choice (filter (is_wanted c) M.kept) M ∙ ap (λ (ks : List Segment). with_kept (filter (is_wanted c) ks) N) (sym (kept_stays choice M)))
    ∙ headed_same choice N

pub text_same : (choice : Choice) (M : Meaning) → moved_text choice (kept_for choice.copying M) ≡ moved_text choice M
text_same choice M = ap (λ (N : Meaning). file_text choice.huffman N (script_due choice.scans (frame_of_meaning N) (colour_of N)) choice.restart) (moved_same choice M)

gray_same : (gray : Bool) (keeping : Copying) (M : Meaning) → gray_fault gray (kept_for keeping M) ≡ gray_fault gray M
gray_same gray keeping M =
    ap (λ (k : Colour). cond (gray && not (is_gray_or_ycbcr k)) (Some GrayColour) (cond (gray && not ((component_of M 0).h == most_across M && (component_of M 0).v == most_down M)) (Some GrayFactors) None)) (colour_same keeping M)

crop_same : (crop : Option Area) (kept : List Segment) (M : Meaning) → crop_fault crop (with_kept kept M) ≡ crop_fault crop M
crop_same None kept M = refl
crop_same (Some area) kept M = refl

area_same : (choice : Choice) (M : Meaning) → crop_fault choice.crop (uncropped choice (kept_for choice.copying M)) ≡ crop_fault choice.crop (uncropped choice M)
area_same choice M =
    let kept = filter (is_wanted choice.copying) M.kept in
    ap (crop_fault choice.crop) (uncropped_with choice kept M) ∙ crop_same choice.crop kept (uncropped choice M)

pub fault_same : (choice : Choice) (M : Meaning) → picture_fault choice (kept_for choice.copying M) ≡ picture_fault choice M
fault_same choice M =
    let N = kept_for choice.copying M in
    let gray = gray_fault choice.gray M in
    ap (λ (o : Option PictureFault). first_some o (first_some (moved_script_fault choice N) (crop_fault choice.crop (uncropped choice N)))) (gray_same choice.gray choice.copying M)
    ∙ ap (λ (o : Option PictureFault). first_some gray (first_some (moved_script_fault choice N) o)) (area_same choice M)
    ∙ ap (λ (H : Meaning). first_some gray (first_some (script_fault (frame_of_meaning H) (script_due choice.scans (frame_of_meaning H) (colour_of H))) (crop_fault choice.crop (uncropped choice M)))) (moved_same choice M)

-- DISPLAYED

pub out_same : (keeping : Copying) (gray : Bool) (M : Meaning) → out_fault gray (kept_for keeping M) ≡ out_fault gray M
out_same keeping gray M = ap (λ (k : Colour). out_fault_of M.precision k gray (map (λ c. (c.h, c.v)) M.components)) (colour_same keeping M)

pub info_same : (keeping : Copying) (gray : Bool) (M : Meaning) → info (kept_for keeping M) gray ≡ info M gray
info_same keeping gray M =
    let of : Colour → Jfif → ImageInfo = λ k j. record { width = M.width; height = M.height; kind = cond (shows_gray k gray) kind.Gray kind.Rgb; x_metre = metre j j.x; y_metre = metre j j.y } in
    ap (λ (k : Colour). of k (jfif_of (kept_for keeping M).kept)) (colour_same keeping M) ∙ ap (λ (j : Jfif). of (colour_of M) j) (jfif_same keeping M.kept)

pub pixels_same : (keeping : Copying) (gray smooth : Bool) (M : Meaning) → pixels (kept_for keeping M) gray smooth ≡ pixels M gray smooth
pixels_same keeping gray smooth M = ap (λ (k : Colour). map (shown_row k M gray smooth) (below M.height)) (colour_same keeping M)
