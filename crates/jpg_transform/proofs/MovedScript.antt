-- The script of a transformed picture: that of the output's frame and colours, with the same fault.
use Rattle.std.proofs.Common.{◌≡◌, ℕ, Bool, true, false, List, [], ◌∷◌, map, refl, sym, ap, ◌∙◌, Option, Some, None, Result, Ok, Err}
use Rattle.jpg_spec_write.specs.FileText.{frame_of_meaning}
use Rattle.jpg_spec.specs.Geometry.{Frame}
use Rattle.jpg_spec.specs.InForce.{first_some}
use Rattle.jpg_spec.specs.Meaning.{Meaning, colour_of}
use Rattle.jpg_spec_move.specs.Cropped.{crop_fault, cropped_by, cropped_frame_by}
use Rattle.jpg_spec_move.specs.Moved.{Choice, gray_fault, grayed, grayed_frame, moved, moved_frame, moved_script, moved_script_fault, picture_fault, uncropped, uncropped_frame}
use Rattle.jpg_spec.specs.Grids.{Grids, frame_grids, picture_grids}
use Rattle.jpg_spec_write.specs.ScansAsked.{Scans, sequential, standard, given, script_due}
use Rattle.jpg_spec_write.specs.Script.{Entry}
use Rattle.jpg_spec_write.specs.ScriptFaults.{script_fault, standard_script}
use Rattle.jpg_spec_move.specs.Transforms.{transformed, transposes}
use Rattle.jpg_spec.specs.declared.frame.Colour.{Colour}
use Rattle.jpg_spec_write.specs.declared.picture_fault.PictureFault.{PictureFault}
use Rattle.jpg_spec_move.specs.declared.area.Area.{Area}
use Rattle.jpg_spec_move.proofs.CroppedGrids.{crop_grids}
use Rattle.jpg_spec_move.proofs.CroppedScripts.{without_area}
use Rattle.jpg_spec_move.proofs.MovedGrids.{cut_picture, over_grids, trim_grids, turned_frame, turned_picture}
use Rattle.jpg_spec.proofs.Basics.Rows.{map_map}
use Rattle.jpg_spec_write.proofs.ScriptGrids.{same_script_fault, same_sequential, same_standard}
use Rattle.jpg_scans.specs.Judged.{judged}
use Rattle.jpg_markers.specs.declared.writing.head.OutHead.{OutHead}
use Rattle.jpg_file.specs.Read.PictureRead.{picture_meaning}
use Rattle.jpg_file.specs.declared.read.picture.Picture.{Picture}
use Rattle.jpg_transform.specs.Planned.{IsOutHeadOf, moved_colour}
use Rattle.jpg_transform.proofs.HeadColour.{headed_colour}
use Rattle.jpg_transform.proofs.MovedHead.{colour_moves, unheaded, frame_precision_stays, precision_stays}
use Rattle.jpg_transform.proofs.SeenPicture.{seen_grids}

-- THE FIRST of three faults

none_both : (a b : Option PictureFault) → first_some a b ≡ None → (a ≡ None) × (b ≡ None)
none_both None b e = (refl, e)
none_both (Some fault) b e = cc

-- those after the conversion to grayscale
abbrev later_fault : Choice → Meaning → Option PictureFault
later_fault choice M = first_some (moved_script_fault choice M) (crop_fault choice.crop (uncropped choice M))

some_first : (a b : Option PictureFault) (fault : PictureFault) → a ≡ Some fault → first_some a b ≡ Some fault
some_first a b fault e = ap (λ o. first_some o b) e

pub gray_some : (choice : Choice) (M : Meaning) (fault : PictureFault) → gray_fault choice.gray M ≡ Some fault → picture_fault choice M ≡ Some fault
gray_some choice M fault e = some_first (gray_fault choice.gray M) (later_fault choice M) fault e

pub gray_none : (choice : Choice) (M : Meaning) → picture_fault choice M ≡ None → gray_fault choice.gray M ≡ None
gray_none choice M none = (none_both (gray_fault choice.gray M) (later_fault choice M) none).0

pub script_none : (choice : Choice) (M : Meaning) → picture_fault choice M ≡ None → moved_script_fault choice M ≡ None
script_none choice M none = (none_both (moved_script_fault choice M) (crop_fault choice.crop (uncropped choice M)) (none_both (gray_fault choice.gray M) (later_fault choice M) none).1).0

pub area_none : (choice : Choice) (M : Meaning) → picture_fault choice M ≡ None → crop_fault choice.crop (uncropped choice M) ≡ None
area_none choice M none = (none_both (moved_script_fault choice M) (crop_fault choice.crop (uncropped choice M)) (none_both (gray_fault choice.gray M) (later_fault choice M) none).1).1

-- THE GRIDS of the transformed picture are those of the transformed frame

pub meaning_grids : (H : Meaning) → frame_grids (frame_of_meaning H) ≡ picture_grids H
meaning_grids H =
    let of : List ℕ → List ℕ → Grids = λ a d. record { width = H.width; height = H.height; across = a; down = d } in
    ap (λ a. of a (map (λ c. c.v) (frame_of_meaning H).components)) (map_map (λ c. c.h) _ H.components) ∙ ap (λ d. of (map (λ c. c.h) H.components) d) (map_map (λ c. c.v) _ H.components)

gray_grids : (gray : Bool) (f : Frame) (M : Meaning) → picture_grids M ≡ frame_grids f → picture_grids (grayed gray M) ≡ frame_grids (grayed_frame gray f)
gray_grids false f M e = e
gray_grids true f M e = ap (λ (K : Grids). (let G : Grids = record { width = K.width; height = K.height; across = 1 ∷ []; down = 1 ∷ [] } in G)) e

crop_same : (crop : Option Area) (f : Frame) (M : Meaning) → picture_grids M ≡ frame_grids f → picture_grids (cropped_by crop M) ≡ frame_grids (cropped_frame_by crop f)
crop_same None f M e = e
crop_same (Some area) f M e = ap (crop_grids area) e

pub uncropped_grids : (choice : Choice) (f : Frame) (M : Meaning) → picture_grids M ≡ frame_grids f → picture_grids (uncropped choice M) ≡ frame_grids (uncropped_frame choice f)
uncropped_grids choice f M e =
    let t = choice.transform in
    cut_picture choice.trim t (transformed t (grayed choice.gray M))
    ∙ ap (trim_grids choice.trim t) (turned_picture t (grayed choice.gray M) ∙ ap (over_grids (transposes t)) (gray_grids choice.gray f M e) ∙ sym (turned_frame t (grayed_frame choice.gray f)))

moved_grids : (choice : Choice) (f : Frame) (M : Meaning) → picture_grids M ≡ frame_grids f → picture_grids (moved choice M) ≡ frame_grids (moved_frame choice f)
moved_grids choice f M e = crop_same choice.crop (uncropped_frame choice f) (uncropped choice M) (uncropped_grids choice f M e)

out_grids : (p : Picture) (choice : Choice) (out : OutHead) → IsOutHeadOf choice p out → frame_grids out.frame ≡ frame_grids (frame_of_meaning (moved choice (picture_meaning p)))
out_grids p choice out h =
    ap frame_grids h.frame ∙ sym (moved_grids choice p.frame (picture_meaning p) (seen_grids p)) ∙ sym (meaning_grids (moved choice (picture_meaning p)))

-- COLOURS

pub out_colour : (p : Picture) (choice : Choice) (out : OutHead) → IsOutHeadOf choice p out → out.colour ≡ colour_of (unheaded choice (picture_meaning p))
out_colour p choice out h = h.colour ∙ ap (moved_colour choice.gray) p.keeps.colour ∙ sym (colour_moves choice (picture_meaning p))

pub moved_colour_is : (p : Picture) (choice : Choice) (out : OutHead) → IsOutHeadOf choice p out → out.colour ≡ colour_of (moved choice (picture_meaning p))
moved_colour_is p choice out h = out_colour p choice out h ∙ sym (headed_colour choice (unheaded choice (picture_meaning p)))

-- SCRIPTS

pub same_due : (s : Scans) (f g : Frame) (a b : Colour) → frame_grids f ≡ frame_grids g → a ≡ b → script_due s f a ≡ script_due s g b
same_due sequential f g a b e c = same_sequential f g e
same_due standard f g a b e c = ap (standard_script f) c ∙ same_standard f g b e
same_due (given script) f g a b e c = refl

pub script_same : (p : Picture) (choice : Choice) (out : OutHead) → IsOutHeadOf choice p out → script_due choice.scans out.frame out.colour ≡ moved_script choice (picture_meaning p)
script_same p choice out h =
    let H = moved choice (picture_meaning p) in
    same_due choice.scans out.frame (frame_of_meaning H) out.colour (colour_of H) (out_grids p choice out h) (moved_colour_is p choice out h)

pub out_precision : (p : Picture) (choice : Choice) (out : OutHead) → IsOutHeadOf choice p out → out.frame.precision ≡ (moved choice (picture_meaning p)).precision
out_precision p choice out h = ap (λ (g : Frame). g.precision) h.frame ∙ frame_precision_stays choice p.frame ∙ sym (precision_stays choice (picture_meaning p))

pub fault_same : (p : Picture) (choice : Choice) (out : OutHead) (f : Frame) (script : List Entry) → IsOutHeadOf choice p out → f ≡ out.frame → script ≡ script_due choice.scans out.frame out.colour
    → script_fault f script ≡ moved_script_fault choice (picture_meaning p)
fault_same p choice out f script h same e =
    let H = moved choice (picture_meaning p) in
    ap (λ (g : Frame). script_fault g script) same ∙ ap (script_fault out.frame) (e ∙ script_same p choice out h)
    ∙ same_script_fault out.frame (frame_of_meaning H) (moved_script choice (picture_meaning p)) (out_grids p choice out h) (out_precision p choice out h)

-- WHAT THE CHECK ANSWERS

no_fault : (fault : PictureFault) → (let r : Result (Unit {0}) PictureFault = Ok tt in r) ≡ Err fault → ⊥
no_fault fault e = cc

pub judged_ok : (o : Option PictureFault) → Ok tt ≡ judged o → o ≡ None
judged_ok None e = refl
judged_ok (Some fault) e = absurd (no_fault fault e)

err_same : (a b : PictureFault) → (let r : Result (Unit {0}) PictureFault = Err a in r) ≡ Err b → a ≡ b
err_same a b e = cc

pub judged_err : (o : Option PictureFault) (fault : PictureFault) → Err fault ≡ judged o → o ≡ Some fault
judged_err None fault e = absurd (no_fault fault (sym e))
judged_err (Some other) fault e = ap Some (sym (err_same fault other e))

-- of a picture that may be converted to grayscale, and isn't cropped
after_gray : (choice : Choice) (M : Meaning) (fault : Option PictureFault) → choice.crop ≡ None → gray_fault choice.gray M ≡ None → moved_script_fault choice M ≡ fault → picture_fault choice M ≡ fault
after_gray choice M fault whole none e = without_area choice M whole ∙ ap (λ g. first_some g (moved_script_fault choice M)) none ∙ e

pub checked_none : (p : Picture) (choice : Choice) (out : OutHead) (script : List Entry) → choice.crop ≡ None → IsOutHeadOf choice p out → script ≡ script_due choice.scans out.frame out.colour → gray_fault choice.gray (picture_meaning p) ≡ None
    → Ok tt ≡ judged (script_fault out.frame script) → picture_fault choice (picture_meaning p) ≡ None
checked_none p choice out script whole h e none ok =
    after_gray choice (picture_meaning p) None whole none (sym (fault_same p choice out out.frame script h refl e) ∙ judged_ok (script_fault out.frame script) ok)

pub checked_fault : (p : Picture) (choice : Choice) (out : OutHead) (script : List Entry) (fault : PictureFault) → choice.crop ≡ None → IsOutHeadOf choice p out → script ≡ script_due choice.scans out.frame out.colour → gray_fault choice.gray (picture_meaning p) ≡ None
    → Err fault ≡ judged (script_fault out.frame script) → picture_fault choice (picture_meaning p) ≡ Some fault
checked_fault p choice out script fault whole h e none err =
    after_gray choice (picture_meaning p) (Some fault) whole none (sym (fault_same p choice out out.frame script h refl e) ∙ judged_err (script_fault out.frame script) fault err)
