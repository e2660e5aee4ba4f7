-- The area that a picture is cropped to changes no script and no fault of one, since these don't depend on the sides.
use Rattle.std.proofs.Common.{◌≡◌, List, [], length, refl, sym, ap, ◌∙◌, ◌==◌, Option, None, Some}
use Rattle.jpg_spec.specs.Geometry.{Frame, factor_sum}
use Rattle.jpg_spec.specs.InForce.{first_some}
use Rattle.jpg_spec.specs.Meaning.{Meaning, colour_of}
use Rattle.jpg_spec_write.specs.FileText.{frame_of_meaning}
use Rattle.jpg_spec_write.specs.ScansAsked.{Scans, sequential, standard, given, script_due}
use Rattle.jpg_spec_write.specs.Script.{Entry, is_progressive_script, sequential_script}
use Rattle.jpg_spec_write.specs.ScriptFaults.{any_colours_script, script_fault, three_colours_script}
use Rattle.jpg_spec_move.specs.Cropped.{crop_fault, cropped, cropped_by}
use Rattle.jpg_spec_move.specs.Laws.{whole}
use Rattle.jpg_spec_move.specs.Moved.{Choice, gray_fault, headed_as, moved_script_fault, picture_fault, uncropped}
use Rattle.jpg_spec_move.specs.declared.area.Area.{Area}
use Rattle.jpg_spec.specs.declared.frame.Colour.{Colour}
use Rattle.jpg_spec.specs.declared.frame.Colour.TheVariants.{YCbCr}
use Rattle.jpg_spec.specs.declared.frame.Component.{Component}
use Rattle.jpg_spec_write.specs.declared.picture_fault.PictureFault.{PictureFault}
use Rattle.jpg_spec_write.proofs.StandardScripts.{after_by, same_fault}

-- FRAMES of the same components

abbrev with_components : Frame → List Component → Frame
with_components f cs = record f { components = cs }

pub due_same : (s : Scans) (f g : Frame) (colour : Colour) → f.components ≡ g.components → script_due s f colour ≡ script_due s g colour
due_same sequential f g colour e = ap (λ cs. sequential_script (with_components f cs)) e
due_same standard f g YCbCr e = ap (λ cs. three_colours_script (with_components f cs)) e
due_same standard f g colour e = ap (λ cs. any_colours_script (with_components f cs)) e
due_same (given script) f g colour e = refl

pub fault_same : (f g : Frame) (script : List Entry) → f.components ≡ g.components → f.precision ≡ g.precision → script_fault f script ≡ script_fault g script
unfolding script_fault
fault_same f g script e p =
    let kind = is_progressive_script script in
    same_fault kind f [] 0 script
    ∙ ap (λ n. after_by kind (n == 12) (length f.components) (factor_sum f) [] 0 script) p
    ∙ ap (λ cs. after_by kind (g.precision == 12) (length cs) (factor_sum (with_components f cs)) [] 0 script) e
    ∙ sym (same_fault kind g [] 0 script)

-- PICTURES before they are cropped and after

abbrev headed_fault : Choice → Meaning → Option PictureFault
headed_fault choice M = script_fault (frame_of_meaning (headed_as choice M)) (script_due choice.scans (frame_of_meaning (headed_as choice M)) (colour_of (headed_as choice M)))

cropped_fault : (choice : Choice) (area : Area) (M : Meaning) → headed_fault choice (cropped area M) ≡ headed_fault choice M
cropped_fault choice area M =
    let f = frame_of_meaning (headed_as choice (cropped area M)) in
    let g = frame_of_meaning (headed_as choice M) in
    let colour = colour_of (headed_as choice M) in
    ap (script_fault f) (due_same choice.scans f g colour refl) ∙ fault_same f g (script_due choice.scans g colour) refl refl

by_crop : (choice : Choice) (crop : Option Area) (M : Meaning) → headed_fault choice (cropped_by crop M) ≡ headed_fault choice M
by_crop choice None M = refl
by_crop choice (Some area) M = cropped_fault choice area M

pub script_judged : (choice : Choice) (M : Meaning) → moved_script_fault choice M ≡ moved_script_fault (whole choice) M
script_judged choice M = by_crop choice choice.crop (uncropped choice M)

-- THE AREA comes last

joined : (a b c : Option PictureFault) → first_some a (first_some b c) ≡ first_some (first_some a (first_some b None)) c
joined None None c = refl
joined None (Some b) c = refl
joined (Some a) b c = refl

pub judged_last : (choice : Choice) (M : Meaning) → picture_fault choice M ≡ first_some (picture_fault (whole choice) M) (crop_fault choice.crop (uncropped choice M))
judged_last choice M =
    let gray = gray_fault choice.gray M in
    let last = crop_fault choice.crop (uncropped choice M) in
    ap (λ s. first_some gray (first_some s last)) (script_judged choice M) ∙ joined gray (moved_script_fault (whole choice) M) last

-- where nothing is cropped
pub without_area : (choice : Choice) (M : Meaning) → choice.crop ≡ None → picture_fault choice M ≡ first_some (gray_fault choice.gray M) (moved_script_fault choice M)
without_area choice M e =
    let gray = gray_fault choice.gray M in
    let script = moved_script_fault choice M in
    ap (λ (o : Option Area). first_some gray (first_some script (crop_fault o (uncropped choice M)))) e ∙ ap (first_some gray) (last_none script)
  where
    last_none : (a : Option PictureFault) → first_some a None ≡ a
    last_none None = refl
    last_none (Some fault) = refl
