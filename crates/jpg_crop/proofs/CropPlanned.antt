-- The plan of a cropped picture: its fault is that of the area, and its head and script are those of the plan before.
use Rattle.std.proofs.Common.{◌≡◌, Bool, true, cond, sym, ap, ◌∙◌, List, Option, None, Some}
use Rattle.jpg_spec.specs.Geometry.{Frame}
use Rattle.jpg_spec.specs.Grids.{Grids, frame_grids, picture_grids}
use Rattle.jpg_spec.specs.InForce.{first_some}
use Rattle.jpg_spec.specs.Meaning.{Meaning}
use Rattle.jpg_spec.specs.Segments.{QuantTable}
use Rattle.jpg_spec_move.specs.Cropped.{crop_fault, cropped_frame, cropped_frame_by, is_area_of}
use Rattle.jpg_spec_move.specs.Moved.{Choice, picture_fault, uncropped, uncropped_frame}
use Rattle.jpg_spec_move.specs.declared.area.Area.{Area}
use Rattle.jpg_spec_write.specs.ScansAsked.{script_due}
use Rattle.jpg_spec.specs.declared.frame.Process.{Process}
use Rattle.jpg_spec_write.specs.declared.picture_fault.PictureFault.{PictureFault}
use Rattle.jpg_spec_write.specs.declared.picture_fault.PictureFault.TheVariants.{CropOutside}
use Rattle.jpg_spec_move.proofs.CroppedScripts.{due_same, judged_last}
use Rattle.jpg_file.specs.Read.PictureRead.{picture_meaning}
use Rattle.jpg_scans.specs.Restarts.{restart_of}
use Rattle.jpg_file.specs.declared.read.picture.Picture.{Picture}
use Rattle.jpg_file.specs.declared.write.Plan.{Plan}
use Rattle.jpg_transform.specs.Planned.{IsJobFor, IsPlanFor, process_in}
use Rattle.jpg_transform.specs.declared.choice.Job.{Job}
use Rattle.jpg_transform.proofs.MovedScript.{uncropped_grids}
use Rattle.jpg_transform.proofs.SeenPicture.{seen_grids}
use Rattle.jpg_crop.specs.CropPlanned.{with_area}

-- THE FAULT

-- of a picture that has none for the choice without an area
alone : (choice : Choice) (area : Area) (M : Meaning) → choice.crop ≡ None → picture_fault choice M ≡ None → picture_fault (with_area area choice) M ≡ crop_fault (Some area) (uncropped choice M)
alone choice area M whole none =
    let before : picture_fault (record choice { crop = None }) M ≡ None = ap (λ (o : Option Area). picture_fault (record choice { crop = o }) M) (sym whole) ∙ none in
    judged_last (with_area area choice) M ∙ ap (λ (o : Option PictureFault). first_some o (crop_fault (Some area) (uncropped choice M))) before

-- of one that has a fault for the choice without an area
pub fault_before : (choice : Choice) (area : Area) (M : Meaning) (fault : PictureFault) → choice.crop ≡ None → picture_fault choice M ≡ Some fault → picture_fault (with_area area choice) M ≡ Some fault
fault_before choice area M fault whole e =
    let before : picture_fault (record choice { crop = None }) M ≡ Some fault = ap (λ (o : Option Area). picture_fault (record choice { crop = o }) M) (sym whole) ∙ e in
    judged_last (with_area area choice) M ∙ ap (λ (o : Option PictureFault). first_some o (crop_fault (Some area) (uncropped choice M))) before

-- the frame before has the sides of the picture before
before_grids : (p : Picture) (choice : Choice) (job : Job) → IsJobFor p choice job → picture_grids (uncropped choice (picture_meaning p)) ≡ frame_grids job.plan.out.frame
before_grids p choice job h =
    uncropped_grids choice p.frame (picture_meaning p) (seen_grids p)
    ∙ ap (λ (o : Option Area). frame_grids (cropped_frame_by o (uncropped_frame choice p.frame))) (sym h.whole)
    ∙ sym (ap frame_grids h.planned.head.frame)

pub fault_is : (p : Picture) (choice : Choice) (job : Job) (area : Area) (b : Bool) → IsJobFor p choice job → is_area_of area job.plan.out.frame.width job.plan.out.frame.height ≡ b
    → picture_fault (with_area area choice) (picture_meaning p) ≡ cond b None (Some CropOutside)
fault_is p choice job area b h e =
    let M = picture_meaning p in
    let same = before_grids p choice job h in
    alone choice area M h.whole h.planned.admitted
    ∙ ap (λ (G : Grids). cond (is_area_of area G.width G.height) None (Some CropOutside)) same ∙ ap (λ t. cond t None (Some CropOutside)) e

-- THE PLAN: that before, with the cropped frame
pub record IsCopied (area : Area) (plan crop : Plan) : Type 0 where
  pub frame : crop.out.frame ≡ cropped_frame area plan.out.frame
  pub quants : crop.out.quants.items ≡ plan.out.quants.items
  pub colour : crop.out.colour ≡ plan.out.colour
  pub jfif : crop.out.jfif ≡ plan.out.jfif
  pub copying : crop.out.copying ≡ plan.out.copying
  pub script : crop.script ≡ plan.script
  pub huffman : crop.huffman ≡ plan.huffman
  pub restart : restart_of crop.restart ≡ restart_of plan.restart

of_process : Frame → Process → Frame
of_process f process = record f { process = process }

pub planned_for : (p : Picture) (choice : Choice) (job : Job) (area : Area) (crop : Plan) → IsJobFor p choice job → is_area_of area job.plan.out.frame.width job.plan.out.frame.height ≡ true → IsCopied area job.plan crop
    → IsPlanFor p (with_area area choice) crop
planned_for p choice job area crop h inside k =
    let out = job.plan.out in
    let head = h.planned.head in
    let process : List QuantTable → Process = λ q. process_in choice.scans p.frame.precision q in
    let cut : Frame → Process → Frame = λ f process. record (cropped_frame area f) { process = process } in
    record {
      admitted = fault_is p choice job area true h inside;
      head = record {
        frame = k.frame ∙ ap (cropped_frame area) head.frame ∙ ap (λ (o : Option Area). cut (cropped_frame_by o (uncropped_frame choice p.frame)) (process out.quants.items)) h.whole
            ∙ ap (λ q. cut (uncropped_frame choice p.frame) (process q)) (sym k.quants);
        tables = k.quants ∙ head.tables;
        colour = k.colour ∙ head.colour;
        jfif = k.jfif ∙ head.jfif;
        copying = k.copying ∙ head.copying;
      };
      script =
          k.script ∙ h.planned.script ∙ ap (script_due choice.scans out.frame) (sym k.colour)
          ∙ due_same choice.scans out.frame crop.out.frame crop.out.colour (sym (ap (λ (f : Frame). f.components) k.frame));
      huffman = k.huffman ∙ h.planned.huffman;
      restart = k.restart ∙ h.planned.restart;
      counted = h.planned.counted;
    }
