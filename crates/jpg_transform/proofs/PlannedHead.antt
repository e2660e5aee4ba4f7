-- Planning by what a picture has except for its blocks and its kept markers.
use Rattle.std.proofs.Common.{◌≡◌, Bool, true, sym, ap, ◌∙◌, None, Some}
use Rattle.jpg_spec.specs.Geometry.{Frame}
use Rattle.jpg_spec_move.specs.Laws.{FirstIsGreatest}
use Rattle.jpg_spec_move.specs.Moved.{Choice, gray_fault, is_gray_or_ycbcr, moved_frame, picture_fault}
use Rattle.jpg_spec_write.specs.declared.picture_fault.PictureFault.{PictureFault}
use Rattle.jpg_markers.specs.declared.writing.head.OutHead.{OutHead}
use Rattle.jpg_file.specs.Read.PictureRead.{picture_meaning}
use Rattle.jpg_file.specs.declared.read.picture.Picture.{Picture}
use Rattle.jpg_file.specs.declared.read.strip_head.StripHead.{StripHead}
use Rattle.jpg_transform.specs.Planned.{IsHeadOf, IsOutHeadBy, IsOutHeadOf, head_fault, is_first_greatest, moved_colour, moved_tables, process_in}
use Rattle.jpg_transform.proofs.GrayFaults.{fault_by, first_by, gray_by_frame}
use Rattle.jpg_transform.proofs.MovedScript.{gray_some}

-- THE SAME FAULT AND HEAD as of each picture that has it

pub head_gray : (gray : Bool) (h : StripHead) (p : Picture) → IsHeadOf h p → gray_fault gray (picture_meaning p) ≡ head_fault gray h
head_gray gray h p is =
    gray_by_frame gray p ∙ ap (λ c. fault_by gray (is_gray_or_ycbcr c) (is_first_greatest p.frame)) is.colour
    ∙ ap (λ (f : Frame). fault_by gray (is_gray_or_ycbcr h.colour) (is_first_greatest f)) is.frame

pub head_greatest : (gray : Bool) (h : StripHead) → head_fault gray h ≡ None → gray ≡ true → FirstIsGreatest h.frame
head_greatest gray h none e = first_by gray (is_gray_or_ycbcr h.colour) h.frame none e

pub head_by : (choice : Choice) (h : StripHead) (out : OutHead) (p : Picture) → IsHeadOf h p → IsOutHeadBy choice h out → IsOutHeadOf choice p out
head_by choice h out p is o = record {
  frame = o.frame ∙ sym (ap (λ (f : Frame). (let g : Frame = record (moved_frame choice f) { process = process_in choice.scans f.precision out.quants.items } in g)) is.frame);
  tables = o.tables ∙ sym (ap (moved_tables choice) is.quants);
  colour = o.colour ∙ sym (ap (moved_colour choice.gray) is.colour);
  jfif = o.jfif ∙ sym is.jfif;
  copying = o.copying;
}

pub head_refused : (choice : Choice) (h : StripHead) (fault : PictureFault) (p : Picture) → IsHeadOf h p → Some fault ≡ head_fault choice.gray h → picture_fault choice (picture_meaning p) ≡ Some fault
head_refused choice h fault p is e = gray_some choice (picture_meaning p) fault (head_gray choice.gray h p is ∙ sym e)
