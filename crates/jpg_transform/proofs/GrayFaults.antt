-- The fault of a picture that is to be converted to grayscale, by its frame.
use Rattle.std.proofs.Common.{◌≡◌, ◌≤◌, Bool, true, false, cond, not, ◌&&◌, ◌==◌, [], length, refl, sym, ap, ◌∙◌, arith, Option, None, Some}
use Rattle.jpg_spec.specs.Geometry.{Frame, component_at, greatest, h_max, v_max}
use Rattle.jpg_spec_move.specs.Laws.{FirstIsGreatest}
use Rattle.jpg_spec.specs.Lists.{below}
use Rattle.jpg_spec.specs.Meaning.{PictureComponent}
use Rattle.jpg_spec.specs.Grids.{Grids}
use Rattle.jpg_spec_move.specs.Moved.{gray_fault, is_gray_or_ycbcr}
use Rattle.jpg_spec.specs.Meaning.{component_of, most_across, most_down}
use Rattle.jpg_spec_write.specs.declared.picture_fault.PictureFault.{PictureFault}
use Rattle.jpg_spec_write.specs.declared.picture_fault.PictureFault.TheVariants.{GrayColour, GrayFactors}
use Rattle.std.proofs.lemmas.List.{get_or-map}
use Rattle.jpg_spec.proofs.Basics.Common.{length_below, same_of}
use Rattle.jpg_spec.proofs.Basics.Rows.{at_below}
use Rattle.jpg_file.specs.Read.PictureKept.{component_view}
use Rattle.jpg_file.specs.Read.PictureRead.{picture_meaning}
use Rattle.jpg_file.specs.declared.read.picture.Picture.{Picture}
use Rattle.jpg_transform.specs.Planned.{is_first_greatest}
use Rattle.jpg_transform.proofs.SeenPicture.{seen_grids}

-- by the colours and the test of the frame
abbrev pub fault_by : Bool → Bool → Bool → Option PictureFault
fault_by gray colours first = cond (gray && not colours) (Some GrayColour) (cond (gray && not first) (Some GrayFactors) None)

first_told : (p : Picture) → 1 ≤ length p.frame.components → component_of (picture_meaning p) 0 ≡ component_view p.frame p.quants.items 0
first_told p some =
    let n = length p.frame.components in
    get_or-map (component_view p.frame p.quants.items) (below n) 0 0 (record { id = 0; h = 1; v = 1; quants = [] }) (omega (arith, some, length_below n))
    ∙ ap (component_view p.frame p.quants.items) (at_below n 0 (omega (arith, some)))

pub gray_by_frame : (gray : Bool) (p : Picture) → gray_fault gray (picture_meaning p) ≡ fault_by gray (is_gray_or_ycbcr p.colour) (is_first_greatest p.frame)
gray_by_frame gray p =
    let M = picture_meaning p in
    let f = p.frame in
    let first = first_told p p.keeps.frame.count_low in
    let across : most_across M ≡ h_max f = ap (λ (g : Grids). greatest g.across) (seen_grids p) in
    let down : most_down M ≡ v_max f = ap (λ (g : Grids). greatest g.down) (seen_grids p) in
    ap (λ c. fault_by gray (is_gray_or_ycbcr c) ((component_of M 0).h == most_across M && (component_of M 0).v == most_down M)) (sym p.keeps.colour)
    ∙ ap (λ (c : PictureComponent). fault_by gray (is_gray_or_ycbcr p.colour) (c.h == most_across M && c.v == most_down M)) first
    ∙ ap (λ n. fault_by gray (is_gray_or_ycbcr p.colour) ((component_at f 0).h == n && (component_at f 0).v == most_down M)) across
    ∙ ap (λ n. fault_by gray (is_gray_or_ycbcr p.colour) ((component_at f 0).h == h_max f && (component_at f 0).v == n)) down

-- if there is none, the first component has the greatest factors
pub first_by : (gray colours : Bool) (f : Frame) → fault_by gray colours (is_first_greatest f) ≡ None → gray ≡ true → FirstIsGreatest f
first_by gray colours f none e = by colours ((component_at f 0).h == h_max f) ((component_at f 0).v == v_max f) refl refl (ap (λ b. fault_by b colours (is_first_greatest f)) (sym e) ∙ none)
  where
    by : (a b d : Bool) → ((component_at f 0).h == h_max f) ≡ b → ((component_at f 0).v == v_max f) ≡ d → fault_by true a (b && d) ≡ None → FirstIsGreatest f
    by true true true h v n = record { across = same_of _ _ h; down = same_of _ _ v }
    by true true false h v n = cc
    by true false d h v n = cc
    by false b d h v n = cc

pub first_greatest : (gray : Bool) (p : Picture) → gray_fault gray (picture_meaning p) ≡ None → gray ≡ true → FirstIsGreatest p.frame
first_greatest gray p none e = first_by gray (is_gray_or_ycbcr p.colour) p.frame (sym (gray_by_frame gray p) ∙ none) e
