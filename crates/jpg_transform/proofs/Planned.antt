-- The job of a picture: its frame is the output's, so its view is that of the transformed picture.
use Rattle.std.proofs.Common.{◌≡◌, ℕ, ◌<◌, length, sym, ap, ◌∙◌, subst, arith}
use Rattle.std.proofs.lemmas.List.{length-map, get_or-map}
use Rattle.jpg_spec.specs.Lists.{below}
use Rattle.jpg_spec.specs.Meaning.{PictureComponent}
use Rattle.jpg_spec_move.specs.Moved.{Choice}
use Rattle.jpg_spec.specs.Grids.{frame_grids}
use Rattle.jpg_spec.specs.WholeBlocks.{HasWholeBlocks}
use Rattle.jpg_spec.proofs.Basics.Common.{length_below}
use Rattle.jpg_spec.proofs.Basics.Rows.{at_below}
use Rattle.jpg_spec.proofs.Headers.SameNumbers.{is_place}
use Rattle.jpg_spec.proofs.Files.WholeFiles.{shown_whole}
use Rattle.jpg_coefs.specs.Picture.{map_of}
use Rattle.jpg_file.specs.Read.PictureKept.{component_view}
use Rattle.jpg_file.specs.Read.PictureRead.{picture_meaning}
use Rattle.jpg_file.specs.declared.read.picture.Picture.{Picture}
use Rattle.jpg_transform.specs.Places.{IsOutput}
use Rattle.jpg_transform.specs.Planned.{IsJobFor}
use Rattle.jpg_transform.specs.declared.choice.Job.{Job}
use Rattle.jpg_transform.proofs.GrayFaults.{first_greatest}
use Rattle.jpg_transform.proofs.MovedScript.{gray_none}

-- the output's frame is the expected one
pub is_output : (p : Picture) (choice : Choice) (job : Job) → IsJobFor p choice job → IsOutput choice job.transform p.frame job.plan.out.frame
is_output p choice job h = record {
  transform_is = sym h.transform;
  whole = h.whole;
  gray_across = λ e. (first_greatest choice.gray p (gray_none choice (picture_meaning p) h.planned.admitted) e).across;
  gray_down = λ e. (first_greatest choice.gray p (gray_none choice (picture_meaning p) h.planned.admitted) e).down;
  grids = ap frame_grids h.planned.head.frame;
}

-- its blocks and tables are complete
long_quants : (p : Picture) → (k : ℕ) → k < length p.frame.components → length (component_view p.frame p.quants.items k).quants ≡ 64
long_quants p k h = (p.keeps.quants k h).long

pub whole_picture : (p : Picture) → HasWholeBlocks (picture_meaning p)
whole_picture p = record {
  blocks = λ i x y. shown_whole (is_place p.frame i x y) (map_of p.coefs i x y) (p.keeps.range.sizes i x y);
  quants = λ k d less.
      (let n = length p.frame.components in
      let h : k < n = (let l = length-map (below n) (component_view p.frame p.quants.items) in let m = length_below n in omega (arith, less, l, m)) in
      subst (λ (c : PictureComponent). length c.quants ≡ 64)
      (sym (get_or-map (component_view p.frame p.quants.items) (below n) k 0 d (let m = length_below n in omega (arith, h, m)) ∙ ap (component_view p.frame p.quants.items) (at_below n k h)))
      (long_quants p k h));
}
