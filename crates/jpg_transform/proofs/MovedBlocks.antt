-- The blocks of a transformed picture are in the bounds, and are zeros outside the real grids.
use Rattle.std.proofs.Common.{◌≡◌, ℕ, ◌+◌, ◌<◌, Bool, true, false, cond, List, [], ◌∷◌, length, refl, sym, ap, ◌∙◌, subst, arith, ℤ, Option, None, Some}
use Rattle.std.specs.Prelude.{nat_lt}
use Rattle.std.proofs.lemmas.List.{length-map}
use Rattle.jpg_spec.specs.Elements.{IsBlockIn, zeros}
use Rattle.jpg_spec.specs.FrameHeader.{IsFrame}
use Rattle.jpg_spec.specs.Geometry.{Frame, bounds, greatest}
use Rattle.jpg_spec.specs.Lists.{below}
use Rattle.jpg_spec.specs.Meaning.{Meaning, picture_frame, real_blocks}
use Rattle.jpg_spec_move.specs.Cropped.{columns_before, cropped, cropped_by, rows_before}
use Rattle.jpg_spec_move.specs.Moved.{Choice, grayed, moved, trimmed, uncropped}
use Rattle.jpg_spec.specs.Grids.{Grids, frame_grids, picture_grids}
use Rattle.jpg_spec.specs.Meaning.{component_of}
use Rattle.jpg_spec_move.specs.Moves.{flip_h, flip_v, whole_columns, whole_rows}
use Rattle.jpg_spec.specs.Scan.{Blocks}
use Rattle.jpg_spec_move.specs.Transforms.{transformed, transpose}
use Rattle.jpg_spec_move.specs.declared.area.Area.{Area}
use Rattle.jpg_spec_move.specs.declared.transform.Transform.{Transform}
use Rattle.jpg_spec_move.specs.declared.transform.Transform.TheVariants.{Keep, FlipH, FlipV, Transpose, Transverse, Rotate90, Rotate180, Rotate270}
use Rattle.jpg_spec.proofs.Basics.Common.{length_below}
use Rattle.jpg_spec_move.proofs.MovedBounds.{mirrored_down_in, transposed_in}
use Rattle.jpg_spec.proofs.Places.OutsideZeros.{HasRealBlocks, alone}
use Rattle.jpg_spec_move.proofs.OutsideZeros.{transformed_real}
use Rattle.jpg_spec.proofs.Headers.SameNumbers.{SameNumbers, is_place, same_places}
use Rattle.jpg_spec_move.proofs.Within.{mirrored_in}
use Rattle.jpg_spec.proofs.Files.ReadPicture.{block_in}
use Rattle.jpg_coefs.specs.Picture.{map_of}
use Rattle.jpg_file.specs.Read.PictureKept.{component_view}
use Rattle.jpg_file.specs.Read.PictureRead.{picture_meaning}
use Rattle.jpg_file.specs.declared.read.picture.Picture.{Picture}
use Rattle.jpg_transform.proofs.Planned.{whole_picture}
use Rattle.jpg_transform.proofs.Showing.{gray_whole}
use Rattle.jpg_spec.proofs.Writing.MovedWritten.{zeros_here}
use Rattle.jpg_spec.proofs.Places.PlacesSome.{h_max_some, v_max_some}

-- IN THE BOUNDS

module _ (g : Frame) where
  abbrev AreBounded : Meaning → Type 0
  AreBounded M = (i x y : ℕ) → IsBlockIn (bounds g) (M.blocks i x y)

  chosen : (b : Bool) (one other : List ℤ) → IsBlockIn (bounds g) one → IsBlockIn (bounds g) other → IsBlockIn (bounds g) (cond b one other)
  chosen true one other is are = is
  chosen false one other is are = are

  real_bounded : (f : Frame) (blocks : Blocks) → ((i x y : ℕ) → IsBlockIn (bounds g) (blocks i x y)) → (i x y : ℕ) → IsBlockIn (bounds g) (real_blocks f blocks i x y)
  real_bounded f blocks are i x y = chosen (is_place f i x y) (blocks i x y) (zeros 64) (are i x y) (zeros_here g)

  across_bounded : (M : Meaning) → AreBounded M → AreBounded (flip_h M)
  across_bounded M are i x y = chosen (nat_lt x (whole_columns M i)) _ _ (mirrored_in (bounds g) _ (are i _ y)) (are i x y)

  down_bounded : (M : Meaning) → AreBounded M → AreBounded (flip_v M)
  down_bounded M are i x y = chosen (nat_lt y (whole_rows M i)) _ _ (mirrored_down_in (bounds g) _ (are i x _)) (are i x y)

  over_bounded : (M : Meaning) → AreBounded M → AreBounded (transpose M)
  over_bounded M are i x y = transposed_in (bounds g) (M.blocks i y x) (are i y x)

  turned_bounded : (t : Transform) (M : Meaning) → AreBounded M → AreBounded (transformed t M)
  turned_bounded Keep M are = are
  turned_bounded FlipH M are = across_bounded M are
  turned_bounded FlipV M are = down_bounded M are
  turned_bounded Transpose M are = over_bounded M are
  turned_bounded Rotate90 M are = across_bounded (transpose M) (over_bounded M are)
  turned_bounded Rotate270 M are = over_bounded (flip_h M) (across_bounded M are)
  turned_bounded Rotate180 M are = across_bounded (flip_v M) (down_bounded M are)
  turned_bounded Transverse M are = over_bounded (flip_h (flip_v M)) (across_bounded (flip_v M) (down_bounded M are))

  gray_bounded : (gray : Bool) (M : Meaning) → AreBounded M → AreBounded (grayed gray M)
  gray_bounded false M are = are
  gray_bounded true M are = real_bounded (picture_frame (grayed true M)) M.blocks are

  cut_bounded : (trim : Bool) (t : Transform) (M : Meaning) → AreBounded M → AreBounded (trimmed trim t M)
  cut_bounded false t M are = are
  cut_bounded true t M are = real_bounded (picture_frame (trimmed true t M)) M.blocks are

  crop_bounded : (crop : Option Area) (M : Meaning) → AreBounded M → AreBounded (cropped_by crop M)
  crop_bounded None M are = are
  crop_bounded (Some area) M are =
      real_bounded (picture_frame (cropped area M)) (λ i x y. M.blocks i (x + columns_before area M i) (y + rows_before area M i)) (λ i x y. are i (x + columns_before area M i) (y + rows_before area M i))

-- those of a picture, transformed
pub moved_bounded : (p : Picture) (c : Choice) (i x y : ℕ) → IsBlockIn (bounds p.frame) ((moved c (picture_meaning p)).blocks i x y)
moved_bounded p c =
    let M = picture_meaning p in
    let f = p.frame in
    let own : AreBounded f M = real_bounded f f (map_of p.coefs) (λ i x y. block_in (bounds f) (map_of p.coefs i x y) (p.keeps.range.sizes i x y) (λ k. p.keeps.range.values i x y k)) in
    crop_bounded f c.crop (uncropped c M)
    (cut_bounded f c.trim c.transform (transformed c.transform (grayed c.gray M)) (turned_bounded f c.transform (grayed c.gray M) (gray_bounded f c.gray M own)))

-- ZEROS OUTSIDE

own_real : (p : Picture) → SameNumbers p.frame (picture_frame (picture_meaning p)) → HasRealBlocks (picture_meaning p)
own_real p same i x y =
    outer (is_place p.frame i x y) (map_of p.coefs i x y) ∙ ap (λ b. cond b (real_blocks p.frame (map_of p.coefs) i x y) (zeros 64)) (same_places p.frame (picture_frame (picture_meaning p)) i x y same)
  where
    outer : (b : Bool) (block : List ℤ) → cond b block (zeros 64) ≡ cond b (cond b block (zeros 64)) (zeros 64)
    outer true block = refl
    outer false block = refl

gray_real : (gray : Bool) (M : Meaning) → HasRealBlocks M → HasRealBlocks (grayed gray M)
gray_real false M real = real
gray_real true M real = alone (record M { components = record (component_of M 0) { h = 1; v = 1 } ∷ [] })

cut_real : (trim : Bool) (t : Transform) (M : Meaning) → HasRealBlocks M → HasRealBlocks (trimmed trim t M)
cut_real false t M real = real
cut_real true t M real = alone (record M { width = (trimmed true t M).width; height = (trimmed true t M).height })

crop_real : (crop : Option Area) (M : Meaning) → HasRealBlocks M → HasRealBlocks (cropped_by crop M)
crop_real None M real = real
crop_real (Some area) M real =
    alone (record M { width = (cropped area M).width; height = (cropped area M).height; blocks = λ i x y. M.blocks i (x + columns_before area M i) (y + rows_before area M i) })

crop_across : (crop : Option Area) (M : Meaning) → (picture_grids (cropped_by crop M)).across ≡ (picture_grids M).across
crop_across None M = refl
crop_across (Some area) M = refl

crop_down : (crop : Option Area) (M : Meaning) → (picture_grids (cropped_by crop M)).down ≡ (picture_grids M).down
crop_down None M = refl
crop_down (Some area) M = refl

cut_across : (trim : Bool) (t : Transform) (M : Meaning) → (picture_grids (trimmed trim t M)).across ≡ (picture_grids M).across
cut_across true t M = refl
cut_across false t M = refl

cut_down : (trim : Bool) (t : Transform) (M : Meaning) → (picture_grids (trimmed trim t M)).down ≡ (picture_grids M).down
cut_down true t M = refl
cut_down false t M = refl

-- those of a transformed picture, in a frame of its grids
pub moved_real : (p : Picture) (c : Choice) (out : Frame) → SameNumbers p.frame (picture_frame (picture_meaning p)) → IsFrame out → picture_grids (moved c (picture_meaning p)) ≡ frame_grids out
    → HasRealBlocks (moved c (picture_meaning p))
moved_real p c out same is grids =
    let M = picture_meaning p in
    let G = grayed c.gray M in
    let T = transformed c.transform G in
    let n = length p.frame.components in
    let some : 0 < length M.components =
    (let l = length-map (below n) (component_view p.frame p.quants.items) in let m = length_below n in let low = p.keeps.frame.count_low in omega (arith, l, m, low)) in
    let across : 0 < greatest (picture_grids T).across = subst (λ hs. 0 < greatest hs) (ap (λ (K : Grids). K.across) (sym grids) ∙ crop_across c.crop (uncropped c M) ∙ cut_across c.trim c.transform T) (h_max_some out is) in
    let down : 0 < greatest (picture_grids T).down = subst (λ vs. 0 < greatest vs) (ap (λ (K : Grids). K.down) (sym grids) ∙ crop_down c.crop (uncropped c M) ∙ cut_down c.trim c.transform T) (v_max_some out is) in
    crop_real c.crop (uncropped c M) (cut_real c.trim c.transform T (transformed_real G c.transform (gray_whole c.gray M some (whole_picture p)) across down (gray_real c.gray M (own_real p same))))
