-- A view of a cropped picture is that of the cropped meaning.
use Rattle.std.proofs.Common.{◌≡◌, ℕ, ◌+◌, ◌*◌, ◌/◌, ◌<◌, ◌≤◌, [], ◌∷◌, List, get_or, length, zero, suc, refl, sym, ap, ◌∙◌, subst, arith, Option, None}
use Rattle.std.specs.Prelude.{slice_index}
use Rattle.std.specs.List.{All}
use Rattle.std.proofs.Math.Nat.{mul-div_cancel_left}
use Rattle.std.proofs.lemmas.Nat.{mul-le}
use Rattle.std.proofs.lemmas.List.Elements.{All-head, All-tail}
use Rattle.jpg_spec.specs.FrameHeader.{HasFactors, IsFrame}
use Rattle.jpg_spec.specs.Geometry.{Frame, IsReal, component_at, div_up, h_max, no_component, v_max}
use Rattle.jpg_spec.specs.Grids.{Grids, frame_grids, picture_grids}
use Rattle.jpg_spec.specs.Meaning.{Meaning, picture_frame}
use Rattle.jpg_spec.specs.Scan.{Blocks}
use Rattle.jpg_spec.specs.declared.frame.Component.{Component}
use Rattle.jpg_spec_move.specs.Cropped.{columns_before, columns_cropped, cropped, cropped_by, on_grid, rows_before, rows_cropped}
use Rattle.jpg_spec_move.specs.Moved.{Choice, headed_as, moved, uncropped}
use Rattle.jpg_spec_move.specs.declared.area.Area.{Area}
use Rattle.jpg_spec.proofs.Places.PlacesFound.{least}
use Rattle.jpg_spec_move.proofs.CroppedFrames.{IsAreaOf, area_of}
use Rattle.jpg_spec_move.proofs.CroppedGrids.{columns_of_frame, columns_of_picture, columns_out, crop_grids, cropped_block, real_before, rows_of_frame, rows_of_picture, rows_out}
use Rattle.jpg_spec_move.proofs.MovedGrids.{IsIn, to_grids}
use Rattle.jpg_spec_move.proofs.OutsideZeros.{in_picture}
use Rattle.jpg_file.specs.Read.PictureRead.{picture_meaning}
use Rattle.jpg_transform.specs.Places.{IsSeenAs}
use Rattle.jpg_transform.proofs.MovedFile.{writes_plan}
use Rattle.jpg_crop.specs.CropPlanned.{IsCutFrom, with_area}
use Rattle.jpg_crop.specs.CroppedBlocks.{HasPlaces, ShowsCropped, WritesCropped, blocks_from}
use Rattle.jpg_crop.specs.declared.planning.CropJob.{CropJob}
use Rattle.jpg_spec.proofs.Places.PlacesSome.{h_max_some, v_max_some}

-- THE COLUMNS AND ROWS BEFORE, as `new` finds them
pub record AreBefore (crop : CropJob) (columns rows : List ℕ) : Type 0 where
  pub frame : IsFrame crop.plan.out.frame
  pub columns_are : (i : ℕ) → i < length crop.plan.out.frame.components → slice_index columns i ≡ (crop.x0 / (8 * h_max crop.plan.out.frame)) * (component_at crop.plan.out.frame i).h
  pub rows_are : (i : ℕ) → i < length crop.plan.out.frame.components → slice_index rows i ≡ (crop.y0 / (8 * v_max crop.plan.out.frame)) * (component_at crop.plan.out.frame i).v

grid_mcus : (most corner : ℕ) → 0 < most → on_grid (8 * most) corner / (8 * most) ≡ corner / (8 * most)
grid_mcus most corner some = mul-div_cancel_left (corner / (8 * most)) (omega (arith, some))

module _ {area : Area} {f : Frame} {crop : CropJob} {columns rows : List ℕ} (is : IsFrame f) (cut : IsCutFrom area f crop) (found : AreBefore crop columns rows) where
  out : Frame
  out = crop.plan.out.frame

  inside : IsAreaOf area f.width f.height
  inside = area_of area f.width f.height cut.inside

  column_at : (i : ℕ) → i < length crop.plan.out.frame.components → slice_index columns i ≡ columns_cropped area f i
  column_at i there =
      found.columns_are i there ∙ ap (λ (g : Frame). (crop.x0 / (8 * h_max g)) * (component_at g i).h) cut.frame
      ∙ ap (λ x0. (x0 / (8 * h_max f)) * (component_at f i).h) cut.across ∙ ap (λ q. q * (component_at f i).h) (grid_mcus (h_max f) area.x (h_max_some f is))

  row_at : (i : ℕ) → i < length crop.plan.out.frame.components → slice_index rows i ≡ rows_cropped area f i
  row_at i there =
      found.rows_are i there ∙ ap (λ (g : Frame). (crop.y0 / (8 * v_max g)) * (component_at g i).v) cut.frame
      ∙ ap (λ y0. (y0 / (8 * v_max f)) * (component_at f i).v) cut.down ∙ ap (λ q. q * (component_at f i).v) (grid_mcus (v_max f) area.y (v_max_some f is))

  -- a real place comes from a real place
  pub place_from : (i x y : ℕ) → IsReal crop.plan.out.frame i x y → IsReal f i (x + slice_index columns i) (y + slice_index rows i)
  place_from i x y r =
      let there = real_before area f i x y (h_max_some f is) (v_max_some f is) inside (subst (λ (g : Frame). IsReal g i x y) cut.frame r) in
      subst (λ n. IsReal f i (x + n) (y + slice_index rows i)) (sym (column_at i r.component)) (subst (λ n. IsReal f i (x + columns_cropped area f i) (y + n)) (sym (row_at i r.component)) there)

  -- THE BLOCKS

  pub seen_cropped : (choice : Choice) (M : Meaning) (seen : Blocks) → choice.crop ≡ None → IsSeenAs (moved choice M) f seen → IsSeenAs (moved (with_area area choice) M) crop.plan.out.frame (blocks_from columns rows seen)
  seen_cropped choice M seen whole s = record { grids = grids; same = same }
    where
      U : Meaning
      U = uncropped choice M

      before : IsSeenAs (headed_as choice U) f seen
      before = subst (λ (o : Option Area). IsSeenAs (headed_as choice (cropped_by o U)) f seen) whole s

      grids : picture_grids (moved (with_area area choice) M) ≡ frame_grids crop.plan.out.frame
      grids = ap (crop_grids area) before.grids ∙ sym (ap frame_grids cut.frame)

      columns_same : (i : ℕ) → i < length crop.plan.out.frame.components → columns_before area U i ≡ slice_index columns i
      columns_same i there = columns_of_picture area U i ∙ ap (λ (G : Grids). columns_out area G i) before.grids ∙ sym (columns_of_frame area f i) ∙ sym (column_at i there)

      rows_same : (i : ℕ) → i < length crop.plan.out.frame.components → rows_before area U i ≡ slice_index rows i
      rows_same i there = rows_of_picture area U i ∙ ap (λ (G : Grids). rows_out area G i) before.grids ∙ sym (rows_of_frame area f i) ∙ sym (row_at i there)

      same : (i x y : ℕ) → IsReal crop.plan.out.frame i x y → (moved (with_area area choice) M).blocks i x y ≡ blocks_from columns rows seen i x y
      same i x y r =
          let there : IsReal (picture_frame (cropped area U)) i x y = in_picture (cropped area U) i x y (subst (λ (G : Grids). IsIn G i x y) (sym grids) (to_grids crop.plan.out.frame i x y r)) in
          cropped_block area U i x y there
          ∙ ap (λ n. U.blocks i (x + n) (y + rows_before area U i)) (columns_same i r.component)
          ∙ ap (λ n. U.blocks i (x + slice_index columns i) (y + n)) (rows_same i r.component)
          ∙ before.same i (x + slice_index columns i) (y + slice_index rows i) (place_from i x y r)

-- NUMBERS THAT FIT

up_low : (n d : ℕ) → 0 < d → div_up n d ≤ n
up_low n d some = least n d n some (let e = mul-le n 1 n d (omega arith) some in omega (arith, e))

across_high : (cs : List Component) (i : ℕ) → All HasFactors cs → (get_or cs i no_component).h ≤ 4
across_high [] i all = omega arith
across_high (c ∷ cs) zero all = (All-head HasFactors c cs all).h_high
across_high (c ∷ cs) (suc i) all = across_high cs i (All-tail HasFactors c cs all)

down_high : (cs : List Component) (i : ℕ) → All HasFactors cs → (get_or cs i no_component).v ≤ 4
down_high [] i all = omega arith
down_high (c ∷ cs) zero all = (All-head HasFactors c cs all).v_high
down_high (c ∷ cs) (suc i) all = down_high cs i (All-tail HasFactors c cs all)

-- a real place of a side of at most 65500 samples
side_fits : (side factor most x : ℕ) → 0 < most → side ≤ 65500 → factor ≤ 4 → x < div_up (div_up (side * factor) most) 8 → x < 4294967296
side_fits side factor most x some low few lt =
    let a = up_low (side * factor) most some in
    let b = up_low (div_up (side * factor) most) 8 (omega arith) in
    let c : side * factor ≤ 65500 * 4 = mul-le side factor 65500 4 low few in
    omega (arith, lt, a, b, c)

pub has_places : {area : Area} {f : Frame} {crop : CropJob} {columns rows : List ℕ} → IsFrame f → IsCutFrom area f crop → AreBefore crop columns rows → HasPlaces f columns rows crop.plan.out.frame
has_places {area} {f} {crop} {columns} {rows} is cut found = record {
  few = found.frame.count_high;
  places = place_from is cut found;
  column = λ i x y r. side_fits f.width (component_at f i).h (h_max f) (x + slice_index columns i) (h_max_some f is) is.width_high (across_high f.components i is.factors) (place_from is cut found i x y r).across;
  row = λ i x y r. side_fits f.height (component_at f i).v (v_max f) (y + slice_index rows i) (v_max_some f is) is.height_high (down_high f.components i is.factors) (place_from is cut found i x y r).down;
}

-- THE VIEW of a picture that is transformed by a choice, cropped: what it shows, and the file that is written of it

module _ {f : Frame} {crop : CropJob} {columns rows : List ℕ} {seen : Blocks} (is : IsFrame f) (found : AreBefore crop columns rows) where
  pub shows_crop : ShowsCropped crop f seen (blocks_from columns rows seen)
  shows_crop p choice area k =
      let cut : IsCutFrom area f crop = subst (λ (g : Frame). IsCutFrom area g crop) (sym k.frame) k.cropped.cut in
      let before : IsSeenAs (moved choice (picture_meaning p)) f seen = subst (λ (g : Frame). IsSeenAs (moved choice (picture_meaning p)) g seen) (sym k.frame) (k.shows choice k.job) in
      seen_cropped is cut found choice (picture_meaning p) seen k.job.whole before

  pub writes_crop : WritesCropped crop f seen crop.plan.out.frame (blocks_from columns rows seen)
  writes_crop p choice area k =
      writes_plan p (with_area area choice) crop.plan crop.plan.out.frame (blocks_from columns rows seen) refl found.frame k.cropped.planned (shows_crop p choice area k)
