-- A picture that may be written may be written transformed, as a choice asks for it.
use Rattle.std.proofs.Common.{◌≡◌, ℕ, ◌+◌, ◌*◌, ◌<◌, ◌≤◌, Bool, true, false, cond, not, ◌&&◌, ◌==◌, List, [], ◌∷◌, length, get_or, map, refl, sym, ap, ◌∙◌, subst, arith, ℤ, Some, None, Option}
use Rattle.std.specs.Prelude.{nat_lt}
use Rattle.std.specs.List.{All}
use Rattle.std.proofs.lemmas.List.{get_or-map}
use Rattle.std.proofs.lemmas.List.Elements.{All-head, All-tail, All-nil, All-cons, All-get_or}
use Rattle.std.proofs.lemmas.List.Sums.{AllPass-from_list_all}
use Rattle.std.proofs.lemmas.Bool.{ltb-true}
use Rattle.jpg_spec.specs.Segments.{QuantTable, standard_limits, IsQuantiser}
use Rattle.jpg_spec.specs.Geometry.{Frame, bounds, greatest, h_max, v_max, component_at, is_real}
use Rattle.jpg_spec.specs.Elements.{zeros, IsBlockIn}
use Rattle.jpg_spec.specs.Meaning.{Meaning, PictureComponent, picture_frame, real_blocks, colour_of, most_across, most_down, component_of}
use Rattle.jpg_spec.specs.Zigzag.{zigzag}
use Rattle.jpg_spec_move.specs.Moves.{whole_columns, whole_rows, flip_h, flip_v}
use Rattle.jpg_spec_write.specs.Headed.{headed_by}
use Rattle.jpg_spec.specs.Transposed.{exchanged, transposed}
use Rattle.jpg_spec_move.specs.Transforms.{transformed, transpose, exchanged_axes, mirrors_across, mirrors_down}
use Rattle.jpg_spec_move.specs.Cropped.{columns_before, crop_fault, cropped, cropped_by, cropped_frame, cropped_side, is_inside, rows_before}
use Rattle.jpg_spec_move.specs.Moved.{Choice, grayed, trimmed, uncropped, whole_side, moved, gray_fault, is_gray_or_ycbcr, transformed_frame, trimmed_frame, grayed_frame, exchanged_factors}
use Rattle.jpg_spec.specs.Grids.{picture_grids}
use Rattle.jpg_spec_write.specs.ScansAsked.{process_due, asks_progressive}
use Rattle.jpg_spec_write.specs.FileText.{frame_of_meaning}
use Rattle.jpg_spec_write.specs.WrittenFile.{HasQuants, IsHeaded}
use Rattle.jpg_spec.specs.WholeBlocks.{HasWholeBlocks}
use Rattle.jpg_spec.specs.declared.frame.Component.{Component}
use Rattle.jpg_spec.specs.declared.frame.Bounds.{Bounds}
use Rattle.jpg_spec_write.specs.declared.picture_fault.PictureFault.TheVariants.{CropOutside, GrayColour, GrayFactors}
use Rattle.jpg_spec_move.specs.declared.area.Area.{Area}
use Rattle.jpg_spec_move.specs.declared.transform.Transform.{Transform}
use Rattle.jpg_spec_move.specs.declared.transform.Transform.TheVariants.{Keep, FlipH, FlipV, Transpose, Transverse, Rotate90, Rotate180, Rotate270}
use Rattle.jpg_spec.proofs.Basics.Common.{same_of}
use Rattle.jpg_spec.proofs.Basics.Rows.{map_map}
use Rattle.jpg_spec_move.proofs.BlockLaws.{length_transposed}
use Rattle.jpg_spec_move.proofs.Within.{mirrored_in}
use Rattle.jpg_spec_write.proofs.WrittenHeading.{heading, other_process, progressive_precision, sequential_precision}
use Rattle.jpg_spec_move.proofs.MovedBounds.{transposed_in, mirrored_down_in}
use Rattle.jpg_spec_move.proofs.CroppedFrames.{cropped_is}
use Rattle.jpg_spec_move.proofs.MovedFrames.{transformed_is, trimmed_is, grayed_is}
use Rattle.jpg_spec.proofs.Writing.MovedFrames.{across_low, down_low}
use Rattle.jpg_spec_move.proofs.OutsideZeros.{transformed_real}
use Rattle.jpg_spec.proofs.Places.OutsideZeros.{alone}
use Rattle.jpg_spec.proofs.Headers.SameNumbers.{numbers_of, SameNumbers, same_frame}
use Rattle.jpg_spec.proofs.Writing.MovedWritten.{zeros_here, count_of}
use Rattle.jpg_spec_write.proofs.MovedWritten.{IsPicture, may_be_written}
use Rattle.jpg_spec.proofs.Files.ReadPicture.{zero_slots}
use Rattle.jpg_spec.specs.FrameHeader.{is_precision}

-- BLOCKS that are mirrored, exchanged, or left out

chosen_here : (r : Bounds) (b : Bool) (one other : List ℤ) → IsBlockIn r one → IsBlockIn r other → IsBlockIn r (cond b one other)
chosen_here r true one other is are = is
chosen_here r false one other is are = are

real_here : (f : Frame) (M : Meaning) → ((i x y : ℕ) → IsBlockIn (bounds f) (M.blocks i x y)) → (i x y : ℕ) → IsBlockIn (bounds f) (real_blocks f M.blocks i x y)
real_here f M are i x y = chosen_here (bounds f) (nat_lt i (length f.components) && is_real f i x y) (M.blocks i x y) (zeros 64) (are i x y) (zeros_here f)

-- TABLES

quants_long : (cs : List PictureComponent) → All HasQuants cs → All (λ c. length c.quants ≡ 64) cs
quants_long cs all = λ k d h. (all k d h).0

whole_blocks : (M : Meaning) → IsPicture M → HasWholeBlocks M
whole_blocks M is = record { blocks = λ i x y. (is.blocks i x y).0; quants = quants_long M.components is.quants }

abbrev low_places : List ℕ
low_places = map exchanged zigzag

exchanged_low : (k : ℕ) → k < 64 → exchanged (get_or zigzag k 0) < 64
exchanged_low k h =
    let e = ltb-true (get_or low_places k 0) 64 (All-get_or (λ x. nat_lt x 64 ≡ true) low_places k 0 h (AllPass-from_list_all (λ x. nat_lt x 64) low_places refl)) in
    subst (λ n. n < 64) (get_or-map exchanged zigzag k 0 0 h) e

quantisers_exchanged : (q : QuantTable) → length q ≡ 64 → All IsQuantiser q → All IsQuantiser (transposed 0 q)
unfolding transposed
quantisers_exchanged q l all = λ k d h.
    subst IsQuantiser (sym (get_or-map (λ n. get_or q (exchanged n) 0) zigzag k 0 d h)) (all (exchanged (get_or zigzag k 0)) 0 (let e = exchanged_low k h in omega (arith, e, l)))

axes_exchanged : (cs : List PictureComponent) → All HasQuants cs → All HasQuants (map exchanged_axes cs)
axes_exchanged [] all = All-nil HasQuants
axes_exchanged (c ∷ cs) all =
    let h = All-head HasQuants c cs all in
    All-cons HasQuants (exchanged_axes c) (map exchanged_axes cs) (length_transposed 0 c.quants, quantisers_exchanged c.quants h.0 h.1) (axes_exchanged cs (All-tail HasQuants c cs all))

-- THE TWO FLIPS AND THE TRANSPOSITION

some_across : (M : Meaning) → IsPicture M → 0 < greatest (picture_grids M).across
some_across M is = subst (λ hs. 0 < greatest hs) (map_map (λ c. c.h) _ M.components) (across_low (picture_frame M).components is.frame.factors is.frame.count_low)

some_down : (M : Meaning) → IsPicture M → 0 < greatest (picture_grids M).down
some_down M is = subst (λ vs. 0 < greatest vs) (map_map (λ c. c.v) _ M.components) (down_low (picture_frame M).components is.frame.factors is.frame.count_low)

across_picture : (M : Meaning) → IsPicture M → IsPicture (flip_h M)
across_picture M is = record {
  frame = is.frame;
  quants = is.quants;
  markers = is.markers;
  count = is.count;
  blocks = λ i x y. chosen_here (bounds (picture_frame M)) (nat_lt x (whole_columns M i)) _ _ (mirrored_in (bounds (picture_frame M)) _ (is.blocks i _ y)) (is.blocks i x y);
  others = transformed_real M FlipH (whole_blocks M is) (some_across M is) (some_down M is) is.others;
}

down_picture : (M : Meaning) → IsPicture M → IsPicture (flip_v M)
down_picture M is = record {
  frame = is.frame;
  quants = is.quants;
  markers = is.markers;
  count = is.count;
  blocks = λ i x y. chosen_here (bounds (picture_frame M)) (nat_lt y (whole_rows M i)) _ _ (mirrored_down_in (bounds (picture_frame M)) _ (is.blocks i x _)) (is.blocks i x y);
  others = transformed_real M FlipV (whole_blocks M is) (some_across M is) (some_down M is) is.others;
}

same_exchanged : (M : Meaning) → SameNumbers (transformed_frame Transpose (picture_frame M)) (picture_frame (transpose M))
same_exchanged M = record {
  process = refl;
  width = refl;
  height = refl;
  precision = refl;
  components =
      ap (map numbers_of) (map_map exchanged_factors _ M.components) ∙ map_map numbers_of _ M.components
      ∙ sym (ap (map numbers_of) (map_map _ exchanged_axes M.components) ∙ map_map numbers_of _ M.components);
}

over_picture : (M : Meaning) → IsPicture M → IsPicture (transpose M)
over_picture M is =
    let frame = same_frame (transformed_frame Transpose (picture_frame M)) (picture_frame (transpose M)) (same_exchanged M) (zero_slots (map exchanged_axes M.components)) (transformed_is Transpose (picture_frame M) is.frame) in
    record {
      frame = frame;
      quants = axes_exchanged M.components is.quants;
      markers = is.markers;
      count = is.count;
      blocks = λ i x y. transposed_in (bounds (picture_frame M)) (M.blocks i y x) (is.blocks i y x);
      others = transformed_real M Transpose (whole_blocks M is) (grown (across_low (picture_frame (transpose M)).components frame.factors frame.count_low) (map_map (λ c. c.h) _ (map exchanged_axes M.components)))
          (grown (down_low (picture_frame (transpose M)).components frame.factors frame.count_low) (map_map (λ c. c.v) _ (map exchanged_axes M.components))) is.others;
    }
  where
    grown : {a b : List ℕ} → 1 ≤ greatest a → a ≡ b → 0 < greatest b
    grown {a} {b} low e = subst (λ ns. 0 < greatest ns) e low

pub transformed_picture : (t : Transform) (M : Meaning) → IsPicture M → IsPicture (transformed t M)
transformed_picture Keep M is = is
transformed_picture FlipH M is = across_picture M is
transformed_picture FlipV M is = down_picture M is
transformed_picture Transpose M is = over_picture M is
transformed_picture Rotate90 M is = across_picture (transpose M) (over_picture M is)
transformed_picture Rotate270 M is = over_picture (flip_h M) (across_picture M is)
transformed_picture Rotate180 M is = across_picture (flip_v M) (down_picture M is)
transformed_picture Transverse M is = over_picture (flip_h (flip_v M)) (across_picture (flip_v M) (down_picture M is))

-- GRAYSCALE

first_of : (cs : List PictureComponent) → (let of : PictureComponent → Component = λ c. record { id = c.id; h = c.h; v = c.v; quant = 0 } in of (get_or cs 0 (record { id = 0; h = 1; v = 1; quants = [] })) ≡ get_or (map of cs) 0 (record { id = 0; h = 1; v = 1; quant = 0 }))
first_of [] = refl
first_of (c ∷ cs) = refl

first_quants : (cs : List PictureComponent) → All HasQuants cs → 1 ≤ length cs → HasQuants (get_or cs 0 (record { id = 0; h = 1; v = 1; quants = [] }))
first_quants [] all some = absurd (omega (arith, some))
first_quants (c ∷ cs) all some = All-head HasQuants c cs all

-- what the faults of a grayscale picture exclude
pub record HasGray (M : Meaning) : Type 0 where
  pub across : (component_of M 0).h ≡ most_across M
  pub down : (component_of M 0).v ≡ most_down M

pub has_gray : (M : Meaning) → gray_fault true M ≡ None → HasGray M
has_gray M e = by (is_gray_or_ycbcr (colour_of M)) ((component_of M 0).h == most_across M) ((component_of M 0).v == most_down M) refl refl e
  where
    by : (a b c : Bool) → ((component_of M 0).h == most_across M) ≡ b → ((component_of M 0).v == most_down M) ≡ c
        → cond (not a) (Some GrayColour) (cond (not (b && c)) (Some GrayFactors) None) ≡ None → HasGray M
    by true true true h v e = record { across = same_of (component_of M 0).h (most_across M) h; down = same_of (component_of M 0).v (most_down M) v }
    by true true false h v e = cc
    by true false c h v e = cc
    by false b c h v e = cc

grayed_picture : (gray : Bool) (M : Meaning) → gray_fault gray M ≡ None → IsPicture M → IsPicture (grayed gray M)
grayed_picture false M none is = is
grayed_picture true M none is =
    let g = has_gray M none in
    let f = picture_frame M in
    let first = first_of M.components in
    let alone_frame = picture_frame (grayed true M) in
    let h : (component_at f 0).h ≡ h_max f = ap (λ (c : Component). c.h) (sym first) ∙ g.across ∙ ap greatest (sym (map_map (λ c. c.h) _ M.components)) in
    let v : (component_at f 0).v ≡ v_max f = ap (λ (c : Component). c.v) (sym first) ∙ g.down ∙ ap greatest (sym (map_map (λ c. c.v) _ M.components)) in
    let same : SameNumbers (grayed_frame true f) alone_frame = record {
      process = refl;
      width = refl;
      height = refl;
      precision = refl;
      components = ap (λ (c : Component). (let n : List (ℕ × ℕ × ℕ) = (c.id, 1, 1) ∷ [] in n)) (sym first);
    } in
    record {
      frame = same_frame (grayed_frame true f) alone_frame same (zero_slots (grayed true M).components) (grayed_is true f is.frame (λ e. h) (λ e. v));
      quants = All-cons HasQuants _ [] (first_quants M.components is.quants (subst (λ n. 1 ≤ n) (count_of M) is.frame.count_low)) (All-nil HasQuants);
      markers = is.markers;
      count = is.count;
      blocks = real_here alone_frame M is.blocks;
      others = alone (record M { components = record (component_of M 0) { h = 1; v = 1 } ∷ [] });
    }

-- TRIMMED

trimmed_picture : (trim : Bool) (t : Transform) (M : Meaning) → IsPicture M → IsPicture (trimmed trim t M)
trimmed_picture false t M is = is
trimmed_picture true t M is =
    let f = picture_frame M in
    let N = trimmed true t M in
    let across : h_max f ≡ most_across M = ap greatest (map_map (λ c. c.h) _ M.components) in
    let down : v_max f ≡ most_down M = ap greatest (map_map (λ c. c.v) _ M.components) in
    let same : SameNumbers (trimmed_frame true t f) (picture_frame N) = record {
      process = refl;
      width = ap (λ n. cond (mirrors_across t) (whole_side M.width (8 * n)) M.width) across;
      height = ap (λ n. cond (mirrors_down t) (whole_side M.height (8 * n)) M.height) down;
      precision = refl;
      components = refl;
    } in
    record {
      frame = same_frame (trimmed_frame true t f) (picture_frame N) same (zero_slots M.components) (trimmed_is true t f is.frame);
      quants = is.quants;
      markers = is.markers;
      count = is.count;
      blocks = real_here (picture_frame N) M is.blocks;
      others = alone (record M { width = N.width; height = N.height });
    }

-- CROPPED

-- an area that has no fault is inside
pub inside_of : (area : Area) (M : Meaning) → crop_fault (Some area) M ≡ None → is_inside area M ≡ true
inside_of area M e = by (is_inside area M) e
  where
    by : (b : Bool) → cond b None (Some CropOutside) ≡ None → b ≡ true
    by true e = refl
    by false e = cc

cropped_picture : (area : Area) (M : Meaning) → is_inside area M ≡ true → IsPicture M → IsPicture (cropped area M)
cropped_picture area M inside is =
    let f = picture_frame M in
    let N = cropped area M in
    let across : h_max f ≡ most_across M = ap greatest (map_map (λ c. c.h) _ M.components) in
    let down : v_max f ≡ most_down M = ap greatest (map_map (λ c. c.v) _ M.components) in
    let same : SameNumbers (cropped_frame area f) (picture_frame N) = record {
      process = refl;
      width = ap (λ n. cropped_side (8 * n) area.x area.w) across;
      height = ap (λ n. cropped_side (8 * n) area.y area.h) down;
      precision = refl;
      components = refl;
    } in
    let moved_there : Meaning = record M {
      width = N.width;
      height = N.height;
      blocks = λ i x y. M.blocks i (x + columns_before area M i) (y + rows_before area M i);
    } in
    record {
      frame = same_frame (cropped_frame area f) (picture_frame N) same (zero_slots M.components) (cropped_is area f inside is.frame);
      quants = is.quants;
      markers = is.markers;
      count = is.count;
      blocks = real_here (picture_frame N) moved_there (λ i x y. is.blocks i (x + columns_before area M i) (y + rows_before area M i));
      others = alone moved_there;
    }

cropped_by_picture : (crop : Option Area) (M : Meaning) → crop_fault crop M ≡ None → IsPicture M → IsPicture (cropped_by crop M)
cropped_by_picture None M none is = is
cropped_by_picture (Some area) M none is = cropped_picture area M (inside_of area M none) is

-- THE LAW

pub moved_headed : (choice : Choice) (M : Meaning) → gray_fault choice.gray M ≡ None → crop_fault choice.crop (uncropped choice M) ≡ None → IsPicture M → IsHeaded standard_limits (moved choice M)
moved_headed choice M none inside is =
    let grays = grayed_picture choice.gray M none is in
    let turns = transformed_picture choice.transform (grayed choice.gray M) grays in
    let trims = trimmed_picture choice.trim choice.transform (transformed choice.transform (grayed choice.gray M)) turns in
    let N = cropped_by choice.crop (uncropped choice M) in
    let crops = cropped_by_picture choice.crop (uncropped choice M) inside trims in
    let headed = heading standard_limits choice.copying N (may_be_written N crops) in
    record {
      frame = other_process standard_limits (frame_of_meaning (headed_by choice.copying N)) (frame_of_meaning (headed_by choice.copying N)) (process_due (asks_progressive choice.scans) N) (allowed N crops.frame.precision (asks_progressive choice.scans)) headed.frame;
      quants = headed.quants;
      markers = headed.markers;
      count = headed.count;
      blocks = headed.blocks;
      others = headed.others;
    }
  where
    allowed : (N : Meaning) → is_precision N.process N.precision ≡ true → (b : Bool) → is_precision (process_due b N) N.precision ≡ true
    allowed N e true = progressive_precision N e
    allowed N e false = sequential_precision N e
