-- Where the blocks of a cropped picture come from: real places from real places.
use Rattle.std.proofs.Common.{◌≡◌, ℕ, ◌+◌, ◌-◌, ◌*◌, ◌/◌, ◌<◌, ◌≤◌, get_or, sym, ap, ◌∙◌, subst, arith}
use Rattle.std.proofs.Math.Nat.{div-mul-le_self, mul_comm, mul-add-div_right}
use Rattle.jpg_spec.specs.Geometry.{Frame, IsReal, div_up, greatest, h_max, v_max}
use Rattle.jpg_spec.specs.Grids.{Grids, frame_grids, picture_grids}
use Rattle.jpg_spec.specs.Meaning.{Meaning, most_across, most_down, picture_frame}
use Rattle.jpg_spec_move.specs.Cropped.{columns_before, columns_cropped, cropped, cropped_frame, cropped_side, rows_before, rows_cropped}
use Rattle.jpg_spec_move.specs.declared.area.Area.{Area}
use Rattle.jpg_spec.proofs.Headers.FrameFound.{real_side, factor_across, factor_down}
use Rattle.jpg_spec_move.proofs.CroppedFrames.{IsAreaOf}
use Rattle.jpg_spec_move.proofs.MovedGrids.{IsIn, from_grids, part_across, part_down, real_mono, to_grids}
use Rattle.jpg_spec_move.proofs.OutsideZeros.{real_true}

-- ALONG ONE SIDE

-- a side that is longer by whole iMCUs
pub longer : (side q factor most : ℕ) → 0 < most → real_side (side + q * (8 * most)) factor most ≡ real_side side factor most + q * factor
longer side q factor most some =
    let n = div_up (side * factor) most in
    let product : (side + q * (8 * most)) * factor ≡ side * factor + (q * factor * 8) * most = grind arith in
    let scaled : (side + q * (8 * most)) * factor + most - 1 ≡ (q * factor * 8) * most + (side * factor + most - 1) = omega (arith, product, some) in
    let samples : div_up ((side + q * (8 * most)) * factor) most ≡ q * factor * 8 + n = ap (λ k. k / most) scaled ∙ mul-add-div_right some (q * factor * 8) (side * factor + most - 1) in
    let eight : q * factor * 8 + n + 8 - 1 ≡ (q * factor) * 8 + (n + 8 - 1) = omega arith in
    let all : div_up (q * factor * 8 + n) 8 ≡ q * factor + div_up n 8 = ap (λ k. k / 8) eight ∙ mul-add-div_right (omega arith) (q * factor) (n + 8 - 1) in
    let turned : q * factor + div_up n 8 ≡ div_up n 8 + q * factor = omega arith in
    ap (λ k. div_up k 8) samples ∙ all ∙ turned

-- the corner on the grid, the sides from there, and the whole
within : (corner side whole most : ℕ) → corner + side ≤ whole → cropped_side (8 * most) corner side + (corner / (8 * most)) * (8 * most) ≤ whole
within corner side whole most h =
    let under : corner / (8 * most) * (8 * most) ≤ corner = div-mul-le_self corner (8 * most) in
    let e = mul_comm (8 * most) (corner / (8 * most)) in
    omega (arith, h, under, e)

from_side : (corner side whole factor most x : ℕ) → 0 < most → corner + side ≤ whole → x < real_side (cropped_side (8 * most) corner side) factor most
    → x + (corner / (8 * most)) * factor < real_side whole factor most
from_side corner side whole factor most x some h lt =
    let cut = cropped_side (8 * most) corner side in
    let q = corner / (8 * most) in
    let e = longer cut q factor most some in
    let under = real_mono (cut + q * (8 * most)) whole factor most some (within corner side whole most h) in
    omega (arith, lt, e, under)

-- GRIDS

abbrev pub crop_grids : Area → Grids → Grids
crop_grids area G = record G {
  width = cropped_side (8 * greatest G.across) area.x area.w;
  height = cropped_side (8 * greatest G.down) area.y area.h;
}

abbrev pub columns_out : Area → Grids → ℕ → ℕ
columns_out area G i = (area.x / (8 * greatest G.across)) * get_or G.across i 1

abbrev pub rows_out : Area → Grids → ℕ → ℕ
rows_out area G i = (area.y / (8 * greatest G.down)) * get_or G.down i 1

-- a real place of a cropped picture is one of the picture
pub before_crop : (area : Area) (G : Grids) (i x y : ℕ) → 0 < greatest G.across → 0 < greatest G.down → IsAreaOf area G.width G.height → IsIn (crop_grids area G) i x y
    → IsIn G i (x + columns_out area G i) (y + rows_out area G i)
before_crop area G i x y h v a r = record {
  component = r.component;
  across = from_side area.x area.w G.width (get_or G.across i 1) (greatest G.across) x h a.across r.across;
  down = from_side area.y area.h G.height (get_or G.down i 1) (greatest G.down) y v a.down r.down;
}

pub columns_of_frame : (area : Area) (f : Frame) (i : ℕ) → columns_cropped area f i ≡ columns_out area (frame_grids f) i
columns_of_frame area f i = ap (λ k. (area.x / (8 * h_max f)) * k) (factor_across f i)

pub rows_of_frame : (area : Area) (f : Frame) (i : ℕ) → rows_cropped area f i ≡ rows_out area (frame_grids f) i
rows_of_frame area f i = ap (λ k. (area.y / (8 * v_max f)) * k) (factor_down f i)

-- the same of a frame
pub real_before : (area : Area) (f : Frame) (i x y : ℕ) → 0 < h_max f → 0 < v_max f → IsAreaOf area f.width f.height → IsReal (cropped_frame area f) i x y
    → IsReal f i (x + columns_cropped area f i) (y + rows_cropped area f i)
real_before area f i x y h v a r =
    let G = frame_grids f in
    let inside : IsIn G i (x + columns_out area G i) (y + rows_out area G i) = before_crop area G i x y h v a (to_grids (cropped_frame area f) i x y r) in
    from_grids f i (x + columns_cropped area f i) (y + rows_cropped area f i)
    (subst (λ n. IsIn G i (x + n) (y + rows_cropped area f i)) (sym (columns_of_frame area f i)) (subst (λ n. IsIn G i (x + columns_out area G i) (y + n)) (sym (rows_of_frame area f i)) inside))

-- THE BLOCKS of a cropped picture

pub columns_of_picture : (area : Area) (M : Meaning) (i : ℕ) → columns_before area M i ≡ columns_out area (picture_grids M) i
columns_of_picture area M i = ap (λ k. (area.x / (8 * most_across M)) * k) (part_across M i)

pub rows_of_picture : (area : Area) (M : Meaning) (i : ℕ) → rows_before area M i ≡ rows_out area (picture_grids M) i
rows_of_picture area M i = ap (λ k. (area.y / (8 * most_down M)) * k) (part_down M i)

pub cropped_block : (area : Area) (M : Meaning) (i x y : ℕ) → IsReal (picture_frame (cropped area M)) i x y → (cropped area M).blocks i x y ≡ M.blocks i (x + columns_before area M i) (y + rows_before area M i)
cropped_block area M i x y r = real_true (picture_frame (cropped area M)) (λ i x y. M.blocks i (x + columns_before area M i) (y + rows_before area M i)) i x y r
