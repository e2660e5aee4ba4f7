-- A picture that is cut before a column of iMCUs has each of its blocks in exactly one of the two parts.
use Rattle.std.proofs.Common.{◌≡◌, ℕ, ◌+◌, ◌-◌, ◌*◌, ◌/◌, ◌<◌, ◌≤◌, get_or, sym, ap, ◌∙◌, subst, arith}
use Rattle.std.proofs.Math.Nat.{div-eq_of_lt, mul-div_cancel, mul_comm, zero-div}
use Rattle.jpg_spec.specs.Geometry.{IsReal, div_up}
use Rattle.jpg_spec.specs.Grids.{picture_grids}
use Rattle.jpg_spec.specs.Meaning.{Meaning, component_of, most_across, most_down, picture_frame}
use Rattle.jpg_spec_move.specs.Cropped.{columns_before, cropped_side, rows_before}
use Rattle.jpg_spec_move.specs.Laws.{AreParts, HasSampling, left_columns, left_part, right_part}
use Rattle.jpg_spec_move.specs.declared.area.Area.{Area}
use Rattle.jpg_spec.proofs.Headers.FrameFound.{real_side}
use Rattle.jpg_spec_move.proofs.CroppedGrids.{cropped_block, longer}
use Rattle.jpg_spec_move.proofs.MovedGrids.{part_across, real_mono}
use Rattle.jpg_spec_move.proofs.OutsideZeros.{in_picture, of_picture}

-- ALONG ONE SIDE

from_zero : (mcu side : ℕ) → cropped_side mcu 0 side ≡ side
from_zero mcu side = omega arith

none_before : (mcu factor : ℕ) → 0 / mcu * factor ≡ 0
none_before mcu factor = (let e = ap (λ q. q * factor) (zero-div mcu) in omega (arith, e))

no_side : (factor most : ℕ) → 0 < most → real_side 0 factor most ≡ 0
no_side factor most some =
    let product : 0 * factor ≡ 0 = omega arith in
    let samples : div_up (0 * factor) most ≡ 0 = ap (λ k. div_up k most) product ∙ div-eq_of_lt (omega (arith, some)) in
    ap (λ k. div_up k 8) samples

-- of whole iMCUs
whole_side : (n factor most : ℕ) → 0 < most → real_side (n * (8 * most)) factor most ≡ n * factor
whole_side n factor most some =
    let from : 0 + n * (8 * most) ≡ n * (8 * most) = omega arith in
    let e : real_side (n * (8 * most)) factor most ≡ real_side 0 factor most + n * factor = ap (λ side. real_side side factor most) (sym from) ∙ longer 0 n factor most some in
    let none = no_side factor most some in
    omega (arith, e, none)

-- after whole iMCUs
rest_side : (n whole most : ℕ) → 0 < most → cropped_side (8 * most) (n * (8 * most)) (whole - n * (8 * most)) ≡ whole - n * (8 * most)
rest_side n whole most some =
    let q : n * (8 * most) / (8 * most) ≡ n = mul-div_cancel n (omega (arith, some)) in
    let e : (8 * most) * (n * (8 * most) / (8 * most)) ≡ n * (8 * most) = ap (λ k. (8 * most) * k) q ∙ mul_comm (8 * most) n in
    omega (arith, e)

rest_real : (n whole factor most : ℕ) → 0 < most → n * (8 * most) ≤ whole → real_side whole factor most ≡ real_side (cropped_side (8 * most) (n * (8 * most)) (whole - n * (8 * most))) factor most + n * factor
rest_real n whole factor most some h =
    let e : whole ≡ (whole - n * (8 * most)) + n * (8 * most) = omega (arith, h) in
    ap (λ side. real_side side factor most) e ∙ longer (whole - n * (8 * most)) n factor most some
    ∙ ap (λ side. real_side side factor most + n * factor) (sym (rest_side n whole most some))

-- THE PARTS

module _ (M : Meaning) (n : ℕ) (has : HasSampling M) (inside : n * (8 * most_across M) ≤ M.width) where
  abbrev factor : ℕ → ℕ
  factor i = get_or (picture_grids M).across i 1

  columns_are : (i : ℕ) → left_columns n M i ≡ n * factor i
  columns_are i = ap (λ k. n * k) (part_across M i)

  -- the first columns are real
  under : (i : ℕ) → n * factor i ≤ real_side M.width (factor i) (most_across M)
  under i =
      let e = whole_side n (factor i) (most_across M) has.across in
      let h = real_mono (n * (8 * most_across M)) M.width (factor i) (most_across M) has.across inside in
      omega (arith, e, h)

  left_to : (i x y : ℕ) → IsReal (picture_frame (left_part n M)) i x y → IsReal (picture_frame M) i x y × (x < left_columns n M i)
  left_to i x y r =
      let g = of_picture (left_part n M) i x y r in
      let width : real_side (cropped_side (8 * most_across M) 0 (n * (8 * most_across M))) (factor i) (most_across M) ≡ n * factor i =
      ap (λ side. real_side side (factor i) (most_across M)) (from_zero (8 * most_across M) (n * (8 * most_across M))) ∙ whole_side n (factor i) (most_across M) has.across in
      let few : x < n * factor i = subst (λ k. x < k) width g.across in
      let high : y < real_side M.height (get_or (picture_grids M).down i 1) (most_down M) = subst (λ side. y < real_side side (get_or (picture_grids M).down i 1) (most_down M)) (from_zero (8 * most_down M) M.height) g.down in
      let all = under i in
      let e = columns_are i in
      (in_picture M i x y (record { component = g.component; across = omega (arith, few, all); down = high }), omega (arith, few, e))

  left_from : (i x y : ℕ) → IsReal (picture_frame M) i x y × (x < left_columns n M i) → IsReal (picture_frame (left_part n M)) i x y
  left_from i x y r =
      let g = of_picture M i x y r.0 in
      let width : real_side (cropped_side (8 * most_across M) 0 (n * (8 * most_across M))) (factor i) (most_across M) ≡ n * factor i =
      ap (λ side. real_side side (factor i) (most_across M)) (from_zero (8 * most_across M) (n * (8 * most_across M))) ∙ whole_side n (factor i) (most_across M) has.across in
      let few : x < n * factor i = subst (λ k. x < k) (columns_are i) r.1 in
      in_picture (left_part n M) i x y
      (record {
        component = g.component;
        across = subst (λ k. x < k) (sym width) few;
        down = subst (λ side. y < real_side side (get_or (picture_grids M).down i 1) (most_down M)) (sym (from_zero (8 * most_down M) M.height)) g.down;
      })

  left_block : (i x y : ℕ) → IsReal (picture_frame (left_part n M)) i x y → (left_part n M).blocks i x y ≡ M.blocks i x y
  left_block i x y r =
      let area : Area = record { w = n * (8 * most_across M); h = M.height; x = 0; y = 0 } in
      let a = none_before (8 * most_across M) (component_of M i).h in
      let b = none_before (8 * most_down M) (component_of M i).v in
      let across : x + columns_before area M i ≡ x = omega (arith, a) in
      let down : y + rows_before area M i ≡ y = omega (arith, b) in
      cropped_block area M i x y r ∙ ap (λ k. M.blocks i k (y + rows_before area M i)) across ∙ ap (λ k. M.blocks i x k) down

  before : n * (8 * most_across M) / (8 * most_across M) ≡ n
  before = mul-div_cancel n (let some = has.across in omega (arith, some))

  right_to : (i x y : ℕ) → IsReal (picture_frame (right_part n M)) i x y → IsReal (picture_frame M) i (x + left_columns n M i) y
  right_to i x y r =
      let g = of_picture (right_part n M) i x y r in
      let e = rest_real n M.width (factor i) (most_across M) has.across inside in
      let c = columns_are i in
      in_picture M i (x + left_columns n M i) y
      (record {
        component = g.component;
        across = (let lt = g.across in omega (arith, lt, e, c));
        down = subst (λ side. y < real_side side (get_or (picture_grids M).down i 1) (most_down M)) (from_zero (8 * most_down M) M.height) g.down;
      })

  right_from : (i x y : ℕ) → IsReal (picture_frame M) i (x + left_columns n M i) y → IsReal (picture_frame (right_part n M)) i x y
  right_from i x y r =
      let g = of_picture M i (x + left_columns n M i) y r in
      let e = rest_real n M.width (factor i) (most_across M) has.across inside in
      let c = columns_are i in
      in_picture (right_part n M) i x y
      (record {
        component = g.component;
        across = (let lt = g.across in omega (arith, lt, e, c));
        down = subst (λ side. y < real_side side (get_or (picture_grids M).down i 1) (most_down M)) (sym (from_zero (8 * most_down M) M.height)) g.down;
      })

  right_block : (i x y : ℕ) → IsReal (picture_frame (right_part n M)) i x y → (right_part n M).blocks i x y ≡ M.blocks i (x + left_columns n M i) y
  right_block i x y r =
      let area : Area = record { w = M.width - n * (8 * most_across M); h = M.height; x = n * (8 * most_across M); y = 0 } in
      let b = none_before (8 * most_down M) (component_of M i).v in
      let across : columns_before area M i ≡ left_columns n M i = ap (λ q. q * (component_of M i).h) before in
      let down : y + rows_before area M i ≡ y = omega (arith, b) in
      cropped_block area M i x y r ∙ ap (λ k. M.blocks i (x + k) (y + rows_before area M i)) across ∙ ap (λ k. M.blocks i (x + left_columns n M i) k) down

  pub are_parts : AreParts (left_columns n M) M (left_part n M) (right_part n M)
  are_parts = record {
    first = record { places = λ i x y. (left_to i x y, left_from i x y); blocks = left_block };
    others = record { places = λ i x y. (right_to i x y, right_from i x y); blocks = right_block };
  }
