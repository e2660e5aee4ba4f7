-- The frame of a transformed picture passes the checks of a frame.
use Rattle.std.proofs.Common.{◌≡◌, ℕ, zero, suc, ◌+◌, ◌-◌, ◌*◌, ◌/◌, ◌<◌, ◌≤◌, Bool, true, false, cond, ◌&&◌, ◌==◌, List, [], ◌∷◌, length, get_or, map, refl, sym, ap, ◌∙◌, subst, arith}
use Rattle.std.specs.Prelude.{sum_by}
use Rattle.std.specs.List.{All}
use Rattle.std.proofs.Math.Nat.{mul_comm, div-mul-le_self}
use Rattle.std.proofs.lemmas.Nat.{le-div, mul-le}
use Rattle.std.proofs.lemmas.List.{length-map}
use Rattle.std.proofs.lemmas.List.Sums.{sum_by-cons}
use Rattle.std.proofs.lemmas.List.Elements.{All-head, All-tail, All-nil, All-cons}
use Rattle.jpg_spec.specs.Geometry.{Frame, div_up, greatest, h_max, v_max, component_at, no_component, padded_blocks, mcus_across, mcus_down}
use Rattle.jpg_spec.specs.FrameHeader.{IsFrame, HasFactors}
use Rattle.jpg_spec.specs.Lists.{is_distinct}
use Rattle.jpg_spec_move.specs.Transforms.{transposes, mirrors_across, mirrors_down}
use Rattle.jpg_spec_move.specs.Moved.{transformed_frame, trimmed_frame, grayed_frame, exchanged_factors, whole_side}
use Rattle.jpg_spec.specs.declared.frame.Component.{Component}
use Rattle.jpg_spec_move.specs.declared.transform.Transform.{Transform}
use Rattle.jpg_spec.proofs.Basics.Rows.{map_map}
use Rattle.jpg_spec.proofs.Places.PlacesFound.{covers, least}
use Rattle.jpg_spec.proofs.Basics.Common.{not_zero}
use Rattle.jpg_spec.proofs.Writing.MovedFrames.{across_low, down_low}

-- TRANSPOSED

exchanged_all : (cs : List Component) → All HasFactors cs → All HasFactors (map exchanged_factors cs)
exchanged_all [] all = All-nil HasFactors
exchanged_all (c ∷ cs) all =
    let f = All-head HasFactors c cs all in
    All-cons HasFactors (exchanged_factors c) (map exchanged_factors cs) (record { h_low = f.v_low; h_high = f.v_high; v_low = f.h_low; v_high = f.h_high }) (exchanged_all cs (All-tail HasFactors c cs all))

slots_all : (cs : List Component) → All (λ c. c.quant ≤ 3) cs → All (λ c. c.quant ≤ 3) (map exchanged_factors cs)
slots_all [] all = All-nil (λ c. c.quant ≤ 3)
slots_all (c ∷ cs) all = All-cons (λ c. c.quant ≤ 3) (exchanged_factors c) (map exchanged_factors cs) (All-head (λ c. c.quant ≤ 3) c cs all) (slots_all cs (All-tail (λ c. c.quant ≤ 3) c cs all))

abbrev blocks_by : ℕ → ℕ → Component → ℕ
blocks_by a b c = (a * c.h) * (b * c.v)

sum_exchanged : (a b : ℕ) (cs : List Component) → sum_by (blocks_by a b) (map exchanged_factors cs) ≡ sum_by (blocks_by b a) cs
sum_exchanged a b [] = refl
sum_exchanged a b (c ∷ cs) =
    sum_by-cons (blocks_by a b) (exchanged_factors c) (map exchanged_factors cs) ∙ ap (λ n. n + sum_by (blocks_by a b) (map exchanged_factors cs)) (mul_comm (a * c.v) (b * c.h)) ∙ ap (λ n. (b * c.h) * (a * c.v) + n) (sum_exchanged a b cs) ∙ sym (sum_by-cons (blocks_by b a) c cs)

exchanged_frame : (f : Frame) → IsFrame f → IsFrame (record f { width = f.height; height = f.width; components = map exchanged_factors f.components })
exchanged_frame f is =
    let cs = f.components in
    let l = length-map cs exchanged_factors in
    let h : greatest (map (λ c. c.h) (map exchanged_factors cs)) ≡ v_max f = ap greatest (map_map (λ c. c.h) exchanged_factors cs) in
    let v : greatest (map (λ c. c.v) (map exchanged_factors cs)) ≡ h_max f = ap greatest (map_map (λ c. c.v) exchanged_factors cs) in
    let sum : sum_by (blocks_by (div_up f.height (8 * greatest (map (λ c. c.h) (map exchanged_factors cs)))) (div_up f.width (8 * greatest (map (λ c. c.v) (map exchanged_factors cs))))) (map exchanged_factors cs) ≡ padded_blocks f =
    ap (λ k. sum_by (blocks_by (div_up f.height (8 * k)) (div_up f.width (8 * greatest (map (λ c. c.v) (map exchanged_factors cs))))) (map exchanged_factors cs)) h
    ∙ ap (λ k. sum_by (blocks_by (mcus_down f) (div_up f.width (8 * k))) (map exchanged_factors cs)) v
    ∙ sum_exchanged (mcus_down f) (mcus_across f) cs in
    record {
      width_low = is.height_low;
      width_high = is.height_high;
      height_low = is.width_low;
      height_high = is.width_high;
      precision = is.precision;
      count_low = omega (arith, l, is.count_low);
      count_high = omega (arith, l, is.count_high);
      factors = exchanged_all cs is.factors;
      distinct = ap is_distinct (map_map (λ c. c.id) exchanged_factors cs) ∙ is.distinct;
      slots = slots_all cs is.slots;
      blocks = subst (λ n. n ≤ 8388608) (sym sum) is.blocks;
    }

pub transformed_is : (t : Transform) (f : Frame) → IsFrame f → IsFrame (transformed_frame t f)
transformed_is t f is = by (transposes t)
  where
    by : (b : Bool) → IsFrame (cond b (record f { width = f.height; height = f.width; components = map exchanged_factors f.components }) f)
    by true = exchanged_frame f is
    by false = is

-- TRIMMED

pub up_mono : (a b d : ℕ) → 0 < d → a ≤ b → div_up a d ≤ div_up b d
up_mono a b d some h =
    let m = a + d - 1 in
    let under : m / d * d ≤ m = div-mul-le_self m d in
    le-div (m / d) (b + d - 1) d some (omega (arith, h, under))

pub sum_mono : (a b c d : ℕ) (cs : List Component) → a ≤ c → b ≤ d → sum_by (blocks_by a b) cs ≤ sum_by (blocks_by c d) cs
sum_mono a b c d [] h k = omega arith
sum_mono a b c d (x ∷ cs) h k =
    let one : (a * x.h) * (b * x.v) ≤ (c * x.h) * (d * x.v) = mul-le (a * x.h) (b * x.v) (c * x.h) (d * x.v) (mul-le a x.h c x.h h (omega arith)) (mul-le b x.v d x.v k (omega arith)) in
    let rest = sum_mono a b c d cs h k in
    omega (arith, one, rest, sum_by-cons (blocks_by a b) x cs, sum_by-cons (blocks_by c d) x cs)

abbrev cut_side : Bool → ℕ → ℕ → ℕ
cut_side b side m = cond b (whole_side side m) side

cut_low : (b : Bool) (side m : ℕ) → cut_side b side m ≤ side
cut_low false side m = omega arith
cut_low true side m = by (side / m == 0)
  where
    by : (b : Bool) → cond b side (m * (side / m)) ≤ side
    by true = omega arith
    by false = (let h = div-mul-le_self side m in let e = mul_comm m (side / m) in omega (arith, h, e))

cut_some : (b : Bool) (side m : ℕ) → 0 < m → 1 ≤ side → 1 ≤ cut_side b side m
cut_some false side m h s = s
cut_some true side m h s = by (side / m) refl
  where
    by : (q : ℕ) → side / m ≡ q → 1 ≤ cond (q == 0) side (m * q)
    by zero e = s
    by (suc q) e = subst (λ (t : Bool). 1 ≤ cond t side (m * suc q)) (sym (not_zero q)) (mul-le 1 1 m (suc q) h (omega arith))

pub trimmed_is : (trim : Bool) (t : Transform) (f : Frame) → IsFrame f → IsFrame (trimmed_frame trim t f)
trimmed_is trim t f is =
    let h : 0 < 8 * h_max f = (let k = across_low f.components is.factors is.count_low in omega (arith, k)) in
    let v : 0 < 8 * v_max f = (let k = down_low f.components is.factors is.count_low in omega (arith, k)) in
    let a = trim && mirrors_across t in
    let b = trim && mirrors_down t in
    let wl = cut_low a f.width (8 * h_max f) in
    let hl = cut_low b f.height (8 * v_max f) in
    let sum = sum_mono (div_up (cut_side a f.width (8 * h_max f)) (8 * h_max f)) (div_up (cut_side b f.height (8 * v_max f)) (8 * v_max f)) (mcus_across f) (mcus_down f) f.components
    (up_mono (cut_side a f.width (8 * h_max f)) f.width (8 * h_max f) h wl) (up_mono (cut_side b f.height (8 * v_max f)) f.height (8 * v_max f) v hl) in
    record {
      width_low = cut_some a f.width (8 * h_max f) h is.width_low;
      width_high = omega (arith, wl, is.width_high);
      height_low = cut_some b f.height (8 * v_max f) v is.height_low;
      height_high = omega (arith, hl, is.height_high);
      precision = is.precision;
      count_low = is.count_low;
      count_high = is.count_high;
      factors = is.factors;
      distinct = is.distinct;
      slots = is.slots;
      blocks = omega (arith, sum, is.blocks);
    }

-- GRAYSCALE

-- the blocks of one component of factors 1 are no more than those of a component with the greatest factors
one_side : (side most : ℕ) → 0 < most → div_up side 8 ≤ div_up side (8 * most) * most
one_side side most some =
    let q = div_up side (8 * most) in
    let whole : side ≤ q * (8 * most) = covers side (8 * most) (omega (arith, some)) in
    let turned : q * (8 * most) ≡ q * most * 8 = grind arith in
    least side 8 (q * most) (omega arith) (omega (arith, whole, turned))

first_sum : (a b : ℕ) (cs : List Component) → 0 < length cs → blocks_by a b (get_or cs 0 no_component) ≤ sum_by (blocks_by a b) cs
first_sum a b [] some = absurd (omega (arith, some))
first_sum a b (c ∷ cs) some = omega (arith, sum_by-cons (blocks_by a b) c cs)

first_slot : (cs : List Component) → All (λ c. c.quant ≤ 3) cs → 0 < length cs → (get_or cs 0 no_component).quant ≤ 3
first_slot [] all some = absurd (omega (arith, some))
first_slot (c ∷ cs) all some = All-head (λ c. c.quant ≤ 3) c cs all

pub grayed_is : (gray : Bool) (f : Frame) → IsFrame f → (gray ≡ true → (component_at f 0).h ≡ h_max f) → (gray ≡ true → (component_at f 0).v ≡ v_max f) → IsFrame (grayed_frame gray f)
grayed_is false f is h v = is
grayed_is true f is h v =
    let first = component_at f 0 in
    let some : 0 < length f.components = omega (arith, is.count_low) in
    let most : 0 < h_max f = (let k = across_low f.components is.factors is.count_low in omega (arith, k)) in
    let most_v : 0 < v_max f = (let k = down_low f.components is.factors is.count_low in omega (arith, k)) in
    let across : div_up f.width 8 ≤ mcus_across f * first.h = subst (λ k. div_up f.width 8 ≤ mcus_across f * k) (sym (h refl)) (one_side f.width (h_max f) most) in
    let down : div_up f.height 8 ≤ mcus_down f * first.v = subst (λ k. div_up f.height 8 ≤ mcus_down f * k) (sym (v refl)) (one_side f.height (v_max f) most_v) in
    let product : div_up f.width 8 * div_up f.height 8 ≤ (mcus_across f * first.h) * (mcus_down f * first.v) = mul-le (div_up f.width 8) (div_up f.height 8) (mcus_across f * first.h) (mcus_down f * first.v) across down in
    let under : (mcus_across f * first.h) * (mcus_down f * first.v) ≤ padded_blocks f = first_sum (mcus_across f) (mcus_down f) f.components some in
    let all : div_up f.width 8 * 1 * (div_up f.height 8 * 1) + 0 ≡ div_up f.width 8 * div_up f.height 8 = grind arith in
    record {
      width_low = is.width_low;
      width_high = is.width_high;
      height_low = is.height_low;
      height_high = is.height_high;
      precision = is.precision;
      count_low = omega arith;
      count_high = omega arith;
      factors = All-cons HasFactors _ [] (record { h_low = omega arith; h_high = omega arith; v_low = omega arith; v_high = omega arith }) (All-nil HasFactors);
      distinct = refl;
      slots = All-cons (λ c. c.quant ≤ 3) _ [] (first_slot f.components is.slots some) (All-nil (λ c. c.quant ≤ 3));
      blocks = omega (arith, all, product, under, is.blocks);
    }
