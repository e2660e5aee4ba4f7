-- The components of the definitions: their ratios, their sizes, and their planes.
use Rattle.std.proofs.Common.{◌≡◌, ℕ, zero, suc, ◌+◌, ◌-◌, ◌*◌, ◌/◌, ◌<◌, ◌≤◌, min, Bool, true, false, cond, ◌||◌, List, [], ◌∷◌, length, map, slice_index_or, sym, ap, ◌∙◌, subst, arith}
use Rattle.std.proofs.Math.Nat.{div-le_self}
use Rattle.std.proofs.lemmas.Nat.{div_below, le-div, mul-le}
use Rattle.std.proofs.lemmas.List.{get_or-map, length-map}
use Rattle.jpg_spec_image.specs.Downsampling.{downsampled}
use Rattle.jpg_spec_encode.specs.Encoded.{Encoding, component_due, component_plane, components_due, encoded_head, full_plane, is_gray, rows_made}
use Rattle.jpg_spec.specs.Geometry.{Frame, component_at, div_up, greatest, h_max, v_max, no_component}
use Rattle.jpg_spec_image.specs.Images.{Image}
use Rattle.jpg_spec.specs.Lists.{below}
use Rattle.jpg_spec.specs.Meaning.{Meaning, picture_frame}
use Rattle.jpg_spec.specs.Meaning.{component_of, most_across, most_down}
use Rattle.jpg_spec.specs.declared.frame.Component.{Component}
use Rattle.jpg_spec.proofs.Basics.Common.{length_below}
use Rattle.jpg_spec.proofs.Basics.Rows.{at_below}
use Rattle.jpg_color.specs.EncodeBlocks.{lower_plane}
use Rattle.jpg_color.proofs.EncodedHead.{frame_across, frame_component, frame_down}

-- RATIOS of the greatest factors

greatest_map : (g : Component → ℕ) (cs : List Component) (i : ℕ) → i < length cs → g (slice_index_or cs i no_component) ≤ greatest (map g cs)
greatest_map g [] i h = absurd (omega (arith, h))
greatest_map g (c ∷ cs) zero h = omega arith
greatest_map g (c ∷ cs) (suc i) h = (let l = greatest_map g cs i (omega (arith, h)) in omega (arith, l))

pub across_most : (f : Frame) (i : ℕ) → i < length f.components → (component_at f i).h ≤ h_max f
across_most f i h = greatest_map (λ c. c.h) f.components i h

pub down_most : (f : Frame) (i : ℕ) → i < length f.components → (component_at f i).v ≤ v_max f
down_most f i h = greatest_map (λ c. c.v) f.components i h

pub ratio_some : (n k : ℕ) → 1 ≤ k → k ≤ n → 1 ≤ n / k
ratio_some n k low h = le-div 1 n k low (omega (arith, h))

pub ratio_few : (n k : ℕ) → n ≤ 4 → n / k ≤ 4
ratio_few n k h = (let l = div-le_self n k in omega (arith, l, h))

-- SIZES

pub samples_few : (w h most : ℕ) → 1 ≤ most → h ≤ most → div_up (w * h) most ≤ w
samples_few w h most low high =
    let m = mul-le w h w most (omega arith) high in
    let s : (w + 1) * most ≡ w * most + most = grind arith in
    let b = div_below (w * h + most - 1) most (w + 1) (omega (arith, low)) (omega (arith, m, s, low)) in
    omega (arith, b)

pub row_few : (w h most : ℕ) → w ≤ 65500 → 1 ≤ most → h ≤ most → 8 * (8 * div_up (div_up (w * h) most) 8) ≤ 1000000
row_few w h most few low high = (let s = samples_few w h most low high in omega (arith, s, few))

-- THE PLANE of a component, as the definitions have it

pub plane_due : (H : Meaning) {f : Frame} (image : Image) (i : ℕ) → f ≡ picture_frame H → H.height ≡ image.info.height → (x y : ℕ) → lower_plane f image i x y ≡ component_plane H image i x y
plane_due H {f} image i e high x y =
    let c = component_of H i in
    let h : (component_at f i).h ≡ c.h = ap (λ (g : Frame). (component_at g i).h) e ∙ ap (λ (k : Component). k.h) (frame_component H i) in
    let v : (component_at f i).v ≡ c.v = ap (λ (g : Frame). (component_at g i).v) e ∙ ap (λ (k : Component). k.v) (frame_component H i) in
    let hm : h_max f ≡ most_across H = ap h_max e ∙ frame_across H in
    let vm : v_max f ≡ most_down H = ap v_max e ∙ frame_down H in
    let across : h_max f / (component_at f i).h ≡ most_across H / c.h = ap (λ k. k / (component_at f i).h) hm ∙ ap (λ k. most_across H / k) h in
    let down : v_max f / (component_at f i).v ≡ most_down H / c.v = ap (λ k. k / (component_at f i).v) vm ∙ ap (λ k. most_down H / k) v in
    let made : div_up image.info.height (v_max f) * (component_at f i).v ≡ rows_made H i =
    ap (λ k. div_up k (v_max f) * (component_at f i).v) (sym high) ∙ ap (λ k. div_up H.height k * (component_at f i).v) vm ∙ ap (λ k. div_up H.height (most_down H) * k) v in
    ap (λ k. downsampled k (v_max f / (component_at f i).v) (full_plane image i) x (min y (div_up image.info.height (v_max f) * (component_at f i).v - 1))) across
    ∙ ap (λ k. downsampled (most_across H / c.h) k (full_plane image i) x (min y (div_up image.info.height (v_max f) * (component_at f i).v - 1))) down
    ∙ ap (λ k. downsampled (most_across H / c.h) (most_down H / c.v) (full_plane image i) x (min y (k - 1))) made

-- THE COMPONENTS of the definitions

pub count_due : (e : Encoding) (image : Image) → length (picture_frame (encoded_head e image)).components ≡ components_due e image
count_due e image =
    length-map (map (component_due e) (below (components_due e image))) (λ c. (let k : Component = record { id = c.id; h = c.h; v = c.v; quant = 0 } in k))
    ∙ length-map (below (components_due e image)) (component_due e) ∙ length_below (components_due e image)

few_due : (b : Bool) → cond b 1 3 ≤ 3
few_due true = omega arith
few_due false = omega arith

pub at_most_three : (e : Encoding) (image : Image) → components_due e image ≤ 3
at_most_three e image = few_due (e.gray || is_gray image.info.kind)

three_due : (b : Bool) → 1 < cond b 1 3 → 2 < cond b 1 3
three_due true h = absurd (omega (arith, h))
three_due false h = omega arith

pub three_or_one : (e : Encoding) (image : Image) → 1 < components_due e image → 2 < components_due e image
three_or_one e image h = three_due (e.gray || is_gray image.info.kind) h

pub component_there : (e : Encoding) (image : Image) (i : ℕ) → i < components_due e image → component_of (encoded_head e image) i ≡ component_due e i
component_there e image i h =
    get_or-map (component_due e) (below (components_due e image)) i 0 (record { id = 0; h = 1; v = 1; quants = [] }) (subst (λ n. i < n) (sym (length_below (components_due e image))) h)
    ∙ ap (component_due e) (at_below (components_due e image) i h)
