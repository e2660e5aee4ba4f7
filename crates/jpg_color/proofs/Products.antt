-- Planes are wide enough for the image, and the number of pixels that a frame may have.
use Rattle.std.proofs.Common.{◌≡◌, ◌⊎◌, inl, inr, ℕ, zero, suc, ◌+◌, ◌*◌, ◌<◌, ◌≤◌, max, List, [], ◌∷◌, map, subst, refl, sym, ap, ◌∙◌, arith, All}
use Rattle.std.specs.Prelude.{sum_by}
use Rattle.std.proofs.lemmas.Nat.{mul-le}
use Rattle.std.proofs.Math.Nat.{mul-le-mul_right}
use Rattle.std.proofs.lemmas.Bool.{cases_lt}
use Rattle.std.proofs.lemmas.List.Elements.{All-head, All-tail}
use Rattle.std.proofs.lemmas.List.Sums.{sum_by-cons}
use Rattle.jpg_spec.specs.Geometry.{Frame, greatest, h_max, v_max, component_at, mcus_across, mcus_down}
use Rattle.jpg_spec.specs.FrameHeader.{HasFactors, IsFrame}
use Rattle.jpg_spec.specs.Scan.{Blocks}
use Rattle.jpg_spec_image.specs.Pixels.{samples_across, stretch_of}
use Rattle.jpg_spec.specs.declared.frame.Component.{Component}
use Rattle.jpg_base.proofs.Grids.{across_low, across_high, down_low, down_high}
use Rattle.jpg_color.specs.Shown.{Display, IsShowable, picture_of, parts}
use Rattle.jpg_color.proofs.Coverage.{in_frame, factors_at, whole_ratios, samples_across_is, up_covers}
use Rattle.jpg_spec_image.proofs.RowsCovered.{tall_enough}

pub wide_enough : (d : Display) (blocks : Blocks) (i : ℕ) → IsShowable d → i < parts d
    → d.frame.width ≤ samples_across (picture_of d blocks) i * (stretch_of (picture_of d blocks) d.smooth i).across
wide_enough d blocks i s h =
    let there = in_frame d i s h in
    let st = stretch_of (picture_of d blocks) d.smooth i in
    let r = whole_ratios d blocks i s h in
    let c = factors_at d i s there in
    let pos = across_low d.frame.components s.frame.factors s.frame.count_low in
    subst (λ n. d.frame.width ≤ n * st.across) (sym (samples_across_is d blocks i there))
    (tall_enough d.frame.width (component_at d.frame i).h (h_max d.frame) st.across c.h_low pos r.across)

-- PIXELS

abbrev areas : List Component → ℕ
areas cs = sum_by (λ (c : Component). c.h * c.v) cs

scaled : (across down : ℕ) (cs : List Component) → sum_by (λ (c : Component). (across * c.h) * (down * c.v)) cs ≡ (across * down) * areas cs
scaled across down [] = (let z : (across * down) * 0 ≡ 0 = grind arith in sym z)
scaled across down (c ∷ cs) =
    let p : (across * c.h) * (down * c.v) + (across * down) * areas cs ≡ (across * down) * (c.h * c.v + areas cs) = grind arith in
    sum_by-cons (λ (c : Component). (across * c.h) * (down * c.v)) c cs
    ∙ ap (λ n. (across * c.h) * (down * c.v) + n) (scaled across down cs)
    ∙ p
    ∙ ap (λ n. (across * down) * n) (sym (sum_by-cons (λ (c : Component). c.h * c.v) c cs))

-- a factor is no more than its component's area
factor_in : (h v : ℕ) → 1 ≤ h → 1 ≤ v → (h ≤ h * v) × (v ≤ h * v)
factor_in zero v a b = absurd (omega (arith, a))
factor_in (suc h) zero a b = absurd (omega (arith, b))
factor_in (suc h) (suc v) a b =
    let p : suc h * suc v ≡ h * v + h + v + 1 = grind arith in
    (omega (arith, p), omega (arith, p))

most_in : (cs : List Component) → All HasFactors cs → (greatest (map (λ c. c.h) cs) ≤ areas cs) × (greatest (map (λ c. c.v) cs) ≤ areas cs)
most_in [] all = (omega arith, omega arith)
most_in (c ∷ cs) all =
    let f = All-head HasFactors c cs all in
    let i = factor_in c.h c.v f.h_low f.v_low in
    let r = most_in cs (All-tail HasFactors c cs all) in
    let s = sum_by-cons (λ (c : Component). c.h * c.v) c cs in (
      most_more c.h (greatest (map (λ c. c.h) cs)) (c.h * c.v) (areas cs) (areas (c ∷ cs)) s i.0 r.0,
      most_more c.v (greatest (map (λ c. c.v) cs)) (c.h * c.v) (areas cs) (areas (c ∷ cs)) s i.1 r.1,
    )
  where
    most_more : (a m p q s : ℕ) → s ≡ p + q → a ≤ p → m ≤ q → max a m ≤ s
    most_more a m p q s e h k = omega (arith, e, h, k)

-- factors up to 4: their product is no more than twice their sum
small_product : (h v : ℕ) → h ≤ 4 → v ≤ 4 → h * v ≤ 2 * h + 2 * v
small_product zero v a b = omega arith
small_product (suc zero) v a b = omega arith
small_product (suc (suc zero)) v a b = omega arith
small_product (suc (suc (suc zero))) v a b = omega (arith, b)
small_product (suc (suc (suc (suc zero)))) v a b = omega (arith, b)
small_product (suc (suc (suc (suc (suc h))))) v a b = absurd (omega (arith, a))

cross : (h v H V p q s : ℕ) → h ≤ 4 → v ≤ 4 → H ≤ 4 → V ≤ 4 → h * v ≡ p → h ≤ p → v ≤ p → H ≤ q → V ≤ q → H * V ≤ 2 * q → s ≡ p + q
    → (H < h) ⊎ (h ≤ H) → (V < v) ⊎ (v ≤ V) → max h H * max v V ≤ 2 * s
cross h v H V p q s ha va Ha Va e hp vp Hq Vq old is (inl a) (inl b) =
    let m : max h H ≡ h = omega (arith, a) in
    let n : max v V ≡ v = omega (arith, b) in
    let w : max h H * max v V ≡ h * v = ap (λ k. k * max v V) m ∙ ap (λ k. h * k) n in
    omega (arith, w, e, is)
cross h v H V p q s ha va Ha Va e hp vp Hq Vq old is (inl a) (inr b) =
    let m : max h H ≡ h = omega (arith, a) in
    let n : max v V ≡ V = omega (arith, b) in
    let w : max h H * max v V ≡ h * V = ap (λ k. k * max v V) m ∙ ap (λ k. h * k) n in
    let r = small_product h V ha Va in
    omega (arith, w, r, hp, Vq, is)
cross h v H V p q s ha va Ha Va e hp vp Hq Vq old is (inr a) (inl b) =
    let m : max h H ≡ H = omega (arith, a) in
    let n : max v V ≡ v = omega (arith, b) in
    let w : max h H * max v V ≡ H * v = ap (λ k. k * max v V) m ∙ ap (λ k. H * k) n in
    let r = small_product H v Ha va in
    omega (arith, w, r, vp, Hq, is)
cross h v H V p q s ha va Ha Va e hp vp Hq Vq old is (inr a) (inr b) =
    let m : max h H ≡ H = omega (arith, a) in
    let n : max v V ≡ V = omega (arith, b) in
    let w : max h H * max v V ≡ H * V = ap (λ k. k * max v V) m ∙ ap (λ k. H * k) n in
    omega (arith, w, old, is)

-- the area of an MCU in blocks of the greatest factors is no more than twice the blocks that it has
mcu_area : (cs : List Component) → All HasFactors cs → greatest (map (λ c. c.h) cs) * greatest (map (λ c. c.v) cs) ≤ 2 * areas cs
mcu_area [] all = omega arith
mcu_area (c ∷ cs) all =
    let f = All-head HasFactors c cs all in
    let rest = All-tail HasFactors c cs all in
    let i = factor_in c.h c.v f.h_low f.v_low in
    let r = most_in cs rest in
    cross c.h c.v (greatest (map (λ c. c.h) cs)) (greatest (map (λ c. c.v) cs)) (c.h * c.v) (areas cs) (areas (c ∷ cs)) f.h_high f.v_high (across_high cs rest) (down_high cs rest) refl i.0 i.1 r.0 r.1 (mcu_area cs rest)
    (sum_by-cons (λ (c : Component). c.h * c.v) c cs) (cases_lt (greatest (map (λ c. c.h) cs)) c.h) (cases_lt (greatest (map (λ c. c.v) cs)) c.v)

pixels_in : (width height across down h v area : ℕ) → width ≤ across * (8 * h) → height ≤ down * (8 * v) → h * v ≤ 2 * area → (across * down) * area ≤ 8388608 → width * height ≤ 1073741824
pixels_in width height across down h v area w t less few =
    let a : width * height ≤ (across * (8 * h)) * (down * (8 * v)) = mul-le width height (across * (8 * h)) (down * (8 * v)) w t in
    let b : (across * (8 * h)) * (down * (8 * v)) ≡ 64 * ((h * v) * (across * down)) = grind arith in
    let c : (h * v) * (across * down) ≤ (2 * area) * (across * down) = mul-le-mul_right (across * down) less in
    let e : (2 * area) * (across * down) ≡ 2 * ((across * down) * area) = grind arith in
    omega (arith, a, b, c, e, few)

pub frame_pixels : (f : Frame) → IsFrame f → f.width * f.height ≤ 1073741824
frame_pixels f is =
    let h = across_low f.components is.factors is.count_low in
    let v = down_low f.components is.factors is.count_low in
    let few : (mcus_across f * mcus_down f) * areas f.components ≤ 8388608 = subst (λ n. n ≤ 8388608) (scaled (mcus_across f) (mcus_down f) f.components) is.blocks in
    pixels_in f.width f.height (mcus_across f) (mcus_down f) (h_max f) (v_max f) (areas f.components)
    (up_covers f.width (8 * h_max f) (some_eight (h_max f) h)) (up_covers f.height (8 * v_max f) (some_eight (v_max f) v)) (mcu_area f.components is.factors) few
  where
    some_eight : (n : ℕ) → 1 ≤ n → 1 ≤ 8 * n
    some_eight n h = omega (arith, h)

pub pixels_few : (d : Display) → IsShowable d → d.frame.width * d.frame.height ≤ 1073741824
pixels_few d s = frame_pixels d.frame s.frame
