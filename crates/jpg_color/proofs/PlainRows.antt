-- Rows of blocks of a component whose rows are those of the image as they are.
use Rattle.std.proofs.Common.{◌≡◌, ℕ, ◌+◌, ◌-◌, ◌*◌, ◌/◌, ◌<◌, ◌≤◌, min, List, length, take, drop, slice_index, refl, sym, ap, ◌∙◌, arith}
use Rattle.std.proofs.lemmas.List.{get_or-take, get_or-drop}
use Rattle.std.proofs.lemmas.Nat.{mul-le, mul-add-lt}
use Rattle.jpg_spec.specs.Geometry.{Frame, component_at, div_up, v_max}
use Rattle.jpg_spec.proofs.Places.PlacesFound.{covers}
use Rattle.jpg_spec_encode.specs.Encoded.{pixel_component}
use Rattle.jpg_spec_image.specs.Downsampling.{downsampled, sum_under}
use Rattle.jpg_color.specs.EncodeBlocks.{IsPlain, IsSource}
use Rattle.jpg_color.specs.PlaneRows.{HasBlocks, IsWindow, lower_row, plane_of}
use Rattle.jpg_color.specs.declared.encode.rows.Window.{Window}
use Rattle.jpg_color.specs.declared.encode.rows.Source.{Source}
use Rattle.jpg_color.proofs.PlaneRows.{blocks_are}

-- the mean of one sample
one_sample : (plane : ℕ → ℕ → ℕ) (x y : ℕ) → downsampled 1 1 plane x y ≡ plane x y
one_sample plane x y =
    let e : plane (1 * x + 0) (1 * y + 0) ≡ plane x y = ap (λ u. plane u (1 * y + 0)) (let z : 1 * x + 0 ≡ x = omega arith in z) ∙ ap (plane x) (let z : 1 * y + 0 ≡ y = omega arith in z) in
    let s : sum_under 1 1 plane x y ≡ plane x y = omega (arith, e) in
    let q : (n : ℕ) → (n + 0) / 1 ≡ n = λ n. omega arith in
    ap (λ n. (n + 0) / 1) s ∙ q (plane x y)

-- the last row that is made isn't before the last one of the image
same_row : (q made high : ℕ) → high ≤ made → min (min q (made - 1)) (high - 1) ≡ min q (high - 1)
same_row q made high few = omega (arith, few)

made_most : {f : Frame} {s : Source} → IsSource f s → IsPlain s → s.plane.info.now.height ≤ s.made
made_most {f} {s} is plain =
    let v = (component_at f s.plane.component).v in
    let one : 1 * v ≡ v_max f = ap (λ d. d * v) (sym plain.down) ∙ is.whole in
    let e : v_max f ≡ v = (let z : 1 * v ≡ v = omega arith in sym one ∙ z) in
    let c = covers s.plane.info.now.height (v_max f) (omega (arith, e, is.factor)) in
    let d : div_up s.plane.info.now.height (v_max f) * v_max f ≡ s.made = ap (λ n. div_up s.plane.info.now.height (v_max f) * n) e ∙ sym is.made in
    omega (arith, c, d)

plain_at : {f : Frame} {s : Source} (u q : ℕ) → IsSource f s → IsPlain s → plane_of s.plane.info.now s.plane.samples.now s.plane.component u q ≡ lower_row s.plane s.made u q
plain_at {f} {s} u q is plain =
    let p = s.plane in
    let all : ℕ → ℕ → ℕ = plane_of p.info.now p.samples.now p.component in
    sym (ap (λ a. downsampled a p.ratio.down all u (min q (s.made - 1))) plain.across ∙ ap (λ d. downsampled 1 d all u (min q (s.made - 1))) plain.down
    ∙ one_sample all u (min q (s.made - 1)) ∙ ap (λ y. pixel_component p.info.now.kind p.samples.now p.component (y * p.info.now.width + min u (p.info.now.width - 1))) (same_row q s.made p.info.now.height (made_most is plain)))

-- a row of blocks is eight rows of the window
pub plain_blocks : {f : Frame} {s : Source} (y : ℕ) (rows : List ℕ) → IsSource f s → IsPlain s → 8 * y + 8 ≤ s.window.lines
    → rows ≡ take (8 * s.wide) (drop (8 * y * s.wide) s.window.rows.now) → HasBlocks s.plane s.made s.wide y rows
plain_blocks {f} {s} y rows is plain there e =
    let w = s.window in
    blocks_are (lower_row s.plane s.made) rows s.wide y 8 refl
    (λ k u lk lu. (let m : k * s.wide + u < s.wide * 8 = mul-add-lt k s.wide u 8 lk lu in
    let j : 8 * y * s.wide + (k * s.wide + u) ≡ (8 * y + k) * s.wide + u = grind arith in
    let from : w.lines * w.at + (8 * y + k) ≡ 8 * y + k = ap (λ n. w.lines * n + (8 * y + k)) is.at ∙ omega arith in
    ap (λ l. slice_index l (k * s.wide + u)) e ∙ get_or-take (8 * s.wide) (drop (8 * y * s.wide) w.rows.now) (k * s.wide + u) 0 (omega (arith, m))
    ∙ get_or-drop (8 * y * s.wide) w.rows.now (k * s.wide + u) 0 ∙ ap (slice_index w.rows.now) j
    ∙ ap (λ n. slice_index w.rows.now ((8 * y + k) * n + u)) plain.wide
    ∙ is.window.rows (8 * y + k) u (omega (arith, there, lk)) (omega (arith, lu, plain.wide))
    ∙ ap (plane_of s.plane.info.now s.plane.samples.now s.plane.component u) from
    ∙ plain_at u (8 * y + k) is plain))

-- it is within the window
pub plain_fits : {s : Source} (w : Window) (y : ℕ) → IsPlain s → IsWindow s.plane w → 8 * y + 8 ≤ w.lines → 8 * y * s.wide + 8 * s.wide ≤ length w.rows.now
plain_fits {s} w y plain has there =
    let m : (8 * y + 8) * s.wide ≤ w.lines * s.wide = mul-le (8 * y + 8) s.wide w.lines s.wide there (omega arith) in
    let e : (8 * y + 8) * s.wide ≡ 8 * y * s.wide + 8 * s.wide = grind arith in
    let l : w.lines * s.wide ≡ length w.rows.now = ap (λ n. w.lines * n) plain.wide ∙ sym has.long in
    omega (arith, m, e, l)

-- each row of blocks is in the strip
pub plain_under : {f : Frame} {s : Source} (y : ℕ) → IsSource f s → IsPlain s → y < s.count → 8 * y + 8 ≤ s.window.lines
plain_under {f} {s} y is plain there =
    let v = (component_at f s.plane.component).v in
    let one : 1 * v ≡ v_max f = ap (λ d. d * v) (sym plain.down) ∙ is.whole in
    omega (arith, one, is.lines, there, is.count)
